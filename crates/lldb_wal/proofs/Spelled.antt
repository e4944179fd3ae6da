-- A batch that is spelled is read back.
use Rattle.std.proofs.Common.{◌≡◌, ℕ, suc, ◌+◌, ◌-◌, ◌^◌, ◌<◌, ◌≤◌, max, true, List, [], ◌∷◌, ◌++◌, length, take, drop, refl, sym, ap, subst, ◌∙◌, arith, append_assoc, length-append, length-drop}
use Rattle.std.specs.Int.{w32, w64, to_be_bytes, from_be_bytes}
use Rattle.std.proofs.lemmas.Bool.Decides.{nat_tests}
use Rattle.std.proofs.lemmas.List.{drop-drop, take-append-le, take_all}
use Rattle.std.proofs.lemmas.Nat.{from_be_bytes-to_be_bytes_4, from_be_bytes-to_be_bytes_8}
use Rattle.lldb_base.specs.declared.batch.Piece.{Piece}
use Rattle.lldb_base.specs.Batch.{Edits, put, written, applied, IsBatch, AreRising, LeaveNoGap, CanTake, end_of, reach, cost}
use Rattle.lldb_wal.specs.Fields.{longest, number, has, may_begin, may_hold, may_become}
use Rattle.lldb_wal.specs.Log.{Stands, Follow, IsLog}
use Rattle.lldb_wal.specs.Spelling.{piece_bytes, pieces_bytes, log_bytes, moved_pieces, moved}
use Rattle.lldb_wal.specs.declared.state.LogState.TheVariants.{Open}

-- what stands from a place on begins with so many bytes
has_spelled : (n at : ℕ) (log rest : List ℕ) → drop at log ≡ rest → 1 ≤ n → n ≤ length rest → has n at log ≡ true
has_spelled n at log rest is some most =
    let l : length log - at ≡ length rest = sym (length-drop at log) ∙ ap length is in
    grind (arith, nat_tests, l, some, most)

number_8 : (n at : ℕ) (log rest : List ℕ) → n < 2 ^ 64 → drop at log ≡ to_be_bytes w64 n ++ rest → number w64 at log ≡ n
number_8 n at log rest fits is = ap (λ (bs : List ℕ). from_be_bytes w64 (take 8 bs)) is ∙ from_be_bytes-to_be_bytes_8 n fits

number_4 : (n at : ℕ) (log rest : List ℕ) → n < 2 ^ 32 → drop at log ≡ to_be_bytes w32 n ++ rest → number w32 at log ≡ n
number_4 n at log rest fits is = ap (λ (bs : List ℕ). from_be_bytes w32 (take 4 bs)) is ∙ from_be_bytes-to_be_bytes_4 n fits

begins : (size last place : ℕ) → 16 ≤ place → last ≤ place → place ≤ max size last → may_begin size last place ≡ true
begins size last place low behind near = grind (arith, nat_tests, low, behind, near)

holds : (place n : ℕ) → 1 ≤ n → n ≤ 65536 → place + n ≤ longest → may_hold place n ≡ true
holds place n some most within = grind (arith, nat_tests, some, most, within)

becomes : (size last new : ℕ) → 16 ≤ new → last ≤ new → new ≤ max size last → may_become size last new ≡ true
becomes size last new low behind near = grind (arith, nat_tests, low, behind, near)

-- what stands behind the first bytes of a rest
behind : (n at : ℕ) (log rest : List ℕ) → drop at log ≡ rest → drop (at + n) log ≡ drop n rest
behind n at log rest is = ap (λ (k : ℕ). drop k log) (omega arith) ∙ sym (drop-drop n at log) ∙ ap (drop n) is

-- a piece that keeps the rules
pub record Kept (size last place n : ℕ) : Type 0 where
  pub low : 16 ≤ place
  pub apart : last ≤ place
  pub near : place ≤ max size last
  pub some : 1 ≤ n
  pub most : n ≤ 65536
  pub within : place + n ≤ longest

stands : (size last at shift : ℕ) (p : Piece) (log rest : List ℕ) → Kept size last (shift + p.place) (length p.bytes) → drop at log ≡ piece_bytes shift p ++ rest
    → Stands size last (record { place = shift + p.place; bytes = p.bytes }) at log
stands size last at shift p log rest kept is =
    let place : number w64 at log ≡ shift + p.place = number_8 (shift + p.place) at log (to_be_bytes w32 (length p.bytes) ++ p.bytes ++ rest) (omega (arith, kept.within)) is in
    let at_8 : drop (at + 8) log ≡ to_be_bytes w32 (length p.bytes) ++ (p.bytes ++ rest) = behind 8 at log (piece_bytes shift p ++ rest) is in
    let at_12 : drop (at + 12) log ≡ p.bytes ++ rest = behind 12 at log (piece_bytes shift p ++ rest) is in
    let count : number w32 (at + 8) log ≡ length p.bytes = number_4 (length p.bytes) (at + 8) log (p.bytes ++ rest) (omega (arith, kept.most)) at_8 in
    let long : length (piece_bytes shift p ++ rest) ≡ 12 + length p.bytes + length rest = omega (arith, length-append p.bytes rest) in
    let bytes : take (number w32 (at + 8) log) (drop (at + 12) log) ≡ p.bytes = rw (count, at_12) (take-append-le (length p.bytes) p.bytes rest (omega arith) ∙ take_all (length p.bytes) p.bytes (omega arith)) in
    let h_8 : has 8 at log ≡ true = has_spelled 8 at log _ is (omega arith) (omega (arith, long)) in
    let h_12 : has 12 at log ≡ true = has_spelled 12 at log _ is (omega arith) (omega (arith, long)) in
    let h_all : has (12 + length p.bytes) at log ≡ true = has_spelled (12 + length p.bytes) at log _ is (omega arith) (omega (arith, long)) in
    record {
      place_kept = rw (h_8, place) (begins size last (shift + p.place) kept.low kept.apart kept.near);
      length_kept = rw (h_12, place, count) (holds (shift + p.place) (length p.bytes) kept.some kept.most kept.within);
      whole = rw count h_all;
      is = rw (place, bytes) refl;
    }

pub follows : (size last start here at next shift : ℕ) (ps : List Piece) (log rest : List ℕ) → drop at log ≡ pieces_bytes shift ps ++ rest → next ≡ at + length (pieces_bytes shift ps)
    → AreRising start ps → LeaveNoGap 16 shift here ps → here ≡ max size last → last ≤ shift + start → shift + end_of start ps ≤ longest
    → Follow size log (end_of last (moved_pieces shift ps)) next last at (moved_pieces shift ps)
follows size last start here at next shift [] log rest is far rising gapless reached low within =
    let same : next ≡ at = far ∙ omega arith in
    subst (λ (n : ℕ). Follow size log last next last n []) same Follow.no_more
follows size last start here at next shift (p ∷ ps) log rest is far rising gapless reached low within =
    let most : p.place + length p.bytes ≤ end_of (p.place + length p.bytes) ps = end_least (p.place + length p.bytes) ps rising.3 in
    let grouped : drop at log ≡ piece_bytes shift p ++ (pieces_bytes shift ps ++ rest) = is ∙ append_assoc (piece_bytes shift p) (pieces_bytes shift ps) rest in
    let long : length (piece_bytes shift p) ≡ 12 + length p.bytes = omega arith in
    let whole : length (pieces_bytes shift (p ∷ ps)) ≡ 12 + length p.bytes + length (pieces_bytes shift ps) = omega (arith, length-append (piece_bytes shift p) (pieces_bytes shift ps)) in
    let kept : Kept size last (shift + p.place) (length p.bytes) = record {
      low = gapless.0;
      apart = omega (arith, low, rising.0);
      near = omega (arith, gapless.1, reached);
      some = rising.1;
      most = rising.2;
      within = omega (arith, most, within);
    } in
    let more : drop (at + 12 + length p.bytes) log ≡ pieces_bytes shift ps ++ rest = ap (λ (k : ℕ). drop k log) (omega arith) ∙ behind (12 + length p.bytes) at log _ grouped ∙ past (piece_bytes shift p) (pieces_bytes shift ps ++ rest) (12 + length p.bytes) long in
    Follow.one_more (stands size last at shift p log (pieces_bytes shift ps ++ rest) kept grouped)
    (follows size (shift + p.place + length p.bytes) (p.place + length p.bytes) (max here (shift + p.place + length p.bytes)) (at + 12 + length p.bytes) next shift ps log rest more
    (omega (arith, far, whole)) rising.3 gapless.2 (omega (arith, reached, low, rising.0)) (omega arith) within)
  where
    end_least : (start : ℕ) (ps : List Piece) → AreRising start ps → start ≤ end_of start ps
    end_least start [] rising = omega arith
    end_least start (p ∷ ps) rising = let rest = end_least (p.place + length p.bytes) ps rising.3 in omega (arith, rest, rising.0)

    past : (xs ys : List ℕ) (n : ℕ) → length xs ≡ n → drop n (xs ++ ys) ≡ ys
    past [] ys n is = rw (← is) refl
    past (x ∷ xs) ys n is = rw (← is) (past xs ys (length xs) refl)

-- where the last of the moved pieces ends, from 0 on
end_moved : (last start shift : ℕ) (ps : List Piece) → last ≤ shift + start → end_of last (moved_pieces shift ps) ≤ shift + end_of start ps
end_moved last start shift [] low = low
end_moved last start shift (p ∷ ps) low = end_moved (shift + p.place + length p.bytes) (p.place + length p.bytes) shift ps (omega arith)

-- how far the bytes reach is where they end or the last piece does
reach_moved : (size last start here shift : ℕ) (ps : List Piece) → AreRising start ps → here ≡ max size last → last ≤ shift + start → reach shift here ps ≡ max size (end_of last (moved_pieces shift ps))
reach_moved size last start here shift [] rising reached low = reached
reach_moved size last start here shift (p ∷ ps) rising reached low =
    reach_moved size (shift + p.place + length p.bytes) (p.place + length p.bytes) (max here (shift + p.place + length p.bytes)) shift ps rising.3 (omega (arith, reached, low, rising.0)) (omega arith)

count_cost : (ps : List Piece) → length ps ≤ cost ps
count_cost [] = omega arith
count_cost (p ∷ ps) = let rest = count_cost ps in omega (arith, rest)

count_moved : (shift : ℕ) (ps : List Piece) → length (moved_pieces shift ps) ≡ length ps
count_moved shift [] = refl
count_moved shift (p ∷ ps) = ap suc (count_moved shift ps)

pub reads_back : (shift size : ℕ) (batch : Edits) → IsBatch batch → CanTake 16 shift size batch → shift + batch.size ≤ longest → IsLog size (log_bytes 1 shift batch) (Open (moved shift batch))
reads_back shift size batch made can within =
    let end : ℕ = 24 + length (pieces_bytes shift batch.pieces) in
    let tail : List ℕ = to_be_bytes w64 (shift + batch.size) in
    let few : length batch.pieces < 2 ^ 64 = omega (arith, count_cost batch.pieces, made.room) in
    let rest : drop 24 (log_bytes 1 shift batch) ≡ pieces_bytes shift batch.pieces ++ tail = refl in
    let size_at : drop end (log_bytes 1 shift batch) ≡ tail = behind (length (pieces_bytes shift batch.pieces)) 24 (log_bytes 1 shift batch) _ rest ∙ past (pieces_bytes shift batch.pieces) tail in
    let new : number w64 end (log_bytes 1 shift batch) ≡ shift + batch.size = number_8 (shift + batch.size) end (log_bytes 1 shift batch) [] (omega (arith, within)) size_at in
    let long : length (log_bytes 1 shift batch) ≡ end + 8 = omega (arith, length-append (pieces_bytes shift batch.pieces) tail) in
    let last : ℕ = end_of 0 (moved_pieces shift batch.pieces) in
    let low : last ≤ shift + end_of 0 batch.pieces = end_moved 0 0 shift batch.pieces (omega arith) in
    let far : reach shift size batch.pieces ≡ max size last = reach_moved size 0 0 size shift batch.pieces made.rising (omega arith) (omega arith) in
    let h : has 8 end (log_bytes 1 shift batch) ≡ true = has_spelled 8 end (log_bytes 1 shift batch) tail size_at (omega arith) (omega arith) in
    IsLog.holds {last = last} {at = end} {batch = moved shift batch} (record { long = omega (arith, long); magic = refl; gate = refl })
    (number_8 (length batch.pieces) 16 (log_bytes 1 shift batch) (pieces_bytes shift batch.pieces ++ tail) few refl ∙ sym (count_moved shift batch.pieces))
    (follows size 0 0 size 24 end shift batch.pieces (log_bytes 1 shift batch) tail rest refl made.rising can.gapless (omega arith) (omega arith) (omega (arith, made.within, within)))
    (rw (h, new) (becomes size last (shift + batch.size) can.floor_of_size (omega (arith, low, made.within)) (omega (arith, can.covered, far))))
    long (sym new)
  where
    past : (xs ys : List ℕ) → drop (length xs) (xs ++ ys) ≡ ys
    past [] ys = refl
    past (x ∷ xs) ys = past xs ys

written_moved : (shift : ℕ) (ps : List Piece) (bytes : List ℕ) → written 0 (moved_pieces shift ps) bytes ≡ written shift ps bytes
written_moved shift [] bytes = refl
written_moved shift (p ∷ ps) bytes =
    ap (λ (n : ℕ). written 0 (moved_pieces shift ps) (put n p.bytes bytes)) (omega arith) ∙ written_moved shift ps (put (shift + p.place) p.bytes bytes)

pub same_effect : (shift : ℕ) (batch : Edits) (bytes : List ℕ) → applied 0 (moved shift batch) bytes ≡ applied shift batch bytes
same_effect shift batch bytes = ap (λ (n : ℕ). take n (written 0 (moved_pieces shift batch.pieces) bytes)) (omega arith) ∙ ap (take (shift + batch.size)) (written_moved shift batch.pieces bytes)
