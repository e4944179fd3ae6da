-- What is known of two files by what they were found to be.
use Rattle.std.proofs.Common.{◌≡◌, ℕ, zero, suc, ◌+◌, ◌≤◌, ◌⊎◌, inl, inr, Bool, true, false, ◌&&◌, List, [], ◌∷◌, length, take, get_or, refl, sym, ap, ◌∙◌, arith, length-take}
use Rattle.std.specs.Prelude.{bytes_eq, nat_eq, nat_lt, nat_le, if◌then◌else◌}
use Rattle.std.specs.Int.{w64}
use Rattle.std.proofs.lemmas.Bool.Decides.{Decides-eqb, nat_tests}
use Rattle.std.proofs.lemmas.Slice.Eq.{bytes_eq-Decides}
use Rattle.ql_edge.specs.Disk.{Files}
use Rattle.lldb_base.specs.declared.batch.Piece.{Piece}
use Rattle.lldb_base.specs.Batch.{Edits}
use Rattle.lldb_wal.specs.Fields.{header, longest, number, is_place, is_length, is_whole, is_size, piece_at}
use Rattle.lldb_wal.specs.Kept.{IsOpenWith}
use Rattle.lldb_wal.specs.Laws.{IsOurs}
use Rattle.lldb_wal.specs.Log.{log_magic}
use Rattle.lldb_wal.specs.Opened.{IsClosedLog}
use Rattle.lldb_wal.specs.Opening.{opening, beside, is_fresh}
use Rattle.lldb_wal.specs.Spelling.{moved_pieces, moved}
use Rattle.lldb_wal.specs.States.{with_piece, pieces_state, log_state}
use Rattle.lldb_wal.specs.declared.state.LogState.{LogState}
use Rattle.lldb_wal.specs.declared.state.LogState.TheVariants as log
use Rattle.lldb_wal.specs.declared.state.Opening.{Opening}
use Rattle.lldb_wal.specs.declared.state.Opening.TheVariants.{New, NotDatabase, Closed, Open}
use Rattle.lldb_wal.proofs.Reread.{again, ungated_of}

abbrev chain : (z a n : Bool) → LogState → Opening
chain z a n s = if z then New else (if a then beside s else (if n then New else NotDatabase))

chain_open : (z a n : Bool) (s : LogState) (batch : Edits) → chain z a n s ≡ Open batch → (a ≡ true) × (s ≡ log.Open batch)
chain_open true a n s batch e = absurd (cc)
chain_open false true n log.Closed batch e = absurd (cc)
chain_open false true n (log.Open b) batch e = (refl, cc)
chain_open false true n (log.Faulty at) batch e = absurd (cc)
chain_open false false true s batch e = absurd (cc)
chain_open false false false s batch e = absurd (cc)

chain_closed : (z a n : Bool) (s : LogState) → chain z a n s ≡ Closed → (a ≡ true) × (s ≡ log.Closed)
chain_closed true a n s e = absurd (cc)
chain_closed false true n log.Closed e = (refl, refl)
chain_closed false true n (log.Open b) e = absurd (cc)
chain_closed false true n (log.Faulty at) e = absurd (cc)
chain_closed false false true s e = absurd (cc)
chain_closed false false false s e = absurd (cc)

chain_new : (z a n : Bool) (s : LogState) → chain z a n s ≡ New → (z ≡ true) ⊎ (n ≡ true)
chain_new true a n s e = inl refl
chain_new false true n log.Closed e = absurd (cc)
chain_new false true n (log.Open b) e = absurd (cc)
chain_new false true n (log.Faulty at) e = absurd (cc)
chain_new false false true s e = inr refl
chain_new false false false s e = absurd (cc)

both : (a b : Bool) → (a && b) ≡ true → (a ≡ true) × (b ≡ true)
both true b e = (refl, e)
both false b e = absurd (cc)

ours : (magic bytes : List ℕ) → length magic ≡ 16 → (bytes_eq (take header bytes) magic && nat_le (length bytes) longest) ≡ true → IsOurs magic bytes
ours magic bytes sixteen kept =
    let two = both (bytes_eq (take header bytes) magic) (nat_le (length bytes) longest) kept in
    let begins : take header bytes ≡ magic = (bytes_eq-Decides (take header bytes) magic).0 two.0 in
    record {
      begins = begins;
      long = omega (arith, length-take header bytes, ap length begins, sixteen);
      within = grind (arith, nat_tests, two.1);
    }

pub open_found : (magic : List ℕ) (f : Files) (batch : Edits) → length magic ≡ 16 → opening magic f.0 f.1 ≡ Open batch → IsOurs magic f.0 × (log_state (length f.0) f.1 ≡ log.Open batch)
open_found magic f batch sixteen e =
    let facts = chain_open (nat_eq (length f.0) 0) (bytes_eq (take header f.0) magic && nat_le (length f.0) longest) (nat_le (length f.0) header && is_fresh f.1) (log_state (length f.0) f.1) batch e in
    (ours magic f.0 sixteen facts.0, facts.1)

pub closed_found : (magic : List ℕ) (f : Files) → length magic ≡ 16 → opening magic f.0 f.1 ≡ Closed → IsOurs magic f.0 × (log_state (length f.0) f.1 ≡ log.Closed)
closed_found magic f sixteen e =
    let facts = chain_closed (nat_eq (length f.0) 0) (bytes_eq (take header f.0) magic && nat_le (length f.0) longest) (nat_le (length f.0) header && is_fresh f.1) (log_state (length f.0) f.1) e in
    (ours magic f.0 sixteen facts.0, facts.1)

pub new_found : (magic : List ℕ) (f : Files) → opening magic f.0 f.1 ≡ New → (length f.0 ≡ 0) ⊎ ((length f.0 ≤ 16) × (is_fresh f.1 ≡ true))
new_found magic f e = elim (chain_new (nat_eq (length f.0) 0) (bytes_eq (take header f.0) magic && nat_le (length f.0) longest) (nat_le (length f.0) header && is_fresh f.1) (log_state (length f.0) f.1) e) [
  | inl none ↦ inl ((Decides-eqb (length f.0) 0).0 none)
  | inr fresh ↦ inr (short (length f.0) (is_fresh f.1) fresh)
]
  where
    short : (n : ℕ) (b : Bool) → (nat_le n header && b) ≡ true → (n ≤ 16) × (b ≡ true)
    short n b e = let two = both (nat_le n header) b e in (grind (arith, nat_tests, two.0), two.1)

abbrev with_place : ℕ → Piece → List Piece → List Piece
with_place n p ps = record { place = n; bytes = p.bytes } ∷ ps

moved_none : (ps : List Piece) → moved_pieces 0 ps ≡ ps
moved_none [] = refl
moved_none (p ∷ ps) =
    let same : 0 + p.place ≡ p.place = omega arith in
    ap (λ (qs : List Piece). with_place (0 + p.place) p qs) (moved_none ps) ∙ ap (λ (n : ℕ). with_place n p ps) same

abbrev with_all : List Piece → ℕ → Edits
with_all ps n = record { pieces = ps; size = n }

moved_self : (batch : Edits) → ◌≡◌ {A = Edits} (moved 0 batch) batch
moved_self batch = ap (λ (qs : List Piece). with_all qs (0 + batch.size)) (moved_none batch.pieces) ∙ ap (λ (n : ℕ). with_all batch.pieces n) (omega arith)

-- a log that was read as open with a batch
pub opens_read : (size : ℕ) (l : List ℕ) (batch : Edits) → log_state size l ≡ log.Open batch → IsOpenWith 0 batch l
opens_read size l batch e = record {
  ungated = ungated_of size l batch e;
  reads = λ n can. again size n l batch e can ∙ ap log.Open (sym (moved_self batch));
}

-- pieces are never read as a closed log
never : (p : Piece) (state : LogState) → with_piece p state ≡ log.Closed → state ≡ log.Closed
never p log.Closed e = refl
never p (log.Open b) e = absurd (cc)
never p (log.Faulty at) e = absurd (cc)

tested : (a b c : Bool) (state : LogState) (i j k : ℕ) → (if a then (if b then (if c then state else log.Faulty i) else log.Faulty j) else log.Faulty k) ≡ log.Closed → state ≡ log.Closed
tested true true true state i j k e = e
tested true true false state i j k e = absurd (cc)
tested true false c state i j k e = absurd (cc)
tested false b c state i j k e = absurd (cc)

end_never : (a b : Bool) (i j : ℕ) (batch : Edits) → (if a then (if b then log.Faulty i else log.Open batch) else log.Faulty j) ≡ log.Closed → ⊥
end_never true true i j batch e = cc
end_never true false i j batch e = cc
end_never false b i j batch e = cc

pieces_never : (left size last at : ℕ) (l : List ℕ) → pieces_state left size last at l ≡ log.Closed → ⊥
pieces_never zero size last at l e = end_never (is_size size last at l) (nat_lt (at + 8) (length l)) (at + 8) at (record { pieces = []; size = number w64 at l }) e
pieces_never (suc left) size last at l e =
    let p : Piece = piece_at at l in
    pieces_never left size (number w64 at l + length p.bytes) (at + 12 + length p.bytes) l
    (never p (pieces_state left size (number w64 at l + length p.bytes) (at + 12 + length p.bytes) l)
    (tested (is_place size last at l) (is_length at l) (is_whole at l) (with_piece p (pieces_state left size (number w64 at l + length p.bytes) (at + 12 + length p.bytes) l)) (at + 12) (at + 8) at e))

closed_by : (a b c : Bool) (state : LogState) → (state ≡ log.Closed → ⊥) → (if a then log.Closed else (if b then (if c then state else log.Closed) else log.Faulty 0)) ≡ log.Closed → (a ≡ true) ⊎ ((b ≡ true) × (c ≡ false))
closed_by true b c state unclosed e = inl refl
closed_by false true true state unclosed e = absurd (unclosed e)
closed_by false true false state unclosed e = inr (refl, refl)
closed_by false false c state unclosed e = absurd (cc)

pub closed_log : (size : ℕ) (l : List ℕ) → log_state size l ≡ log.Closed → IsClosedLog l
closed_log size l e = elim (closed_by (nat_lt (length l) 32) (bytes_eq (take 15 l) log_magic) (nat_eq (get_or l 15 0) 1) (pieces_state (number w64 16 l) size 0 24 l) (pieces_never (number w64 16 l) size 0 24 l) e) [
  | inl few ↦ inl (grind (arith, nat_tests, few))
  | inr shut ↦ inr (record { magic = (bytes_eq-Decides (take 15 l) log_magic).0 shut.0; gate = λ one. not_both (nat_eq (get_or l 15 0) 1) ((Decides-eqb (get_or l 15 0) 1).1 one) shut.1 })
]
  where
    not_both : (b : Bool) → b ≡ true → b ≡ false → ⊥
    not_both b one other = cc
