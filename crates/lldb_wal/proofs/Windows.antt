-- The bytes from a place on are a log's, counted from that place.
use Rattle.std.proofs.Common.{◌≡◌, ℕ, ◌+◌, ◌-◌, ◌≤◌, Bool, ◌&&◌, List, [], ◌∷◌, ◌++◌, length, take, drop, refl, sym, ap, ◌∙◌, arith, length-drop}
use Rattle.std.proofs.lemmas.List.{drop-drop}
use Rattle.std.specs.Prelude.{nat_le}
use Rattle.std.specs.Int.{Width, w32, w64, byte_len, from_be_bytes}
use Rattle.std.proofs.lemmas.Bool.Decides.{nat_tests}
use Rattle.lldb_base.specs.declared.batch.Piece.{Piece}
use Rattle.lldb_wal.specs.Fields.{number, has, may_begin, may_hold, may_become, is_place, is_length, is_whole, is_size, piece_at}
use Rattle.lldb_wal.specs.Log.{Stands, Follow, SpoilsPiece}

shifted : (n at total : ℕ) → at ≤ total → nat_le (0 + n) (total - at) ≡ nat_le (at + n) total
shifted n at total within = grind (arith, nat_tests)

has_behind : (n at : ℕ) (log : List ℕ) → at ≤ length log → has n 0 (drop at log) ≡ has n at log
has_behind n at log within = rw (length-drop at log) (shifted n at (length log) within)

number_behind : (w : Width) (n at : ℕ) (log : List ℕ) → number w n (drop at log) ≡ number w (at + n) log
number_behind w n at log = ap (λ (bs : List ℕ). from_be_bytes w (take (byte_len w) bs)) (drop-drop n at log)

place_behind : (size last at : ℕ) (log : List ℕ) → at ≤ length log → is_place size last 0 (drop at log) ≡ is_place size last at log
place_behind size last at log within = ap (λ (b : Bool). b && may_begin size last (number w64 at log)) (has_behind 8 at log within)

length_behind : (at : ℕ) (log : List ℕ) → at ≤ length log → is_length 0 (drop at log) ≡ is_length at log
length_behind at log within =
    ap (λ (b : Bool). b && may_hold (number w64 at log) (number w32 8 (drop at log))) (has_behind 12 at log within)
    ∙ ap (λ (n : ℕ). has 12 at log && may_hold (number w64 at log) n) (number_behind w32 8 at log)

whole_behind : (at : ℕ) (log : List ℕ) → at ≤ length log → is_whole 0 (drop at log) ≡ is_whole at log
whole_behind at log within =
    has_behind (12 + number w32 8 (drop at log)) at log within ∙ ap (λ (n : ℕ). has (12 + n) at log) (number_behind w32 8 at log)

pub size_behind : (size last at : ℕ) (log : List ℕ) → at ≤ length log → is_size size last 0 (drop at log) ≡ is_size size last at log
size_behind size last at log within = ap (λ (b : Bool). b && may_become size last (number w64 at log)) (has_behind 8 at log within)

piece_behind : (at : ℕ) (log : List ℕ) → piece_at 0 (drop at log) ≡ piece_at at log
piece_behind at log = rw (number_behind w32 8 at log, drop-drop 12 at log) refl

pub stands_behind : (size last at : ℕ) (p : Piece) (log : List ℕ) → at ≤ length log → Stands size last p 0 (drop at log) → Stands size last p at log
stands_behind size last at p log within s = record {
  place_kept = sym (place_behind size last at log within) ∙ s.place_kept;
  length_kept = sym (length_behind at log within) ∙ s.length_kept;
  whole = sym (whole_behind at log within) ∙ s.whole;
  is = s.is ∙ piece_behind at log;
}

plus_none : (n : ℕ) → n + 0 ≡ n
plus_none n = omega arith

pub spoils_behind : (size last at place : ℕ) (log : List ℕ) → at ≤ length log → SpoilsPiece size last 0 (drop at log) place → SpoilsPiece size last at log (at + place)
spoils_behind size last at place log within (SpoilsPiece.bad_place not) = rw (plus_none at) (SpoilsPiece.bad_place (sym (place_behind size last at log within) ∙ not))
spoils_behind size last at place log within (SpoilsPiece.bad_length kept not) =
    SpoilsPiece.bad_length (sym (place_behind size last at log within) ∙ kept) (sym (length_behind at log within) ∙ not)
spoils_behind size last at place log within (SpoilsPiece.bad_bytes kept also not) =
    SpoilsPiece.bad_bytes (sym (place_behind size last at log within) ∙ kept) (sym (length_behind at log within) ∙ also) (sym (whole_behind at log within) ∙ not)

-- a piece more behind others
pub follow_push : {size : ℕ} {log : List ℕ} {end next last at : ℕ} {ps : List Piece} → Follow size log end next last at ps → (p : Piece) → Stands size end p next log
    → Follow size log (p.place + length p.bytes) (next + 12 + length p.bytes) last at (ps ++ p ∷ [])
follow_push Follow.no_more p stands = Follow.one_more stands Follow.no_more
follow_push (Follow.one_more s f) p stands = Follow.one_more s (follow_push f p stands)
