-- A log that is open beside one data file is open beside each that its batch can be written to.
use Rattle.std.proofs.Common.{◌≡◌, ℕ, zero, suc, ◌+◌, ◌≤◌, max, Bool, true, false, ◌&&◌, List, [], ◌∷◌, length, take, get_or, refl, sym, ap, subst, arith}
use Rattle.std.specs.Prelude.{bytes_eq, nat_eq, nat_lt, if◌then◌else◌}
use Rattle.std.specs.Int.{w64}
use Rattle.std.proofs.lemmas.Bool.{le-ltb}
use Rattle.std.proofs.lemmas.Bool.Decides.{Decides-eqb, nat_tests}
use Rattle.std.proofs.lemmas.Slice.Eq.{bytes_eq-Decides}
use Rattle.lldb_base.specs.declared.batch.Piece.{Piece}
use Rattle.lldb_base.specs.Batch.{Edits, CanTake, LeaveNoGap, reach}
use Rattle.lldb_wal.specs.Fields.{number, has, may_begin, may_become, is_place, is_length, is_whole, is_size, piece_at}
use Rattle.lldb_wal.specs.Log.{log_magic, IsUngated}
use Rattle.lldb_wal.specs.States.{with_piece, end_state, pieces_state, log_state}
use Rattle.lldb_wal.specs.declared.state.LogState.{LogState}
use Rattle.lldb_wal.specs.declared.state.LogState.TheVariants.{Closed, Open, Faulty}

-- what three tests let through
pub record Passed (a b c : Bool) (state : LogState) (batch : Edits) : Type 0 where
  pub first : a ≡ true
  pub second : b ≡ true
  pub third : c ≡ true
  pub is : state ≡ Open batch

passed : (a b c : Bool) (state : LogState) (i j k : ℕ) (batch : Edits) → (if a then (if b then (if c then state else Faulty i) else Faulty j) else Faulty k) ≡ Open batch → Passed a b c state batch
passed true true true state i j k batch e = record { first = refl; second = refl; third = refl; is = e }
passed true true false state i j k batch e = absurd (cc)
passed true false c state i j k batch e = absurd (cc)
passed false b c state i j k batch e = absurd (cc)

-- the rest behind a piece
pub record Behind (p : Piece) (state : LogState) (batch : Edits) : Type 0 where
  pub rest : Edits
  pub is : state ≡ Open rest
  pub whole : ◌≡◌ {A = Edits} batch (record { pieces = p ∷ rest.pieces; size = rest.size })

behind : (p : Piece) (state : LogState) (batch : Edits) → with_piece p state ≡ Open batch → Behind p state batch
behind p Closed batch e = absurd (cc)
behind p (Faulty at) batch e = absurd (cc)
behind p (Open rest) batch e = record { rest = rest; is = refl; whole = cc }

-- what is known of a place, a length and a size that keep the rules
begun : (size last place : ℕ) (b : Bool) → (b && may_begin size last place) ≡ true → (16 ≤ place) × (last ≤ place) × (place ≤ max size last) × (b ≡ true)
begun size last place true kept = (grind (arith, nat_tests, kept), grind (arith, nat_tests, kept), grind (arith, nat_tests, kept), refl)
begun size last place false kept = absurd (cc)

become : (size last new : ℕ) (b : Bool) → (b && may_become size last new) ≡ true → (16 ≤ new) × (last ≤ new) × (new ≤ max size last) × (b ≡ true)
become size last new true kept = (grind (arith, nat_tests, kept), grind (arith, nat_tests, kept), grind (arith, nat_tests, kept), refl)
become size last new false kept = absurd (cc)

begins : (size last place : ℕ) (b : Bool) → 16 ≤ place → last ≤ place → place ≤ max size last → b ≡ true → (b && may_begin size last place) ≡ true
begins size last place b low apart near is = rw is (grind (arith, nat_tests, low, apart, near))

becomes : (size last new : ℕ) (b : Bool) → 16 ≤ new → last ≤ new → new ≤ max size last → b ≡ true → (b && may_become size last new) ≡ true
becomes size last new b low apart near is = rw is (grind (arith, nat_tests, low, apart, near))

-- pieces that were read beside a size can be written to it, and are read beside each other size to which they can be written
pub record Rereads (left size last at : ℕ) (log : List ℕ) (batch : Edits) : Type 0 where
  pub gapless : LeaveNoGap 16 0 (max size last) batch.pieces
  pub covered : batch.size ≤ reach 0 (max size last) batch.pieces
  pub low : 16 ≤ batch.size
  pub again : (n : ℕ) → LeaveNoGap 16 0 (max n last) batch.pieces → batch.size ≤ reach 0 (max n last) batch.pieces → pieces_state left n last at log ≡ Open batch

-- what is behind the pieces
pub record Ended (size last at : ℕ) (log : List ℕ) (batch : Edits) : Type 0 where
  pub kept : is_size size last at log ≡ true
  pub whole : nat_lt (at + 8) (length log) ≡ false
  pub is : ◌≡◌ {A = Edits} batch (record { pieces = []; size = number w64 at log })

ended : (a b : Bool) (i j : ℕ) (made batch : Edits) → (if a then (if b then Faulty i else Open made) else Faulty j) ≡ Open batch → (a ≡ true) × (b ≡ false) × (batch ≡ made)
ended true true i j made batch e = absurd (cc)
ended true false i j made batch e = (refl, refl, cc)
ended false b i j made batch e = absurd (cc)

end_rereads : (size last at : ℕ) (log : List ℕ) (batch : Edits) → end_state size last at log ≡ Open batch → Rereads 0 size last at log batch
end_rereads size last at log batch e =
    let made : Edits = record { pieces = []; size = number w64 at log } in
    let facts = ended (is_size size last at log) (nat_lt (at + 8) (length log)) (at + 8) at made batch e in
    let size_is = become size last (number w64 at log) (has 8 at log) facts.0 in
    subst (λ (b : Edits). Rereads 0 size last at log b) (sym facts.2) (record {
      gapless = tt;
      covered = size_is.2;
      low = size_is.0;
      again = λ n gapless covered. rw (becomes n last (number w64 at log) (has 8 at log) size_is.0 size_is.1 covered size_is.3, facts.1) refl;
    })

piece_rereads : (left size last at : ℕ) (log : List ℕ) (rest : Edits) → is_place size last at log ≡ true → is_length at log ≡ true → is_whole at log ≡ true
    → Rereads left size (number w64 at log + length (piece_at at log).bytes) (at + 12 + length (piece_at at log).bytes) log rest
    → Rereads (suc left) size last at log (record { pieces = piece_at at log ∷ rest.pieces; size = rest.size })
piece_rereads left size last at log rest placed counted whole more =
    let place = begun size last (number w64 at log) (has 8 at log) placed in
    let reached : (n : ℕ) → max (max n last) (0 + number w64 at log + length (piece_at at log).bytes) ≡ max n (number w64 at log + length (piece_at at log).bytes) = λ n. omega (arith, place.1) in
    record {
      gapless = (omega (arith, place.0), omega (arith, place.2), subst (λ (m : ℕ). LeaveNoGap 16 0 m rest.pieces) (sym (reached size)) more.gapless);
      covered = subst (λ (m : ℕ). rest.size ≤ reach 0 m rest.pieces) (sym (reached size)) more.covered;
      low = more.low;
      again = λ n gapless covered.
          rw (begins n last (number w64 at log) (has 8 at log) place.0 place.1 (omega (arith, gapless.1)) place.3, counted, whole)
          (ap (with_piece (piece_at at log))
          (more.again n (subst (λ (m : ℕ). LeaveNoGap 16 0 m rest.pieces) (reached n) gapless.2) (subst (λ (m : ℕ). rest.size ≤ reach 0 m rest.pieces) (reached n) covered)));
    }

pub rereads : (left size last at : ℕ) (log : List ℕ) (batch : Edits) → pieces_state left size last at log ≡ Open batch → Rereads left size last at log batch
rereads zero size last at log batch e = end_rereads size last at log batch e
rereads (suc left) size last at log batch e =
    let next : LogState = pieces_state left size (number w64 at log + length (piece_at at log).bytes) (at + 12 + length (piece_at at log).bytes) log in
    let t = passed (is_place size last at log) (is_length at log) (is_whole at log) (with_piece (piece_at at log) next) (at + 12) (at + 8) at batch e in
    let r = behind (piece_at at log) next batch t.is in
    subst (λ (b : Edits). Rereads (suc left) size last at log b) (sym r.whole)
    (piece_rereads left size last at log r.rest t.first t.second t.third (rereads left size (number w64 at log + length (piece_at at log).bytes) (at + 12 + length (piece_at at log).bytes) log r.rest r.is))

-- a log that is open
pub record IsRead (size : ℕ) (log : List ℕ) (batch : Edits) : Type 0 where
  pub ungated : IsUngated log
  pub pieces : pieces_state (number w64 16 log) size 0 24 log ≡ Open batch

tests : (a b c : Bool) (state : LogState) (batch : Edits) → (if a then Closed else (if b then (if c then state else Closed) else Faulty 0)) ≡ Open batch → (a ≡ false) × (b ≡ true) × (c ≡ true) × (state ≡ Open batch)
tests true b c state batch e = absurd (cc)
tests false true true state batch e = (refl, refl, refl, e)
tests false true false state batch e = absurd (cc)
tests false false c state batch e = absurd (cc)

not_less : (n most : ℕ) → nat_lt n most ≡ false → most ≤ n
not_less n most not = grind (arith, nat_tests, not)

is_read : (size : ℕ) (log : List ℕ) (batch : Edits) → log_state size log ≡ Open batch → IsRead size log batch
is_read size log batch e =
    let t = tests (nat_lt (length log) 32) (bytes_eq (take 15 log) log_magic) (nat_eq (get_or log 15 0) 1) (pieces_state (number w64 16 log) size 0 24 log) batch e in
    record {
      ungated = record { long = not_less (length log) 32 t.0; magic = (bytes_eq-Decides (take 15 log) log_magic).0 t.1; gate = (Decides-eqb (get_or log 15 0) 1).0 t.2 };
      pieces = t.3;
    }

pub ungated_of : (size : ℕ) (log : List ℕ) (batch : Edits) → log_state size log ≡ Open batch → IsUngated log
ungated_of size log batch e = (is_read size log batch e).ungated

pub can_take : (size : ℕ) (log : List ℕ) (batch : Edits) → log_state size log ≡ Open batch → CanTake 16 0 size batch
can_take size log batch e =
    let r = rereads (number w64 16 log) size 0 24 log batch (is_read size log batch e).pieces in
    let same : max size 0 ≡ size = omega arith in
    record { gapless = rw same at r.gapless; floor_of_size = omega (arith, r.low); covered = omega (arith, rw same at r.covered) }

pub again : (size n : ℕ) (log : List ℕ) (batch : Edits) → log_state size log ≡ Open batch → CanTake 16 0 n batch → log_state n log ≡ Open batch
again size n log batch e can =
    let read = is_read size log batch e in
    let r = rereads (number w64 16 log) size 0 24 log batch read.pieces in
    let same : n ≡ max n 0 = omega arith in
    rw (le-ltb (length log) 32 read.ungated.long, (bytes_eq-Decides (take 15 log) log_magic).1 read.ungated.magic, (Decides-eqb (get_or log 15 0) 1).1 read.ungated.gate)
    (r.again n (rw same at can.gapless) (omega (arith, rw same at can.covered)))
