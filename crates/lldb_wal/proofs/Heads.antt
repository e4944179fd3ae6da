-- The first 32 bytes of a log say what the log says there.
use Rattle.std.proofs.Common.{◌≡◌, ◌≢◌, ℕ, ◌<◌, ◌≤◌, min, Bool, true, false, List, length, take, get_or, refl, sym, ap, ◌∙◌, arith, length-take, inl, inr}
use Rattle.std.specs.Prelude.{◌&&◌, not, nat_le, nat_eq, if◌then◌else◌, bytes_eq}
use Rattle.std.specs.Int.{w64}
use Rattle.std.proofs.lemmas.Bool.{cases_lt, le-ltb}
use Rattle.std.proofs.lemmas.Bool.Decides.{nat_tests}
use Rattle.std.proofs.lemmas.List.{take-take, take_all, get_or-take}
use Rattle.lldb_wal.specs.Fields.{header, longest, number}
use Rattle.lldb_wal.specs.Log.{log_magic, IsUngated, IsLog}
use Rattle.lldb_wal.specs.Opening.{beside, is_fresh, opening_by}
use Rattle.lldb_wal.specs.States.{log_state}
use Rattle.lldb_wal.specs.declared.state.LogState.TheVariants.{Closed, Faulty}
use Rattle.lldb_wal.specs.declared.state.Opening.{Opening}
use Rattle.lldb_wal.specs.declared.state.Opening.TheVariants.{New, NotDatabase}
use Rattle.lldb_wal.proofs.Fronts.{number_front}
use Rattle.lldb_wal.proofs.OneState.{unequal}
use Rattle.lldb_wal.proofs.Steps.{unlike, alike}

head_length : (log head : List ℕ) → head ≡ take 32 log → length head ≡ min 32 (length log)
head_length log head is = ap (λ (bs : List ℕ). length bs) is ∙ length-take 32 log

head_magic : (log head : List ℕ) → head ≡ take 32 log → take 15 head ≡ take 15 log
head_magic log head is = ap (λ (bs : List ℕ). take 15 bs) is ∙ take-take 15 32 log (omega arith)

head_gate : (log head : List ℕ) → head ≡ take 32 log → get_or head 15 0 ≡ get_or log 15 0
head_gate log head is = ap (λ (bs : List ℕ). get_or bs 15 0) is ∙ get_or-take 32 log 15 0 (omega arith)

pub head_short : (size : ℕ) (log head : List ℕ) → length head < 32 → head ≡ take 32 log → IsLog size log Closed
head_short size log head few is = IsLog.too_short (omega (arith, few, head_length log head is))

pub head_nameless : (size : ℕ) (log head : List ℕ) (r : Bool) → 32 ≤ length head → r ≡ bytes_eq (take 15 head) log_magic → r ≡ false → head ≡ take 32 log → IsLog size log (Faulty 0)
head_nameless size log head r long said other is =
    IsLog.nameless (omega (arith, long, head_length log head is)) (λ same. unlike head r said other (head_magic log head is ∙ same))

pub head_shut : (size : ℕ) (log head : List ℕ) (r : Bool) → 32 ≤ length head → r ≡ bytes_eq (take 15 head) log_magic → r ≡ true → get_or head 15 0 ≢ 1 → head ≡ take 32 log → IsLog size log Closed
head_shut size log head r long said same gate is =
    IsLog.shut (omega (arith, long, head_length log head is)) (sym (head_magic log head is) ∙ alike head r said same) (λ one. gate (head_gate log head is ∙ one))

pub head_open : (log head : List ℕ) (r : Bool) → 32 ≤ length head → r ≡ bytes_eq (take 15 head) log_magic → r ≡ true → get_or head 15 0 ≡ 1 → head ≡ take 32 log → IsUngated log
head_open log head r long said same gate is = record {
  long = omega (arith, long, head_length log head is);
  magic = sym (head_magic log head is) ∙ alike head r said same;
  gate = sym (head_gate log head is) ∙ gate;
}

pub head_count : (log head : List ℕ) → head ≡ take 32 log → number w64 16 head ≡ number w64 16 log
head_count log head is = ap (λ (bs : List ℕ). number w64 16 bs) is ∙ number_front w64 16 32 log (omega arith)

at_least : (n : ℕ) → 16 ≤ n → nat_le 16 n ≡ true
at_least n within = grind (arith, nat_tests)

-- a log of 32 bytes or more is fresh by its gate alone
long_fresh : (l : List ℕ) → 32 ≤ length l → is_fresh l ≡ (bytes_eq (take 15 l) log_magic && not (nat_eq (get_or l 15 0) 1))
long_fresh l long = rw (at_least (length l) (omega (arith, long)), le-ltb (length l) 32 long) refl

-- the first 32 bytes of a log say whether it is fresh
pub fresh_head : (log head : List ℕ) → head ≡ take 32 log → is_fresh head ≡ is_fresh log
fresh_head log head is = elim (cases_lt (length log) 32) [
  | inl short ↦ ap is_fresh (is ∙ take_all 32 log (omega (arith, short)))
  | inr long ↦ long_fresh head (omega (arith, long, head_length log head is)) ∙ rw (head_magic log head is, head_gate log head is) refl ∙ sym (long_fresh log long)
]

-- what two files are, by three tests
abbrev chosen : (empty ours made : Bool) → Opening → Opening
chosen empty ours made by_log = if empty then New else (if ours then by_log else (if made then New else NotDatabase))

by_tests : (magic front : List ℕ) (size : ℕ) (log head : List ℕ) (ours made : Bool) → ours ≡ (bytes_eq front magic && nat_le size longest) → made ≡ (nat_le size header && is_fresh head) → head ≡ take 32 log
    → chosen (nat_eq size 0) ours made (beside (log_state size log)) ≡ opening_by magic front size log
by_tests magic front size log head ours made is_ours was_made is =
    ap (λ (b : Bool). chosen (nat_eq size 0) b made (beside (log_state size log))) is_ours
    ∙ ap (λ (b : Bool). chosen (nat_eq size 0) (bytes_eq front magic && nat_le size longest) b (beside (log_state size log)))
    (was_made ∙ ap (λ (b : Bool). nat_le size header && b) (fresh_head log head is))

new_anyway : (empty : Bool) (by_log : Opening) → New ≡ chosen empty false true by_log
new_anyway true by_log = refl
new_anyway false by_log = refl

pub being_made : (magic front : List ℕ) (size : ℕ) (log head : List ℕ) (ours made : Bool) → ours ≡ (bytes_eq front magic && nat_le size longest) → ours ≡ false → made ≡ (nat_le size header && is_fresh head) → made ≡ true
    → head ≡ take 32 log → New ≡ opening_by magic front size log
being_made magic front size log head ours made is_ours not_ours was_made so_made is =
    new_anyway (nat_eq size 0) (beside (log_state size log)) ∙ ap (λ (b : Bool). chosen (nat_eq size 0) b true (beside (log_state size log))) (sym not_ours)
    ∙ ap (λ (b : Bool). chosen (nat_eq size 0) ours b (beside (log_state size log))) (sym so_made) ∙ by_tests magic front size log head ours made is_ours was_made is

pub no_database : (magic front : List ℕ) (size : ℕ) (log head : List ℕ) (ours made : Bool) → size ≢ 0 → ours ≡ (bytes_eq front magic && nat_le size longest) → ours ≡ false → made ≡ (nat_le size header && is_fresh head)
    → made ≡ false → head ≡ take 32 log → NotDatabase ≡ opening_by magic front size log
no_database magic front size log head ours made some is_ours not_ours was_made not_made is =
    ap (λ (b : Bool). chosen b false false (beside (log_state size log))) (sym (unequal size 0 some)) ∙ ap (λ (b : Bool). chosen (nat_eq size 0) b false (beside (log_state size log))) (sym not_ours)
    ∙ ap (λ (b : Bool). chosen (nat_eq size 0) ours b (beside (log_state size log))) (sym not_made) ∙ by_tests magic front size log head ours made is_ours was_made is
