-- What two files hold, by what the log is.
use Rattle.std.proofs.Common.{◌≡◌, ℕ, ◌≤◌, true, List, length, take, drop, refl, ap, ◌∙◌, arith}
use Rattle.std.specs.Prelude.{option_map, nat_le}
use Rattle.std.proofs.lemmas.Bool.Decides.{nat_tests}
use Rattle.std.proofs.lemmas.Slice.Eq.{bytes_eq-Decides}
use Rattle.lldb_wal.specs.Fields.{header, longest}
use Rattle.lldb_wal.specs.Laws.{IsOurs}
use Rattle.lldb_wal.specs.Log.{IsLog}
use Rattle.lldb_wal.specs.Opening.{opening, opened, beside, content}
use Rattle.lldb_wal.specs.States.{log_state}
use Rattle.lldb_wal.specs.declared.state.LogState.{LogState}
use Rattle.lldb_wal.proofs.OneState.{one_state, unequal}

at_most : (n most : ℕ) → n ≤ most → nat_le n most ≡ true
at_most n most within = grind (arith, nat_tests)

pub by_state : (magic bytes l : List ℕ) → IsOurs magic bytes → opening magic bytes l ≡ beside (log_state (length bytes) l)
by_state magic bytes l ours = rw (unequal (length bytes) 0 (λ e. omega (arith, e, ours.long)), (bytes_eq-Decides (take header bytes) magic).1 ours.begins, at_most (length bytes) longest ours.within) refl

pub by_log : (magic bytes l : List ℕ) (state : LogState) → IsOurs magic bytes → IsLog (length bytes) l state → opening magic bytes l ≡ beside state
by_log magic bytes l state ours is = by_state magic bytes l ours ∙ ap beside (one_state (length bytes) l state is)

pub held_by : (magic bytes l : List ℕ) (state : LogState) → IsOurs magic bytes → IsLog (length bytes) l state → content magic bytes l ≡ option_map (drop header) (opened magic bytes (beside state))
held_by magic bytes l state ours is = ap (λ o. option_map (drop header) (opened magic bytes o)) (by_log magic bytes l state ours is)
