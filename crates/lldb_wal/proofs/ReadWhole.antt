-- What two files are by their first bytes, where a device tells them.
use Rattle.std.proofs.Common.{◌≡◌, ℕ, List, length, take, Option, Some, None, sym, ap, ◌∙◌}
use Rattle.std.specs.Prelude.{IfSome}
use Rattle.ql_edge.specs.Disk.{Files}
use Rattle.lldb_wal.specs.Log.{IsLog}
use Rattle.lldb_wal.specs.Opening.{beside, opening, opening_by}
use Rattle.lldb_wal.specs.States.{log_state}
use Rattle.lldb_wal.specs.declared.state.LogState.{LogState}
use Rattle.lldb_wal.specs.declared.state.Opening.{Opening}
use Rattle.lldb_wal.proofs.OneState.{one_state}

-- the first bytes of both files decide
pub told_decided : (told : Option Files) (magic front head : List ℕ) (size : ℕ) (found : Opening) → IfSome told (λ f. length f.0 ≡ size) → IfSome told (λ f. front ≡ take 16 f.0)
    → IfSome told (λ f. head ≡ take 32 f.1) → ((log : List ℕ) → head ≡ take 32 log → found ≡ opening_by magic front size log) → IfSome told (λ f. found ≡ opening magic f.0 f.1)
told_decided None magic front head size found sized fronted headed decided = tt
told_decided (Some f) magic front head size found sized fronted headed decided =
    decided f.1 headed ∙ ap (λ (bs : List ℕ). opening_by magic bs size f.1) fronted ∙ ap (λ (n : ℕ). opening_by magic (take 16 f.0) n f.1) (sym sized)

-- the log decides
pub told_by_log : (told : Option Files) (magic front : List ℕ) (size : ℕ) (state : LogState) (found : Opening) → IfSome told (λ f. length f.0 ≡ size) → IfSome told (λ f. front ≡ take 16 f.0)
    → ((log : List ℕ) → opening_by magic front size log ≡ beside (log_state size log)) → IfSome told (λ f. IsLog size f.1 state) → found ≡ beside state → IfSome told (λ f. found ≡ opening magic f.0 f.1)
told_by_log None magic front size state found sized fronted left is same = tt
told_by_log (Some f) magic front size state found sized fronted left is same =
    same ∙ sym (ap beside (one_state size f.1 state is)) ∙ sym (left f.1)
    ∙ ap (λ (bs : List ℕ). opening_by magic bs size f.1) fronted ∙ ap (λ (n : ℕ). opening_by magic (take 16 f.0) n f.1) (sym sized)
