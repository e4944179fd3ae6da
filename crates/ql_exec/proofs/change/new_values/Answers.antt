-- As many new values as places.
use Rattle.std.proofs.Common.{ℕ, List, length, ap, sym, ◌∙◌}
use Rattle.ql_exec.proofs.Assigned.{values_each}
use Rattle.ql_exec.proofs.change.new_values.Goals as goal

pub assign-requires-clause-each : goal.assign-requires-clause-each
assign-requires-clause-each c =
    values_each c.as_slice.result.now c.args.plan.now.fields c.in_ok-new.new (c.in_ok-new.ensures) ∙ c.requires.each ∙ ap (λ (l : List ℕ). length l) (sym c.as_slice-2.ensures)
