-- A row that goes in, or is refused.
use Rattle.std.proofs.Common.{ℕ}
use Rattle.ql_rel.specs.Changes.{inserted}
use Rattle.ql_rel.specs.Refusals.{insert_refusal}
use Rattle.ql_exec.proofs.Added.{change_done, change_refused, cause_kept}
use Rattle.ql_exec.proofs.insert.add_row.Goals as goal

pub returns-in-Ok-clause-done : goal.returns-in-Ok-clause-done
returns-in-Ok-clause-done g c = change_done {T = ℕ} (inserted c.args.table c.args.values.now) (insert_refusal c.args.table c.args.values.now) c.in-Ok.field-0 _ _ c.in-Ok.ensures.db c.in-Ok.ensures.refused

pub returns-in-Err-clause-done : goal.returns-in-Err-clause-done
returns-in-Err-clause-done g c =
    rw c.fault_of_rel.ensures (change_refused ℕ (Unit {0}) (inserted c.args.table c.args.values.now) (insert_refusal c.args.table c.args.values.now) c.in-Err.fault _ _ c.in-Err.ensures.refused)

pub returns-in-Err-clause-cause : goal.returns-in-Err-clause-cause
returns-in-Err-clause-cause g c = rw c.fault_of_rel.ensures (cause_kept ℕ (Unit {0}) _ _ c.in-Err.fault _ _ c.in-Err.ensures.cause)
