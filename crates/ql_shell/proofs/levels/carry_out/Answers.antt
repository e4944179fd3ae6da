use Rattle.std.proofs.Common.{refl}
use Rattle.ql_shell.proofs.Carrying.{deep_enough, lacks, carried, stopped, half_shown}
use Rattle.ql_shell.proofs.Unwinding.{stands_kept}
use Rattle.ql_shell.proofs.levels.carry_out.Goals as goal

pub exec-requires-clause-level : goal.exec-requires-clause-level
exec-requires-clause-level g c = deep_enough c.args.statement.now _ c.lacks_level.result (rw c.depth.ensures at c.lacks_level.ensures) c.if-lacks_level.false

pub returns-then-lacks_level-clause-done : goal.returns-then-lacks_level-clause-done
returns-then-lacks_level-clause-done g c =
    λ st h. (lacks c.args.with_names c.args.statement.now st _ _ c.lacks_level.result c.new.result h (rw c.depth.ensures at c.lacks_level.ensures) c.if-lacks_level.true c.new.ensures, refl, stands_kept _ _ st h)

pub returns-in_err-exec-clause-done : goal.returns-in_err-exec-clause-done
returns-in_err-exec-clause-done g c =
    λ st h. stopped c.args.with_names c.args.statement.now st _ _ _ _ c.new-text.result c.exec.new.out _ _ c.lacks_level.result c.in_err-exec.field-0.0 c.from_residual.result h (rw c.depth.ensures at c.lacks_level.ensures) c.if-lacks_level.false c.in_err-exec.ensures.done c.exec.ensures.alone c.exec.ensures.leaves.0 c.exec.ensures.leaves.2 c.from_residual.ensures.1

pub returns-in_err-show_all-clause-done : goal.returns-in_err-show_all-clause-done
returns-in_err-show_all-clause-done g c =
    λ st h. half_shown c.args.with_names c.args.statement.now st _ _ _ _ _ c.new-text.result c.exec.new.out _ _ _ c.lacks_level.result c.in_err-show_all.field-0.0 c.from_residual-in_err-show_all.result h (rw c.depth.ensures at c.lacks_level.ensures) c.if-lacks_level.false c.in_ok-exec.ensures.done c.new-text.ensures c.exec.ensures.leaves.2 (rw c.as_slice.ensures at c.in_err-show_all.ensures.refused) c.from_residual-in_err-show_all.ensures.1

pub returns-clause-done : goal.returns-clause-done
returns-clause-done g c =
    let same : _ = g.met.R.Rel.same_rel c.exec.new.rel c.show_all.new.to c.show_all.ensures.same in
    λ st h. carried c.args.with_names c.args.statement.now st _ _ _ _ _ _ c.new-text.result c.exec.new.out _ _ _ c.lacks_level.result h (rw c.depth.ensures at c.lacks_level.ensures) c.if-lacks_level.false c.in_ok-exec.ensures.done c.new-text.ensures c.exec.ensures.leaves.0 c.exec.ensures.leaves.2 (rw c.as_slice.ensures at c.in_ok-show_all.ensures.shown) same.db same.saved
