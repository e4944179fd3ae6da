use Rattle.ql_shell.proofs.Standing.{no_level, went_back}
use Rattle.ql_shell.proofs.Unwinding.{stands_kept}
use Rattle.std.proofs.Common.{refl}
use Rattle.ql_shell.proofs.levels.roll_back.Goals as goal

pub returns-then-depth-base-clause-done : goal.returns-then-depth-base-clause-done
returns-then-depth-base-clause-done g c = λ st s b. (no_level st _ _ c.args.base c.new.result s b c.requires.on.based (rw c.depth.ensures at c.if-depth-base.true) c.new.ensures, refl, stands_kept _ _ st s)

pub returns-clause-done : goal.returns-clause-done
returns-clause-done g c = λ st s b. went_back st _ _ _ _ _ _ c.args.base s b (rw c.depth.ensures at c.if-depth-base.false) c.rollback.ensures.db c.rollback.ensures.saved c.rollback.ensures.told
