use Rattle.std.proofs.Common.{◌∙◌}
use Rattle.ql_shell.proofs.Unwinding.{keeps_on, keeps_end}
use Rattle.ql_shell.proofs.levels.roll_back_all.Goals as goal

pub levels-preserved : goal.levels-preserved
levels-preserved g c =
    let open_level : _ = rw c.depth.ensures at c.levels-test.true in
    record {
      outer = λ kept h. keeps_on kept _ _ _ _ (c.levels.invariant.outer kept h) open_level c.rollback.ensures.db c.rollback.ensures.saved;
      told = c.rollback.ensures.told ∙ c.levels.invariant.told;
      leaves = (c.rollback.ensures.limit ∙ c.levels.invariant.leaves.0, c.rollback.ensures.left ∙ c.levels.invariant.leaves.1, c.rollback.ensures.fixed ∙ c.levels.invariant.leaves.2);
      faults = c.rollback.ensures.faults ∙ c.levels.invariant.faults;
    }

pub returns-clause-db : goal.returns-clause-db
returns-clause-db g c = λ kept h. keeps_end kept _ _ (c.levels.invariant.outer kept h) (rw c.depth.ensures at c.levels-test.false)
