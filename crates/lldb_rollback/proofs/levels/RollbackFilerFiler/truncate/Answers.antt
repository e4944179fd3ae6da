use Rattle.lldb_rollback.specs.Levels.{same_below}
use Rattle.lldb_rollback.proofs.levels.RollbackFilerFiler.truncate.Goals as goal

pub returns-clause-stops : goal.returns-clause-stops
returns-clause-stops g c =
    same_below c.args.self.now.present.items c.truncate.new.self.items c.args.self.now.copied.untouched c.args.self.now.copied.begun c.take_copy.new.self.copied.untouched c.take_copy.new.self.copied.begun c.take_copy.ensures.stops
