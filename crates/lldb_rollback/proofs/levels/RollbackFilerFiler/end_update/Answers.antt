use Rattle.lldb_rollback.proofs.Copied.{copied_dropped}
use Rattle.lldb_base.specs.Stops.{same_but_self}
use Rattle.lldb_rollback.specs.Levels.{same_below}
use Rattle.lldb_rollback.proofs.Ended.{still_ended}
use Rattle.lldb_rollback.proofs.levels.RollbackFilerFiler.end_update.Goals as goal

pub invariant_of-self-clause-copied : goal.invariant_of-self-clause-copied
invariant_of-self-clause-copied g c = copied_dropped c.in-Some.ensures c.args.self.now.copied

pub returns-in-Some-clause-stops : goal.returns-in-Some-clause-stops
returns-in-Some-clause-stops g c =
    still_ended c.args.self.now.early c.args.self.now.changed c.args.self.now.present.items c.args.self.now.copies _ _ _ c.args.self.now.copied.untouched c.args.self.now.copied.begun (g.met.F.BaseFiler.sound_stops c.args.self.now.below c.requires.sound)

pub returns-in-Some-clause-inner_stops : goal.returns-in-Some-clause-inner_stops
returns-in-Some-clause-inner_stops g c _ =
    let after = copied_dropped c.in-Some.ensures c.args.self.now.copied in
    same_below c.args.self.now.present.items c.args.self.now.present.items c.args.self.now.copied.untouched c.args.self.now.copied.begun after.untouched after.begun same_but_self

pub returns-clause-stops : goal.returns-clause-stops
returns-clause-stops g c =
    still_ended c.args.self.now.early c.args.self.now.changed c.args.self.now.present.items c.args.self.now.copies _ _ _ c.args.self.now.copied.untouched c.args.self.now.copied.begun (g.met.F.BaseFiler.sound_stops c.args.self.now.below c.requires.sound)
