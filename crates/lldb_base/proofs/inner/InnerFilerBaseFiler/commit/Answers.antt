use Rattle.std.proofs.Common.{◌-◌, ◌+◌, ◌^◌, arith}
use Rattle.lldb_base.proofs.Behind.{can_take_behind, content_behind, left_behind, after_behind, time_behind}
use Rattle.lldb_base.proofs.Pieces.{end_within}
use Rattle.lldb_base.proofs.inner.InnerFilerBaseFiler.commit.Goals as goal

pub shift_behind-requires-clause-shift : goal.shift_behind-requires-clause-shift
shift_behind-requires-clause-shift g c =
    let below = g.met.F.BaseFiler.sizes c.args.self.now.below in
    end_within 0 c.args.shift (g.F.BaseFiler.size_of c.args.self.now.below - c.args.self.now.offset) (2 ^ 60 + 16) c.args.batch.now c.requires.fits (omega (arith, below.0))

pub commit-answer-requires-clause-fits : goal.commit-answer-requires-clause-fits
commit-answer-requires-clause-fits g c =
    rw c.shift_behind.ensures (can_take_behind _ _ _ _ _ c.args.self.now.floor_within c.args.self.now.size_within c.requires.fits)

pub returns-clause-content : goal.returns-clause-content
returns-clause-content g c =
    rw c.behind.ensures (content_behind _ c.args.shift c.shift_behind.result _ _ _ _ _ c.shift_behind.ensures (g.met.F.BaseFiler.told_size c.args.self.now.below c.requires.sound) c.args.self.now.size_within c.requires.fits c.commit-answer.ensures.content)

pub returns-clause-stops : goal.returns-clause-stops
returns-clause-stops g c =
    left_behind c.args.self.now.offset c.args.shift c.shift_behind.result (g.F.BaseFiler.size_of c.args.self.now.below) c.args.batch.now (g.F.BaseFiler.content c.args.self.now.below) _ c.shift_behind.ensures
    (g.met.F.BaseFiler.told_size c.args.self.now.below c.requires.sound) c.args.self.now.size_within c.requires.fits c.commit-answer.ensures.stops

pub returns-clause-stops_new : goal.returns-clause-stops_new
returns-clause-stops_new g c =
    rw c.behind.ensures (after_behind c.args.self.now.offset c.args.shift c.shift_behind.result (g.F.BaseFiler.size_of c.args.self.now.below) c.args.batch.now (g.F.BaseFiler.content c.args.self.now.below) _ c.commit-answer.result c.shift_behind.ensures
    (g.met.F.BaseFiler.told_size c.args.self.now.below c.requires.sound) c.args.self.now.size_within c.requires.fits c.commit-answer.ensures.stops_new)

pub returns-clause-time : goal.returns-clause-time
returns-clause-time g c =
    time_behind c.args.self.now.offset c.args.shift c.shift_behind.result (g.F.BaseFiler.size_of c.args.self.now.below) c.args.batch.now (g.F.BaseFiler.content c.args.self.now.below) c.shift_behind.ensures
    (g.met.F.BaseFiler.told_size c.args.self.now.below c.requires.sound) c.args.self.now.size_within c.requires.fits c.commit-answer.ensures.time
