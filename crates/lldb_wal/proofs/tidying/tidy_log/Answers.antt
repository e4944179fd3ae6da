use Rattle.std.proofs.Common.{Option, subst, sym}
use Rattle.std.specs.Prelude.{IfSome}
use Rattle.ql_edge.specs.Disk.{Files}
use Rattle.lldb_wal.specs.Opened.{IsClosedLog}
use Rattle.lldb_wal.proofs.Tidied.{tidy_self, tidy_before, durable_after}
use Rattle.lldb_wal.proofs.Times.{adds_weaker, adds_read, adds_then}
use Rattle.lldb_wal.proofs.tidying.tidy_log.Goals as goal

pub returns-in_err-log-clause-stops : goal.returns-in_err-log-clause-stops
returns-in_err-log-clause-stops g c = λ d left. tidy_self (g.V.Volume.files c.args.volume.now) (g.V.Volume.may_leave c.args.volume.now) d c.requires.closed c.requires.durable ((g.met.V.Volume.same_volume c.args.volume.now c.read_front.new.volume c.in_err-log.ensures.same).1.stops d left)

pub returns-in_err-log-clause-time : goal.returns-in_err-log-clause-time
returns-in_err-log-clause-time g c = adds_weaker (adds_read (g.met.V.Volume.same_volume c.args.volume.now c.read_front.new.volume c.in_err-log.ensures.same).1 c.in_err-log.ensures.frame.0) (λ d left. tidy_self (g.V.Volume.files c.args.volume.now) (g.V.Volume.may_leave c.args.volume.now) d c.requires.closed c.requires.durable ((g.met.V.Volume.same_volume c.args.volume.now c.read_front.new.volume c.in_err-log.ensures.same).1.stops d left))

pub tidy_by-requires-clause-closed : goal.tidy_by-requires-clause-closed
tidy_by-requires-clause-closed g c = subst (λ (o : Option Files). IfSome o (λ f. IsClosedLog f.1)) (sym (g.met.V.Volume.same_volume c.args.volume.now c.read_front.new.volume c.in_ok-log.ensures.same).1.held) c.requires.closed

pub tidy_by-requires-clause-durable : goal.tidy_by-requires-clause-durable
tidy_by-requires-clause-durable g c = durable_after (g.V.Volume.files c.args.volume.now) _ (g.V.Volume.may_leave c.args.volume.now) _ (g.met.V.Volume.same_volume c.args.volume.now c.read_front.new.volume c.in_ok-log.ensures.same).1.held (g.met.V.Volume.same_volume c.args.volume.now c.read_front.new.volume c.in_ok-log.ensures.same).1.stops c.requires.durable

pub returns-in_err-tidy_by-clause-stops : goal.returns-in_err-tidy_by-clause-stops
returns-in_err-tidy_by-clause-stops g c = λ d left. tidy_before (g.V.Volume.files c.args.volume.now) _ d (g.met.V.Volume.same_volume c.args.volume.now c.read_front.new.volume c.in_ok-log.ensures.same).1.held (c.in_err-tidy_by.ensures.stops d left)

pub returns-in_err-tidy_by-clause-time : goal.returns-in_err-tidy_by-clause-time
returns-in_err-tidy_by-clause-time g c = adds_then (adds_read (g.met.V.Volume.same_volume c.args.volume.now c.read_front.new.volume c.in_ok-log.ensures.same).1 c.in_ok-log.ensures.frame.0) c.in_err-tidy_by.ensures.time c.in_ok-log.ensures.frame.0 (λ d left. tidy_self (g.V.Volume.files c.args.volume.now) (g.V.Volume.may_leave c.args.volume.now) d c.requires.closed c.requires.durable ((g.met.V.Volume.same_volume c.args.volume.now c.read_front.new.volume c.in_ok-log.ensures.same).1.stops d left)) (λ d left. tidy_before (g.V.Volume.files c.args.volume.now) _ d (g.met.V.Volume.same_volume c.args.volume.now c.read_front.new.volume c.in_ok-log.ensures.same).1.held left)

pub returns-clause-stops : goal.returns-clause-stops
returns-clause-stops g c = λ d left. tidy_before (g.V.Volume.files c.args.volume.now) _ d (g.met.V.Volume.same_volume c.args.volume.now c.read_front.new.volume c.in_ok-log.ensures.same).1.held (c.in_ok-tidy_by.ensures.stops d left)

pub returns-clause-time : goal.returns-clause-time
returns-clause-time g c = adds_then (adds_read (g.met.V.Volume.same_volume c.args.volume.now c.read_front.new.volume c.in_ok-log.ensures.same).1 c.in_ok-log.ensures.frame.0) c.in_ok-tidy_by.ensures.time c.in_ok-log.ensures.frame.0 (λ d left. tidy_self (g.V.Volume.files c.args.volume.now) (g.V.Volume.may_leave c.args.volume.now) d c.requires.closed c.requires.durable ((g.met.V.Volume.same_volume c.args.volume.now c.read_front.new.volume c.in_ok-log.ensures.same).1.stops d left)) (λ d left. tidy_before (g.V.Volume.files c.args.volume.now) _ d (g.met.V.Volume.same_volume c.args.volume.now c.read_front.new.volume c.in_ok-log.ensures.same).1.held left)
