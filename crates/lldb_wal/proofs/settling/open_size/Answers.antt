use Rattle.lldb_wal.proofs.Arrived.{settled_stored, settled_content}
use Rattle.lldb_wal.proofs.Tidied.{rest_after}
use Rattle.lldb_wal.proofs.Times.{adds_read, adds_then}
use Rattle.lldb_wal.proofs.settling.open_size.Goals as goal

pub returns-in_err-size-clause-stops : goal.returns-in_err-size-clause-stops
returns-in_err-size-clause-stops g c = λ d left. c.in_ok-settle.ensures.stops d ((g.met.V.Volume.same_volume c.settle.new.volume c.length.new.self c.in_err-size.ensures.same).1.stops d left)

pub returns-in_err-size-clause-time : goal.returns-in_err-size-clause-time
returns-in_err-size-clause-time g c = adds_then c.in_ok-settle.ensures.time (adds_read (g.met.V.Volume.same_volume c.settle.new.volume c.length.new.self c.in_err-size.ensures.same).1 c.in_err-size.ensures.frame.0) c.in_ok-settle.ensures.frame.0 (λ d left. left) (λ d left. c.in_ok-settle.ensures.stops d ((g.met.V.Volume.same_volume c.settle.new.volume c.length.new.self c.in_err-size.ensures.same).1.stops d left))

pub returns-then-size-gt-LONGEST-clause-stops : goal.returns-then-size-gt-LONGEST-clause-stops
returns-then-size-gt-LONGEST-clause-stops g c = λ d left. c.in_ok-settle.ensures.stops d ((g.met.V.Volume.same_volume c.settle.new.volume c.length.new.self c.in_ok-size.ensures.same).1.stops d left)

pub returns-then-size-gt-LONGEST-clause-time : goal.returns-then-size-gt-LONGEST-clause-time
returns-then-size-gt-LONGEST-clause-time g c = adds_then c.in_ok-settle.ensures.time (adds_read (g.met.V.Volume.same_volume c.settle.new.volume c.length.new.self c.in_ok-size.ensures.same).1 c.in_ok-size.ensures.frame.0) c.in_ok-settle.ensures.frame.0 (λ d left. left) (λ d left. c.in_ok-settle.ensures.stops d ((g.met.V.Volume.same_volume c.settle.new.volume c.length.new.self c.in_ok-size.ensures.same).1.stops d left))

pub returns-clause-stops : goal.returns-clause-stops
returns-clause-stops g c = λ d left. c.in_ok-settle.ensures.stops d ((g.met.V.Volume.same_volume c.settle.new.volume c.length.new.self c.in_ok-size.ensures.same).1.stops d left)

pub returns-clause-time : goal.returns-clause-time
returns-clause-time g c = adds_then c.in_ok-settle.ensures.time (adds_read (g.met.V.Volume.same_volume c.settle.new.volume c.length.new.self c.in_ok-size.ensures.same).1 c.in_ok-size.ensures.frame.0) c.in_ok-settle.ensures.frame.0 (λ d left. left) (λ d left. c.in_ok-settle.ensures.stops d ((g.met.V.Volume.same_volume c.settle.new.volume c.length.new.self c.in_ok-size.ensures.same).1.stops d left))

pub returns-clause-content : goal.returns-clause-content
returns-clause-content g c = settled_content c.args.magic.now (g.V.Volume.files c.args.volume.now) _ _ c.in_ok-settle.ensures.settled (g.met.V.Volume.same_volume c.settle.new.volume c.length.new.self c.in_ok-size.ensures.same).1.held

pub returns-clause-stored : goal.returns-clause-stored
returns-clause-stored g c = settled_stored c.args.magic.now c.in_ok-size.size (g.V.Volume.files c.args.volume.now) _ _ c.requires.sixteen c.in_ok-settle.ensures.judges c.in_ok-settle.ensures.settled (g.met.V.Volume.same_volume c.settle.new.volume c.length.new.self c.in_ok-size.ensures.same).1.held c.in_ok-size.ensures.length

pub returns-clause-at_rest : goal.returns-clause-at_rest
returns-clause-at_rest g c = rest_after _ _ _ _ (g.met.V.Volume.same_volume c.settle.new.volume c.length.new.self c.in_ok-size.ensures.same).1.held (g.met.V.Volume.same_volume c.settle.new.volume c.length.new.self c.in_ok-size.ensures.same).1.stops c.in_ok-settle.ensures.at_rest
