use Rattle.std.proofs.Common.{◌≡◌, length, Option, subst, sym}
use Rattle.std.specs.Prelude.{IfSome}
use Rattle.ql_edge.specs.Disk.{Files}
use Rattle.lldb_wal.specs.Opening.{opening}
use Rattle.lldb_wal.specs.declared.state.Opening.TheVariants.{New}
use Rattle.lldb_wal.proofs.Created.{new_created, same_created}
use Rattle.lldb_wal.proofs.Tidied.{durable_after}
use Rattle.lldb_wal.proofs.Times.{adds_weaker, adds_read, adds_then}
use Rattle.lldb_wal.proofs.creation.create.Goals as goal

pub returns-in_err-size-clause-stops : goal.returns-in_err-size-clause-stops
returns-in_err-size-clause-stops g c = λ d left. new_created c.args.magic.now (g.V.Volume.files c.args.volume.now) (g.V.Volume.may_leave c.args.volume.now) d c.requires.found c.requires.durable ((g.met.V.Volume.same_volume c.args.volume.now c.length.new.self c.in_err-size.ensures.same).1.stops d left)

pub returns-in_err-size-clause-time : goal.returns-in_err-size-clause-time
returns-in_err-size-clause-time g c = adds_weaker (adds_read (g.met.V.Volume.same_volume c.args.volume.now c.length.new.self c.in_err-size.ensures.same).1 c.in_err-size.ensures.frame.0) (λ d left. new_created c.args.magic.now (g.V.Volume.files c.args.volume.now) (g.V.Volume.may_leave c.args.volume.now) d c.requires.found c.requires.durable ((g.met.V.Volume.same_volume c.args.volume.now c.length.new.self c.in_err-size.ensures.same).1.stops d left))

pub create_by-requires-clause-size : goal.create_by-requires-clause-size
create_by-requires-clause-size g c = subst (λ (o : Option Files). IfSome o (λ f. c.in_ok-size.size ≡ length f.0)) (sym (g.met.V.Volume.same_volume c.args.volume.now c.length.new.self c.in_ok-size.ensures.same).1.held) c.in_ok-size.ensures.length

pub create_by-requires-clause-found : goal.create_by-requires-clause-found
create_by-requires-clause-found g c = subst (λ (o : Option Files). IfSome o (λ f. opening c.args.magic.now f.0 f.1 ≡ New)) (sym (g.met.V.Volume.same_volume c.args.volume.now c.length.new.self c.in_ok-size.ensures.same).1.held) c.requires.found

pub create_by-requires-clause-durable : goal.create_by-requires-clause-durable
create_by-requires-clause-durable g c = durable_after (g.V.Volume.files c.args.volume.now) _ (g.V.Volume.may_leave c.args.volume.now) _ (g.met.V.Volume.same_volume c.args.volume.now c.length.new.self c.in_ok-size.ensures.same).1.held (g.met.V.Volume.same_volume c.args.volume.now c.length.new.self c.in_ok-size.ensures.same).1.stops c.requires.durable

pub returns-in_err-create_by-clause-stops : goal.returns-in_err-create_by-clause-stops
returns-in_err-create_by-clause-stops g c = λ d left. same_created c.args.magic.now (g.V.Volume.files c.args.volume.now) _ d (g.met.V.Volume.same_volume c.args.volume.now c.length.new.self c.in_ok-size.ensures.same).1.held (c.in_err-create_by.ensures.stops d left)

pub returns-in_err-create_by-clause-time : goal.returns-in_err-create_by-clause-time
returns-in_err-create_by-clause-time g c = adds_then (adds_read (g.met.V.Volume.same_volume c.args.volume.now c.length.new.self c.in_ok-size.ensures.same).1 c.in_ok-size.ensures.frame.0) c.in_err-create_by.ensures.time c.in_ok-size.ensures.frame.0 (λ d left. new_created c.args.magic.now (g.V.Volume.files c.args.volume.now) (g.V.Volume.may_leave c.args.volume.now) d c.requires.found c.requires.durable ((g.met.V.Volume.same_volume c.args.volume.now c.length.new.self c.in_ok-size.ensures.same).1.stops d left)) (λ d left. same_created c.args.magic.now (g.V.Volume.files c.args.volume.now) _ d (g.met.V.Volume.same_volume c.args.volume.now c.length.new.self c.in_ok-size.ensures.same).1.held left)

pub returns-clause-stops : goal.returns-clause-stops
returns-clause-stops g c = λ d left. same_created c.args.magic.now (g.V.Volume.files c.args.volume.now) _ d (g.met.V.Volume.same_volume c.args.volume.now c.length.new.self c.in_ok-size.ensures.same).1.held (c.in_ok-create_by.ensures.stops d left)

pub returns-clause-time : goal.returns-clause-time
returns-clause-time g c = adds_then (adds_read (g.met.V.Volume.same_volume c.args.volume.now c.length.new.self c.in_ok-size.ensures.same).1 c.in_ok-size.ensures.frame.0) c.in_ok-create_by.ensures.time c.in_ok-size.ensures.frame.0 (λ d left. new_created c.args.magic.now (g.V.Volume.files c.args.volume.now) (g.V.Volume.may_leave c.args.volume.now) d c.requires.found c.requires.durable ((g.met.V.Volume.same_volume c.args.volume.now c.length.new.self c.in_ok-size.ensures.same).1.stops d left)) (λ d left. same_created c.args.magic.now (g.V.Volume.files c.args.volume.now) _ d (g.met.V.Volume.same_volume c.args.volume.now c.length.new.self c.in_ok-size.ensures.same).1.held left)
