use Rattle.std.proofs.Common.{Bool, ℕ, List, Option, IsTrue, length, IfSome, Result, refl, sym, ◌∙◌, subst, arith}
use Rattle.lldb_verify.specs.declared.finding.Finding.{Finding}
use Rattle.lldb_verify.specs.declared.finding.VerifyFault.{VerifyFault}
use Rattle.lldb_verify.specs.Logs.{has_room}
use Rattle.lldb_verify.specs.Passes.{Ahead, Goes}
use Rattle.lldb_verify.proofs.Ahead.{by_fault, step_on, step_wrong, no_step, held_same}
use Rattle.lldb_verify.proofs.tiles.pass_on.Goals as goal

pub walk-init : goal.walk-init
walk-init g c = record {
  within = (let size = c.size-atoms.ensures in omega (arith, size, c.requires.within));
  ahead = no_step (g.F.Filer.content c.args.filer.now) c.args.place.now c.args.scratch.now ((goal.FaultLog-dyn g (c.args.log.now.vtable, c.args.log.now.value)).list c.args.log.now.value);
  holds = c.requires.holds;
  count = refl;
  room = c.requires.room;
  bound = refl;
  frame = record { content = refl; size = refl; saved = refl; saved_sizes = refl; limit = refl; sound = refl; told = refl; left = refl; fixed = refl };
  faults = refl;
}

pub walk-preserved : goal.walk-preserved
walk-preserved g c = record {
  within = (let size = c.size-atoms.ensures in let same = c.walk.invariant.frame.size in let here = c.in_ok-stands.ensures.within in omega (arith, size, same, here));
  ahead = step_on (g.F.Filer.content c.args.filer.now) (g.F.Filer.content c.walk.filer) c.args.place.now c.walk.place c.pass_block.new.place c.args.scratch.now c.walk.scratch c.pass_block.new.scratch ((goal.FaultLog-dyn g (c.args.log.now.vtable, c.args.log.now.value)).list c.args.log.now.value) ((goal.FaultLog-dyn g (c.walk.log.vtable, c.walk.log.value)).list c.walk.log.value) ((goal.FaultLog-dyn g (c.pass_block.new.log.vtable, c.pass_block.new.log.value)).list c.pass_block.new.log.value) ((goal.FaultLog-dyn g (c.walk.log.vtable, c.walk.log.value)).bound c.walk.log.value) c.in_ok-stands.stands c.walk.invariant.frame.content c.if-not-stands.false c.in_ok-stands.ensures.went c.walk.invariant.ahead;
  holds = held_same (g.F.Filer.content c.pass_block.new.filer) (g.F.Filer.content c.walk.filer) c.pass_block.new.window (sym c.in_ok-stands.ensures.frame.content) c.in_ok-stands.ensures.holds;
  count = c.in_ok-stands.ensures.count ∙ c.walk.invariant.count;
  room = subst (λ (o : Option ℕ). IsTrue (has_room o (length ((goal.FaultLog-dyn g (c.pass_block.new.log.vtable, c.pass_block.new.log.value)).list c.pass_block.new.log.value)))) (sym c.in_ok-stands.ensures.bound) c.in_ok-stands.ensures.room;
  bound = c.in_ok-stands.ensures.bound ∙ c.walk.invariant.bound;
  frame = record { content = c.in_ok-stands.ensures.frame.content ∙ c.walk.invariant.frame.content; size = c.in_ok-stands.ensures.frame.size ∙ c.walk.invariant.frame.size; saved = c.in_ok-stands.ensures.frame.saved ∙ c.walk.invariant.frame.saved; saved_sizes = c.in_ok-stands.ensures.frame.saved_sizes ∙ c.walk.invariant.frame.saved_sizes; limit = c.in_ok-stands.ensures.frame.limit ∙ c.walk.invariant.frame.limit; sound = c.in_ok-stands.ensures.frame.sound ∙ c.walk.invariant.frame.sound; told = c.in_ok-stands.ensures.frame.told ∙ c.walk.invariant.frame.told; left = c.in_ok-stands.ensures.frame.left ∙ c.walk.invariant.frame.left; fixed = c.in_ok-stands.ensures.frame.fixed ∙ c.walk.invariant.frame.fixed };
  faults = c.in_ok-stands.ensures.cause ∙ c.walk.invariant.faults;
}

pub returns-in_err-stands-clause-went : goal.returns-in_err-stands-clause-went
returns-in_err-stands-clause-went g c =
    by_fault (λ (r : Result Bool VerifyFault). IfSome (g.F.Filer.content c.args.filer.now) (λ b. (all : List Finding) → Ahead b all c.args.place.now c.args.scratch.now ((goal.FaultLog-dyn g (c.args.log.now.vtable, c.args.log.now.value)).list c.args.log.now.value) → Goes b all ((goal.FaultLog-dyn g (c.args.log.now.vtable, c.args.log.now.value)).bound c.args.log.now.value) c.pass_block.new.place c.pass_block.new.scratch ((goal.FaultLog-dyn g (c.pass_block.new.log.vtable, c.pass_block.new.log.value)).list c.pass_block.new.log.value) r)) c.from_residual.result c.in_err-stands.field-0.0 c.from_residual.ensures.1
    (step_wrong (g.F.Filer.content c.args.filer.now) (g.F.Filer.content c.walk.filer) c.args.place.now c.walk.place c.pass_block.new.place c.args.scratch.now c.walk.scratch c.pass_block.new.scratch ((goal.FaultLog-dyn g (c.args.log.now.vtable, c.args.log.now.value)).list c.args.log.now.value) ((goal.FaultLog-dyn g (c.walk.log.vtable, c.walk.log.value)).list c.walk.log.value) ((goal.FaultLog-dyn g (c.pass_block.new.log.vtable, c.pass_block.new.log.value)).list c.pass_block.new.log.value) ((goal.FaultLog-dyn g (c.walk.log.vtable, c.walk.log.value)).bound c.walk.log.value) ((goal.FaultLog-dyn g (c.args.log.now.vtable, c.args.log.now.value)).bound c.args.log.now.value) c.in_err-stands.field-0.0 c.walk.invariant.frame.content c.walk.invariant.bound c.in_err-stands.ensures.went c.walk.invariant.ahead)
