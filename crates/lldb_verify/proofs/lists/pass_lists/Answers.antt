use Rattle.std.proofs.Common.{ℕ, ◌+◌, ◌-◌, Option, IsTrue, length, IfSome, Result, refl, sym, ◌∙◌, subst, arith}
use Rattle.lldb_verify.specs.declared.finding.VerifyFault.{VerifyFault}
use Rattle.lldb_verify.specs.Findings.{of_lists}
use Rattle.lldb_verify.specs.Logs.{has_room}
use Rattle.lldb_verify.specs.Met.{Lists}
use Rattle.lldb_verify.specs.Passes.{blocks_from}
use Rattle.lldb_verify.proofs.Ahead.{by_fault, held_same}
use Rattle.lldb_verify.proofs.Meets.{lists_first, lists_on, lists_wrong}
use Rattle.lldb_verify.proofs.lists.pass_lists.Goals as goal

pub walk-init : goal.walk-init
walk-init g c = record {
  within = omega arith;
  told = lists_first (g.F.Filer.content c.args.filer.now) c.args.scratch.now ((goal.FaultLog-dyn g (c.args.log.now.vtable, c.args.log.now.value)).list c.args.log.now.value) ((goal.FaultLog-dyn g (c.args.log.now.vtable, c.args.log.now.value)).bound c.args.log.now.value) c.requires.marked;
  holds = c.requires.holds;
  count = refl;
  room = c.requires.room;
  bound = refl;
  frame = record { content = refl; size = refl; saved = refl; saved_sizes = refl; limit = refl; sound = refl; told = refl; left = refl; fixed = refl };
  faults = refl;
}

pub walk-preserved : goal.walk-preserved
walk-preserved g c = record {
  within = (let low = c.walk-test.true in omega (arith, low));
  told = lists_on (g.F.Filer.content c.args.filer.now) (g.F.Filer.content c.walk.filer) c.walk.class (c.walk.class + 1) c.walk.scratch c.pass_list.new.scratch ((goal.FaultLog-dyn g (c.args.log.now.vtable, c.args.log.now.value)).list c.args.log.now.value) ((goal.FaultLog-dyn g (c.walk.log.vtable, c.walk.log.value)).list c.walk.log.value) ((goal.FaultLog-dyn g (c.pass_list.new.log.vtable, c.pass_list.new.log.value)).list c.pass_list.new.log.value) ((goal.FaultLog-dyn g (c.walk.log.vtable, c.walk.log.value)).bound c.walk.log.value) ((goal.FaultLog-dyn g (c.args.log.now.vtable, c.args.log.now.value)).bound c.args.log.now.value) tt c.walk.invariant.frame.content (omega arith) c.in_ok-pass_list.ensures.listed c.walk.invariant.told;
  holds = held_same (g.F.Filer.content c.pass_list.new.filer) (g.F.Filer.content c.walk.filer) c.pass_list.new.near (sym c.in_ok-pass_list.ensures.frame.content) c.in_ok-pass_list.ensures.holds;
  count = c.in_ok-pass_list.ensures.count ∙ c.walk.invariant.count;
  room = subst (λ (o : Option ℕ). IsTrue (has_room o (length ((goal.FaultLog-dyn g (c.pass_list.new.log.vtable, c.pass_list.new.log.value)).list c.pass_list.new.log.value)))) (sym c.in_ok-pass_list.ensures.bound) c.in_ok-pass_list.ensures.room;
  bound = c.in_ok-pass_list.ensures.bound ∙ c.walk.invariant.bound;
  frame = record { content = c.in_ok-pass_list.ensures.frame.content ∙ c.walk.invariant.frame.content; size = c.in_ok-pass_list.ensures.frame.size ∙ c.walk.invariant.frame.size; saved = c.in_ok-pass_list.ensures.frame.saved ∙ c.walk.invariant.frame.saved; saved_sizes = c.in_ok-pass_list.ensures.frame.saved_sizes ∙ c.walk.invariant.frame.saved_sizes; limit = c.in_ok-pass_list.ensures.frame.limit ∙ c.walk.invariant.frame.limit; sound = c.in_ok-pass_list.ensures.frame.sound ∙ c.walk.invariant.frame.sound; told = c.in_ok-pass_list.ensures.frame.told ∙ c.walk.invariant.frame.told; left = c.in_ok-pass_list.ensures.frame.left ∙ c.walk.invariant.frame.left; fixed = c.in_ok-pass_list.ensures.frame.fixed ∙ c.walk.invariant.frame.fixed };
  faults = c.in_ok-pass_list.ensures.cause ∙ c.walk.invariant.faults;
}

pub returns-in_err-pass_list-clause-listed : goal.returns-in_err-pass_list-clause-listed
returns-in_err-pass_list-clause-listed g c =
    by_fault (λ (r : Result (Unit {0}) VerifyFault). IfSome (g.F.Filer.content c.args.filer.now) (λ b. Lists b (of_lists b (blocks_from b 8) 16) ((goal.FaultLog-dyn g (c.args.log.now.vtable, c.args.log.now.value)).list c.args.log.now.value) ((goal.FaultLog-dyn g (c.args.log.now.vtable, c.args.log.now.value)).bound c.args.log.now.value) c.pass_list.new.scratch ((goal.FaultLog-dyn g (c.pass_list.new.log.vtable, c.pass_list.new.log.value)).list c.pass_list.new.log.value) r)) c.from_residual.result c.in_err-pass_list.field-0.0 c.from_residual.ensures.1
    (lists_wrong (g.F.Filer.content c.args.filer.now) (g.F.Filer.content c.walk.filer) c.walk.class (15 - c.walk.class) c.walk.scratch c.pass_list.new.scratch ((goal.FaultLog-dyn g (c.args.log.now.vtable, c.args.log.now.value)).list c.args.log.now.value) ((goal.FaultLog-dyn g (c.walk.log.vtable, c.walk.log.value)).list c.walk.log.value) ((goal.FaultLog-dyn g (c.pass_list.new.log.vtable, c.pass_list.new.log.value)).list c.pass_list.new.log.value) ((goal.FaultLog-dyn g (c.walk.log.vtable, c.walk.log.value)).bound c.walk.log.value) ((goal.FaultLog-dyn g (c.args.log.now.vtable, c.args.log.now.value)).bound c.args.log.now.value) c.in_err-pass_list.field-0.0 c.walk.invariant.frame.content c.walk.invariant.bound (let low = c.walk-test.true in omega (arith, low)) c.in_err-pass_list.ensures.listed c.walk.invariant.told)
