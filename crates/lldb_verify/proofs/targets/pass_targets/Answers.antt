use Rattle.std.proofs.Common.{ℕ, ◌++◌, [], List, Option, IsTrue, length, IfSome, Result, refl, sym, ◌∙◌, subst, arith}
use Rattle.lldb_atoms.specs.Lists.{row_of}
use Rattle.lldb_verify.specs.declared.finding.VerifyFault.{VerifyFault}
use Rattle.lldb_verify.specs.Findings.{of_targets}
use Rattle.lldb_verify.specs.Logs.{has_room}
use Rattle.lldb_verify.specs.Passes.{blocks_from, AllAimed}
use Rattle.lldb_verify.proofs.Ahead.{by_fault, held_same}
use Rattle.lldb_verify.proofs.Aims.{aim_first, aim_on, aim_wrong, all_aimed}
use Rattle.lldb_verify.proofs.targets.pass_targets.Goals as goal

pub walk-init : goal.walk-init
walk-init g c = record {
  within = (let size = c.size-atoms.ensures in let table = c.requires.table in omega (arith, size, table));
  ahead = aim_first (g.F.Filer.content c.args.filer.now) c.args.scratch.now ((goal.FaultLog-dyn g (c.args.log.now.vtable, c.args.log.now.value)).list c.args.log.now.value) c.requires.marked;
  holds = c.requires.holds;
  near = c.requires.near;
  count = refl;
  room = c.requires.room;
  bound = refl;
  frame = record { content = refl; size = refl; saved = refl; saved_sizes = refl; limit = refl; sound = refl; told = refl; left = refl; fixed = refl };
  faults = refl;
}

pub walk-preserved : goal.walk-preserved
walk-preserved g c = record {
  within = (let size = c.size-atoms.ensures in let same = c.walk.invariant.frame.size in let next = c.in_ok-atom.ensures.on in omega (arith, size, same, next.1));
  ahead = aim_on (λ (b : List ℕ). ((goal.FaultLog-dyn g (c.args.log.now.vtable, c.args.log.now.value)).list c.args.log.now.value) ++ of_targets (row_of (blocks_from b 8)) [] 8 (row_of (blocks_from b 8))) (g.F.Filer.content c.args.filer.now) (g.F.Filer.content c.walk.filer) c.walk.atom c.in_ok-atom.atom c.walk.scratch c.aim_block.new.scratch ((goal.FaultLog-dyn g (c.walk.log.vtable, c.walk.log.value)).list c.walk.log.value) ((goal.FaultLog-dyn g (c.aim_block.new.log.vtable, c.aim_block.new.log.value)).list c.aim_block.new.log.value) ((goal.FaultLog-dyn g (c.walk.log.vtable, c.walk.log.value)).bound c.walk.log.value) c.walk.invariant.frame.content c.in_ok-atom.ensures.went c.walk.invariant.ahead;
  holds = held_same (g.F.Filer.content c.aim_block.new.filer) (g.F.Filer.content c.walk.filer) c.aim_block.new.window (sym c.in_ok-atom.ensures.frame.content) c.in_ok-atom.ensures.holds;
  near = held_same (g.F.Filer.content c.aim_block.new.filer) (g.F.Filer.content c.walk.filer) c.aim_block.new.near (sym c.in_ok-atom.ensures.frame.content) c.in_ok-atom.ensures.near;
  count = c.in_ok-atom.ensures.count ∙ c.walk.invariant.count;
  room = subst (λ (o : Option ℕ). IsTrue (has_room o (length ((goal.FaultLog-dyn g (c.aim_block.new.log.vtable, c.aim_block.new.log.value)).list c.aim_block.new.log.value)))) (sym c.in_ok-atom.ensures.bound) c.in_ok-atom.ensures.room;
  bound = c.in_ok-atom.ensures.bound ∙ c.walk.invariant.bound;
  frame = record { content = c.in_ok-atom.ensures.frame.content ∙ c.walk.invariant.frame.content; size = c.in_ok-atom.ensures.frame.size ∙ c.walk.invariant.frame.size; saved = c.in_ok-atom.ensures.frame.saved ∙ c.walk.invariant.frame.saved; saved_sizes = c.in_ok-atom.ensures.frame.saved_sizes ∙ c.walk.invariant.frame.saved_sizes; limit = c.in_ok-atom.ensures.frame.limit ∙ c.walk.invariant.frame.limit; sound = c.in_ok-atom.ensures.frame.sound ∙ c.walk.invariant.frame.sound; told = c.in_ok-atom.ensures.frame.told ∙ c.walk.invariant.frame.told; left = c.in_ok-atom.ensures.frame.left ∙ c.walk.invariant.frame.left; fixed = c.in_ok-atom.ensures.frame.fixed ∙ c.walk.invariant.frame.fixed };
  faults = c.in_ok-atom.ensures.cause ∙ c.walk.invariant.faults;
}

pub returns-in_err-atom-clause-aimed : goal.returns-in_err-atom-clause-aimed
returns-in_err-atom-clause-aimed g c =
    by_fault (λ (r : Result (Unit {0}) VerifyFault). IfSome (g.F.Filer.content c.args.filer.now) (λ b. AllAimed b ((λ (b : List ℕ). ((goal.FaultLog-dyn g (c.args.log.now.vtable, c.args.log.now.value)).list c.args.log.now.value) ++ of_targets (row_of (blocks_from b 8)) [] 8 (row_of (blocks_from b 8))) b) ((goal.FaultLog-dyn g (c.args.log.now.vtable, c.args.log.now.value)).bound c.args.log.now.value) c.aim_block.new.scratch ((goal.FaultLog-dyn g (c.aim_block.new.log.vtable, c.aim_block.new.log.value)).list c.aim_block.new.log.value) r)) c.from_residual.result c.in_err-atom.field-0.0 c.from_residual.ensures.1
    (aim_wrong (λ (b : List ℕ). ((goal.FaultLog-dyn g (c.args.log.now.vtable, c.args.log.now.value)).list c.args.log.now.value) ++ of_targets (row_of (blocks_from b 8)) [] 8 (row_of (blocks_from b 8))) (g.F.Filer.content c.args.filer.now) (g.F.Filer.content c.walk.filer) c.walk.atom c.walk.scratch c.aim_block.new.scratch ((goal.FaultLog-dyn g (c.walk.log.vtable, c.walk.log.value)).list c.walk.log.value) ((goal.FaultLog-dyn g (c.aim_block.new.log.vtable, c.aim_block.new.log.value)).list c.aim_block.new.log.value) ((goal.FaultLog-dyn g (c.walk.log.vtable, c.walk.log.value)).bound c.walk.log.value) ((goal.FaultLog-dyn g (c.args.log.now.vtable, c.args.log.now.value)).bound c.args.log.now.value) c.in_err-atom.field-0.0 c.walk.invariant.frame.content c.walk.invariant.bound c.in_err-atom.ensures.went c.walk.invariant.ahead)

pub returns-clause-aimed : goal.returns-clause-aimed
returns-clause-aimed g c =
    all_aimed (λ (b : List ℕ). ((goal.FaultLog-dyn g (c.args.log.now.vtable, c.args.log.now.value)).list c.args.log.now.value) ++ of_targets (row_of (blocks_from b 8)) [] 8 (row_of (blocks_from b 8))) (g.F.Filer.content c.args.filer.now) (g.F.Filer.size_of c.args.filer.now) c.walk.atom c.walk.scratch ((goal.FaultLog-dyn g (c.walk.log.vtable, c.walk.log.value)).list c.walk.log.value) ((goal.FaultLog-dyn g (c.args.log.now.vtable, c.args.log.now.value)).bound c.args.log.now.value) tt (g.met.F.Filer.told_size c.args.filer.now c.requires.sound) c.requires.whole (let size = c.size-atoms.ensures in let low = c.walk.invariant.within in let high = c.walk-test.false in omega (arith, size, low, high)) c.walk.invariant.ahead
