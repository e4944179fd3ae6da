use Rattle.std.proofs.Common.{ℕ, ◌++◌, List, Option, IsTrue, length, IfSome, Result, refl, sym, ◌∙◌, subst, arith}
use Rattle.lldb_atoms.specs.Lists.{row_of}
use Rattle.lldb_verify.specs.declared.finding.VerifyFault.{VerifyFault}
use Rattle.lldb_verify.specs.Findings.{of_unlisted}
use Rattle.lldb_verify.specs.Logs.{has_room}
use Rattle.lldb_verify.specs.Met.{Unmet}
use Rattle.lldb_verify.specs.Passes.{blocks_from}
use Rattle.lldb_verify.specs.Told.{Tells}
use Rattle.lldb_verify.proofs.Ahead.{by_fault, held_same}
use Rattle.lldb_verify.proofs.Sweeps.{sweep_first, sweep_on, sweep_wrong, all_swept}
use Rattle.lldb_verify.proofs.unlisted.pass_unlisted.Goals as goal

pub walk-init : goal.walk-init
walk-init g c = record {
  within = (let size = c.size-atoms.ensures in let table = c.requires.table in omega (arith, size, table));
  swept = sweep_first (g.F.Filer.content c.args.filer.now) c.args.scratch.now ((goal.FaultLog-dyn g (c.args.log.now.vtable, c.args.log.now.value)).list c.args.log.now.value);
  holds = c.requires.holds;
  room = c.requires.room;
  bound = refl;
  frame = record { content = refl; size = refl; saved = refl; saved_sizes = refl; limit = refl; sound = refl; told = refl; left = refl; fixed = refl };
  faults = refl;
}

pub walk-preserved : goal.walk-preserved
walk-preserved g c = record {
  within = (let size = c.size-atoms.ensures in let same = c.walk.invariant.frame.size in let next = c.in_ok-atom.ensures.on in omega (arith, size, same, next.1));
  swept = sweep_on (g.F.Filer.content c.args.filer.now) (g.F.Filer.content c.walk.filer) c.walk.atom c.in_ok-atom.atom c.args.scratch.now ((goal.FaultLog-dyn g (c.args.log.now.vtable, c.args.log.now.value)).list c.args.log.now.value) ((goal.FaultLog-dyn g (c.walk.log.vtable, c.walk.log.value)).list c.walk.log.value) ((goal.FaultLog-dyn g (c.sweep_block.new.log.vtable, c.sweep_block.new.log.value)).list c.sweep_block.new.log.value) ((goal.FaultLog-dyn g (c.walk.log.vtable, c.walk.log.value)).bound c.walk.log.value) c.walk.invariant.frame.content c.in_ok-atom.ensures.went c.walk.invariant.swept;
  holds = held_same (g.F.Filer.content c.sweep_block.new.filer) (g.F.Filer.content c.walk.filer) c.sweep_block.new.window (sym c.in_ok-atom.ensures.frame.content) c.in_ok-atom.ensures.holds;
  room = subst (λ (o : Option ℕ). IsTrue (has_room o (length ((goal.FaultLog-dyn g (c.sweep_block.new.log.vtable, c.sweep_block.new.log.value)).list c.sweep_block.new.log.value)))) (sym c.in_ok-atom.ensures.bound) c.in_ok-atom.ensures.room;
  bound = c.in_ok-atom.ensures.bound ∙ c.walk.invariant.bound;
  frame = record { content = c.in_ok-atom.ensures.frame.content ∙ c.walk.invariant.frame.content; size = c.in_ok-atom.ensures.frame.size ∙ c.walk.invariant.frame.size; saved = c.in_ok-atom.ensures.frame.saved ∙ c.walk.invariant.frame.saved; saved_sizes = c.in_ok-atom.ensures.frame.saved_sizes ∙ c.walk.invariant.frame.saved_sizes; limit = c.in_ok-atom.ensures.frame.limit ∙ c.walk.invariant.frame.limit; sound = c.in_ok-atom.ensures.frame.sound ∙ c.walk.invariant.frame.sound; told = c.in_ok-atom.ensures.frame.told ∙ c.walk.invariant.frame.told; left = c.in_ok-atom.ensures.frame.left ∙ c.walk.invariant.frame.left; fixed = c.in_ok-atom.ensures.frame.fixed ∙ c.walk.invariant.frame.fixed };
  faults = c.in_ok-atom.ensures.cause ∙ c.walk.invariant.faults;
}

pub returns-in_err-atom-clause-swept : goal.returns-in_err-atom-clause-swept
returns-in_err-atom-clause-swept g c =
    by_fault (λ (r : Result (Unit {0}) VerifyFault). IfSome (g.F.Filer.content c.args.filer.now) (λ b. (met : List ℕ) → Unmet b met c.args.scratch.now → Tells (((goal.FaultLog-dyn g (c.args.log.now.vtable, c.args.log.now.value)).list c.args.log.now.value) ++ of_unlisted met 8 (row_of (blocks_from b 8))) ((goal.FaultLog-dyn g (c.args.log.now.vtable, c.args.log.now.value)).bound c.args.log.now.value) ((goal.FaultLog-dyn g (c.sweep_block.new.log.vtable, c.sweep_block.new.log.value)).list c.sweep_block.new.log.value) r)) c.from_residual.result c.in_err-atom.field-0.0 c.from_residual.ensures.1
    (sweep_wrong (g.F.Filer.content c.args.filer.now) (g.F.Filer.content c.walk.filer) c.walk.atom c.args.scratch.now ((goal.FaultLog-dyn g (c.args.log.now.vtable, c.args.log.now.value)).list c.args.log.now.value) ((goal.FaultLog-dyn g (c.walk.log.vtable, c.walk.log.value)).list c.walk.log.value) ((goal.FaultLog-dyn g (c.sweep_block.new.log.vtable, c.sweep_block.new.log.value)).list c.sweep_block.new.log.value) ((goal.FaultLog-dyn g (c.walk.log.vtable, c.walk.log.value)).bound c.walk.log.value) ((goal.FaultLog-dyn g (c.args.log.now.vtable, c.args.log.now.value)).bound c.args.log.now.value) c.in_err-atom.field-0.0 c.walk.invariant.frame.content c.walk.invariant.bound c.in_err-atom.ensures.went c.walk.invariant.swept)

pub returns-clause-swept : goal.returns-clause-swept
returns-clause-swept g c =
    all_swept (g.F.Filer.content c.args.filer.now) (g.F.Filer.size_of c.args.filer.now) c.walk.atom c.args.scratch.now ((goal.FaultLog-dyn g (c.args.log.now.vtable, c.args.log.now.value)).list c.args.log.now.value) ((goal.FaultLog-dyn g (c.walk.log.vtable, c.walk.log.value)).list c.walk.log.value) ((goal.FaultLog-dyn g (c.args.log.now.vtable, c.args.log.now.value)).bound c.args.log.now.value) tt (g.met.F.Filer.told_size c.args.filer.now c.requires.sound) c.requires.whole (let size = c.size-atoms.ensures in let low = c.walk.invariant.within in let high = c.walk-test.false in omega (arith, size, low, high)) (subst (λ (o : Option ℕ). IsTrue (has_room o (length ((goal.FaultLog-dyn g (c.walk.log.vtable, c.walk.log.value)).list c.walk.log.value)))) c.walk.invariant.bound c.walk.invariant.room) c.walk.invariant.swept
