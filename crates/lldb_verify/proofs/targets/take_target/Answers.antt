use Rattle.std.proofs.Common.{Bool, Result, ◌≡◌, ◌*◌, drop, Option, IfSome, option_map, sym, ◌∙◌, subst, arith}
use Rattle.lldb_atoms.specs.Blocks.{tile_at}
use Rattle.lldb_verify.specs.declared.seen.Seen.{Seen}
use Rattle.lldb_verify.specs.Reads.{seen_of}
use Rattle.lldb_verify.specs.declared.finding.VerifyFault.{VerifyFault}
use Rattle.lldb_verify.specs.Told.{OfDevice, fault_of}
use Rattle.lldb_verify.proofs.Ahead.{by_fault}
use Rattle.lldb_verify.proofs.Aims.{of_device, device_more, taken_past, taken_unset, taken_seen, taken_not}
use Rattle.lldb_verify.proofs.targets.take_target.Goals as goal

pub returns-then-target-atoms-clause-taken : goal.returns-then-target-atoms-clause-taken
returns-then-target-atoms-clause-taken g c =
    taken_past (g.F.Filer.content c.args.filer.now) (g.F.Filer.size_of c.args.filer.now) c.args.target c.args.scratch.now (g.met.F.Filer.told_size c.args.filer.now c.requires.sound) (let size = c.size-atoms.ensures in let past = c.if-target-atoms.true in omega (arith, size, past))

pub returns-then-not-fresh-clause-taken : goal.returns-then-not-fresh-clause-taken
returns-then-not-fresh-clause-taken g c = taken_unset (g.F.Filer.content c.args.filer.now) c.args.target c.args.scratch.now (sym c.get-fresh.ensures ∙ c.if-not-fresh.true)

pub returns-in-Some-clause-taken : goal.returns-in-Some-clause-taken
returns-in-Some-clause-taken g c =
    taken_seen (g.F.Filer.content c.args.filer.now) c.args.target c.args.scratch.now c.set.new.self c.in-Some.seen c.is_used-used.result (sym c.get-fresh.ensures ∙ c.if-not-fresh.false) (subst (λ (o : Option Seen). IfSome (g.F.Filer.content c.args.filer.now) (λ b. o ≡ option_map seen_of (tile_at (drop (16 * c.args.target) b)))) c.in-Some.is c.in_ok-seen.ensures.seen) c.is_used-used.ensures c.set.ensures.set

pub returns-in-None-clause-taken : goal.returns-in-None-clause-taken
returns-in-None-clause-taken g c = taken_not (g.F.Filer.content c.args.filer.now) c.args.target c.args.scratch.now (sym c.get-fresh.ensures ∙ c.if-not-fresh.false) (subst (λ (o : Option Seen). IfSome (g.F.Filer.content c.args.filer.now) (λ b. o ≡ option_map seen_of (tile_at (drop (16 * c.args.target) b)))) c.in-None.is c.in_ok-seen.ensures.seen)

pub returns-in_err-seen-clause-device : goal.returns-in_err-seen-clause-device
returns-in_err-seen-clause-device g c =
    by_fault (λ (r : Result Bool VerifyFault). OfDevice r) c.from_residual.result (fault_of c.in_err-seen.field-0.0) c.from_residual.ensures.1 (device_more (Unit {0}) Bool (fault_of c.in_err-seen.field-0.0) (of_device c.in_err-seen.field-0.0))
