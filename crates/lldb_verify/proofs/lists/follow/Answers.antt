use Rattle.std.proofs.Common.{ℕ, ◌≡◌, Result, ◌*◌, drop, Option, IfSome, option_map, sym, ◌∙◌, subst, arith}
use Rattle.lldb_atoms.specs.Blocks.{tile_at}
use Rattle.lldb_verify.specs.declared.seen.Seen.{Seen}
use Rattle.lldb_verify.specs.Reads.{seen_of}
use Rattle.lldb_verify.specs.declared.finding.VerifyFault.{VerifyFault}
use Rattle.lldb_verify.specs.Told.{OfDevice, fault_of}
use Rattle.lldb_verify.proofs.Ahead.{by_fault}
use Rattle.lldb_verify.proofs.Aims.{of_device, device_more}
use Rattle.lldb_verify.proofs.Meets.{follow_past, follow_clear, follow_seen, follow_none}
use Rattle.lldb_verify.proofs.lists.follow.Goals as goal

pub returns-then-atom-atoms-clause-followed : goal.returns-then-atom-atoms-clause-followed
returns-then-atom-atoms-clause-followed g c =
    follow_past (g.F.Filer.content c.args.filer.now) (g.F.Filer.size_of c.args.filer.now) c.args.class c.args.before c.args.atom c.args.scratch.now (g.met.F.Filer.told_size c.args.filer.now c.requires.sound) (let size = c.size-atoms.ensures in let past = c.if-atom-atoms.true in omega (arith, size, past))

pub returns-then-not-fresh-clause-followed : goal.returns-then-not-fresh-clause-followed
returns-then-not-fresh-clause-followed g c = follow_clear (g.F.Filer.content c.args.filer.now) c.args.class c.args.before c.args.atom c.args.scratch.now (sym c.get-fresh.ensures ∙ c.if-not-fresh.true)

pub returns-in-Some-clause-followed : goal.returns-in-Some-clause-followed
returns-in-Some-clause-followed g c =
    follow_seen (g.F.Filer.content c.args.filer.now) c.args.class c.args.before c.args.atom c.args.scratch.now c.set.new.self c.in-Some.seen c.linked-next.result c.is_none.result (sym c.get-fresh.ensures ∙ c.if-not-fresh.false) (subst (λ (o : Option Seen). IfSome (g.F.Filer.content c.args.filer.now) (λ b. o ≡ option_map seen_of (tile_at (drop (16 * c.args.atom) b)))) c.in-Some.is c.in_ok-seen.ensures.seen) c.linked-next.ensures c.is_none.ensures c.set.ensures.set

pub returns-in-None-clause-followed : goal.returns-in-None-clause-followed
returns-in-None-clause-followed g c = follow_none (g.F.Filer.content c.args.filer.now) c.args.class c.args.before c.args.atom c.args.scratch.now (sym c.get-fresh.ensures ∙ c.if-not-fresh.false) (subst (λ (o : Option Seen). IfSome (g.F.Filer.content c.args.filer.now) (λ b. o ≡ option_map seen_of (tile_at (drop (16 * c.args.atom) b)))) c.in-None.is c.in_ok-seen.ensures.seen)

pub returns-in_err-seen-clause-device : goal.returns-in_err-seen-clause-device
returns-in_err-seen-clause-device g c =
    by_fault (λ (r : Result (Option ℕ) VerifyFault). OfDevice r) c.from_residual.result (fault_of c.in_err-seen.field-0.0) c.from_residual.ensures.1 (device_more (Unit {0}) (Option ℕ) (fault_of c.in_err-seen.field-0.0) (of_device c.in_err-seen.field-0.0))
