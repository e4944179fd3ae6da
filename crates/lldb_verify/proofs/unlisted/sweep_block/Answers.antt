use Rattle.std.proofs.Common.{◌≡◌, ℕ, ◌+◌, ◌*◌, ◌/◌, ◌++◌, List, drop, Option, IfSome, Result, option_map, ap, ◌∙◌, subst}
use Rattle.lldb_atoms.specs.Blocks.{tile_at}
use Rattle.lldb_verify.specs.declared.finding.Finding.{Finding}
use Rattle.lldb_verify.specs.declared.finding.VerifyFault.{VerifyFault}
use Rattle.lldb_verify.specs.declared.seen.Seen.{Seen}
use Rattle.lldb_verify.specs.Logs.{kept_one}
use Rattle.lldb_verify.specs.Met.{Unmet, Sweeping, Sweeps}
use Rattle.lldb_verify.specs.Reads.{seen_of}
use Rattle.lldb_verify.proofs.Ahead.{by_fault}
use Rattle.lldb_verify.proofs.Sweeps.{sweep_went, sweep_stopped, sweep_end}
use Rattle.lldb_verify.proofs.unlisted.sweep_block.Goals as goal

pub returns-in_err-tell-in-Some-clause-went : goal.returns-in_err-tell-in-Some-clause-went
returns-in_err-tell-in-Some-clause-went g c =
    by_fault (λ (r : Result ℕ VerifyFault). IfSome (g.F.Filer.content c.args.filer.now) (λ b. (met : List ℕ) (all : List Finding) → Unmet b met c.args.scratch.now → Sweeping b met all c.args.atom ((goal.FaultLog-dyn g (c.args.log.now.vtable, c.args.log.now.value)).list c.args.log.now.value) → Sweeps b met all ((goal.FaultLog-dyn g (c.args.log.now.vtable, c.args.log.now.value)).bound c.args.log.now.value) ((goal.FaultLog-dyn g (c.tell.new.log.vtable, c.tell.new.log.value)).list c.tell.new.log.value) r)) c.from_residual-in_err-tell-in-Some.result c.in_err-tell-in-Some.field-0.0 c.from_residual-in_err-tell-in-Some.ensures.1
    (sweep_stopped (g.F.Filer.content c.args.filer.now) (g.F.Filer.size_of c.args.filer.now) c.args.atom c.args.scratch.now ((goal.FaultLog-dyn g (c.args.log.now.vtable, c.args.log.now.value)).list c.args.log.now.value) (kept_one c.free_found-found.result) ((goal.FaultLog-dyn g (c.tell.new.log.vtable, c.tell.new.log.value)).list c.tell.new.log.value) c.in-Some.seen ((goal.FaultLog-dyn g (c.args.log.now.vtable, c.args.log.now.value)).bound c.args.log.now.value) c.in_err-tell-in-Some.field-0.0 (g.met.F.Filer.told_size c.args.filer.now c.requires.sound) c.requires.within (subst (λ (o : Option Seen). IfSome (g.F.Filer.content c.args.filer.now) (λ b. o ≡ option_map seen_of (tile_at (drop (16 * c.args.atom) b)))) c.in-Some.is c.in_ok-seen.ensures.seen) c.free_found-found.ensures c.in_err-tell-in-Some.ensures.told)

pub returns-in_ok-tell-in-Some-clause-went : goal.returns-in_ok-tell-in-Some-clause-went
returns-in_ok-tell-in-Some-clause-went g c =
    sweep_went (g.F.Filer.content c.args.filer.now) (g.F.Filer.size_of c.args.filer.now) c.args.atom (c.args.atom + c.atoms.result) c.args.scratch.now ((goal.FaultLog-dyn g (c.args.log.now.vtable, c.args.log.now.value)).list c.args.log.now.value) ((goal.FaultLog-dyn g (c.tell.new.log.vtable, c.tell.new.log.value)).list c.tell.new.log.value) c.in-Some.seen (g.met.F.Filer.told_size c.args.filer.now c.requires.sound) c.requires.within (subst (λ (o : Option Seen). IfSome (g.F.Filer.content c.args.filer.now) (λ b. o ≡ option_map seen_of (tile_at (drop (16 * c.args.atom) b)))) c.in-Some.is c.in_ok-seen.ensures.seen) (c.in_ok-tell-in-Some.ensures.told.0 ∙ ap (λ (fs : List Finding). ((goal.FaultLog-dyn g (c.args.log.now.vtable, c.args.log.now.value)).list c.args.log.now.value) ++ fs) c.free_found-found.ensures) (ap (λ (k : ℕ). c.args.atom + k) c.atoms.ensures)

pub returns-in-None-clause-went : goal.returns-in-None-clause-went
returns-in-None-clause-went g c =
    sweep_end (g.F.Filer.content c.args.filer.now) (g.F.Filer.size_of c.args.filer.now) c.args.atom (c.size.result / 16) c.args.scratch.now ((goal.FaultLog-dyn g (c.args.log.now.vtable, c.args.log.now.value)).list c.args.log.now.value) (g.met.F.Filer.told_size c.args.filer.now c.requires.sound) c.requires.whole c.requires.within (ap (λ (n : ℕ). n / 16) (c.size.ensures ∙ c.in_ok-seen.ensures.frame.size)) (subst (λ (o : Option Seen). IfSome (g.F.Filer.content c.args.filer.now) (λ b. o ≡ option_map seen_of (tile_at (drop (16 * c.args.atom) b)))) c.in-None.is c.in_ok-seen.ensures.seen)
