use Rattle.std.proofs.Common.{◌≡◌, ℕ, ◌+◌, ◌*◌, ◌/◌, List, drop, Option, IfSome, Result, option_map, ap, ◌∙◌, subst}
use Rattle.lldb_atoms.specs.Blocks.{Extent, tile_at}
use Rattle.lldb_verify.specs.declared.finding.Finding.{Finding}
use Rattle.lldb_verify.specs.declared.finding.VerifyFault.{VerifyFault}
use Rattle.lldb_verify.specs.declared.seen.Seen.{Seen}
use Rattle.lldb_verify.specs.Passes.{Marked, IsFound, Aiming, Aims}
use Rattle.lldb_verify.specs.Reads.{seen_as, seen_of}
use Rattle.lldb_verify.specs.Told.{fault_of}
use Rattle.lldb_verify.proofs.Ahead.{by_fault}
use Rattle.lldb_verify.proofs.Aims.{of_device, aim_went, aim_stopped, aim_refused, aim_end}
use Rattle.lldb_verify.proofs.targets.aim_block.Goals as goal

pub returns-in_err-seen-clause-went : goal.returns-in_err-seen-clause-went
returns-in_err-seen-clause-went g c =
    by_fault (λ (r : Result ℕ VerifyFault). IfSome (g.F.Filer.content c.args.filer.now) (λ b. (all : List Finding) → Aiming b all c.args.atom c.args.scratch.now ((goal.FaultLog-dyn g (c.args.log.now.vtable, c.args.log.now.value)).list c.args.log.now.value) → Aims b all ((goal.FaultLog-dyn g (c.args.log.now.vtable, c.args.log.now.value)).bound c.args.log.now.value) c.args.scratch.now ((goal.FaultLog-dyn g (c.args.log.now.vtable, c.args.log.now.value)).list c.args.log.now.value) r)) c.from_residual.result (fault_of c.in_err-seen.field-0.0) c.from_residual.ensures.1
    (aim_refused (g.F.Filer.content c.args.filer.now) c.args.atom c.args.scratch.now ((goal.FaultLog-dyn g (c.args.log.now.vtable, c.args.log.now.value)).list c.args.log.now.value) ((goal.FaultLog-dyn g (c.args.log.now.vtable, c.args.log.now.value)).bound c.args.log.now.value) (fault_of c.in_err-seen.field-0.0) (of_device c.in_err-seen.field-0.0))

pub returns-in_err-tell-in-Some-clause-went : goal.returns-in_err-tell-in-Some-clause-went
returns-in_err-tell-in-Some-clause-went g c =
    by_fault (λ (r : Result ℕ VerifyFault). IfSome (g.F.Filer.content c.args.filer.now) (λ b. (all : List Finding) → Aiming b all c.args.atom c.args.scratch.now ((goal.FaultLog-dyn g (c.args.log.now.vtable, c.args.log.now.value)).list c.args.log.now.value) → Aims b all ((goal.FaultLog-dyn g (c.args.log.now.vtable, c.args.log.now.value)).bound c.args.log.now.value) c.target_found.new.scratch ((goal.FaultLog-dyn g (c.tell.new.log.vtable, c.tell.new.log.value)).list c.tell.new.log.value) r)) c.from_residual-in_err-tell-in-Some.result c.in_err-tell-in-Some.field-0.0 c.from_residual-in_err-tell-in-Some.ensures.1
    (aim_stopped (g.F.Filer.content c.args.filer.now) (g.F.Filer.size_of c.args.filer.now) c.args.atom c.args.scratch.now c.target_found.new.scratch ((goal.FaultLog-dyn g (c.args.log.now.vtable, c.args.log.now.value)).list c.args.log.now.value) ((goal.FaultLog-dyn g (c.tell.new.log.vtable, c.tell.new.log.value)).list c.tell.new.log.value) c.in-Some.seen c.in_ok-found-in-Some.found ((goal.FaultLog-dyn g (c.args.log.now.vtable, c.args.log.now.value)).bound c.args.log.now.value) c.in_err-tell-in-Some.field-0.0 (g.met.F.Filer.told_size c.args.filer.now c.requires.sound) c.requires.within (subst (λ (o : Option Seen). IfSome (g.F.Filer.content c.args.filer.now) (λ b. o ≡ option_map seen_of (tile_at (drop (16 * c.args.atom) b)))) c.in-Some.is c.in_ok-seen.ensures.seen) (subst (λ (o : Option (List ℕ)). IfSome o (λ b. (named : List ℕ) (p n : ℕ) (e : Extent) → c.in-Some.seen ≡ seen_as p n e → Marked b named c.args.scratch.now → IsFound b named c.args.atom e c.target_found.new.scratch c.in_ok-found-in-Some.found)) c.in_ok-seen.ensures.frame.content c.in_ok-found-in-Some.ensures.found) c.in_err-tell-in-Some.ensures.told)

pub returns-in_ok-tell-in-Some-clause-went : goal.returns-in_ok-tell-in-Some-clause-went
returns-in_ok-tell-in-Some-clause-went g c =
    aim_went (g.F.Filer.content c.args.filer.now) (g.F.Filer.size_of c.args.filer.now) c.args.atom (c.args.atom + c.atoms.result) c.args.scratch.now c.target_found.new.scratch ((goal.FaultLog-dyn g (c.args.log.now.vtable, c.args.log.now.value)).list c.args.log.now.value) ((goal.FaultLog-dyn g (c.tell.new.log.vtable, c.tell.new.log.value)).list c.tell.new.log.value) c.in-Some.seen c.in_ok-found-in-Some.found (g.met.F.Filer.told_size c.args.filer.now c.requires.sound) c.requires.within (subst (λ (o : Option Seen). IfSome (g.F.Filer.content c.args.filer.now) (λ b. o ≡ option_map seen_of (tile_at (drop (16 * c.args.atom) b)))) c.in-Some.is c.in_ok-seen.ensures.seen) (subst (λ (o : Option (List ℕ)). IfSome o (λ b. (named : List ℕ) (p n : ℕ) (e : Extent) → c.in-Some.seen ≡ seen_as p n e → Marked b named c.args.scratch.now → IsFound b named c.args.atom e c.target_found.new.scratch c.in_ok-found-in-Some.found)) c.in_ok-seen.ensures.frame.content c.in_ok-found-in-Some.ensures.found) c.in_ok-tell-in-Some.ensures.told.0 (ap (λ (k : ℕ). c.args.atom + k) c.atoms.ensures)

pub returns-in-None-clause-went : goal.returns-in-None-clause-went
returns-in-None-clause-went g c =
    aim_end (g.F.Filer.content c.args.filer.now) (g.F.Filer.size_of c.args.filer.now) c.args.atom (c.size.result / 16) c.args.scratch.now ((goal.FaultLog-dyn g (c.args.log.now.vtable, c.args.log.now.value)).list c.args.log.now.value) (g.met.F.Filer.told_size c.args.filer.now c.requires.sound) c.requires.whole c.requires.within (ap (λ (n : ℕ). n / 16) (c.size.ensures ∙ c.in_ok-seen.ensures.frame.size)) (subst (λ (o : Option Seen). IfSome (g.F.Filer.content c.args.filer.now) (λ b. o ≡ option_map seen_of (tile_at (drop (16 * c.args.atom) b)))) c.in-None.is c.in_ok-seen.ensures.seen)
