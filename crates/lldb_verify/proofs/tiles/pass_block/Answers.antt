use Rattle.std.proofs.Common.{Bool, ◌≡◌, ◌*◌, ◌++◌, List, drop, Option, IfSome, Result, option_map, ap, ◌∙◌, subst}
use Rattle.lldb_atoms.specs.Blocks.{tile_at}
use Rattle.lldb_verify.specs.declared.finding.Finding.{Finding}
use Rattle.lldb_verify.specs.declared.finding.VerifyFault.{VerifyFault}
use Rattle.lldb_verify.specs.declared.seen.Seen.{Seen}
use Rattle.lldb_verify.specs.Logs.{kept_one}
use Rattle.lldb_verify.specs.Passes.{Ahead, Goes}
use Rattle.lldb_verify.specs.Reads.{seen_of}
use Rattle.lldb_verify.specs.Told.{IsCausedFault}
use Rattle.lldb_verify.proofs.Ahead.{by_fault, caused_same, went_next, went_stopped, went_stuck, stuck_stopped}
use Rattle.lldb_verify.proofs.tiles.pass_block.Goals as goal

pub returns-in_err-tell-in-Some-clause-went : goal.returns-in_err-tell-in-Some-clause-went
returns-in_err-tell-in-Some-clause-went g c =
    by_fault (λ (r : Result Bool VerifyFault). IfSome (g.F.Filer.content c.args.filer.now) (λ b. (all : List Finding) → Ahead b all c.args.place.now c.args.scratch.now ((goal.FaultLog-dyn g (c.args.log.now.vtable, c.args.log.now.value)).list c.args.log.now.value) → Goes b all ((goal.FaultLog-dyn g (c.args.log.now.vtable, c.args.log.now.value)).bound c.args.log.now.value) c.args.place.now c.args.scratch.now ((goal.FaultLog-dyn g (c.tell.new.log.vtable, c.tell.new.log.value)).list c.tell.new.log.value) r)) c.from_residual-in_err-tell-in-Some.result c.in_err-tell-in-Some.field-0.0 c.from_residual-in_err-tell-in-Some.ensures.1
    (went_stopped (g.F.Filer.content c.args.filer.now) c.args.place.now c.args.scratch.now ((goal.FaultLog-dyn g (c.args.log.now.vtable, c.args.log.now.value)).list c.args.log.now.value) (kept_one c.block_found.result) ((goal.FaultLog-dyn g (c.tell.new.log.vtable, c.tell.new.log.value)).list c.tell.new.log.value) ((goal.FaultLog-dyn g (c.args.log.now.vtable, c.args.log.now.value)).bound c.args.log.now.value) c.in_err-tell-in-Some.field-0.0 c.in-Some.seen (g.F.Filer.size_of c.args.filer.now) (g.met.F.Filer.told_size c.args.filer.now c.requires.sound) c.requires.within (subst (λ (o : Option Seen). IfSome (g.F.Filer.content c.args.filer.now) (λ b. o ≡ option_map seen_of (tile_at (drop (16 * c.args.place.now.atom) b)))) c.in-Some.is c.in_ok-seen.ensures.seen) c.block_found.ensures c.in_err-tell-in-Some.ensures.told)

pub returns-in_err-tell-in-Some-clause-cause : goal.returns-in_err-tell-in-Some-clause-cause
returns-in_err-tell-in-Some-clause-cause g c =
    by_fault (λ (r : Result Bool VerifyFault). IsCausedFault r (g.F.Shows.faults c.args.filer.now) (g.F.Shows.faults c.see.new.filer)) c.from_residual-in_err-tell-in-Some.result c.in_err-tell-in-Some.field-0.0 c.from_residual-in_err-tell-in-Some.ensures.1
    (caused_same (Unit {0}) Bool c.in_err-tell-in-Some.field-0.0 (g.F.Shows.faults c.args.filer.now) (g.F.Shows.faults c.see.new.filer) c.in_ok-seen.ensures.cause c.in_err-tell-in-Some.ensures.cause)

pub returns-in_err-tell-in-None-clause-went : goal.returns-in_err-tell-in-None-clause-went
returns-in_err-tell-in-None-clause-went g c =
    by_fault (λ (r : Result Bool VerifyFault). IfSome (g.F.Filer.content c.args.filer.now) (λ b. (all : List Finding) → Ahead b all c.args.place.now c.args.scratch.now ((goal.FaultLog-dyn g (c.args.log.now.vtable, c.args.log.now.value)).list c.args.log.now.value) → Goes b all ((goal.FaultLog-dyn g (c.args.log.now.vtable, c.args.log.now.value)).bound c.args.log.now.value) c.args.place.now c.args.scratch.now ((goal.FaultLog-dyn g (c.tell-in-None.new.log.vtable, c.tell-in-None.new.log.value)).list c.tell-in-None.new.log.value) r)) c.from_residual-in_err-tell-in-None.result c.in_err-tell-in-None.field-0.0 c.from_residual-in_err-tell-in-None.ensures.1
    (stuck_stopped (g.F.Filer.content c.args.filer.now) (g.F.Filer.size_of c.args.filer.now) c.args.place.now c.args.scratch.now ((goal.FaultLog-dyn g (c.args.log.now.vtable, c.args.log.now.value)).list c.args.log.now.value) ((goal.FaultLog-dyn g (c.tell-in-None.new.log.vtable, c.tell-in-None.new.log.value)).list c.tell-in-None.new.log.value) ((goal.FaultLog-dyn g (c.args.log.now.vtable, c.args.log.now.value)).bound c.args.log.now.value) c.in_err-tell-in-None.field-0.0 (g.met.F.Filer.told_size c.args.filer.now c.requires.sound) c.requires.within (subst (λ (o : Option Seen). IfSome (g.F.Filer.content c.args.filer.now) (λ b. o ≡ option_map seen_of (tile_at (drop (16 * c.args.place.now.atom) b)))) c.in-None.is c.in_ok-seen.ensures.seen) c.in_err-tell-in-None.ensures.told)

pub returns-in_err-tell-in-None-clause-cause : goal.returns-in_err-tell-in-None-clause-cause
returns-in_err-tell-in-None-clause-cause g c =
    by_fault (λ (r : Result Bool VerifyFault). IsCausedFault r (g.F.Shows.faults c.args.filer.now) (g.F.Shows.faults c.see.new.filer)) c.from_residual-in_err-tell-in-None.result c.in_err-tell-in-None.field-0.0 c.from_residual-in_err-tell-in-None.ensures.1
    (caused_same (Unit {0}) Bool c.in_err-tell-in-None.field-0.0 (g.F.Shows.faults c.args.filer.now) (g.F.Shows.faults c.see.new.filer) c.in_ok-seen.ensures.cause c.in_err-tell-in-None.ensures.cause)

pub returns-in_ok-tell-in-Some-clause-went : goal.returns-in_ok-tell-in-Some-clause-went
returns-in_ok-tell-in-Some-clause-went g c =
    went_next (g.F.Filer.content c.args.filer.now) (g.F.Filer.size_of c.args.filer.now) c.args.place.now c.behind.result c.args.scratch.now c.set.new.self ((goal.FaultLog-dyn g (c.args.log.now.vtable, c.args.log.now.value)).list c.args.log.now.value) ((goal.FaultLog-dyn g (c.tell.new.log.vtable, c.tell.new.log.value)).list c.tell.new.log.value) c.in-Some.seen (g.met.F.Filer.told_size c.args.filer.now c.requires.sound) c.requires.within (subst (λ (o : Option Seen). IfSome (g.F.Filer.content c.args.filer.now) (λ b. o ≡ option_map seen_of (tile_at (drop (16 * c.args.place.now.atom) b)))) c.in-Some.is c.in_ok-seen.ensures.seen)
    (record { atom_is = c.behind.ensures.atom; before_is = c.behind.ensures.before; used_is = c.behind.ensures.used; relocated_is = c.behind.ensures.relocated; free_is = c.behind.ensures.free })
    c.set.ensures.set (c.in_ok-tell-in-Some.ensures.told.0 ∙ ap (λ (fs : List Finding). ((goal.FaultLog-dyn g (c.args.log.now.vtable, c.args.log.now.value)).list c.args.log.now.value) ++ fs) c.block_found.ensures)

pub returns-in_ok-tell-in-None-clause-went : goal.returns-in_ok-tell-in-None-clause-went
returns-in_ok-tell-in-None-clause-went g c =
    went_stuck (g.F.Filer.content c.args.filer.now) (g.F.Filer.size_of c.args.filer.now) c.args.place.now c.args.scratch.now ((goal.FaultLog-dyn g (c.args.log.now.vtable, c.args.log.now.value)).list c.args.log.now.value) ((goal.FaultLog-dyn g (c.tell-in-None.new.log.vtable, c.tell-in-None.new.log.value)).list c.tell-in-None.new.log.value) (g.met.F.Filer.told_size c.args.filer.now c.requires.sound) c.requires.within (subst (λ (o : Option Seen). IfSome (g.F.Filer.content c.args.filer.now) (λ b. o ≡ option_map seen_of (tile_at (drop (16 * c.args.place.now.atom) b)))) c.in-None.is c.in_ok-seen.ensures.seen) c.in_ok-tell-in-None.ensures.told.0
