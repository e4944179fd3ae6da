use Rattle.std.proofs.Common.{ℕ, ◌/◌, ◌++◌, List, Option, None, length, IfSome, Result, Err, refl, ◌∙◌, ap, subst}
use Rattle.lldb_atoms.specs.Lists.{row_of}
use Rattle.lldb_verify.specs.declared.finding.Finding.{Finding}
use Rattle.lldb_verify.specs.declared.finding.Stats.{Stats}
use Rattle.lldb_verify.specs.declared.finding.VerifyFault.{VerifyFault}
use Rattle.lldb_verify.specs.Findings.{of_blocks}
use Rattle.lldb_verify.specs.Logs.{kept_one}
use Rattle.lldb_verify.specs.Passes.{blocks_from, Passes}
use Rattle.lldb_verify.specs.Told.{Tells}
use Rattle.lldb_verify.proofs.Ahead.{by_fault, ahead_first, went_on, went_off, went_wrong, passed_all, end_stopped}
use Rattle.lldb_verify.proofs.tiles.pass_blocks.Goals as goal

pub returns-in_err-ended-clause-passed : goal.returns-in_err-ended-clause-passed
returns-in_err-ended-clause-passed g c =
    by_fault (λ (r : Result (Option Stats) VerifyFault). IfSome (g.F.Filer.content c.args.filer.now) (λ b. Passes b ((λ (b : List ℕ). ((goal.FaultLog-dyn g (c.args.log.now.vtable, c.args.log.now.value)).list c.args.log.now.value) ++ of_blocks (length b / 16) None 8 (row_of (blocks_from b 8))) b) ((goal.FaultLog-dyn g (c.args.log.now.vtable, c.args.log.now.value)).bound c.args.log.now.value) c.pass_on.new.scratch ((goal.FaultLog-dyn g (c.pass_on.new.log.vtable, c.pass_on.new.log.value)).list c.pass_on.new.log.value) r)) c.from_residual.result c.in_err-ended.field-0.0 c.from_residual.ensures.1
    (went_wrong (λ (b : List ℕ). ((goal.FaultLog-dyn g (c.args.log.now.vtable, c.args.log.now.value)).list c.args.log.now.value) ++ of_blocks (length b / 16) None 8 (row_of (blocks_from b 8))) (g.F.Filer.content c.args.filer.now) (g.F.Filer.content c.args.filer.now) c.new-place.result c.pass_on.new.place c.args.scratch.now c.pass_on.new.scratch ((goal.FaultLog-dyn g (c.args.log.now.vtable, c.args.log.now.value)).list c.args.log.now.value) ((goal.FaultLog-dyn g (c.pass_on.new.log.vtable, c.pass_on.new.log.value)).list c.pass_on.new.log.value) ((goal.FaultLog-dyn g (c.args.log.now.vtable, c.args.log.now.value)).bound c.args.log.now.value) c.in_err-ended.field-0.0 refl c.in_err-ended.ensures.went (ahead_first (g.F.Filer.content c.args.filer.now) c.new-place.result c.args.scratch.now ((goal.FaultLog-dyn g (c.args.log.now.vtable, c.args.log.now.value)).list c.args.log.now.value) c.new-place.ensures.atom c.new-place.ensures.before c.new-place.ensures.used c.new-place.ensures.relocated c.new-place.ensures.free c.requires.clear))

pub returns-then-not-ended-clause-passed : goal.returns-then-not-ended-clause-passed
returns-then-not-ended-clause-passed g c =
    went_off (λ (b : List ℕ). ((goal.FaultLog-dyn g (c.args.log.now.vtable, c.args.log.now.value)).list c.args.log.now.value) ++ of_blocks (length b / 16) None 8 (row_of (blocks_from b 8))) (g.F.Filer.content c.args.filer.now) (g.F.Filer.content c.args.filer.now) c.new-place.result c.pass_on.new.place c.args.scratch.now c.pass_on.new.scratch ((goal.FaultLog-dyn g (c.args.log.now.vtable, c.args.log.now.value)).list c.args.log.now.value) ((goal.FaultLog-dyn g (c.pass_on.new.log.vtable, c.pass_on.new.log.value)).list c.pass_on.new.log.value) ((goal.FaultLog-dyn g (c.args.log.now.vtable, c.args.log.now.value)).bound c.args.log.now.value) c.in_ok-ended.ended refl c.if-not-ended.true c.in_ok-ended.ensures.went (ahead_first (g.F.Filer.content c.args.filer.now) c.new-place.result c.args.scratch.now ((goal.FaultLog-dyn g (c.args.log.now.vtable, c.args.log.now.value)).list c.args.log.now.value) c.new-place.ensures.atom c.new-place.ensures.before c.new-place.ensures.used c.new-place.ensures.relocated c.new-place.ensures.free c.requires.clear)

pub returns-in_err-tell-clause-passed : goal.returns-in_err-tell-clause-passed
returns-in_err-tell-clause-passed g c =
    by_fault (λ (r : Result (Option Stats) VerifyFault). IfSome (g.F.Filer.content c.args.filer.now) (λ b. Passes b ((λ (b : List ℕ). ((goal.FaultLog-dyn g (c.args.log.now.vtable, c.args.log.now.value)).list c.args.log.now.value) ++ of_blocks (length b / 16) None 8 (row_of (blocks_from b 8))) b) ((goal.FaultLog-dyn g (c.args.log.now.vtable, c.args.log.now.value)).bound c.args.log.now.value) c.pass_on.new.scratch ((goal.FaultLog-dyn g (c.tell.new.log.vtable, c.tell.new.log.value)).list c.tell.new.log.value) r)) c.from_residual-in_err-tell.result c.in_err-tell.field-0.0 c.from_residual-in_err-tell.ensures.1
    (end_stopped (λ (b : List ℕ). ((goal.FaultLog-dyn g (c.args.log.now.vtable, c.args.log.now.value)).list c.args.log.now.value) ++ of_blocks (length b / 16) None 8 (row_of (blocks_from b 8))) (g.F.Filer.content c.args.filer.now) (g.F.Filer.size_of c.args.filer.now) c.pass_on.new.place c.pass_on.new.scratch ((goal.FaultLog-dyn g (c.pass_on.new.log.vtable, c.pass_on.new.log.value)).list c.pass_on.new.log.value) ((goal.FaultLog-dyn g (c.tell.new.log.vtable, c.tell.new.log.value)).list c.tell.new.log.value) ((goal.FaultLog-dyn g (c.args.log.now.vtable, c.args.log.now.value)).bound c.args.log.now.value) c.in_err-tell.field-0.0 (g.met.F.Filer.told_size c.args.filer.now c.requires.sound) c.requires.whole (c.in_ok-ended.ensures.end c.if-not-ended.false)
    (subst (λ (fs : List Finding). Tells {T = Unit {0}} (((goal.FaultLog-dyn g (c.pass_on.new.log.vtable, c.pass_on.new.log.value)).list c.pass_on.new.log.value) ++ fs) ((goal.FaultLog-dyn g (c.args.log.now.vtable, c.args.log.now.value)).bound c.args.log.now.value) ((goal.FaultLog-dyn g (c.tell.new.log.vtable, c.tell.new.log.value)).list c.tell.new.log.value) (Err c.in_err-tell.field-0.0)) c.end_found.ensures (subst (λ (o : Option ℕ). Tells {T = Unit {0}} (((goal.FaultLog-dyn g (c.pass_on.new.log.vtable, c.pass_on.new.log.value)).list c.pass_on.new.log.value) ++ kept_one c.end_found.result) o ((goal.FaultLog-dyn g (c.tell.new.log.vtable, c.tell.new.log.value)).list c.tell.new.log.value) (Err c.in_err-tell.field-0.0)) c.in_ok-ended.ensures.bound c.in_err-tell.ensures.told))
    (went_on (λ (b : List ℕ). ((goal.FaultLog-dyn g (c.args.log.now.vtable, c.args.log.now.value)).list c.args.log.now.value) ++ of_blocks (length b / 16) None 8 (row_of (blocks_from b 8))) (g.F.Filer.content c.args.filer.now) (g.F.Filer.content c.args.filer.now) c.new-place.result c.pass_on.new.place c.args.scratch.now c.pass_on.new.scratch ((goal.FaultLog-dyn g (c.args.log.now.vtable, c.args.log.now.value)).list c.args.log.now.value) ((goal.FaultLog-dyn g (c.pass_on.new.log.vtable, c.pass_on.new.log.value)).list c.pass_on.new.log.value) ((goal.FaultLog-dyn g (c.args.log.now.vtable, c.args.log.now.value)).bound c.args.log.now.value) c.in_ok-ended.ended refl c.if-not-ended.false c.in_ok-ended.ensures.went (ahead_first (g.F.Filer.content c.args.filer.now) c.new-place.result c.args.scratch.now ((goal.FaultLog-dyn g (c.args.log.now.vtable, c.args.log.now.value)).list c.args.log.now.value) c.new-place.ensures.atom c.new-place.ensures.before c.new-place.ensures.used c.new-place.ensures.relocated c.new-place.ensures.free c.requires.clear)))

pub returns-clause-passed : goal.returns-clause-passed
returns-clause-passed g c =
    passed_all (λ (b : List ℕ). ((goal.FaultLog-dyn g (c.args.log.now.vtable, c.args.log.now.value)).list c.args.log.now.value) ++ of_blocks (length b / 16) None 8 (row_of (blocks_from b 8))) (g.F.Filer.content c.args.filer.now) (g.F.Filer.size_of c.args.filer.now) c.pass_on.new.place c.pass_on.new.scratch ((goal.FaultLog-dyn g (c.pass_on.new.log.vtable, c.pass_on.new.log.value)).list c.pass_on.new.log.value) ((goal.FaultLog-dyn g (c.tell.new.log.vtable, c.tell.new.log.value)).list c.tell.new.log.value) (record { atoms = c.size-atoms.result / 16; used = c.pass_on.new.place.used; relocated = c.pass_on.new.place.relocated; free = c.pass_on.new.place.free }) (g.met.F.Filer.told_size c.args.filer.now c.requires.sound) c.requires.whole (c.in_ok-ended.ensures.end c.if-not-ended.false) (ap (λ (n : ℕ). n / 16) c.size-atoms.ensures) refl refl refl
    (c.in_ok-tell.ensures.told.0 ∙ ap (λ (fs : List Finding). ((goal.FaultLog-dyn g (c.pass_on.new.log.vtable, c.pass_on.new.log.value)).list c.pass_on.new.log.value) ++ fs) c.end_found.ensures) (went_on (λ (b : List ℕ). ((goal.FaultLog-dyn g (c.args.log.now.vtable, c.args.log.now.value)).list c.args.log.now.value) ++ of_blocks (length b / 16) None 8 (row_of (blocks_from b 8))) (g.F.Filer.content c.args.filer.now) (g.F.Filer.content c.args.filer.now) c.new-place.result c.pass_on.new.place c.args.scratch.now c.pass_on.new.scratch ((goal.FaultLog-dyn g (c.args.log.now.vtable, c.args.log.now.value)).list c.args.log.now.value) ((goal.FaultLog-dyn g (c.pass_on.new.log.vtable, c.pass_on.new.log.value)).list c.pass_on.new.log.value) ((goal.FaultLog-dyn g (c.args.log.now.vtable, c.args.log.now.value)).bound c.args.log.now.value) c.in_ok-ended.ended refl c.if-not-ended.false c.in_ok-ended.ensures.went (ahead_first (g.F.Filer.content c.args.filer.now) c.new-place.result c.args.scratch.now ((goal.FaultLog-dyn g (c.args.log.now.vtable, c.args.log.now.value)).list c.args.log.now.value) c.new-place.ensures.atom c.new-place.ensures.before c.new-place.ensures.used c.new-place.ensures.relocated c.new-place.ensures.free c.requires.clear))
