use Rattle.std.proofs.Common.{IfSome, Result, ◌∙◌}
use Rattle.lldb_verify.specs.declared.finding.VerifyFault.{VerifyFault}
use Rattle.lldb_verify.specs.Met.{Lists, links_of}
use Rattle.lldb_verify.proofs.Ahead.{by_fault}
use Rattle.lldb_verify.proofs.Verified.{aims_wrong, lists_wrong_too, links_told}
use Rattle.lldb_verify.proofs.verifier.pass_links.Goals as goal

pub returns-in_err-pass_targets-clause-links : goal.returns-in_err-pass_targets-clause-links
returns-in_err-pass_targets-clause-links g c =
    by_fault (λ (r : Result (Unit {0}) VerifyFault). IfSome (g.F.Filer.content c.args.filer.now) (λ b. Lists b (links_of b) ((goal.FaultLog-dyn g (c.args.log.now.vtable, c.args.log.now.value)).list c.args.log.now.value) ((goal.FaultLog-dyn g (c.args.log.now.vtable, c.args.log.now.value)).bound c.args.log.now.value) c.pass_targets.new.scratch ((goal.FaultLog-dyn g (c.pass_targets.new.log.vtable, c.pass_targets.new.log.value)).list c.pass_targets.new.log.value) r)) c.from_residual.result c.in_err-pass_targets.field-0.0 c.from_residual.ensures.1
    (aims_wrong (g.F.Filer.content c.args.filer.now) c.pass_targets.new.scratch c.pass_targets.new.scratch ((goal.FaultLog-dyn g (c.args.log.now.vtable, c.args.log.now.value)).list c.args.log.now.value) ((goal.FaultLog-dyn g (c.pass_targets.new.log.vtable, c.pass_targets.new.log.value)).list c.pass_targets.new.log.value) ((goal.FaultLog-dyn g (c.args.log.now.vtable, c.args.log.now.value)).bound c.args.log.now.value) c.in_err-pass_targets.field-0.0 c.in_err-pass_targets.ensures.aimed)

pub returns-in_err-pass_lists-clause-links : goal.returns-in_err-pass_lists-clause-links
returns-in_err-pass_lists-clause-links g c =
    by_fault (λ (r : Result (Unit {0}) VerifyFault). IfSome (g.F.Filer.content c.args.filer.now) (λ b. Lists b (links_of b) ((goal.FaultLog-dyn g (c.args.log.now.vtable, c.args.log.now.value)).list c.args.log.now.value) ((goal.FaultLog-dyn g (c.args.log.now.vtable, c.args.log.now.value)).bound c.args.log.now.value) c.pass_lists.new.scratch ((goal.FaultLog-dyn g (c.pass_lists.new.log.vtable, c.pass_lists.new.log.value)).list c.pass_lists.new.log.value) r)) c.from_residual-in_err-pass_lists.result c.in_err-pass_lists.field-0.0 c.from_residual-in_err-pass_lists.ensures.1
    (lists_wrong_too (g.F.Filer.content c.args.filer.now) (g.F.Filer.content c.pass_targets.new.filer) c.pass_targets.new.scratch c.pass_lists.new.scratch ((goal.FaultLog-dyn g (c.args.log.now.vtable, c.args.log.now.value)).list c.args.log.now.value) ((goal.FaultLog-dyn g (c.pass_targets.new.log.vtable, c.pass_targets.new.log.value)).list c.pass_targets.new.log.value) ((goal.FaultLog-dyn g (c.pass_lists.new.log.vtable, c.pass_lists.new.log.value)).list c.pass_lists.new.log.value) ((goal.FaultLog-dyn g (c.pass_targets.new.log.vtable, c.pass_targets.new.log.value)).bound c.pass_targets.new.log.value) ((goal.FaultLog-dyn g (c.args.log.now.vtable, c.args.log.now.value)).bound c.args.log.now.value) tt c.in_err-pass_lists.field-0.0 c.in_ok-pass_targets.ensures.frame.content c.in_ok-pass_targets.ensures.bound c.in_ok-pass_targets.ensures.aimed c.in_err-pass_lists.ensures.listed)

pub returns-clause-links : goal.returns-clause-links
returns-clause-links g c =
    links_told (g.F.Filer.content c.args.filer.now) (g.F.Filer.content c.pass_targets.new.filer) (g.F.Filer.content c.pass_lists.new.filer) c.pass_targets.new.scratch c.pass_lists.new.scratch ((goal.FaultLog-dyn g (c.args.log.now.vtable, c.args.log.now.value)).list c.args.log.now.value) ((goal.FaultLog-dyn g (c.pass_targets.new.log.vtable, c.pass_targets.new.log.value)).list c.pass_targets.new.log.value) ((goal.FaultLog-dyn g (c.pass_lists.new.log.vtable, c.pass_lists.new.log.value)).list c.pass_lists.new.log.value) ((goal.FaultLog-dyn g (c.pass_unlisted.new.log.vtable, c.pass_unlisted.new.log.value)).list c.pass_unlisted.new.log.value) ((goal.FaultLog-dyn g (c.pass_targets.new.log.vtable, c.pass_targets.new.log.value)).bound c.pass_targets.new.log.value) ((goal.FaultLog-dyn g (c.pass_lists.new.log.vtable, c.pass_lists.new.log.value)).bound c.pass_lists.new.log.value) ((goal.FaultLog-dyn g (c.args.log.now.vtable, c.args.log.now.value)).bound c.args.log.now.value) tt tt c.pass_unlisted.result c.in_ok-pass_targets.ensures.frame.content (c.in_ok-pass_lists.ensures.frame.content ∙ c.in_ok-pass_targets.ensures.frame.content) (c.in_ok-pass_lists.ensures.bound ∙ c.in_ok-pass_targets.ensures.bound) c.in_ok-pass_targets.ensures.aimed c.in_ok-pass_lists.ensures.listed c.pass_unlisted.ensures.swept
