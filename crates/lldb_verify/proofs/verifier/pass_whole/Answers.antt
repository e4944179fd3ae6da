use Rattle.std.proofs.Common.{◌/◌, ◌++◌, Option, None, Ok, IfSome, Result, length, subst}
use Rattle.lldb_atoms.specs.Lists.{row_of}
use Rattle.lldb_verify.specs.declared.finding.Stats.{Stats}
use Rattle.lldb_verify.specs.declared.finding.VerifyFault.{VerifyFault}
use Rattle.lldb_verify.specs.Findings.{of_blocks}
use Rattle.lldb_verify.specs.Met.{Passing}
use Rattle.lldb_verify.specs.Passes.{blocks_from, Passes}
use Rattle.lldb_verify.proofs.Ahead.{by_fault}
use Rattle.lldb_verify.proofs.Verified.{whole_stuck, blocks_wrong, links_wrong, links_right}
use Rattle.lldb_verify.proofs.verifier.pass_whole.Goals as goal

pub returns-in_err-passed-clause-passed : goal.returns-in_err-passed-clause-passed
returns-in_err-passed-clause-passed g c =
    by_fault (λ (r : Result (Option Stats) VerifyFault). IfSome (g.F.Filer.content c.args.filer.now) (λ b. Passing b ((goal.FaultLog-dyn g (c.args.log.now.vtable, c.args.log.now.value)).bound c.args.log.now.value) c.pass_blocks.new.scratch ((goal.FaultLog-dyn g (c.pass_blocks.new.log.vtable, c.pass_blocks.new.log.value)).list c.pass_blocks.new.log.value) r)) c.from_residual.result c.in_err-passed.field-0.0 c.from_residual.ensures.1
    (blocks_wrong (g.F.Filer.content c.args.filer.now) (g.F.Filer.size_of c.args.filer.now) c.pass_blocks.new.scratch c.pass_blocks.new.scratch ((goal.FaultLog-dyn g (c.args.log.now.vtable, c.args.log.now.value)).list c.args.log.now.value) ((goal.FaultLog-dyn g (c.pass_blocks.new.log.vtable, c.pass_blocks.new.log.value)).list c.pass_blocks.new.log.value) ((goal.FaultLog-dyn g (c.args.log.now.vtable, c.args.log.now.value)).bound c.args.log.now.value) c.in_err-passed.field-0.0 (g.met.F.Filer.told_size c.args.filer.now c.requires.sound) c.requires.table c.requires.whole c.requires.empty c.in_err-passed.ensures.passed)

pub returns-in_err-pass_links-in-Some-clause-passed : goal.returns-in_err-pass_links-in-Some-clause-passed
returns-in_err-pass_links-in-Some-clause-passed g c =
    by_fault (λ (r : Result (Option Stats) VerifyFault). IfSome (g.F.Filer.content c.args.filer.now) (λ b. Passing b ((goal.FaultLog-dyn g (c.args.log.now.vtable, c.args.log.now.value)).bound c.args.log.now.value) c.pass_links.new.scratch ((goal.FaultLog-dyn g (c.pass_links.new.log.vtable, c.pass_links.new.log.value)).list c.pass_links.new.log.value) r)) c.from_residual-in_err-pass_links-in-Some.result c.in_err-pass_links-in-Some.field-0.0 c.from_residual-in_err-pass_links-in-Some.ensures.1
    (links_wrong (g.F.Filer.content c.args.filer.now) (g.F.Filer.content c.pass_blocks.new.filer) (g.F.Filer.size_of c.args.filer.now) c.pass_blocks.new.scratch c.pass_links.new.scratch c.in-Some.stats ((goal.FaultLog-dyn g (c.args.log.now.vtable, c.args.log.now.value)).list c.args.log.now.value) ((goal.FaultLog-dyn g (c.pass_blocks.new.log.vtable, c.pass_blocks.new.log.value)).list c.pass_blocks.new.log.value) ((goal.FaultLog-dyn g (c.pass_links.new.log.vtable, c.pass_links.new.log.value)).list c.pass_links.new.log.value) ((goal.FaultLog-dyn g (c.pass_blocks.new.log.vtable, c.pass_blocks.new.log.value)).bound c.pass_blocks.new.log.value) ((goal.FaultLog-dyn g (c.args.log.now.vtable, c.args.log.now.value)).bound c.args.log.now.value) c.in_err-pass_links-in-Some.field-0.0 c.in_ok-passed.ensures.frame.content c.in_ok-passed.ensures.bound (g.met.F.Filer.told_size c.args.filer.now c.requires.sound) c.requires.table c.requires.whole c.requires.empty (subst (λ (o : Option Stats). IfSome (g.F.Filer.content c.args.filer.now) (λ b. Passes b (((goal.FaultLog-dyn g (c.args.log.now.vtable, c.args.log.now.value)).list c.args.log.now.value) ++ of_blocks (length b / 16) None 8 (row_of (blocks_from b 8))) ((goal.FaultLog-dyn g (c.args.log.now.vtable, c.args.log.now.value)).bound c.args.log.now.value) c.pass_blocks.new.scratch ((goal.FaultLog-dyn g (c.pass_blocks.new.log.vtable, c.pass_blocks.new.log.value)).list c.pass_blocks.new.log.value) (Ok o))) c.in-Some.is c.in_ok-passed.ensures.passed) c.in_err-pass_links-in-Some.ensures.links)

pub returns-in_ok-pass_links-in-Some-clause-passed : goal.returns-in_ok-pass_links-in-Some-clause-passed
returns-in_ok-pass_links-in-Some-clause-passed g c =
    links_right (g.F.Filer.content c.args.filer.now) (g.F.Filer.content c.pass_blocks.new.filer) (g.F.Filer.size_of c.args.filer.now) c.pass_blocks.new.scratch c.pass_links.new.scratch c.in-Some.stats ((goal.FaultLog-dyn g (c.args.log.now.vtable, c.args.log.now.value)).list c.args.log.now.value) ((goal.FaultLog-dyn g (c.pass_blocks.new.log.vtable, c.pass_blocks.new.log.value)).list c.pass_blocks.new.log.value) ((goal.FaultLog-dyn g (c.pass_links.new.log.vtable, c.pass_links.new.log.value)).list c.pass_links.new.log.value) ((goal.FaultLog-dyn g (c.pass_blocks.new.log.vtable, c.pass_blocks.new.log.value)).bound c.pass_blocks.new.log.value) ((goal.FaultLog-dyn g (c.args.log.now.vtable, c.args.log.now.value)).bound c.args.log.now.value) tt c.in_ok-passed.ensures.frame.content (g.met.F.Filer.told_size c.args.filer.now c.requires.sound) c.requires.table c.requires.whole c.requires.empty (subst (λ (o : Option Stats). IfSome (g.F.Filer.content c.args.filer.now) (λ b. Passes b (((goal.FaultLog-dyn g (c.args.log.now.vtable, c.args.log.now.value)).list c.args.log.now.value) ++ of_blocks (length b / 16) None 8 (row_of (blocks_from b 8))) ((goal.FaultLog-dyn g (c.args.log.now.vtable, c.args.log.now.value)).bound c.args.log.now.value) c.pass_blocks.new.scratch ((goal.FaultLog-dyn g (c.pass_blocks.new.log.vtable, c.pass_blocks.new.log.value)).list c.pass_blocks.new.log.value) (Ok o))) c.in-Some.is c.in_ok-passed.ensures.passed) c.in_ok-pass_links-in-Some.ensures.links

pub returns-in-None-clause-passed : goal.returns-in-None-clause-passed
returns-in-None-clause-passed g c =
    whole_stuck (g.F.Filer.content c.args.filer.now) (g.F.Filer.size_of c.args.filer.now) c.pass_blocks.new.scratch ((goal.FaultLog-dyn g (c.args.log.now.vtable, c.args.log.now.value)).list c.args.log.now.value) ((goal.FaultLog-dyn g (c.pass_blocks.new.log.vtable, c.pass_blocks.new.log.value)).list c.pass_blocks.new.log.value) ((goal.FaultLog-dyn g (c.args.log.now.vtable, c.args.log.now.value)).bound c.args.log.now.value) (g.met.F.Filer.told_size c.args.filer.now c.requires.sound) c.requires.table c.requires.whole c.requires.empty (subst (λ (o : Option Stats). IfSome (g.F.Filer.content c.args.filer.now) (λ b. Passes b (((goal.FaultLog-dyn g (c.args.log.now.vtable, c.args.log.now.value)).list c.args.log.now.value) ++ of_blocks (length b / 16) None 8 (row_of (blocks_from b 8))) ((goal.FaultLog-dyn g (c.args.log.now.vtable, c.args.log.now.value)).bound c.args.log.now.value) c.pass_blocks.new.scratch ((goal.FaultLog-dyn g (c.pass_blocks.new.log.vtable, c.pass_blocks.new.log.value)).list c.pass_blocks.new.log.value) (Ok o))) c.in-None.is c.in_ok-passed.ensures.passed)
