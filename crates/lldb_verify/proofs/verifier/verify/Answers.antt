use Rattle.lldb_verify.proofs.Verified.{answer_told}
use Rattle.lldb_verify.proofs.verifier.verify.Goals as goal

pub returns-clause-verified : goal.returns-clause-verified
returns-clause-verified g c =
    answer_told (g.F.Filer.content c.args.filer.now) c.pass_all.new.scratch ((goal.FaultLog-dyn g (c.pass_all.new.log.vtable, c.pass_all.new.log.value)).list c.pass_all.new.log.value) ((goal.FaultLog-dyn g (c.pass_all.new.log.vtable, c.pass_all.new.log.value)).bound c.pass_all.new.log.value) ((goal.FaultLog-dyn g (c.args.log.now.vtable, c.args.log.now.value)).bound c.args.log.now.value) c.in_ok-numbers.numbers c.answer.result c.in_ok-numbers.ensures.bound c.answer.ensures.answer c.in_ok-numbers.ensures.passed
