use Rattle.std.proofs.Common.{Option, Ok, subst}
use Rattle.lldb_verify.specs.declared.finding.Stats.{Stats}
use Rattle.lldb_verify.specs.Met.{Passing}
use Rattle.lldb_verify.proofs.Verified.{answer_none}
use Rattle.lldb_verify.proofs.verifier.answer.Goals as goal

pub returns-then-count-eq0-clause-answer : goal.returns-then-count-eq0-clause-answer
returns-then-count-eq0-clause-answer g c = λ b bits p.
    answer_none b bits ((goal.FaultLog-dyn g (c.args.log.now.vtable, c.args.log.now.value)).list c.args.log.now.value) ((goal.FaultLog-dyn g (c.args.log.now.vtable, c.args.log.now.value)).bound c.args.log.now.value) c.in-Some.stats c.told-count.result c.told-count.ensures c.if-count-eq0.true (subst (λ (o : Option Stats). Passing b ((goal.FaultLog-dyn g (c.args.log.now.vtable, c.args.log.now.value)).bound c.args.log.now.value) bits ((goal.FaultLog-dyn g (c.args.log.now.vtable, c.args.log.now.value)).list c.args.log.now.value) (Ok o)) c.in-Some.is p)
