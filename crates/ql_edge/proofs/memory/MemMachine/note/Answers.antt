use Rattle.std.proofs.Common.{refl}
use Rattle.ql_edge.specs.Events.{on_both}
use Rattle.ql_edge.specs.declared.event.Step.TheVariants as step
use Rattle.ql_edge.proofs.Machines.{counted_either, reshown_either}
use Rattle.ql_edge.proofs.memory.MemMachine.note.Goals as goal

pub invariant_of-self-clause-counted : goal.invariant_of-self-clause-counted
invariant_of-self-clause-counted c = counted_either c.note.result _ _ (on_both step.Stayed c.len.result) _ c.note.ensures.noted c.note.ensures.refused c.len.ensures c.args.self.now.counted

pub returns-clause-same : goal.returns-clause-same
returns-clause-same c = reshown_either c.note.result _ _ c.len.result refl c.note.ensures.files c.note.ensures.first refl c.len.ensures c.note.ensures.noted c.note.ensures.refused
