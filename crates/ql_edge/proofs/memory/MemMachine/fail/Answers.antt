use Rattle.std.proofs.Common.{refl}
use Rattle.ql_edge.specs.Events.{on_both}
use Rattle.ql_edge.specs.declared.event.Step.TheVariants as step
use Rattle.ql_edge.proofs.Machines.{counted_next, reshown_either}
use Rattle.ql_edge.proofs.memory.MemMachine.fail.Goals as goal

pub invariant_of-self-clause-counted : goal.invariant_of-self-clause-counted
invariant_of-self-clause-counted c = counted_next _ _ (on_both step.Stayed c.len.result) _ c.in-Ok.ensures.noted c.len.ensures

pub returns-in-Ok-clause-same : goal.returns-in-Ok-clause-same
returns-in-Ok-clause-same c = reshown_either c.note.result _ _ c.len.result refl c.note.ensures.files c.note.ensures.first refl c.len.ensures c.note.ensures.noted c.note.ensures.refused
