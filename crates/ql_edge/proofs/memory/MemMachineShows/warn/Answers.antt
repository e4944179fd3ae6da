use Rattle.std.proofs.Common.{length, refl, arith}
use Rattle.ql_edge.specs.Events.{on_both}
use Rattle.ql_edge.specs.declared.event.Step.TheVariants as step
use Rattle.ql_edge.proofs.Machines.{counted_either, reshown_noted}
use Rattle.ql_edge.proofs.memory.MemMachineShows.warn.Goals as goal

pub invariant_of-self-clause-counted : goal.invariant_of-self-clause-counted
invariant_of-self-clause-counted c = counted_either c.warn_noted.result _ _ (on_both step.Stayed c.len-shown.result) (length c.args.self.now.shown) c.warn_noted.ensures.noted c.warn_noted.ensures.events c.len-shown.ensures c.args.self.now.counted

pub returns-clause-same : goal.returns-clause-same
returns-clause-same c = reshown_noted _ _ c.len-shown.result refl c.warn_noted.ensures.files c.warn_noted.ensures.first (omega arith) c.len-shown.ensures c.in_ok-warn_noted.ensures.noted
