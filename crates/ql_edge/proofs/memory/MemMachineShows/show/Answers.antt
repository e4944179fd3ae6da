use Rattle.std.proofs.Common.{length, refl}
use Rattle.ql_edge.proofs.Machines.{counted_shown, reshown_noted, rises_by}
use Rattle.ql_edge.proofs.memory.MemMachineShows.show.Goals as goal

pub invariant_of-self-clause-counted : goal.invariant_of-self-clause-counted
invariant_of-self-clause-counted c = counted_shown c.show_noted.result _ _ c.args.self.now.shown c.show_noted.new.shown c.show_noted.ensures.noted c.show_noted.ensures.events c.show_noted.ensures.refused c.args.self.now.counted

pub returns-clause-same : goal.returns-clause-same
returns-clause-same c = reshown_noted _ _ (length c.show_noted.new.shown) refl c.show_noted.ensures.files c.show_noted.ensures.first (rises_by _ _ _ c.in_ok-show_noted.ensures.shown) refl c.in_ok-show_noted.ensures.noted
