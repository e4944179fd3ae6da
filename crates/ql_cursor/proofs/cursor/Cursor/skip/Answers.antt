use Rattle.ql_cursor.proofs.CursorLemmas.{all_behind}
use Rattle.ql_cursor.proofs.cursor.Cursor.skip.Goals as goal

pub invariant_of-self : goal.invariant_of-self
invariant_of-self c = rw c.shrink_to.ensures.items (all_behind _ _ _ c.pop.result _ _ c.pop.ensures.items c.pop.ensures.cases c.pop.ensures.rest c.self.invariant)

pub invariant_of-self-else-capacity-left-ge-ROOM_KEPT : goal.invariant_of-self-else-capacity-left-ge-ROOM_KEPT
invariant_of-self-else-capacity-left-ge-ROOM_KEPT c = all_behind _ _ _ c.pop.result _ _ c.pop.ensures.items c.pop.ensures.cases c.pop.ensures.rest c.self.invariant
