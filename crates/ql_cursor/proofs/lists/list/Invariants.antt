use Rattle.std.proofs.Common.{length}
use Rattle.ql_syntax.specs.Rules.{list, further}
use Rattle.ql_cursor.proofs.Loops.{Going}
use Rattle.ql_cursor.proofs.lists.list.Given as goal

abbrev pub invariant-members : goal.invariant-members
invariant-members g l = Going l.room (further g.L.Listed.of.rule) (list g.L.Listed.of.rule) g.L.Listed.of.items g.L.Listed.of.items l.fn.cursor l.cursor l.items

abbrev pub decreases-members : goal.decreases-members
decreases-members g l = length l.cursor
