use Rattle.std.proofs.Common.{length}
use Rattle.ql_parse_expr.specs.Levels.{links}
use Rattle.ql_syntax.specs.Trees.{links_of}
use Rattle.ql_cursor.proofs.Loops.{Going}
use Rattle.ql_parse_expr.proofs.parser.Parser.links.Given as goal

abbrev pub invariant-links : goal.invariant-links
invariant-links g l = Going l.self.room (links l.level) (links l.level) links_of links_of l.fn.cursor l.cursor l.links

abbrev pub decreases-links : goal.decreases-links
decreases-links g l = length l.cursor
