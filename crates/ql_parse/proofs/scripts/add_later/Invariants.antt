use Rattle.std.proofs.Common.{length}
use Rattle.ql_parse.proofs.ScriptLemmas.{LaterGoing}
use Rattle.ql_parse.proofs.scripts.add_later.Given as goal

abbrev pub invariant-later : goal.invariant-later
invariant-later l = LaterGoing l.room l.fn.cursor l.cursor l.fn.found l.found

abbrev pub decreases-later : goal.decreases-later
decreases-later l = length l.cursor
