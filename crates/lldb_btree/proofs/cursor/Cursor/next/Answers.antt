use Rattle.std.proofs.Common.{sym, ◌∙◌}
use Rattle.lldb_btree.proofs.cursor.Cursor.next.Goals as goal

pub returns-in_ok-last-in-Some-clause-given : goal.returns-in_ok-last-in-Some-clause-given
returns-in_ok-last-in-Some-clause-given g c = λ levels pairs footprint t. sym (c.in_ok-found.ensures.found levels pairs footprint t) ∙ c.in-Some.is

pub returns-in-None-clause-given : goal.returns-in-None-clause-given
returns-in-None-clause-given g c = λ levels pairs footprint t. sym (c.in_ok-found.ensures.found levels pairs footprint t) ∙ c.in-None.is
