use Rattle.std.proofs.Common.{sym, ◌∙◌}
use Rattle.ql_mem_rel.proofs.SchemaLemmas.{id_one, id_same}
use Rattle.ql_mem_rel.proofs.plain_tables.id_left.Goals as goal

pub returns-then-is_empty : goal.returns-then-is_empty
returns-then-is_empty c = id_one c.args.next c.args.tables.now (sym c.is_empty.ensures ∙ c.if-is_empty.true)

pub returns-else-is_empty : goal.returns-else-is_empty
returns-else-is_empty c = id_same c.args.next c.args.tables.now (sym c.is_empty.ensures ∙ c.if-is_empty.false)
