use Rattle.std.proofs.Common.{arith}
use Rattle.std.proofs.lemmas.Grind.{common_steps}
use Rattle.ql_mem_rel.proofs.TableLemmas.{table_parts}
use Rattle.ql_mem_rel.proofs.schema_change.change_columns.Goals as goal

pub returns : goal.returns
returns c =
    let parts = table_parts c.args.columns c.args.tables.now c.args.at c.index-tables-at.result c.in_ok-name.name c.requires c.in_ok-name.ensures in
    grind (arith, common_steps, parts)
