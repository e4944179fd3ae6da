use Rattle.std.proofs.Common.{List, map, refl, sym, ap, ◌∙◌}
use Rattle.ql_syntax.specs.declared.statement.ColumnDef.{ColumnDef}
use Rattle.ql_rel.specs.declared.db.Row.{Row}
use Rattle.ql_rel.specs.Changes.{with_null}
use Rattle.ql_rel.specs.Limits.{is_past_added}
use Rattle.ql_mem_rel.proofs.ColumnLemmas.{column_exit, column_later, column_after, columns_there}
use Rattle.ql_mem_rel.proofs.SchemaLemmas.{not_refused}
use Rattle.ql_mem_rel.proofs.TableLemmas.{rows_kept}
use Rattle.ql_mem_rel.proofs.plain_db.PlainDb.wider_table.Goals as goal

pub returns-in_err-check_column-clause-refused : goal.returns-in_err-check_column-clause-refused
returns-in_err-check_column-clause-refused c =
    column_exit (Unit {0}) (List Row) c.args.self.now.next_id c.args.table c.args.column.now c.args.self.now.schema c.args.self.now.rows.items c.as_slice.result.now c.index-as_slice-table.result c.in_err-check_column.field-0.0 c.from_residual.result c.args.self.now.held c.requires c.as_slice.ensures c.index-as_slice-table.is c.from_residual.ensures.1 c.in_err-check_column.ensures.refused

pub returns-in_err-rows-clause-refused : goal.returns-in_err-rows-clause-refused
returns-in_err-rows-clause-refused c =
    let same = column_later c.args.self.now.next_id c.args.table c.args.column.now c.args.self.now.schema c.args.self.now.rows.items c.as_slice.result.now c.index-as_slice-table.result c.index.result.now c.index.result.now c.args.self.now.held c.requires c.as_slice.ensures c.index-as_slice-table.is c.index.ensures refl c.in_ok-check_column.ensures.refused in
    column_after (List Row) (List Row) _ _ c.in_err-rows.field-0.0 c.from_residual-in_err-rows.result same c.from_residual-in_err-rows.ensures.1 c.in_err-rows.ensures.refused

pub returns-clause-rows : goal.returns-clause-rows
returns-clause-rows c = c.in_ok-rows.ensures.rows ∙ ap (λ (rs : List Row). map with_null rs) (sym (rows_kept c.args.self.now.next_id c.args.self.now.schema c.args.self.now.rows.items c.args.table c.index.result.now c.args.self.now.held c.requires c.index.ensures))

pub returns-clause-few : goal.returns-clause-few
returns-clause-few c =
    ap (λ (cs : List ColumnDef). is_past_added c.args.column.now cs) (columns_there c.args.table c.args.self.now.schema c.as_slice.result.now c.index-as_slice-table.result c.as_slice.ensures c.requires c.index-as_slice-table.is) ∙ not_refused _ _ c.in_ok-check_column.ensures.refused

pub returns-clause-refused : goal.returns-clause-refused
returns-clause-refused c =
    let same = column_later c.args.self.now.next_id c.args.table c.args.column.now c.args.self.now.schema c.args.self.now.rows.items c.as_slice.result.now c.index-as_slice-table.result c.index.result.now c.index.result.now c.args.self.now.held c.requires c.as_slice.ensures c.index-as_slice-table.is c.index.ensures refl c.in_ok-check_column.ensures.refused in
    sym same ∙ c.in_ok-rows.ensures.refused
