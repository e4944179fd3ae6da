use Rattle.std.proofs.Common.{◌≡◌, ◌<◌, List, map, filter, remove, length, vec_len, ◌∙◌, sym, ap, subst, rules}
use Rattle.ql_syntax.specs.declared.statement.ColumnDef.{ColumnDef}
use Rattle.ql_rel.specs.declared.db.Row.{Row}
use Rattle.ql_rel.specs.declared.schema.Index.{Index}
use Rattle.ql_rel.specs.Changes.{without_value, is_not_by}
use Rattle.ql_mem_rel.specs.PlainDbs.{Hold}
use Rattle.ql_mem_rel.proofs.ColumnLemmas.{columns_there, all_longer, hold_swapped, holds_dropped, within_left, db_left}
use Rattle.ql_mem_rel.proofs.TableLemmas.{hold_length, kept_at, rows_kept}
use Rattle.ql_mem_rel.proofs.plain_db.PlainDb.drop_column.Goals as goal

pub narrower_rows-requires : goal.narrower_rows-requires
narrower_rows-requires c =
    let kept = kept_at c.args.self.now.next_id c.args.self.now.schema.tables c.args.self.now.rows.items c.args.table c.index.result.now c.args.self.now.held c.requires.table c.index.ensures in
    all_longer c.args.column _ c.index.result.now c.requires.column kept.fit

pub narrower_columns-requires : goal.narrower_columns-requires
narrower_columns-requires c =
    let there = columns_there c.args.table c.args.self.now.schema c.as_slice.result.now c.index-as_slice-table.result c.as_slice.ensures c.requires.table c.index-as_slice-table.is in
    subst (λ (cs : List ColumnDef). c.args.column < length cs) (there ∙ sym c.as_slice-3.ensures) c.requires.column

pub invariant_of-self-2 : goal.invariant_of-self-2
invariant_of-self-2 c =
    let columns = c.in_ok-columns.ensures ∙ ap (λ (cs : List ColumnDef). remove cs c.args.column) c.as_slice-3.ensures in
    let new = c.in_ok-rows.ensures ∙ ap (λ (rs : List Row). map (without_value c.args.column) rs) (sym (rows_kept c.args.self.now.next_id c.args.self.now.schema c.args.self.now.rows.items c.args.table c.index.result.now c.args.self.now.held c.requires.table c.index.ensures)) in
    let indexes = c.in_ok-indexes.ensures ∙ ap (λ (k : List Index). filter (is_not_by c.index-as_slice-table.result.name c.index-as_slice-column.result.name) k) c.as_slice-all.ensures in
    let counts : vec_len c.put_rows.new.rows ≡ length c.put_rows.new.rows.items = search rules in
    let own = holds_dropped c.args.self.now.next_id c.args.table c.args.column c.args.self.now.schema c.args.self.now.rows.items c.as_slice.result.now c.index-as_slice-table.result c.in_ok-columns.columns c.in_ok-rows.rows c.args.self.now.held c.requires.table c.as_slice.ensures c.index-as_slice-table.is columns new in
    let held : Hold c.args.self.now.next_id c.in_ok-tables.tables c.put_rows.new.rows.items = hold_swapped c.args.self.now.next_id c.args.table c.in_ok-columns.columns c.in_ok-rows.rows c.args.self.now.schema.tables c.as_slice-4.result.now c.in_ok-tables.tables c.args.self.now.rows.items c.put_rows.new.rows.items c.as_slice-4.ensures c.in_ok-tables.ensures c.put_rows.ensures.put c.args.self.now.held own in
    record {
      begun = c.args.self.now.begun;
      one_each = counts ∙ hold_length c.args.self.now.next_id c.in_ok-tables.tables c.put_rows.new.rows.items held;
      within = within_left c.args.table c.args.column (is_not_by c.index-as_slice-table.result.name c.index-as_slice-column.result.name) c.args.self.now.schema c.as_slice.result.now c.as_slice-4.result.now c.in_ok-tables.tables c.index-as_slice-table.result c.in_ok-columns.columns c.in_ok-indexes.indexes c.requires.table c.as_slice.ensures c.index-as_slice-table.is columns c.as_slice-4.ensures c.in_ok-tables.ensures indexes c.requires.column c.requires.other c.args.self.now.within;
      held = held;
    }

pub returns-clause-db : goal.returns-clause-db
returns-clause-db c =
    let columns = c.in_ok-columns.ensures ∙ ap (λ (cs : List ColumnDef). remove cs c.args.column) c.as_slice-3.ensures in
    let new = c.in_ok-rows.ensures ∙ ap (λ (rs : List Row). map (without_value c.args.column) rs) (sym (rows_kept c.args.self.now.next_id c.args.self.now.schema c.args.self.now.rows.items c.args.table c.index.result.now c.args.self.now.held c.requires.table c.index.ensures)) in
    let indexes = c.in_ok-indexes.ensures ∙ ap (λ (k : List Index). filter (is_not_by c.index-as_slice-table.result.name c.index-as_slice-column.result.name) k) c.as_slice-all.ensures in
    db_left c.args.self.now.next_id c.args.table c.args.column c.args.self.now.schema c.args.self.now.rows.items c.put_rows.new.rows.items c.as_slice.result.now c.as_slice-4.result.now c.in_ok-tables.tables c.index-as_slice-table.result c.index-as_slice-column.result c.as_slice-2.result.now c.in_ok-columns.columns c.in_ok-indexes.indexes c.in_ok-rows.rows c.args.self.now.held c.requires.table c.as_slice.ensures c.index-as_slice-table.is
    c.as_slice-2.ensures c.index-as_slice-column.is c.requires.column columns c.as_slice-4.ensures c.in_ok-tables.ensures new c.put_rows.ensures.put indexes
