use Rattle.std.proofs.Common.{◌≡◌, length, vec_len, ◌∙◌, rules}
use Rattle.ql_mem_rel.specs.PlainDbs.{Hold}
use Rattle.ql_mem_rel.proofs.ColumnLemmas.{hold_swapped, holds_added, within_added, db_added}
use Rattle.ql_mem_rel.proofs.TableLemmas.{hold_length}
use Rattle.ql_mem_rel.proofs.plain_db.PlainDb.add_column.Goals as goal

pub invariant_of-self : goal.invariant_of-self
invariant_of-self c =
    let counts : vec_len c.put_rows.new.rows ≡ length c.put_rows.new.rows.items = search rules in
    let own = holds_added c.args.self.now.next_id c.args.table c.args.column.now c.args.self.now.schema c.args.self.now.rows.items c.as_slice.result.now c.index-as_slice-table.result c.in_ok-columns.columns c.in_ok-rows.rows c.args.self.now.held c.requires c.as_slice.ensures c.index-as_slice-table.is c.in_ok-columns.ensures c.in_ok-rows.ensures.rows in
    let held : Hold c.args.self.now.next_id c.in_ok-tables.tables c.put_rows.new.rows.items = hold_swapped c.args.self.now.next_id c.args.table c.in_ok-columns.columns c.in_ok-rows.rows c.args.self.now.schema.tables c.as_slice-2.result.now c.in_ok-tables.tables c.args.self.now.rows.items c.put_rows.new.rows.items c.as_slice-2.ensures c.in_ok-tables.ensures c.put_rows.ensures.put c.args.self.now.held own in
    record {
      begun = c.args.self.now.begun;
      one_each = counts ∙ hold_length c.args.self.now.next_id c.in_ok-tables.tables c.put_rows.new.rows.items held;
      within = within_added c.args.table c.args.column.now c.args.self.now.schema c.as_slice.result.now c.as_slice-2.result.now c.in_ok-tables.tables c.index-as_slice-table.result c.in_ok-columns.columns c.requires c.as_slice.ensures c.index-as_slice-table.is c.in_ok-columns.ensures c.as_slice-2.ensures c.in_ok-tables.ensures c.in_ok-rows.ensures.few c.args.self.now.within;
      held = held;
    }

pub returns-clause-db : goal.returns-clause-db
returns-clause-db c =
    db_added c.args.self.now.next_id c.args.table c.args.column.now c.args.self.now.schema c.args.self.now.rows.items c.put_rows.new.rows.items c.as_slice.result.now c.as_slice-2.result.now c.in_ok-tables.tables c.index-as_slice-table.result c.in_ok-columns.columns c.in_ok-rows.rows c.args.self.now.held c.requires c.as_slice.ensures c.index-as_slice-table.is c.in_ok-columns.ensures c.as_slice-2.ensures c.in_ok-tables.ensures c.in_ok-rows.ensures.rows c.put_rows.ensures.put
