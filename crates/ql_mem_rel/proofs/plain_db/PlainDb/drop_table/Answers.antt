use Rattle.std.proofs.Common.{◌≡◌, ◌≤◌, length, vec_len, filter, List, get_or, sym, ap, subst, ◌∙◌, rules}
use Rattle.ql_rel.specs.declared.schema.Index.{Index}
use Rattle.ql_rel.specs.Changes.{is_of_other}
use Rattle.ql_mem_rel.specs.PlainDbs.{Hold, db_with}
use Rattle.ql_mem_rel.proofs.SchemaLemmas.{hold_dropped, within_dropped, db_dropped_as, id_begun}
use Rattle.ql_mem_rel.proofs.TableLemmas.{hold_length}
use Rattle.ql_mem_rel.proofs.plain_db.PlainDb.drop_table.Goals as goal

pub invariant_of-self-2 : goal.invariant_of-self-2
invariant_of-self-2 c =
    let counts : vec_len c.remove.new.self ≡ length c.remove.new.self.items = search rules in
    let left = hold_dropped c.args.self.now.next_id c.args.table c.args.self.now.schema.tables c.as_slice-old.result.now c.in_ok-tables.tables c.args.self.now.rows.items c.remove.new.self.items c.as_slice-old.ensures c.in_ok-tables.ensures c.remove.ensures.items c.args.self.now.held in
    let held : Hold c.id_left-next_id.result c.in_ok-tables.tables c.remove.new.self.items = subst (λ k. Hold k c.in_ok-tables.tables c.remove.new.self.items) (sym c.id_left-next_id.ensures) left in
    let begun : 1 ≤ c.id_left-next_id.result = subst (λ k. 1 ≤ k) (sym c.id_left-next_id.ensures) (id_begun c.args.self.now.next_id c.in_ok-tables.tables c.args.self.now.begun) in
    record {
      begun = begun;
      one_each = counts ∙ hold_length c.id_left-next_id.result c.in_ok-tables.tables c.remove.new.self.items held;
      within = within_dropped c.args.table (is_of_other (get_or c.as_slice-old.result.now c.args.table c.index-old-table.result).name) c.args.self.now.schema c.as_slice-old.result.now c.in_ok-tables.tables c.in_ok-indexes.indexes c.as_slice-old.ensures c.in_ok-tables.ensures (c.in_ok-indexes.ensures ∙ ap (λ (k : List Index). filter (is_of_other (get_or c.as_slice-old.result.now c.args.table c.index-old-table.result).name) k) c.as_slice.ensures) c.args.self.now.within;
      held = held;
    }

pub returns-clause-db : goal.returns-clause-db
returns-clause-db c =
    ap (λ k. db_with k (record { tables = c.in_ok-tables.tables; indexes = c.in_ok-indexes.indexes }) c.remove.new.self.items) c.id_left-next_id.ensures
    ∙ db_dropped_as c.args.self.now.next_id c.args.table c.args.self.now.schema c.as_slice-old.result.now c.in_ok-tables.tables c.as_slice.result.now c.in_ok-indexes.indexes c.args.self.now.rows.items c.remove.new.self.items c.index-old-table.result c.args.self.now.held c.requires c.as_slice-old.ensures c.in_ok-tables.ensures c.as_slice.ensures c.in_ok-indexes.ensures c.remove.ensures.items
