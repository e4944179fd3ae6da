use Rattle.std.proofs.Common.{◌≡◌, List, length, vec_len, insert, refl, ap, ◌∙◌, rules, arith}
use Rattle.ql_rel.specs.declared.db.Row.{Row}
use Rattle.ql_rel.specs.declared.schema.TableSchema.{TableSchema}
use Rattle.ql_rel.specs.Limits.{IsWithin}
use Rattle.ql_mem_rel.specs.PlainDbs.{Hold}
use Rattle.ql_mem_rel.proofs.SchemaLemmas.{place_ends, hold_placed, within_copied, after_insert, db_created_as, not_refused}
use Rattle.ql_mem_rel.proofs.TableLemmas.{hold_length}
use Rattle.ql_mem_rel.proofs.plain_db.PlainDb.create_table.Goals as goal

pub insert_table-requires : goal.insert_table-requires
insert_table-requires c =
    let low = place_ends c.args.table.now.name c.args.self.now.schema.tables c.as_slice.result.now c.args.self.now.schema.tables c.place_of-at.result c.as_slice.ensures refl c.place_of-at.ensures in
    record { within = low; rows_within = omega (arith, low, c.args.self.now.one_each) }

pub invariant_of-self : goal.invariant_of-self
invariant_of-self c =
    let next = c.args.self.now.next_id in
    let old = c.args.self.now.schema in
    let counts : vec_len c.insert_table.new.rows ≡ length c.insert_table.new.rows.items = search rules in
    let held : Hold next c.insert_table.new.tables c.insert_table.new.rows.items =
    after_insert (λ (ts : List TableSchema). λ (rs : List (List Row)). Hold next ts rs) c.insert_table.result c.in_ok-copy.copy c.place_of-at.result old.tables c.insert_table.new.tables c.args.self.now.rows.items c.insert_table.new.rows.items
    c.insert_table.ensures.tables c.insert_table.ensures.rows c.insert_table.ensures.tables_kept c.insert_table.ensures.rows_kept
    (hold_placed next c.in_ok-copy.copy c.place_of-at.result old.tables c.args.self.now.rows.items c.args.self.now.held) c.args.self.now.held in
    record {
      begun = c.args.self.now.begun;
      one_each = counts ∙ hold_length next c.insert_table.new.tables c.insert_table.new.rows.items held;
      within = after_insert (λ (ts : List TableSchema). λ (rs : List (List Row)). IsWithin (record { tables = ts; indexes = old.indexes })) c.insert_table.result c.in_ok-copy.copy c.place_of-at.result old.tables c.insert_table.new.tables c.args.self.now.rows.items c.insert_table.new.rows.items
          c.insert_table.ensures.tables c.insert_table.ensures.rows c.insert_table.ensures.tables_kept c.insert_table.ensures.rows_kept
          (within_copied c.in_ok-copy.copy c.args.table.now c.place_of-at.result old c.in_ok-copy.ensures c.requires (not_refused _ _ c.in_ok-check_table.ensures.refused) c.args.self.now.within) c.args.self.now.within;
      held = held;
    }

pub returns-clause-db : goal.returns-clause-db
returns-clause-db c =
    db_created_as c.args.table.now c.place_of-at.result c.args.self.now.next_id c.args.self.now.schema c.args.self.now.rows.items c.insert_table.new.rows.items c.as_slice.result.now c.args.self.now.schema.tables c.insert_table.new.tables c.args.self.now.held
    c.as_slice.ensures c.place_of-at.ensures refl (c.in_ok-insert_table.ensures.tables ∙ ap (λ (t : TableSchema). insert c.args.self.now.schema.tables c.place_of-at.result t) c.in_ok-copy.ensures) c.in_ok-insert_table.ensures.rows
