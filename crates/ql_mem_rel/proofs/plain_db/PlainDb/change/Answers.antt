use Rattle.std.proofs.Common.{List, map, ap, ◌∙◌}
use Rattle.ql_value.specs.declared.value.Value.{Value}
use Rattle.ql_rel.specs.Changes.{changed_at, with_values}
use Rattle.ql_mem_rel.proofs.TableLemmas.{hold_as, hold_rise, db_changed, holds_values}
use Rattle.ql_mem_rel.proofs.plain_db.PlainDb.change.Goals as goal

pub change_row-requires-clause-rise : goal.change_row-requires-clause-rise
change_row-requires-clause-rise c = hold_rise c.args.self.now.next_id c.args.self.now.schema.tables c.args.self.now.rows.items c.args.table c.args.self.now.held

pub invariant_of-self : goal.invariant_of-self
invariant_of-self c = record {
  begun = c.args.self.now.begun;
  one_each = c.change_row.ensures.len ∙ c.args.self.now.one_each;
  within = c.args.self.now.within;
  held = hold_as c.args.self.now.next_id c.args.self.now.schema.tables c.args.self.now.rows.items c.change_row.new.rows.items c.args.table (map (with_values c.args.id c.args.values.now)) (c.change_row.ensures.changed ∙ ap (λ (vs : List Value). changed_at c.args.table (map (with_values c.args.id vs)) c.args.self.now.rows.items) c.in_ok-values.ensures) c.args.self.now.held (λ rs h. holds_values _ _ c.args.id c.args.values.now rs c.requires.fits h);
}

pub returns-clause-db : goal.returns-clause-db
returns-clause-db c = db_changed c.args.self.now.next_id c.args.self.now.schema c.args.self.now.rows.items c.change_row.new.rows.items c.args.table (map (with_values c.args.id c.args.values.now)) (c.change_row.ensures.changed ∙ ap (λ (vs : List Value). changed_at c.args.table (map (with_values c.args.id vs)) c.args.self.now.rows.items) c.in_ok-values.ensures)
