use Rattle.std.proofs.Common.{filter, ◌∙◌}
use Rattle.ql_rel.specs.Changes.{is_other}
use Rattle.ql_mem_rel.proofs.TableLemmas.{hold_as, hold_rise, db_changed, holds_filter}
use Rattle.ql_mem_rel.proofs.plain_db.PlainDb.remove.Goals as goal

pub remove_row-requires-clause-rise : goal.remove_row-requires-clause-rise
remove_row-requires-clause-rise c = hold_rise c.args.self.now.next_id c.args.self.now.schema.tables c.args.self.now.rows.items c.args.table c.args.self.now.held

pub invariant_of-self : goal.invariant_of-self
invariant_of-self c = record {
  begun = c.args.self.now.begun;
  one_each = c.remove_row.ensures.len ∙ c.args.self.now.one_each;
  within = c.args.self.now.within;
  held = hold_as c.args.self.now.next_id c.args.self.now.schema.tables c.args.self.now.rows.items c.remove_row.new.rows.items c.args.table (filter (is_other c.args.id)) c.remove_row.ensures.removed c.args.self.now.held (λ rs h. holds_filter _ _ (is_other c.args.id) rs h);
}

pub returns-clause-db : goal.returns-clause-db
returns-clause-db c = db_changed c.args.self.now.next_id c.args.self.now.schema c.args.self.now.rows.items c.remove_row.new.rows.items c.args.table (filter (is_other c.args.id)) c.remove_row.ensures.removed
