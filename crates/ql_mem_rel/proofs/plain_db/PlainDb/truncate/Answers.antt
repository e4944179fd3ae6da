use Rattle.std.proofs.Common.{◌∙◌}
use Rattle.ql_rel.specs.Changes.{no_rows}
use Rattle.ql_mem_rel.proofs.TableLemmas.{hold_as, db_changed, holds_none}
use Rattle.ql_mem_rel.proofs.plain_db.PlainDb.truncate.Goals as goal

pub invariant_of-self : goal.invariant_of-self
invariant_of-self c = record {
  begun = c.args.self.now.begun;
  one_each = c.clear_rows.ensures.len ∙ c.args.self.now.one_each;
  within = c.args.self.now.within;
  held = hold_as c.args.self.now.next_id c.args.self.now.schema.tables c.args.self.now.rows.items c.clear_rows.new.rows.items c.args.table (no_rows) c.clear_rows.ensures.cleared c.args.self.now.held (λ rs h. holds_none _ _ rs h);
}

pub returns-clause-db : goal.returns-clause-db
returns-clause-db c = db_changed c.args.self.now.next_id c.args.self.now.schema c.args.self.now.rows.items c.clear_rows.new.rows.items c.args.table (no_rows) c.clear_rows.ensures.cleared
