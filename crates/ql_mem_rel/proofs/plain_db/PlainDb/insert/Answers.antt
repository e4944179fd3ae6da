use Rattle.std.proofs.Common.{List, ap, ◌∙◌}
use Rattle.std.proofs.Common.{◌≤◌, ◌+◌, arith}
use Rattle.ql_value.specs.declared.value.Value.{Value}
use Rattle.ql_rel.specs.Changes.{changed_at, with_row, row_of}
use Rattle.ql_mem_rel.proofs.TableLemmas.{hold_inserted, db_inserted}
use Rattle.ql_mem_rel.proofs.plain_db.PlainDb.insert.Goals as goal

pub invariant_of-self-2 : goal.invariant_of-self-2
invariant_of-self-2 c = record {
  begun = let up : 1 ≤ c.args.self.now.next_id + 1 = omega arith in up;
  one_each = c.push_row.ensures.len ∙ c.args.self.now.one_each;
  within = c.args.self.now.within;
  held = hold_inserted c.args.self.now.next_id c.args.self.now.schema.tables c.args.self.now.rows.items c.push_row.new.rows.items c.args.table c.args.values.now (c.in_ok-push_row.ensures.ok ∙ ap (λ (vs : List Value). changed_at c.args.table (with_row (row_of c.args.self.now.next_id vs)) c.args.self.now.rows.items) c.in_ok-values.ensures) c.args.self.now.begun c.requires.fits c.args.self.now.held;
}

pub returns-clause-db : goal.returns-clause-db
returns-clause-db c = db_inserted c.args.self.now.next_id c.args.self.now.schema c.args.self.now.rows.items c.push_row.new.rows.items c.args.table c.args.values.now (c.in_ok-push_row.ensures.ok ∙ ap (λ (vs : List Value). changed_at c.args.table (with_row (row_of c.args.self.now.next_id vs)) c.args.self.now.rows.items) c.in_ok-values.ensures)
