use Rattle.ql_mem_rel.proofs.TableLemmas.{insert_exit, refused_spent, refused_never}
use Rattle.ql_mem_rel.proofs.plain_db.PlainDb.check_insert.Goals as goal

pub returns-in_err-check_row-clause-refused : goal.returns-in_err-check_row-clause-refused
returns-in_err-check_row-clause-refused c =
    insert_exit (Unit {0}) (Unit {0}) c.args.table c.args.self.now.next_id c.args.values.now c.args.self.now.schema c.args.self.now.rows.items c.in_err-check_row.field-0.0 c.from_residual.result c.args.self.now.held c.from_residual.ensures.1 c.in_err-check_row.ensures.refused

pub returns-then-self-gt-LAST_ID-clause-refused : goal.returns-then-self-gt-LAST_ID-clause-refused
returns-then-self-gt-LAST_ID-clause-refused c = refused_spent c.args.table c.args.self.now.next_id c.args.values.now c.args.self.now.schema c.args.self.now.rows.items c.args.self.now.held c.in_ok-check_row.ensures.refused c.if-self-gt-LAST_ID.true

pub returns-clause-refused : goal.returns-clause-refused
returns-clause-refused c = refused_never c.args.table c.args.self.now.next_id c.args.values.now c.args.self.now.schema c.args.self.now.rows.items c.args.self.now.held c.in_ok-check_row.ensures.refused c.if-self-gt-LAST_ID.false
