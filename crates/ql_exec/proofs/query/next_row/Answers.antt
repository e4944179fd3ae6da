-- An id over the greatest is of a content that is not told.
use Rattle.ql_exec.proofs.Small.{never_told}
use Rattle.ql_exec.proofs.query.next_row.Goals as goal

pub returns-then-row-gt-LAST_ID-clause-cause : goal.returns-then-row-gt-LAST_ID-clause-cause
returns-then-row-gt-LAST_ID-clause-cause g c =
    (c.in-Ok-true.ensures.cause, never_told (g.R.Rel.db c.args.rel.now) c.args.table c.args.after c.scan.new.row c.requires.formed (rw c.in-Ok-true.field-0-test at c.in-Ok-true.ensures.row) c.if-row-gt-LAST_ID.true)
