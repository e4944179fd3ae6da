-- The next row of the table, or none.
use Rattle.ql_exec.proofs.Turned.{row_comes, none_comes, row_types}
use Rattle.ql_exec.proofs.source.next_of_table.Goals as goal

pub returns-in-None-clause-row : goal.returns-in-None-clause-row
returns-in-None-clause-row g c = none_comes c.args.table c.args.after.now _ _ c.in-None.is c.in_ok-next_row.ensures.row

pub returns-in_ok-set_row-in-Some-clause-row : goal.returns-in_ok-set_row-in-Some-clause-row
returns-in_ok-set_row-in-Some-clause-row g c =
    row_comes c.args.table c.args.after.now c.in-Some.row c.in_ok-next_row.field-0 c.in_ok-set_row-in-Some.field-0 _ c.in-Some.is c.in_ok-set_row-in-Some.ensures c.requires.formed c.in_ok-next_row.ensures.row

pub returns-in_ok-set_row-in-Some-clause-fits : goal.returns-in_ok-set_row-in-Some-clause-fits
returns-in_ok-set_row-in-Some-clause-fits g c =
    row_types _ c.in_ok-next_row.field-0 c.in-Some.row c.in_ok-set_row-in-Some.field-0 c.in-Some.is c.in_ok-set_row-in-Some.ensures c.in_ok-next_row.ensures.small c.in_ok-next_row.ensures.fits
