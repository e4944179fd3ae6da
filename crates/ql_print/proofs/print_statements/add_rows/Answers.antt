use Rattle.std.proofs.Common.{get_or, ap, ◌∙◌, append_assoc, rules}
use Rattle.ql_syntax.specs.Ink.{comma}
use Rattle.ql_syntax.specs.StatementPrinting.{ink_of_row}
use Rattle.ql_print.proofs.PrintSteps.{one_more}
use Rattle.ql_print.proofs.print_statements.add_rows.Goals as goal

pub rows-preserved : goal.rows-preserved
rows-preserved c =
    let m = one_more comma ink_of_row c.args.rows.now c.rows.i c.row-item.result c.row-item.result (search rules) (c.row-item.is ∙ ap (λ x. get_or x c.rows.i c.row-item.result) c.as_slice-row-items.ensures) in
    rw (c.in_ok-add_row.ensures.ok, c.in_ok-put.ensures.ok, c.rows.invariant, c.comma_before.ensures, m) (simp append_assoc)
