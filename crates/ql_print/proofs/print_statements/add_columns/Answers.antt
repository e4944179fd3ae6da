use Rattle.std.proofs.Common.{get_or, ap, ◌∙◌, append_assoc, rules}
use Rattle.ql_syntax.specs.Ink.{comma}
use Rattle.ql_syntax.specs.StatementPrinting.{ink_of_column}
use Rattle.ql_print.proofs.PrintSteps.{one_more}
use Rattle.ql_print.proofs.print_statements.add_columns.Goals as goal

pub columns-preserved : goal.columns-preserved
columns-preserved c =
    let m = one_more comma ink_of_column c.args.columns.now c.columns.i c.column-item.result c.column-item.result (search rules) (c.column-item.is ∙ ap (λ x. get_or x c.columns.i c.column-item.result) c.as_slice-column-items.ensures) in
    rw (c.in_ok-add_column.ensures.ok, c.in_ok-put-2.ensures.ok, c.columns.invariant, c.comma_before.ensures, m) (simp append_assoc)
