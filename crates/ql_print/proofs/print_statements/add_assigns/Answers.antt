use Rattle.std.proofs.Common.{get_or, ap, ◌∙◌, append_assoc, rules}
use Rattle.ql_syntax.specs.Ink.{comma}
use Rattle.ql_syntax.specs.StatementPrinting.{ink_of_assign}
use Rattle.ql_print.proofs.PrintSteps.{one_more}
use Rattle.ql_print.proofs.print_statements.add_assigns.Goals as goal

pub assigns-preserved : goal.assigns-preserved
assigns-preserved c =
    let m = one_more comma ink_of_assign c.args.assigns.now c.assigns.i c.assign-item.result c.assign-item.result (search rules) (c.assign-item.is ∙ ap (λ x. get_or x c.assigns.i c.assign-item.result) c.as_slice-assign-items.ensures) in
    rw (c.in_ok-add_assign.ensures.ok, c.in_ok-put.ensures.ok, c.assigns.invariant, c.comma_before.ensures, m) (simp append_assoc)
