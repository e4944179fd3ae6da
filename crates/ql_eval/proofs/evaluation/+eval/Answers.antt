-- The parts of a call.
use Rattle.std.proofs.Common.{get_or, sym, ap, subst, ◌∙◌}
use Rattle.ql_syntax.specs.Values as spec
use Rattle.ql_eval.specs.Gives.{Gives}
use Rattle.ql_eval.specs.Operand.{value_of}
use Rattle.ql_eval.specs.Question.{test_of}
use Rattle.ql_eval.proofs.Calls.{only_part, two_parts}
use Rattle.ql_eval.proofs.evaluation.+eval.Goals as goal

pub ask-returns : goal.ask-returns
ask-returns t c =
    let test = test_of c.args.question in
    let first = c.index-as_slice-0.is ∙ ap (λ z. get_or z 0 c.index-as_slice-0.result) c.as_slice.ensures in
    let second = c.index-as_slice-1.is ∙ ap (λ z. get_or z 1 c.index-as_slice-1.result) c.as_slice-2.ensures in
    let whole = two_parts test c.args.row.now c.args.parts.now c.index-as_slice-0.result c.index-as_slice-1.result (value_of c.in_ok-left.left) (value_of c.in_ok-right.right) c.requires first second c.in_ok-left.ensures c.in_ok-right.ensures in
    whole ∙ ap (λ z. spec.asked test z (value_of c.in_ok-right.right)) (sym c.value.ensures) ∙ ap (spec.asked test c.value.result.now) (sym c.value-2.ensures) ∙ c.answer.ensures

pub measure-returns : goal.measure-returns
measure-returns t c =
    let first = c.index-as_slice-0.is ∙ ap (λ z. get_or z 0 c.index-as_slice-0.result) c.as_slice.ensures in
    let whole = only_part c.args.row.now c.args.parts.now c.index-as_slice-0.result (value_of c.in_ok-part.part) c.requires first c.in_ok-part.ensures in
    subst (λ o. Gives o c.length_of.result) (sym (whole ∙ ap spec.length_of (sym c.value.ensures))) c.length_of.ensures
