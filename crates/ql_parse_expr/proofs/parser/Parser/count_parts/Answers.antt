use Rattle.std.proofs.Common.{refl, sym, ap, true, ◌∙◌}
use Rattle.ql_syntax.specs.Readings.{present, left, entered, first}
use Rattle.ql_cursor.proofs.StepLemmas.{exits, taken}
use Rattle.ql_parse_expr.proofs.CallLemmas.{gives_count_parts, fails_count_parts}
use Rattle.ql_parse_expr.proofs.parser.Parser.count_parts.Goals as goal

pub returns-then-eat_mark : goal.returns-then-eat_mark
returns-then-eat_mark g c =
    let star = sym c.eat_mark.ensures.found ∙ c.if-eat_mark.true in
    let mark = taken c.args.room star (c.eat_mark.ensures.taken c.if-eat_mark.true) in
    record { parse = present (left mark.parse); reads = entered (rw star refl) (first star mark.reads); means = ap (λ xs. (true, xs)) c.new.ensures }

pub returns-in_err-parts : goal.returns-in_err-parts
returns-in_err-parts g c = exits _ _ _ _ c.from_residual.ensures.1
    (fails_count_parts (sym c.eat_mark.ensures.found ∙ c.if-eat_mark.false) (c.eat_mark.ensures.kept c.if-eat_mark.false) c.in_err-parts.ensures)

pub returns : goal.returns
returns g c = gives_count_parts (sym c.eat_mark.ensures.found ∙ c.if-eat_mark.false) (c.eat_mark.ensures.kept c.if-eat_mark.false) c.in_ok-parts.ensures
