use Rattle.std.proofs.Common.{None, sym, ap, ◌∙◌}
use Rattle.ql_syntax.specs.declared.syntax.Expr.TheVariants as e
use Rattle.ql_syntax.specs.Rules as rule
use Rattle.ql_syntax.specs.Readings.{pair, absent, present, node, both, left_out, entered, by_rule}
use Rattle.ql_cursor.proofs.StepLemmas.{exits, taken}
use Rattle.ql_cursor.proofs.Sequences.{fails_the, fails_first, fails_second, fails_part}
use Rattle.ql_parse_expr.proofs.primary.column.Goals as goal

pub returns-in_err-first : goal.returns-in_err-first
returns-in_err-first c n = exits _ _ _ _ c.from_residual.ensures.1 (fails_the rule.ref (fails_first (c.in_err-first.ensures n)))

pub returns-then-not-eat_mark : goal.returns-then-not-eat_mark
returns-then-not-eat_mark c n =
    let name = c.in_ok-first.ensures n in
    let dot = sym c.eat_mark.ensures.found ∙ c.if-not-eat_mark.true in
    rw (c.eat_mark.ensures.kept c.if-not-eat_mark.true)
    (record { parse = node rule.ref (pair name.parse absent); reads = by_rule (both name.reads (left_out dot)); means = ap (e.Column None) name.means })

pub returns-in_err-column : goal.returns-in_err-column
returns-in_err-column c n =
    let dot = sym c.eat_mark.ensures.found ∙ c.if-not-eat_mark.false in
    exits _ _ _ _ c.from_residual-in_err-column.ensures.1
    (fails_the rule.ref (fails_second (c.in_ok-first.ensures n) (fails_part dot (fails_second (taken n dot (c.eat_mark.ensures.taken c.if-not-eat_mark.false)) (c.in_err-column.ensures n)))))

pub returns : goal.returns
returns c n =
    let name = c.in_ok-first.ensures n in
    let dot = sym c.eat_mark.ensures.found ∙ c.if-not-eat_mark.false in
    let mark = taken n dot (c.eat_mark.ensures.taken c.if-not-eat_mark.false) in
    let column = c.in_ok-column.ensures n in
    record {
      parse = node rule.ref (pair name.parse (present (pair mark.parse column.parse)));
      reads = by_rule (both name.reads (entered dot (both mark.reads column.reads)));
      means = cc (name.means, column.means);
    }
