use Rattle.std.proofs.Common.{sym, ap, ◌∙◌}
use Rattle.ql_parse_expr.specs.Predicates.{member_of, range_of}
use Rattle.ql_syntax.specs.Readings.{pair, left, right, both, first, second}
use Rattle.ql_cursor.proofs.StepLemmas.{exits}
use Rattle.ql_cursor.proofs.Sequences.{fails_second, fails_left, fails_right, fails_neither}
use Rattle.ql_parse_expr.proofs.parser.Parser.membership.Goals as goal

pub returns-in_err-member : goal.returns-in_err-member
returns-in_err-member g c = exits _ _ _ _ c.from_residual.ensures.1 (fails_second (c.eat_word-not.ensures _) (fails_left (sym c.sees_word.ensures ∙ c.if-sees_word.true) c.in_err-member.ensures))

pub returns-then-sees_word : goal.returns-then-sees_word
returns-then-sees_word g c = record {
  parse = pair (c.eat_word-not.ensures c.args.self.now.room).parse (left c.in_ok-member.ensures.parse);
  reads = both (c.eat_word-not.ensures c.args.self.now.room).reads (first (sym c.sees_word.ensures ∙ c.if-sees_word.true) c.in_ok-member.ensures.reads);
  means = c.in_ok-member.ensures.means ∙ ap (λ b. member_of c.args.part b c.in_ok-member.ensures.parse) (c.eat_word-not.ensures c.args.self.now.room).means;
}

pub returns-in_err-range : goal.returns-in_err-range
returns-in_err-range g c = exits _ _ _ _ c.from_residual-in_err-range.ensures.1
    (fails_second (c.eat_word-not.ensures _) (fails_right (sym c.sees_word.ensures ∙ c.if-sees_word.false) (sym c.sees_word-2.ensures ∙ c.if-sees_word-2.true) c.in_err-range.ensures))

pub returns-then-sees_word-2 : goal.returns-then-sees_word-2
returns-then-sees_word-2 g c = record {
  parse = pair (c.eat_word-not.ensures c.args.self.now.room).parse (right c.in_ok-range.ensures.parse);
  reads = both (c.eat_word-not.ensures c.args.self.now.room).reads (second (sym c.sees_word.ensures ∙ c.if-sees_word.false) (sym c.sees_word-2.ensures ∙ c.if-sees_word-2.true) c.in_ok-range.ensures.reads);
  means = c.in_ok-range.ensures.means ∙ ap (λ b. range_of c.args.part b c.in_ok-range.ensures.parse) (c.eat_word-not.ensures c.args.self.now.room).means;
}

pub returns : goal.returns
returns g c = fails_second (c.eat_word-not.ensures _) (fails_neither (sym c.sees_word.ensures ∙ c.if-sees_word.false) (sym c.sees_word-2.ensures ∙ c.if-sees_word-2.false) c.unexpected.ensures)
