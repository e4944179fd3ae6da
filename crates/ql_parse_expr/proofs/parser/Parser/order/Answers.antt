use Rattle.std.proofs.Common.{false, sym, ap, ◌∙◌}
use Rattle.ql_syntax.specs.Readings.{pair, absent, present, both, left_out, entered}
use Rattle.ql_cursor.proofs.StepLemmas.{exits}
use Rattle.ql_cursor.proofs.Sequences.{fails_first, fails_second, fails_part}
use Rattle.ql_cursor.proofs.Answering.{same_pair}
use Rattle.ql_parse_expr.proofs.SelectLemmas.{keys_tree, direction_tree}
use Rattle.ql_parse_expr.proofs.parser.Parser.order.Goals as goal

pub returns-then-not-sees_word : goal.returns-then-not-sees_word
returns-then-not-sees_word g c = record { parse = absent; reads = left_out (sym c.sees_word.ensures ∙ c.if-not-sees_word.true); means = ap (λ xs. (xs, false)) c.new.ensures }

pub returns-in_err-expect_word : goal.returns-in_err-expect_word
returns-in_err-expect_word g c = exits _ _ _ _ c.from_residual.ensures.1 (fails_part (sym c.sees_word.ensures ∙ c.if-not-sees_word.false) (fails_first (c.in_err-expect_word.ensures _)))

pub returns-in_err-expect_word-2 : goal.returns-in_err-expect_word-2
returns-in_err-expect_word-2 g c = exits _ _ _ _ c.from_residual-in_err-expect_word-2.ensures.1
    (fails_part (sym c.sees_word.ensures ∙ c.if-not-sees_word.false) (fails_second (c.in_ok-expect_word.ensures _) (fails_first (c.in_err-expect_word-2.ensures _))))

pub returns-in_err-keys : goal.returns-in_err-keys
returns-in_err-keys g c = exits _ _ _ _ c.from_residual-in_err-keys.ensures.1
    (fails_part (sym c.sees_word.ensures ∙ c.if-not-sees_word.false) (fails_second (c.in_ok-expect_word.ensures _) (fails_second (c.in_ok-expect_word-2.ensures _) (fails_first c.in_err-keys.ensures))))

pub returns : goal.returns
returns g c = record {
  parse = present (pair (c.in_ok-expect_word.ensures c.args.self.now.room).parse (pair (c.in_ok-expect_word-2.ensures c.args.self.now.room).parse
      (pair c.in_ok-keys.ensures.parse (c.direction-descending.ensures c.args.self.now.room).parse)));
  reads = entered (sym c.sees_word.ensures ∙ c.if-not-sees_word.false) (both (c.in_ok-expect_word.ensures c.args.self.now.room).reads (both (c.in_ok-expect_word-2.ensures c.args.self.now.room).reads
      (both c.in_ok-keys.ensures.reads (c.direction-descending.ensures c.args.self.now.room).reads)));
  means = same_pair
      (c.in_ok-keys.ensures.means ∙ keys_tree (c.in_ok-expect_word.ensures c.args.self.now.room).parse (c.in_ok-expect_word-2.ensures c.args.self.now.room).parse (c.direction-descending.ensures c.args.self.now.room).parse c.in_ok-keys.ensures.reads)
      ((c.direction-descending.ensures c.args.self.now.room).means
      ∙ direction_tree (c.in_ok-expect_word.ensures c.args.self.now.room).parse (c.in_ok-expect_word-2.ensures c.args.self.now.room).parse c.in_ok-keys.ensures.parse (c.direction-descending.ensures c.args.self.now.room).reads);
}
