use Rattle.std.proofs.Common.{refl, sym, ◌∙◌}
use Rattle.ql_syntax.specs.Readings.{pair, absent, present, both, left_out, entered}
use Rattle.ql_cursor.proofs.StepLemmas.{exits}
use Rattle.ql_cursor.proofs.Sequences.{fails_first, fails_second, fails_part}
use Rattle.ql_parse_expr.proofs.SelectLemmas.{same_sources, join_tree}
use Rattle.ql_parse_expr.proofs.parser.Parser.from.Goals as goal

pub returns-then-not-sees_word : goal.returns-then-not-sees_word
returns-then-not-sees_word g c = record { parse = absent; reads = left_out (sym c.sees_word.ensures ∙ c.if-not-sees_word.true); means = same_sources c.new.ensures refl }

pub returns-in_err-expect_word : goal.returns-in_err-expect_word
returns-in_err-expect_word g c = exits _ _ _ _ c.from_residual.ensures.1 (fails_part (sym c.sees_word.ensures ∙ c.if-not-sees_word.false) (fails_first (c.in_err-expect_word.ensures _)))

pub returns-in_err-sets : goal.returns-in_err-sets
returns-in_err-sets g c = exits _ _ _ _ c.from_residual-in_err-sets.ensures.1
    (fails_part (sym c.sees_word.ensures ∙ c.if-not-sees_word.false) (fails_second (c.in_ok-expect_word.ensures _) (fails_first c.in_err-sets.ensures)))

pub returns-in_err-join : goal.returns-in_err-join
returns-in_err-join g c = exits _ _ _ _ c.from_residual-in_err-join.ensures.1
    (fails_part (sym c.sees_word.ensures ∙ c.if-not-sees_word.false) (fails_second (c.in_ok-expect_word.ensures _) (fails_second c.in_ok-sets.ensures c.in_err-join.ensures)))

pub returns : goal.returns
returns g c = record {
  parse = present (pair (c.in_ok-expect_word.ensures c.args.self.now.room).parse (pair c.in_ok-sets.ensures.parse c.in_ok-join.ensures.parse));
  reads = entered (sym c.sees_word.ensures ∙ c.if-not-sees_word.false) (both (c.in_ok-expect_word.ensures c.args.self.now.room).reads (both c.in_ok-sets.ensures.reads c.in_ok-join.ensures.reads));
  means = same_sources c.in_ok-sets.ensures.means (c.in_ok-join.ensures.means
      ∙ join_tree (c.in_ok-expect_word.ensures c.args.self.now.room).parse c.in_ok-sets.ensures.parse c.in_ok-join.ensures.reads);
}
