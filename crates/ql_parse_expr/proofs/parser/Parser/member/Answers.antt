use Rattle.std.proofs.Common.{sym, ap, ◌∙◌}
use Rattle.ql_syntax.specs.declared.syntax.Expr.TheVariants as e
use Rattle.ql_parse_expr.specs.Predicates.{among}
use Rattle.ql_syntax.specs.Readings.{pair, group, both}
use Rattle.ql_cursor.proofs.StepLemmas.{exits}
use Rattle.ql_cursor.proofs.Sequences.{fails_first, fails_second}
use Rattle.ql_parse_expr.proofs.parser.Parser.member.Goals as goal

pub returns-in_err-expect_word : goal.returns-in_err-expect_word
returns-in_err-expect_word g c = exits _ _ _ _ c.from_residual.ensures.1 (fails_first (c.in_err-expect_word.ensures _))

pub returns-in_err-members : goal.returns-in_err-members
returns-in_err-members g c = exits _ _ _ _ c.from_residual-in_err-members.ensures.1 (fails_second (c.in_ok-expect_word.ensures _) c.in_err-members.ensures)

pub returns-in_ok-new-in-Listed : goal.returns-in_ok-new-in-Listed
returns-in_ok-new-in-Listed g c = record {
  parse = pair (c.in_ok-expect_word.ensures c.args.self.now.room).parse (group c.in_ok-members.ensures.parse);
  reads = both (c.in_ok-expect_word.ensures c.args.self.now.room).reads c.in_ok-members.ensures.reads;
  means = ap (λ q. e.IsIn c.args.not q c.in_ok-new-in-Listed.field-0) c.in_ok-part.ensures ∙ ap (e.IsIn c.args.not c.args.part) c.in_ok-new-in-Listed.ensures
      ∙ ap (among c.args.part c.args.not) (sym c.in-Listed.is ∙ c.in_ok-members.ensures.means);
}

pub returns-in_ok-new-in-Query : goal.returns-in_ok-new-in-Query
returns-in_ok-new-in-Query g c = record {
  parse = pair (c.in_ok-expect_word.ensures c.args.self.now.room).parse (group c.in_ok-members.ensures.parse);
  reads = both (c.in_ok-expect_word.ensures c.args.self.now.room).reads c.in_ok-members.ensures.reads;
  means = ap (λ q. e.IsInSelect c.args.not q c.in_ok-new-in-Query.field-0) c.in_ok-part.ensures ∙ ap (e.IsInSelect c.args.not c.args.part) c.in_ok-new-in-Query.ensures
      ∙ ap (among c.args.part c.args.not) (sym c.in-Query.is ∙ c.in_ok-members.ensures.means);
}
