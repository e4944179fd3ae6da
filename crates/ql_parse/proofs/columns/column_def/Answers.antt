use Rattle.ql_syntax.specs.Rules as rule
use Rattle.ql_syntax.specs.Readings.{pair, node, both, by_rule}
use Rattle.ql_cursor.proofs.StepLemmas.{exits}
use Rattle.ql_cursor.proofs.Sequences.{fails_the, fails_first, fails_second}
use Rattle.ql_parse.proofs.StatementLemmas.{same_column}
use Rattle.ql_parse.proofs.columns.column_def.Goals as goal

pub returns-in_err-name : goal.returns-in_err-name
returns-in_err-name c = exits _ _ _ _ c.from_residual.ensures.1 (fails_the rule.column (fails_first (c.in_err-name.ensures _)))

pub returns-in_err-kind : goal.returns-in_err-kind
returns-in_err-kind c = exits _ _ _ _ c.from_residual-in_err-kind.ensures.1 (fails_the rule.column (fails_second (c.in_ok-name.ensures _) (fails_first (c.in_err-kind.ensures _))))

pub returns-in_err-not_null : goal.returns-in_err-not_null
returns-in_err-not_null c = exits _ _ _ _ c.from_residual-in_err-not_null.ensures.1
    (fails_the rule.column (fails_second (c.in_ok-name.ensures _) (fails_second (c.in_ok-kind.ensures _) (fails_first c.in_err-not_null.ensures))))

pub returns-in_err-default : goal.returns-in_err-default
returns-in_err-default c = exits _ _ _ _ c.from_residual-in_err-default.ensures.1
    (fails_the rule.column (fails_second (c.in_ok-name.ensures _) (fails_second (c.in_ok-kind.ensures _) (fails_second c.in_ok-not_null.ensures c.in_err-default.ensures))))

pub returns : goal.returns
returns c = record {
  parse = node rule.column (pair (c.in_ok-name.ensures c.args.room).parse (pair (c.in_ok-kind.ensures c.args.room).parse (pair c.in_ok-not_null.ensures.parse c.in_ok-default.ensures.parse)));
  reads = by_rule (both (c.in_ok-name.ensures c.args.room).reads (both (c.in_ok-kind.ensures c.args.room).reads (both c.in_ok-not_null.ensures.reads c.in_ok-default.ensures.reads)));
  means = same_column (c.in_ok-name.ensures c.args.room).means (c.in_ok-kind.ensures c.args.room).means c.in_ok-not_null.ensures.means c.in_ok-default.ensures.means;
}
