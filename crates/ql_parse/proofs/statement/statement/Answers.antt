use Rattle.std.proofs.Common.{sym, ◌∙◌}
use Rattle.ql_parse.proofs.DispatchLemmas.{fails_none, none_at_end, none_at_other}
use Rattle.ql_parse.proofs.statement.statement.Goals as goal

pub returns-in_default : goal.returns-in_default
returns-in_default c = fails_none (none_at_end _ (sym c.kind.ensures ∙ c.in_default.is)) c.unexpected.ensures

pub returns-in_default-kind : goal.returns-in_default-kind
returns-in_default-kind c = fails_none (none_at_other _ _ (sym c.kind.ensures ∙ c.in-Some.is) c.in_default-kind.not-Word) c.unexpected-in_default-kind.ensures

pub statement_by_word-requires : goal.statement_by_word-requires
statement_by_word-requires c = record { next = cc (c.kind.ensures, c.in-Some.is, c.in-Word.is) }
