use Rattle.std.proofs.Common.{refl, sym, ◌∙◌}
use Rattle.ql_parse.specs.StatementParts.{table_rule, index_rule, table_of, index_of, table_or_index_of}
use Rattle.ql_cursor.proofs.Answering.{left_answers, right_answers}
use Rattle.ql_cursor.proofs.Sequences.{fails_neither}
use Rattle.ql_parse.proofs.create.table_or_index.Goals as goal

pub returns-then-sees_word : goal.returns-then-sees_word
returns-then-sees_word c = left_answers index_rule table_of table_or_index_of c.create_table.result (sym c.sees_word.ensures ∙ c.if-sees_word.true) c.create_table.ensures (λ a h. refl)

pub returns-then-begins_index : goal.returns-then-begins_index
returns-then-begins_index c = right_answers table_rule index_of table_or_index_of c.create_index.result (sym c.sees_word.ensures ∙ c.if-sees_word.false) (sym c.begins_index.ensures ∙ c.if-begins_index.true) c.create_index.ensures (λ a h. refl)

pub returns : goal.returns
returns c = fails_neither (sym c.sees_word.ensures ∙ c.if-sees_word.false) (sym c.begins_index.ensures ∙ c.if-begins_index.false) c.unexpected.ensures
