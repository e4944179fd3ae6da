use Rattle.std.proofs.Common.{refl, sym, ◌∙◌}
use Rattle.ql_syntax.specs.Rules.{list, name}
use Rattle.ql_syntax.specs.Readings.{absent, left_out}
use Rattle.ql_syntax.specs.Statements.{names_of}
use Rattle.ql_cursor.proofs.Answering.{part_answers, group_answers}
use Rattle.ql_parse.proofs.insert.column_names.Goals as goal

pub returns-then-not-sees_mark : goal.returns-then-not-sees_mark
returns-then-not-sees_mark c = record { parse = absent; reads = left_out (sym c.sees_mark.ensures ∙ c.if-not-sees_mark.true); means = c.new.ensures }

pub returns : goal.returns
returns c =
    part_answers names_of names_of c.in_brackets.result (sym c.sees_mark.ensures ∙ c.if-not-sees_mark.false)
    (group_answers c.args.room (list name) c.args.cursor.now c.in_brackets.new.cursor names_of names_of c.in_brackets.result c.in_brackets.ensures (λ a. refl)) (λ a h. refl)
