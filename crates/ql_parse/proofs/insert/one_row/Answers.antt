use Rattle.std.proofs.Common.{refl}
use Rattle.ql_syntax.specs.Rules.{list, the, expr}
use Rattle.ql_syntax.specs.Statements.{row_of}
use Rattle.ql_syntax.specs.Trees.{exprs_of}
use Rattle.ql_cursor.proofs.Answering.{group_answers}
use Rattle.ql_parse.proofs.insert.one_row.Goals as goal

pub returns : goal.returns
returns c = group_answers c.args.room (list (the expr)) c.args.cursor.now c.in_brackets.new.cursor exprs_of row_of c.in_brackets.result c.in_brackets.ensures (λ a. refl)
