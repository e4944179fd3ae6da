-- The statements behind semicolons.
use Rattle.std.specs.Prelude.{List, [], ◌∷◌, Option, Some, None}
use Rattle.ql_lex.specs.declared.marks.Mark.TheVariants as m
use Rattle.ql_syntax.specs.declared.statement.Statement.{Statement}
use Rattle.ql_syntax.specs.Rules.{Rule, the, statement, maybe, many, mark, ◌then◌}
use Rattle.ql_syntax.specs.Readings.{Parse, present}
use Rattle.ql_syntax.specs.Statements.{statement_of}

-- `{";" [Statement]}`
abbrev pub later_rule : Rule
later_rule = many (mark m.Semicolon then maybe (the statement))

-- a statement that may be empty
abbrev pub maybe_statement_of : Parse → Option Statement
maybe_statement_of (present a) = Some (statement_of a)
maybe_statement_of _ = None

-- its list
abbrev pub listed : Option Statement → List Statement
listed None = []
listed (Some s) = s ∷ []
