-- What looking up a table gives.
use Rattle.std.specs.Prelude.{◌≡◌, Option, Some, None, Result, Ok, Err}
use Rattle.std.specs.Borrow.{Bor}
use Rattle.ql_syntax.specs.Answers.{Answer}
use Rattle.ql_rel.specs.declared.schema.TableSchema.{TableSchema}
use Rattle.ql_check_expr.specs.declared.fault.CheckFault.{CheckFault}
use Rattle.ql_check_expr.specs.Gives.{Gives}

-- a table, if there is one
abbrev pub table_of : Option (Bor TableSchema) → Option TableSchema
table_of None = None
table_of (Some table) = Some table.now

-- the answer is this table, or memory ran out
abbrev pub GivesTable : Answer TableSchema → Result (Bor TableSchema) CheckFault → Type 0
GivesTable answer (Ok table) = answer ≡ Ok table.now
GivesTable answer (Err f) = Gives answer (Err f)
