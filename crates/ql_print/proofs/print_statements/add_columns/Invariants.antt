use Rattle.std.proofs.Common.{◌≡◌, ◌++◌, take}
use Rattle.std.specs.Prelude.{codes, map}
use Rattle.ql_syntax.specs.Ink.{listed, text_of}
use Rattle.ql_syntax.specs.StatementPrinting.{ink_of_column}
use Rattle.ql_print.proofs.print_statements.add_columns.Given as goal

abbrev pub invariant-columns : goal.invariant-columns
invariant-columns l = l.out ≡ l.fn.out ++ codes "(" ++ text_of (listed (map ink_of_column (take l.i l.columns)))
