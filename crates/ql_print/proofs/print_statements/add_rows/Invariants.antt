use Rattle.std.proofs.Common.{◌≡◌, ◌++◌, take}
use Rattle.std.specs.Prelude.{map}
use Rattle.ql_syntax.specs.Ink.{listed, text_of}
use Rattle.ql_syntax.specs.StatementPrinting.{ink_of_row}
use Rattle.ql_print.proofs.print_statements.add_rows.Given as goal

abbrev pub invariant-rows : goal.invariant-rows
invariant-rows l = l.out ≡ l.fn.out ++ text_of (listed (map ink_of_row (take l.i l.rows)))
