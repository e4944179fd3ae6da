use Rattle.std.proofs.Common.{◌≡◌, ◌++◌, take}
use Rattle.std.specs.Prelude.{map}
use Rattle.ql_syntax.specs.Ink.{listed, text_of}
use Rattle.ql_syntax.specs.StatementPrinting.{ink_of_assign}
use Rattle.ql_print.proofs.print_statements.add_assigns.Given as goal

abbrev pub invariant-assigns : goal.invariant-assigns
invariant-assigns l = l.out ≡ l.fn.out ++ text_of (listed (map ink_of_assign (take l.i l.assigns)))
