use Rattle.std.proofs.Common.{append_assoc}
use Rattle.std.specs.Prelude.{map}
use Rattle.ql_lex.specs.declared.words.Word.TheVariants as w
use Rattle.ql_syntax.specs.Ink.{listed}
use Rattle.ql_syntax.specs.Printing.{behind}
use Rattle.ql_syntax.specs.StatementPrinting.{ink_of_assign, ink_of_option}
use Rattle.ql_print.proofs.Growth.{grow_on, text_append}
use Rattle.ql_print.proofs.print_statements.add_update.Goals as goal

pub returns-clause-ok : goal.returns-clause-ok
returns-clause-ok c =
    rw (
      c.in_ok-add_filter.ensures.ok,
      c.in_ok-add_assigns.ensures.ok,
      c.in_ok-put-3.ensures.ok,
      c.in_ok-put-2.ensures.ok,
      c.as_slice.ensures.value,
      c.in_ok-put.ensures.ok,
      text_append (listed (map ink_of_assign c.args.sets.now)) (behind w.Where (ink_of_option c.args.filter.now)),
    )
    (simp append_assoc)

pub returns-clause-grows : goal.returns-clause-grows
returns-clause-grows c =
    grow_on c.put.ensures.grows (grow_on c.put-2.ensures.grows (grow_on c.put-3.ensures.grows (grow_on c.add_assigns.ensures.grows c.add_filter.ensures.grows)))
