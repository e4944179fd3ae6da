use Rattle.std.proofs.Common.{◌∷◌, append_assoc}
use Rattle.ql_syntax.specs.Ink.{space}
use Rattle.ql_syntax.specs.StatementPrinting.{ink_of_names, ink_of_rows}
use Rattle.ql_print.proofs.Growth.{grow_on, text_append}
use Rattle.ql_print.proofs.print_statements.add_insert.Goals as goal

pub returns-clause-ok : goal.returns-clause-ok
returns-clause-ok c =
    rw (
      c.in_ok-add_row_source.ensures.ok,
      c.in_ok-put-3.ensures.ok,
      c.in_ok-add_names.ensures.ok,
      c.in_ok-put-2.ensures.ok,
      c.as_slice.ensures.value,
      c.in_ok-put.ensures.ok,
      text_append (ink_of_names c.args.columns.now) (space ∷ ink_of_rows c.args.source.now),
    )
    (simp append_assoc)

pub returns-clause-grows : goal.returns-clause-grows
returns-clause-grows c =
    grow_on c.put.ensures.grows (grow_on c.put-2.ensures.grows (grow_on c.add_names.ensures.grows (grow_on c.put-3.ensures.grows c.add_row_source.ensures.grows)))
