use Rattle.std.proofs.Common.{◌∷◌, append_assoc}
use Rattle.std.specs.Prelude.{map}
use Rattle.ql_syntax.specs.Ink.{bracketed, listed, name, space}
use Rattle.ql_syntax.specs.StatementPrinting.{ink_of_column, ink_of_if_not_exists}
use Rattle.ql_print.proofs.Growth.{grow_on, text_append}
use Rattle.ql_print.proofs.print_statements.add_create_table.Goals as goal

pub returns-clause-ok : goal.returns-clause-ok
returns-clause-ok c =
    rw (
      c.in_ok-add_columns.ensures.ok,
      c.in_ok-put-4.ensures.ok,
      c.in_ok-put-3.ensures.ok,
      c.as_slice.ensures.value,
      c.in_ok-put-2.ensures.ok,
      c.if_not_exists_bytes.ensures,
      c.in_ok-put.ensures.ok,
      text_append (ink_of_if_not_exists c.args.quiet) (name c.args.table.now ∷ space ∷ bracketed (listed (map ink_of_column c.args.columns.now))),
    )
    (simp append_assoc)

pub returns-clause-grows : goal.returns-clause-grows
returns-clause-grows c =
    grow_on c.put.ensures.grows (grow_on c.put-2.ensures.grows (grow_on c.put-3.ensures.grows (grow_on c.put-4.ensures.grows c.add_columns.ensures.grows)))
