use Rattle.std.proofs.Common.{append_assoc}
use Rattle.ql_print.proofs.print_statements.add_delete.Goals as goal

pub returns-clause-ok : goal.returns-clause-ok
returns-clause-ok c =
    rw (c.in_ok-add_filter.ensures.ok, c.in_ok-put-2.ensures.ok, c.as_slice.ensures.value, c.in_ok-put.ensures.ok) (simp append_assoc)
