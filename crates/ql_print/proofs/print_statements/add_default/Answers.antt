use Rattle.std.proofs.Common.{append_assoc}
use Rattle.ql_print.proofs.print_statements.add_default.Goals as goal

pub returns-in_ok-add_expr-in-Some-clause-ok : goal.returns-in_ok-add_expr-in-Some-clause-ok
returns-in_ok-add_expr-in-Some-clause-ok c =
    rw (c.in_ok-add_expr-in-Some.ensures.ok, c.in_ok-put-in-Some.ensures.ok, c.get.ensures, c.in-Some.is) (simp append_assoc)
