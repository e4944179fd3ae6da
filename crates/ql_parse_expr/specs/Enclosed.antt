-- What the grammar has in brackets, and what it means.
use Rattle.std.specs.Prelude.{Bool, true, false, List, []}
use Rattle.ql_lex.specs.declared.marks.Mark.TheVariants as m
use Rattle.ql_parse_expr.specs.declared.members.Members.{Members}
use Rattle.ql_syntax.specs.declared.syntax.Expr.{Expr}
use Rattle.ql_syntax.specs.declared.syntax.Expr.TheVariants as e
use Rattle.ql_syntax.specs.declared.syntax.Function.{Function}
use Rattle.ql_syntax.specs.declared.syntax.Function.TheVariants as f
use Rattle.ql_syntax.specs.declared.syntax.Select.{Select}
use Rattle.ql_parse_expr.specs.Members.{members_of, subselect_of}
use Rattle.ql_cursor.specs.Parts.{PartOf}
use Rattle.ql_syntax.specs.Readings.{Parse, left, present}
use Rattle.ql_syntax.specs.Rules.{the, expr, list, maybe, mark, ◌or◌}
use Rattle.ql_syntax.specs.Rules as rule
use Rattle.ql_syntax.specs.Trees.{expr_of, exprs_of}

-- whether `*` stands in a call of count, and the parts
abbrev pub count_parts_of : Parse → Bool × List Expr
count_parts_of (present (left a)) = (true, [])
count_parts_of a = (false, exprs_of a)

-- a call of count
abbrev pub count_call_of : Parse → Expr
count_call_of a = e.Call f.Count (count_parts_of a).0 (count_parts_of a).1

-- a call of another function
abbrev pub call_of : Function → Parse → Expr
call_of function a = e.Call function false (exprs_of a)

-- an expression
abbrev pub inner_expr : PartOf Expr
inner_expr = record { rule = the expr; tree = expr_of }

-- the parts of a call
abbrev pub parts : PartOf (List Expr)
parts = record { rule = maybe (list (the expr)); tree = exprs_of }

-- what stands in a call of count
abbrev pub count_parts : PartOf (Bool × List Expr)
count_parts = record { rule = maybe (mark m.Star or list (the expr)); tree = count_parts_of }

-- the members of an IN
abbrev pub members : PartOf Members
members = record { rule = list (the expr) or rule.subselect; tree = members_of }

-- a subselect
abbrev pub subselect : PartOf Select
subselect = record { rule = rule.subselect; tree = subselect_of }
