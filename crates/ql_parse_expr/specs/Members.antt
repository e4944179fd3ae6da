-- The members of an IN.
use Rattle.std.specs.Prelude.{[]}
use Rattle.ql_parse_expr.specs.declared.members.Members.{Members}
use Rattle.ql_parse_expr.specs.declared.members.Members.TheVariants as m
use Rattle.ql_syntax.specs.declared.syntax.Select.{Select}
use Rattle.ql_syntax.specs.Readings.{Parse, pair, left, right}
use Rattle.ql_syntax.specs.Trees.{exprs_of, select_of}

-- the SELECT of a subselect
abbrev pub subselect_of : Parse → Select
subselect_of (pair q _) = select_of q
subselect_of a = select_of a

-- expressions, or a SELECT
abbrev pub members_of : Parse → Members
members_of (left a) = m.Listed (exprs_of a)
members_of (right a) = m.Query (subselect_of a)
members_of _ = m.Listed []
