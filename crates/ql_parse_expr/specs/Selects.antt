-- The parts of a SELECT, one by one.
use Rattle.std.specs.Prelude.{Bool, true, false, List, Option, Some, None}
use Rattle.ql_lex.specs.declared.marks.Mark.TheVariants as m
use Rattle.ql_lex.specs.declared.words.Word.TheVariants as w
use Rattle.ql_syntax.specs.declared.syntax.Expr.{Expr}
use Rattle.ql_syntax.specs.declared.syntax.Expr.TheVariants as e
use Rattle.ql_parse_expr.specs.declared.from.Sources.{Sources}
use Rattle.ql_parse_expr.specs.declared.select.Tail.{Tail}
use Rattle.ql_syntax.specs.declared.syntax.Join.{Join, roll-Join}
use Rattle.ql_syntax.specs.declared.syntax.Side.TheVariants as side
use Rattle.ql_syntax.specs.Rules.{Rule, the, expr, ref, set, word, mark, name, maybe, list, filter, join, subselect, bracketed, ◌then◌, ◌or◌}
use Rattle.ql_syntax.specs.Readings.{Parse, pair, right, present}
use Rattle.ql_syntax.specs.Trees.{expr_of, set_of, side_of, sets_of, join_of, option_of, behind_by, is_descending}

-- `[AS name]`
abbrev pub alias_rule : Rule
alias_rule = maybe (word w.As then name)

-- `Expr [AS name]`
abbrev pub field_rule : Rule
field_rule = the expr then maybe (word w.As then name)

-- `"*" | list(Expr [AS name])`
abbrev pub fields_rule : Rule
fields_rule = mark m.Star or list (the expr then maybe (word w.As then name))

-- `name | "(" Select [";"] ")"`
abbrev pub source_rule : Rule
source_rule = name or bracketed subselect

-- `LEFT | RIGHT | FULL`
abbrev pub side_rule : Rule
side_rule = word w.Left or word w.Right or word w.Full

-- a join
abbrev pub one_join_of : Parse → Join
one_join_of (pair s (pair _ (pair _ (pair a (pair _ on))))) = roll-Join (record { side = side_of s; set = set_of a; on = expr_of on })
one_join_of a = roll-Join (record { side = side.Full; set = set_of a; on = e.Null })

-- a join, or nothing
abbrev pub maybe_join_of : Parse → Option Join
maybe_join_of (present a) = Some (one_join_of a)
maybe_join_of _ = None

-- `[FROM list(Set) [Join]]`
abbrev pub from_rule : Rule
from_rule = maybe (word w.From then list (the set) then maybe join)

abbrev pub from_of : Parse → Sources
from_of a = record { sets = sets_of a; join = join_of a }

-- `[GROUP BY list(Ref)]`
abbrev pub group_rule : Rule
group_rule = maybe (word w.Group then word w.By then list (the ref))

-- `[ASC | DESC]`
abbrev pub direction_rule : Rule
direction_rule = maybe (word w.Asc or word w.Desc)

abbrev pub direction_of : Parse → Bool
direction_of (present (right a)) = true
direction_of _ = false

-- `[ORDER BY list(Expr) [ASC | DESC]]`
abbrev pub order_rule : Rule
order_rule = maybe (word w.Order then word w.By then list (the expr) then maybe (word w.Asc or word w.Desc))

abbrev pub order_of : Parse → List Expr × Bool
order_of a = (behind_by a, is_descending a)

-- `[LIMIT Expr] [OFFSET Expr]`
abbrev pub limits_rule : Rule
limits_rule = maybe (word w.Limit then the expr) then maybe (word w.Offset then the expr)

abbrev pub limits_of : Parse → Option Expr × Option Expr
limits_of (pair a b) = (option_of a, option_of b)
limits_of _ = (None, None)

-- the order and the limits
abbrev pub ending_rule : Rule
ending_rule = order_rule then limits_rule

abbrev pub ending_of : Parse → (List Expr × Bool) × (Option Expr × Option Expr)
ending_of (pair a b) = (order_of a, limits_of b)
ending_of a = (order_of a, limits_of a)

-- `[WHERE Expr]`, the groups, the order and the limits
abbrev pub tail_rule : Rule
tail_rule = maybe filter then group_rule then ending_rule

abbrev pub tail_of : Parse → Tail
tail_of (pair a (pair b c)) = record { filter = option_of a; groups = behind_by b; ending = ending_of c }
tail_of a = record { filter = option_of a; groups = behind_by a; ending = ending_of a }
