-- The predicates behind a part, one by one.
use Rattle.std.specs.Prelude.{Bool}
use Rattle.ql_lex.specs.declared.words.Word.TheVariants as w
use Rattle.ql_parse_expr.specs.declared.members.Members.{Members}
use Rattle.ql_parse_expr.specs.declared.members.Members.TheVariants as m
use Rattle.ql_syntax.specs.declared.syntax.Expr.{Expr}
use Rattle.ql_syntax.specs.declared.syntax.Expr.TheVariants as e
use Rattle.ql_parse_expr.specs.Members.{members_of}
use Rattle.ql_syntax.specs.Readings.{Parse, pair, left, right, group}
use Rattle.ql_syntax.specs.Rules.{Rule, the, expr, sum, word, maybe, list, bracketed, subselect, ◌then◌, ◌or◌}
use Rattle.ql_syntax.specs.Trees.{expr_of, is_present}

-- `IS [NOT] NULL`
abbrev pub null_rule : Rule
null_rule = word w.Is then maybe (word w.Not) then word w.Null

abbrev pub null_of : Expr → Parse → Expr
null_of part (pair _ (pair n _)) = e.IsNull (is_present n) part
null_of part _ = part

-- `IN "(" (list(Expr) | Select [";"]) ")"`
abbrev pub member_rule : Rule
member_rule = word w.In then bracketed (list (the expr) or subselect)

abbrev pub among : Expr → Bool → Members → Expr
among part negated (m.Listed list) = e.IsIn negated part list
among part negated (m.Query query) = e.IsInSelect negated part query

abbrev pub member_of : Expr → Bool → Parse → Expr
member_of part negated (pair _ (group a)) = among part negated (members_of a)
member_of part negated _ = part

-- `BETWEEN Sum AND Sum`
abbrev pub range_rule : Rule
range_rule = word w.Between then the sum then word w.And then the sum

abbrev pub range_of : Expr → Bool → Parse → Expr
range_of part negated (pair _ (pair low (pair _ high))) = e.IsBetween negated part (expr_of low) (expr_of high)
range_of part negated _ = part

-- `[NOT] IN ..` or `[NOT] BETWEEN ..`
abbrev pub membership_rule : Rule
membership_rule = maybe (word w.Not) then (member_rule or range_rule)

abbrev pub membership_of : Expr → Parse → Expr
membership_of part (pair n (left a)) = member_of part (is_present n) a
membership_of part (pair n (right a)) = range_of part (is_present n) a
membership_of part _ = part
