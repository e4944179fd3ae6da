-- What is said of each form of an expression, from what is said of its parts.
use Rattle.std.proofs.Common.{◌≡◌, ℕ, Bool, List, Option, map, sym, ap, ◌∙◌}
use Rattle.ql_value.specs.declared.operator.BinOp.{BinOp}
use Rattle.ql_value.specs.declared.operator.UnOp.{UnOp}
use Rattle.ql_value.specs.declared.value.Kind.{Kind}
use Rattle.ql_syntax.specs.declared.syntax.Expr.{Expr}
use Rattle.ql_syntax.specs.declared.syntax.Expr.TheVariants as e
use Rattle.ql_syntax.specs.declared.syntax.Expr.TheOpen.{Expr-F}
use Rattle.ql_syntax.specs.declared.syntax.Function.{Function}
use Rattle.ql_syntax.specs.declared.syntax.Link.{Link, roll-Link}
use Rattle.ql_syntax.specs.declared.syntax.Select.{Select}
use Rattle.ql_syntax.proofs.PartEquations.{by_parts, by_link_part}
use Rattle.ql_syntax.specs.declared.scope.Scope.{Scope}
use Rattle.ql_syntax.specs.Resolving.{Judged, JudgedLink, expr_step, link_step, judge, judge_link}

pub judge_of_chain : (scope : Scope) (first : Expr) (rest : List Link) → judge scope (e.Chain first rest) ≡ expr_step scope (Expr-F.Chain (judge scope first) (map (judge_link scope) rest))
judge_of_chain scope first rest = ap (judge scope) (sym (e.rolls-Chain first rest)) ∙ by_parts Judged JudgedLink (expr_step scope) link_step (Expr-F.Chain first rest)

pub judge_of_unary : (scope : Scope) (ops : List UnOp) (part : Expr) → judge scope (e.Unary ops part) ≡ expr_step scope (Expr-F.Unary ops (judge scope part))
judge_of_unary scope ops part = ap (judge scope) (sym (e.rolls-Unary ops part)) ∙ by_parts Judged JudgedLink (expr_step scope) link_step (Expr-F.Unary ops part)

pub judge_of_number : (scope : Scope) (n : ℕ) → judge scope (e.Number n) ≡ expr_step scope (Expr-F.Number n)
judge_of_number scope n = ap (judge scope) (sym (e.rolls-Number n)) ∙ by_parts Judged JudgedLink (expr_step scope) link_step (Expr-F.Number n)

pub judge_of_text : (scope : Scope) (bytes : List ℕ) → judge scope (e.Text bytes) ≡ expr_step scope (Expr-F.Text bytes)
judge_of_text scope bytes = ap (judge scope) (sym (e.rolls-Text bytes)) ∙ by_parts Judged JudgedLink (expr_step scope) link_step (Expr-F.Text bytes)

pub judge_of_truth : (scope : Scope) (truth : Bool) → judge scope (e.Truth truth) ≡ expr_step scope (Expr-F.Truth truth)
judge_of_truth scope truth = ap (judge scope) (sym (e.rolls-Truth truth)) ∙ by_parts Judged JudgedLink (expr_step scope) link_step (Expr-F.Truth truth)

pub judge_of_null : (scope : Scope) → judge scope e.Null ≡ expr_step scope Expr-F.Null
judge_of_null scope = ap (judge scope) (sym e.rolls-Null) ∙ by_parts Judged JudgedLink (expr_step scope) link_step Expr-F.Null

pub judge_of_column : (scope : Scope) (set : Option (List ℕ)) (column : List ℕ) → judge scope (e.Column set column) ≡ expr_step scope (Expr-F.Column set column)
judge_of_column scope set column = ap (judge scope) (sym (e.rolls-Column set column)) ∙ by_parts Judged JudgedLink (expr_step scope) link_step (Expr-F.Column set column)

pub judge_of_paren : (scope : Scope) (part : Expr) → judge scope (e.Paren part) ≡ expr_step scope (Expr-F.Paren (judge scope part))
judge_of_paren scope part = ap (judge scope) (sym (e.rolls-Paren part)) ∙ by_parts Judged JudgedLink (expr_step scope) link_step (Expr-F.Paren part)

pub judge_of_call : (scope : Scope) (function : Function) (star : Bool) (parts : List Expr) → judge scope (e.Call function star parts) ≡ expr_step scope (Expr-F.Call function star (map (judge scope) parts))
judge_of_call scope function star parts = ap (judge scope) (sym (e.rolls-Call function star parts)) ∙ by_parts Judged JudgedLink (expr_step scope) link_step (Expr-F.Call function star parts)

pub judge_of_convert : (scope : Scope) (kind : Kind) (part : Expr) → judge scope (e.Convert kind part) ≡ expr_step scope (Expr-F.Convert kind (judge scope part))
judge_of_convert scope kind part = ap (judge scope) (sym (e.rolls-Convert kind part)) ∙ by_parts Judged JudgedLink (expr_step scope) link_step (Expr-F.Convert kind part)

pub judge_of_in : (scope : Scope) (part : Expr) (negated : Bool) (list : List Expr) → judge scope (e.IsIn negated part list) ≡ expr_step scope (Expr-F.IsIn negated (judge scope part) (map (judge scope) list))
judge_of_in scope part negated list = ap (judge scope) (sym (e.rolls-IsIn negated part list)) ∙ by_parts Judged JudgedLink (expr_step scope) link_step (Expr-F.IsIn negated part list)

pub judge_of_in_select : (scope : Scope) (part : Expr) (negated : Bool) (query : Select) → judge scope (e.IsInSelect negated part query) ≡ expr_step scope (Expr-F.IsInSelect negated (judge scope part) tt)
judge_of_in_select scope part negated query = ap (judge scope) (sym (e.rolls-IsInSelect negated part query)) ∙ by_parts Judged JudgedLink (expr_step scope) link_step (Expr-F.IsInSelect negated part query)

pub judge_of_between : (scope : Scope) (part : Expr) (negated : Bool) (low : Expr) (high : Expr) → judge scope (e.IsBetween negated part low high) ≡ expr_step scope (Expr-F.IsBetween negated (judge scope part) (judge scope low) (judge scope high))
judge_of_between scope part negated low high = ap (judge scope) (sym (e.rolls-IsBetween negated part low high)) ∙ by_parts Judged JudgedLink (expr_step scope) link_step (Expr-F.IsBetween negated part low high)

pub judge_of_is_null : (scope : Scope) (part : Expr) (negated : Bool) → judge scope (e.IsNull negated part) ≡ expr_step scope (Expr-F.IsNull negated (judge scope part))
judge_of_is_null scope part negated = ap (judge scope) (sym (e.rolls-IsNull negated part)) ∙ by_parts Judged JudgedLink (expr_step scope) link_step (Expr-F.IsNull negated part)

pub judge_of_link : (scope : Scope) (op : BinOp) (part : Expr) → judge_link scope (roll-Link (record { op = op; part = part })) ≡ record { op = op; part = judge scope part }
judge_of_link scope op part = by_link_part Judged JudgedLink (expr_step scope) link_step (record { op = op; part = part })
