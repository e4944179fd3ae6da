-- The type of an expression in a scope, and the resolved expression; or the first refusal. All refusals of a part come before those of the expression that holds it.
use Rattle.std.specs.Prelude.{ℕ, Bool, true, false, if◌then◌else◌, List, [], ◌∷◌, map, Option, Some, None, Ok}
use Rattle.ql_syntax.specs.Aggregates.{is_aggregate}
use Rattle.ql_syntax.specs.PartFolds.{Parts, LinkParts, fold_parts, fold_link_parts}
use Rattle.ql_value.specs.declared.operator.BinOp.{BinOp}
use Rattle.ql_value.specs.declared.refusal.TheConstants.{TYPE, COUNT, LATER}
use Rattle.ql_value.specs.declared.value.Kind.TheVariants as k
use Rattle.ql_value.specs.declared.value.Value.TheVariants as v
use Rattle.ql_syntax.specs.declared.syntax.Expr.{Expr, out-Expr}
use Rattle.ql_syntax.specs.declared.syntax.Expr.TheOpen.{Expr-F}
use Rattle.ql_syntax.specs.declared.syntax.Field.{Field}
use Rattle.ql_syntax.specs.declared.syntax.FromSet.{FromSet}
use Rattle.ql_syntax.specs.declared.syntax.Function.{Function}
use Rattle.ql_syntax.specs.declared.syntax.Function.TheVariants as f
use Rattle.ql_syntax.specs.declared.syntax.Join.{Join}
use Rattle.ql_syntax.specs.declared.syntax.Link.{Link}
use Rattle.ql_syntax.specs.declared.syntax.Select.{Select}
use Rattle.ql_syntax.specs.declared.syntax.SetSource.{SetSource}
use Rattle.ql_syntax.specs.declared.typed.Typed.TheVariants as t
use Rattle.ql_syntax.specs.declared.typing.Typing.TheVariants.{OnlyNull, OfKind}
use Rattle.ql_syntax.specs.declared.checked.Checked.{Checked}
use Rattle.ql_syntax.specs.declared.scope.Scope.{Scope}
use Rattle.ql_syntax.specs.declared.scope.RowPlace.{RowPlace}
use Rattle.ql_syntax.specs.Answers.{Answer, refused, then_with, all_of}
use Rattle.ql_syntax.specs.Scopes.{column_place, id_place, id_place_of}
use Rattle.ql_syntax.specs.Checked.{of_type, literal_of, in_brackets}
use Rattle.ql_syntax.specs.Operands.{Step, add_steps, apply_ops, in_list, between, null_test}
use Rattle.ql_syntax.specs.Calls.{convert_to, row_call, allowed_call}

-- a plain name, `c` or `T.c`
pub record Ref : Type 0 where
  pub set : Option (List ℕ)
  pub column : List ℕ

-- the plain name that an expression is, if it is one; and the answer for it, by whether an aggregate may stand there
pub record Judged : Type 0 where
  pub ref : Option Ref
  pub answer : Bool → Answer Checked

-- an operator of a chain, and the part behind it
pub record JudgedLink : Type 0 where
  pub op : BinOp
  pub part : Judged

-- the plain name that an expression is, by itself
abbrev pub ref_of : Expr-F Expr SetSource Field FromSet Join Link Select → Option Ref
ref_of (Expr-F.Column set column) = Some (record { set = set; column = column })
ref_of _ = None

abbrev pub plain_name : Expr → Option Ref
plain_name e = ref_of (out-Expr e)

-- an expression that is no plain name
abbrev pub of_answer : (Bool → Answer Checked) → Judged
of_answer answer = record { ref = None; answer = answer }

-- a part with its kind, at a place of the row
abbrev pub at_place : Answer RowPlace → Answer Checked
at_place place = then_with place (λ p. Ok (of_type p.typing (t.Place p.at)))

-- the answers for parts
abbrev pub answers : Bool → List Judged → Answer (List Checked)
answers aggregates parts = all_of (map (λ part. part.answer aggregates) parts)

-- the steps of a chain
abbrev pub step_of : Bool → JudgedLink → Step
step_of aggregates l = record { op = l.op; part = l.part.answer aggregates }

abbrev pub steps : Bool → List JudgedLink → List Step
steps aggregates links = map (step_of aggregates) links

-- the name without a table that an expression is
abbrev pub bare : Option (List ℕ) → List ℕ → Option (List ℕ)
bare None name = Some name
bare (Some set) name = None

abbrev pub bare_name : Option Ref → Option (List ℕ)
bare_name (Some r) = bare r.set r.column
bare_name None = None

-- `id(T)` of a record set's name; another part is 5
abbrev pub id_of_part : Scope → Option (List ℕ) → Answer Checked → Answer Checked
id_of_part scope (Some name) part = at_place (id_place_of scope name)
id_of_part scope None part = then_with part (λ _. refused TYPE)

-- `id()` and `id(T)`; several parts are 6
abbrev pub id_call : Scope → Bool → List Judged → Answer Checked
id_call scope aggregates [] = at_place (id_place scope)
id_call scope aggregates (part ∷ []) = id_of_part scope (bare_name part.ref) (part.answer aggregates)
id_call scope aggregates parts = then_with (answers aggregates parts) (λ _. refused COUNT)

-- the function is id
abbrev pub is_id : Function → Bool
is_id f.Id = true
is_id _ = false

-- the call of a function; no aggregate may stand inside another
abbrev pub call : Scope → Bool → Function → List Judged → Answer Checked
call scope aggregates function parts =
    if is_id function then id_call scope aggregates parts
    else (if is_aggregate function then then_with (answers false parts) (allowed_call aggregates function)
    else then_with (answers aggregates parts) (row_call function))

-- a string
abbrev pub text_of : List ℕ → Checked
text_of bytes = of_type (OfKind k.Text) (t.Constant (v.Text bytes))

-- an expression of one layer, from the answers for its parts
abbrev pub expr_step : Scope → Parts Judged JudgedLink → Judged
expr_step scope (Expr-F.Chain first rest) = of_answer (λ a. then_with (first.answer a) (λ c. add_steps c (steps a rest)))
expr_step scope (Expr-F.Unary ops part) = of_answer (λ a. then_with (part.answer a) (apply_ops ops))
expr_step scope (Expr-F.Number n) = of_answer (λ a. Ok (literal_of (record { minus = false; size = n })))
expr_step scope (Expr-F.Text bytes) = of_answer (λ a. Ok (text_of bytes))
expr_step scope (Expr-F.Truth truth) = of_answer (λ a. Ok (of_type (OfKind k.Bool) (t.Constant (v.Bool truth))))
expr_step scope Expr-F.Null = of_answer (λ a. Ok (of_type OnlyNull (t.Constant v.Null)))
expr_step scope (Expr-F.Column set column) = record { ref = Some (record { set = set; column = column }); answer = λ a. at_place (column_place scope set column) }
expr_step scope (Expr-F.Paren part) = of_answer (λ a. then_with (part.answer a) (λ c. Ok (in_brackets c)))
expr_step scope (Expr-F.Call function star parts) = of_answer (λ a. call scope a function parts)
expr_step scope (Expr-F.Convert kind part) = of_answer (λ a. then_with (part.answer a) (convert_to kind))
expr_step scope (Expr-F.IsIn negated part list) = of_answer (λ a. then_with (part.answer a) (λ c. then_with (answers a list) (in_list negated c)))
expr_step scope (Expr-F.IsInSelect negated part query) = of_answer (λ a. then_with (part.answer a) (λ c. refused LATER))
expr_step scope (Expr-F.IsBetween negated part low high) =
    of_answer (λ a. then_with (part.answer a) (λ c. then_with (low.answer a) (λ x. then_with (high.answer a) (between negated c x))))
expr_step scope (Expr-F.IsNull negated part) = of_answer (λ a. then_with (part.answer a) (λ c. Ok (null_test negated c)))

-- an operator of a chain and the part behind it
abbrev pub link_step : LinkParts Judged JudgedLink → JudgedLink
link_step l = record { op = l.op; part = l.part }

-- what is said of an expression in a scope
abbrev pub judge : Scope → Expr → Judged
judge scope = fold_parts Judged JudgedLink (expr_step scope) link_step

-- the same of a link of a chain
abbrev pub judge_link : Scope → Link → JudgedLink
judge_link scope = fold_link_parts Judged JudgedLink (expr_step scope) link_step

-- what is known of an expression in a scope, or its first refusal; the truth says whether an aggregate may stand there
abbrev pub check_expr : Scope → Bool → Expr → Answer Checked
check_expr scope aggregates e = (judge scope e).answer aggregates
