-- The expressions of a plan have types.
use Rattle.std.proofs.Common.{◌≡◌, ℕ, Bool, true, false, List, [], ◌∷◌, Option, Some, None, IfSome, Ok, sym, subst, ◌∙◌}
use Rattle.ql_value.specs.declared.value.Kind.{Kind}
use Rattle.ql_syntax.specs.declared.typing.Typing.{Typing}
use Rattle.ql_syntax.specs.Typing.{IsTyped, among, type_of}
use Rattle.ql_syntax.specs.declared.syntax.Expr.{Expr}
use Rattle.ql_syntax.specs.declared.syntax.Field.{Field, out-Field}
use Rattle.ql_syntax.specs.declared.typed.Typed.{Typed}
use Rattle.ql_syntax.specs.declared.checked.Checked.{Checked}
use Rattle.ql_syntax.specs.declared.scope.Scope.{Scope}
use Rattle.ql_rel.specs.declared.select.ResultField.{ResultField}
use Rattle.ql_syntax.specs.Answers.{then_with}
use Rattle.ql_syntax.specs.Checked.{require_type}
use Rattle.ql_syntax.specs.Resolving.{check_expr, plain_name}
use Rattle.ql_rel.specs.Plans.{field_name, resolve_among, resolve_if, resolve, resolve_each, result_field, written_fields}
use Rattle.ql_rel.specs.PlanTypes.{AreTyped}
use Rattle.ql_rel.proofs.Fits.{Fits, then_ok, same_ok, ruled_ok}
use Rattle.ql_rel.proofs.Places.{Stands}
use Rattle.ql_syntax.proofs.NoAggregates.{row_type}
use Rattle.ql_rel.proofs.Judged.{is_so}

-- what is said of each field is so
abbrev pub FieldsFit : Bool → List Typing → List ResultField → Type 0
FieldsFit may row [] = Unit {0}
FieldsFit may row (x ∷ fields) = Fits may row x.expr × FieldsFit may row fields

module _ (row : List Typing) (scope : Scope) (stands : Stands row scope) where
  -- an expression without aggregate has its type
  pub checked_type : (e : Expr) (c : Checked) → check_expr scope false e ≡ Ok c → IsTyped c.typing × (type_of row c.tree ≡ c.typing)
  checked_type e c a =
      let f = is_so row scope stands e false c a in
      (f.typed, sym (row_type row c.tree) ∙ f.is)

  pub tested_type : (test : Kind → Bool) (e : Expr) (tree : Typed) → resolve_among test scope e ≡ Ok tree → IsTyped (among test (type_of row tree))
  tested_type test e tree a =
      let s = then_ok (check_expr scope false e) (λ c. then_with (require_type (among test c.typing)) (λ _. Ok c.tree)) tree a in
      let m = then_ok (require_type (among test s.0.typing)) (λ _. Ok s.0.tree) tree s.2 in
      let r = ruled_ok (among test s.0.typing) m.0 m.1 in
      let c = checked_type e s.0 s.1 in
      subst (λ x. IsTyped (among test (type_of row x))) (same_ok s.0.tree tree m.2) (subst (λ u. IsTyped (among test u)) (sym c.1) r.0)

  pub tested_if_type : (test : Kind → Bool) (e : Option Expr) (tree : Option Typed) → resolve_if test scope e ≡ Ok tree → IfSome tree (λ x. IsTyped (among test (type_of row x)))
  tested_if_type test None tree a = subst (λ x. IfSome x (λ y. IsTyped (among test (type_of row y)))) (same_ok None tree a) tt
  tested_if_type test (Some e) tree a =
      let s = then_ok (resolve_among test scope e) (λ x. Ok (Some x)) tree a in
      subst (λ x. IfSome x (λ y. IsTyped (among test (type_of row y)))) (same_ok (Some s.0) tree s.2) (tested_type test e s.0 s.1)

  pub resolved_types : (es : List Expr) (trees : List Typed) → resolve_each scope es ≡ Ok trees → AreTyped (type_of row) trees
  resolved_types [] trees a = subst (AreTyped (type_of row)) (same_ok [] trees a) tt
  resolved_types (e ∷ es) trees a =
      let s = then_ok (resolve scope e) (λ x. then_with (resolve_each scope es) (λ xs. Ok (x ∷ xs))) trees a in
      let m = then_ok (resolve_each scope es) (λ xs. Ok (s.0 ∷ xs)) trees s.2 in
      let o = then_ok (check_expr scope false e) (λ c. Ok c.tree) s.0 s.1 in
      let c = checked_type e o.0 o.1 in
      let one : IsTyped (type_of row s.0) = subst (λ x. IsTyped (type_of row x)) (same_ok o.0.tree s.0 o.2) (subst IsTyped (sym c.1) c.0) in
      subst (AreTyped (type_of row)) (same_ok (s.0 ∷ m.0) trees m.2) (one, resolved_types es m.0 m.1)

  field_fits : (alias : Option (List ℕ)) (e : Expr) (x : ResultField) → result_field scope alias e ≡ Ok x → Fits true row x.expr
  field_fits alias e x a =
      let s = then_ok (check_expr scope true e) (λ c. Ok (record { name = field_name alias (plain_name e); expr = c })) x a in
      subst (λ y. Fits true row y.expr) (same_ok (record { name = field_name alias (plain_name e); expr = s.0 }) x s.2) (is_so row scope stands e true s.0 s.1)

  pub fields_fit : (fields : List Field) (list : List ResultField) → written_fields scope fields ≡ Ok list → FieldsFit true row list
  fields_fit [] list a = subst (FieldsFit true row) (same_ok [] list a) tt
  fields_fit (f ∷ fields) list a =
      let s = then_ok (result_field scope (out-Field f).alias (out-Field f).expr) (λ x. then_with (written_fields scope fields) (λ xs. Ok (x ∷ xs))) list a in
      let m = then_ok (written_fields scope fields) (λ xs. Ok (s.0 ∷ xs)) list s.2 in
      subst (FieldsFit true row) (same_ok (s.0 ∷ m.0) list m.2) (field_fits (out-Field f).alias (out-Field f).expr s.0 s.1, fields_fit fields m.0 m.1)
