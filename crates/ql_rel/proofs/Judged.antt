-- What is said of an expression is so: its type is that of the resolved expression, where aggregates may stand and where they may not.
use Rattle.std.proofs.Common.{◌≡◌, ℕ, Bool, true, false, if◌then◌else◌, inl, inr, List, [], ◌∷◌, map, Option, None, Some, Ok, sym, subst}
use Rattle.ql_value.specs.declared.value.Kind.TheVariants as k
use Rattle.ql_value.specs.declared.value.Value.TheVariants as v
use Rattle.ql_syntax.specs.declared.syntax.Expr.{Expr, map-Expr, roll-Expr}
use Rattle.ql_syntax.specs.declared.syntax.Expr.TheOpen.{Expr-F, Link-F}
use Rattle.ql_syntax.specs.declared.syntax.Expr.TheFolds.{ind-Expr}
use Rattle.ql_syntax.specs.declared.syntax.Field.{Field}
use Rattle.ql_syntax.specs.declared.syntax.FromSet.{FromSet}
use Rattle.ql_syntax.specs.declared.syntax.Function.{Function}
use Rattle.ql_syntax.specs.declared.syntax.Join.{Join}
use Rattle.ql_syntax.specs.declared.syntax.Link.{Link, roll-Link}
use Rattle.ql_syntax.specs.declared.syntax.Select.{Select}
use Rattle.ql_syntax.specs.declared.syntax.SetSource.{SetSource}
use Rattle.ql_syntax.specs.declared.typed.Typed.TheVariants as t
use Rattle.ql_syntax.specs.declared.typing.Typing.{Typing}
use Rattle.ql_syntax.specs.declared.typing.Typing.TheVariants.{OnlyNull, OfKind}
use Rattle.ql_syntax.specs.Aggregates.{is_aggregate}
use Rattle.ql_syntax.specs.PartFolds.{fold_each}
use Rattle.ql_syntax.proofs.PartEquations.{by_parts, by_link_part}
use Rattle.ql_syntax.proofs.TypedBy.{by_constant}
use Rattle.ql_syntax.specs.declared.checked.Checked.{Checked}
use Rattle.ql_syntax.specs.declared.scope.Scope.{Scope}
use Rattle.ql_syntax.specs.Answers.{Answer, then_with, refused}
use Rattle.ql_syntax.specs.Checked.{of_type, literal_of, in_brackets}
use Rattle.ql_syntax.specs.Operands.{add_steps, apply_ops, in_list, between, null_test}
use Rattle.ql_syntax.specs.Calls.{convert_to, row_call, allowed_call}
use Rattle.ql_syntax.specs.Resolving.{Judged, JudgedLink, of_answer, expr_step, link_step, judge, judge_link, steps, answers, bare_name, id_of_part, id_call, is_id, call, text_of}
use Rattle.ql_rel.proofs.Fits.{Fits, then_ok, same_ok, known_fits, literal_fits, brackets_fit}
use Rattle.ql_rel.proofs.Chains.{chosen, EachStep, chain_fits}
use Rattle.ql_rel.proofs.Parts.{Each, prefixed_fits, in_fits, null_fits, convert_fits, call_fits}
use Rattle.ql_rel.proofs.Betweens.{between_fits, group_fits}
use Rattle.ql_rel.proofs.Places.{Stands, column_fits, id_fits, id_of_fits}

module _ (row : List Typing) (scope : Scope) (stands : Stands row scope) where
  -- what is said is so
  abbrev pub IsSo : Judged → Type 0
  IsSo j = (a : Bool) (c : Checked) → j.answer a ≡ Ok c → Fits a row c

  abbrev AreSo : List Judged → Type 0
  AreSo [] = Unit {0}
  AreSo (j ∷ js) = IsSo j × AreSo js

  abbrev LinksAreSo : List JudgedLink → Type 0
  LinksAreSo [] = Unit {0}
  LinksAreSo (l ∷ ls) = IsSo l.part × LinksAreSo ls

  each_answer : (a : Bool) (js : List Judged) (cs : List Checked) → AreSo js → answers a js ≡ Ok cs → Each a row cs
  each_answer a [] cs h e = subst (Each a row) (same_ok [] cs e) tt
  each_answer a (j ∷ js) cs h e =
      let s = then_ok (j.answer a) (λ x. then_with (answers a js) (λ xs. Ok (x ∷ xs))) cs e in
      let m = then_ok (answers a js) (λ xs. Ok (s.0 ∷ xs)) cs s.2 in
      subst (Each a row) (same_ok (s.0 ∷ m.0) cs m.2) (h.0 a s.0 s.1, each_answer a js m.0 h.1 m.1)

  each_step : (a : Bool) (ls : List JudgedLink) → LinksAreSo ls → EachStep a row (steps a ls)
  each_step a [] h = tt
  each_step a (l ∷ ls) h = (λ c e. h.0 a c e, each_step a ls h.1)

  chain_is_so : (first : Judged) (ls : List JudgedLink) → IsSo first → LinksAreSo ls → IsSo (expr_step scope (Expr-F.Chain first ls))
  chain_is_so first ls h k a c e =
      let s = then_ok (first.answer a) (λ x. add_steps x (steps a ls)) c e in
      chain_fits a row s.0 c (steps a ls) (h a s.0 s.1) (each_step a ls k) s.2

  part_of_id : (a : Bool) (name : Option (List ℕ)) (part : Answer Checked) (c : Checked) → id_of_part scope name part ≡ Ok c → Fits a row c
  part_of_id a (Some name) part c e = id_of_fits a row scope stands name c e
  part_of_id a None part c e = let s = then_ok part (λ x. refused 5) c e in absurd (let f = s.2 in cc)

  id_is_so : (a : Bool) (js : List Judged) (c : Checked) → id_call scope a js ≡ Ok c → Fits a row c
  id_is_so a [] c e = id_fits a row scope stands c e
  id_is_so a (j ∷ []) c e = part_of_id a (bare_name j.ref) (j.answer a) c e
  id_is_so a (i ∷ j ∷ js) c e = let s = then_ok (answers a (i ∷ j ∷ js)) (λ x. refused 6) c e in absurd (let f = s.2 in cc)

  allowed_fits : (a : Bool) (function : Function) (cs : List Checked) (c : Checked) → Each false row cs → allowed_call a function cs ≡ Ok c → Fits a row c
  allowed_fits true function cs c h e = group_fits row function cs c h e
  allowed_fits false function cs c h e = absurd (cc)

  call_is_so : (function : Function) (js : List Judged) → AreSo js → IsSo (of_answer (λ a. call scope a function js))
  call_is_so function js h a c e =
      elim (chosen (is_id function) (id_call scope a js) (if is_aggregate function then then_with (answers false js) (allowed_call a function) else then_with (answers a js) (row_call function)) c e) [
        | inl x ↦ id_is_so a js c x.1
        | inr x ↦ elim (chosen (is_aggregate function) (then_with (answers false js) (allowed_call a function)) (then_with (answers a js) (row_call function)) c x.1) [
          | inl y ↦
              let s = then_ok (answers false js) (allowed_call a function) c y.1 in
              allowed_fits a function s.0 c (each_answer false js s.0 h s.1) s.2
          | inr y ↦
              let s = then_ok (answers a js) (row_call function) c y.1 in
              call_fits a row function s.0 c (each_answer a js s.0 h s.1) s.2
        ]
      ]

  abbrev Part : Type 0
  Part = (e : Expr) × IsSo (judge scope e)

  abbrev LinkPart : Type 0
  LinkPart = (l : Link) × IsSo (judge_link scope l).part

  abbrev Layer : Type 0
  Layer = Expr-F Part (SetSource × Unit {0}) (Field × Unit {0}) (FromSet × Unit {0}) (Join × Unit {0}) LinkPart (Select × Unit {0})

  abbrev bare_layer : Layer → Expr-F Expr SetSource Field FromSet Join Link Select
  bare_layer = map-Expr Part (SetSource × Unit {0}) (Field × Unit {0}) (FromSet × Unit {0}) (Join × Unit {0}) LinkPart (Select × Unit {0}) Expr SetSource Field FromSet Join Link Select (λ p. p.0) (λ p. p.0) (λ p. p.0) (λ p. p.0) (λ p. p.0) (λ p. p.0) (λ p. p.0)

  parts_are_so : (parts : List Part) → AreSo (map (judge scope) (map (λ p. p.0) parts))
  parts_are_so [] = tt
  parts_are_so (p ∷ parts) = (p.1, parts_are_so parts)

  links_are_so : (links : List LinkPart) → LinksAreSo (map (judge_link scope) (map (λ l. l.0) links))
  links_are_so [] = tt
  links_are_so (l ∷ links) = (l.1, links_are_so links)

  by_layer : (z : Expr-F Expr SetSource Field FromSet Join Link Select) → IsSo (expr_step scope (fold_each Judged JudgedLink (judge scope) (judge_link scope) z)) → IsSo (judge scope (roll-Expr z))
  by_layer z h = subst IsSo (sym (by_parts Judged JudgedLink (expr_step scope) link_step z)) h

  constant_is_so : (d : Checked) → ((a : Bool) → Fits a row d) → IsSo (of_answer (λ a. Ok d))
  constant_is_so d f a c e = subst (Fits a row) (same_ok d c e) (f a)

  -- one expression, of whose parts what is said is so
  layer : (y : Layer) → IsSo (judge scope (roll-Expr (bare_layer y)))
  layer (Expr-F.Chain first rest) = by_layer (Expr-F.Chain first.0 (map (λ l. l.0) rest)) (chain_is_so (judge scope first.0) (map (judge_link scope) (map (λ l. l.0) rest)) first.1 (links_are_so rest))
  layer (Expr-F.Unary ops part) = by_layer (Expr-F.Unary ops part.0) (λ a c e.
      let s = then_ok ((judge scope part.0).answer a) (apply_ops ops) c e in
      prefixed_fits a row ops s.0 c (part.1 a s.0 s.1) s.2)
  layer (Expr-F.Number n) = by_layer (Expr-F.Number n) (constant_is_so (literal_of (record { minus = false; size = n })) (λ a. literal_fits a row (record { minus = false; size = n })))
  layer (Expr-F.Text bytes) = by_layer (Expr-F.Text bytes) (constant_is_so (text_of bytes) (λ a. known_fits a row (OfKind k.Text) (t.Constant (v.Text bytes)) tt (by_constant a row (v.Text bytes))))
  layer (Expr-F.Truth truth) = by_layer (Expr-F.Truth truth) (constant_is_so (of_type (OfKind k.Bool) (t.Constant (v.Bool truth))) (λ a. known_fits a row (OfKind k.Bool) (t.Constant (v.Bool truth)) tt (by_constant a row (v.Bool truth))))
  layer Expr-F.Null = by_layer Expr-F.Null (constant_is_so (of_type OnlyNull (t.Constant v.Null)) (λ a. known_fits a row OnlyNull (t.Constant v.Null) tt (by_constant a row v.Null)))
  layer (Expr-F.Column set column) = by_layer (Expr-F.Column set column) (λ a c e. column_fits a row scope stands set column c e)
  layer (Expr-F.Paren part) = by_layer (Expr-F.Paren part.0) (λ a c e.
      let s = then_ok ((judge scope part.0).answer a) (λ x. Ok (in_brackets x)) c e in
      subst (Fits a row) (same_ok (in_brackets s.0) c s.2) (brackets_fit a row s.0 (part.1 a s.0 s.1)))
  layer (Expr-F.Call function star parts) = by_layer (Expr-F.Call function star (map (λ p. p.0) parts)) (call_is_so function (map (judge scope) (map (λ p. p.0) parts)) (parts_are_so parts))
  layer (Expr-F.Convert kind part) = by_layer (Expr-F.Convert kind part.0) (λ a c e.
      let s = then_ok ((judge scope part.0).answer a) (convert_to kind) c e in
      convert_fits a row kind s.0 c (part.1 a s.0 s.1) s.2)
  layer (Expr-F.IsIn negated part list) = by_layer (Expr-F.IsIn negated part.0 (map (λ p. p.0) list)) (λ a c e.
      let js = map (judge scope) (map (λ p. p.0) list) in
      let s = then_ok ((judge scope part.0).answer a) (λ x. then_with (answers a js) (in_list negated x)) c e in
      let m = then_ok (answers a js) (in_list negated s.0) c s.2 in
      in_fits a row negated s.0 m.0 c (part.1 a s.0 s.1) (each_answer a js m.0 (parts_are_so list) m.1) m.2)
  layer (Expr-F.IsInSelect negated part query) = by_layer (Expr-F.IsInSelect negated part.0 query.0) (λ a c e.
      let s = then_ok ((judge scope part.0).answer a) (λ x. refused 10) c e in absurd (let f = s.2 in cc))
  layer (Expr-F.IsBetween negated part low high) = by_layer (Expr-F.IsBetween negated part.0 low.0 high.0) (λ a c e.
      let s = then_ok ((judge scope part.0).answer a) (λ x. then_with ((judge scope low.0).answer a) (λ y. then_with ((judge scope high.0).answer a) (between negated x y))) c e in
      let l = then_ok ((judge scope low.0).answer a) (λ y. then_with ((judge scope high.0).answer a) (between negated s.0 y)) c s.2 in
      let h = then_ok ((judge scope high.0).answer a) (between negated s.0 l.0) c l.2 in
      between_fits a row negated s.0 l.0 h.0 c (part.1 a s.0 s.1) (low.1 a l.0 l.1) (high.1 a h.0 h.1) h.2)
  layer (Expr-F.IsNull negated part) = by_layer (Expr-F.IsNull negated part.0) (λ a c e.
      let s = then_ok ((judge scope part.0).answer a) (λ x. Ok (null_test negated x)) c e in
      subst (Fits a row) (same_ok (null_test negated s.0) c s.2) (null_fits a row negated s.0 (part.1 a s.0 s.1)))

  link_is_so : (z : Link-F Expr SetSource Field FromSet Join Link Select) → IsSo (judge scope z.part) → IsSo (judge_link scope (roll-Link z)).part
  link_is_so z h = subst (λ l. IsSo l.part) (sym (by_link_part Judged JudgedLink (expr_step scope) link_step z)) h

  -- what is said of an expression is so
  pub is_so : (e : Expr) → IsSo (judge scope e)
  is_so = ind-Expr (λ e. IsSo (judge scope e)) (λ _. Unit {0}) (λ _. Unit {0}) (λ _. Unit {0}) (λ _. Unit {0}) (λ l. IsSo (judge_link scope l).part) (λ _. Unit {0})
      (λ x y is. subst (λ z. IsSo (judge scope (roll-Expr z))) is (layer y)) (λ x y is. tt) (λ x y is. tt) (λ x y is. tt) (λ x y is. tt)
      (λ x y is. subst (λ z. IsSo (judge_link scope (roll-Link z)).part) is (link_is_so _ y.part.1)) (λ x y is. tt)
