-- A well typed expression comes to a value of its type, or to a refusal.
use Rattle.std.proofs.Common.{◌≡◌, ℕ, Bool, true, false, if◌then◌else◌, List, [], ◌∷◌, map, Result, Ok, Err, IfOk, refl, sym, ap, subst, ◌∙◌}
use Rattle.ql_value.specs.declared.operator.BinOp.TheVariants as op
use Rattle.ql_value.specs.declared.operator.UnOp.{UnOp}
use Rattle.ql_value.specs.declared.value.Kind.{Kind}
use Rattle.ql_value.specs.declared.value.Kind.TheVariants as k
use Rattle.ql_value.specs.declared.value.Value.{Value}
use Rattle.ql_value.specs.declared.value.Value.TheVariants as v
use Rattle.ql_value.specs.Number.{HasKind}
use Rattle.ql_syntax.specs.declared.syntax.Function.{Function}
use Rattle.ql_syntax.specs.declared.syntax.Function.TheVariants as f
use Rattle.ql_syntax.specs.declared.typed.Typed.{Typed, map-Typed}
use Rattle.ql_syntax.specs.declared.typed.TypedLink.{TypedLink}
use Rattle.ql_syntax.specs.declared.typed.Typed.TheFolds.{fold-TypedLink, fold-roll-Typed, fold-roll-TypedLink, ind-Typed}
use Rattle.ql_syntax.specs.declared.typed.Typed.TheOpen.{Typed-F, TypedLink-F}
use Rattle.ql_syntax.specs.declared.typed.Typed.TheViews.{roll-Typed, roll-TypedLink}
use Rattle.ql_value.specs.Kinds.{is_integer, is_text, is_byte_list}
use Rattle.ql_syntax.specs.Values.{Outcome, Step, IsMeant, value_step, link_step, gives, refuses, means_nothing, then_from, is_null, operated, linked, chained, asked, asked_of, measured, length_of, coalesced, called, equals, or_equals, is_in, prefixed, convert_to, narrow_to, value_at, step_at}
use Rattle.ql_syntax.specs.declared.typing.Typing.{Typing}
use Rattle.ql_syntax.specs.declared.typing.Typing.TheVariants.{OnlyNull, OfKind, Ill}
use Rattle.ql_syntax.specs.Typing.{IsTyped, HasType, FitsRow, among, given_type, meet, meet_all, truth_of, operator_type, StepType, chain_type, call_type, prefixed_type, converts, type_of, type_step, link_type}
use Rattle.ql_eval.specs.declared.fault.EvalFault.{EvalFault}
use Rattle.ql_eval.specs.Gives.{Gives}
use Rattle.ql_eval.proofs.TypeLemmas.{among_passes, given_parts, meet_both, meet_typed, pair_typed}
use Rattle.ql_eval.proofs.OperatorTypes.{Comes, then_comes, truth_comes, comparison_kind, operand_typed, linked_comes}
use Rattle.ql_eval.proofs.PartTypes.{length_comes, asked_comes, constant_comes, place_comes, prefixed_typed, prefixed_comes, convert_comes, narrow_comes}

-- a part comes to what its type says
abbrev pub IsSound : List Typing → List Value → Typed → Type 0
IsSound types row e = IsTyped (type_of types e) → Comes (type_of types e) (value_at row e)

-- a link, with the type of its part
abbrev pub step_type_at : List Typing → TypedLink → StepType
step_type_at types = fold-TypedLink Typing StepType (type_step types) link_type

-- a link has one operator, and its part comes to what its type says
pub record IsSoundLink (types : List Typing) (row : List Value) (l : TypedLink) : Type 0 where
  pub op : (step_type_at types l).op ≡ (step_at row l).op
  pub part : IsTyped (step_type_at types l).part → Comes (step_type_at types l).part (step_at row l).part

abbrev pub Part : List Typing → List Value → Type 0
Part types row = (e : Typed) × IsSound types row e

abbrev pub Link : List Typing → List Value → Type 0
Link types row = (l : TypedLink) × IsSoundLink types row l

module _ (types : List Typing) (row : List Value) where
  abbrev part_types : List (Part types row) → List Typing
  part_types parts = map (type_of types) (map (λ p. p.0) parts)

  abbrev part_values : List (Part types row) → List Outcome
  part_values parts = map (value_at row) (map (λ p. p.0) parts)

  chain_typed : (t : Typing) (steps : List StepType) → IsTyped (chain_type t steps) → IsTyped t
  chain_typed t [] h = h
  chain_typed t (s ∷ steps) h = (operand_typed s.op t s.part (chain_typed (operator_type s.op t s.part) steps h)).0

  link_comes : (l : Link types row) (t : Typing) (x : Value) → IsTyped (operator_type (step_type_at types l.0).op t (step_type_at types l.0).part) → HasType t x → Comes (operator_type (step_type_at types l.0).op t (step_type_at types l.0).part) (linked (step_at row l.0).op x (step_at row l.0).part)
  link_comes l t x h f =
      let s = step_type_at types l.0 in
      let u = operator_type s.op t s.part in
      subst (λ o. Comes u (linked o x (step_at row l.0).part)) l.1.op (linked_comes s.op t s.part x (step_at row l.0).part h f l.1.part)

  pub chain_comes : (t : Typing) (x : Value) (links : List (Link types row)) → IsTyped (chain_type t (map (step_type_at types) (map (λ l. l.0) links))) → HasType t x → Comes (chain_type t (map (step_type_at types) (map (λ l. l.0) links))) (chained x (map (step_at row) (map (λ l. l.0) links)))
  chain_comes t x [] h f = f
  chain_comes t x (l ∷ links) h f =
      let s = step_type_at types l.0 in
      let u = operator_type s.op t s.part in
      let typed : IsTyped u = chain_typed u (map (step_type_at types) (map (λ z. z.0) links)) h in
      then_comes u (chain_type u (map (step_type_at types) (map (λ z. z.0) links))) (linked (step_at row l.0).op x (step_at row l.0).part) (λ y. chained y (map (step_at row) (map (λ z. z.0) links))) (link_comes l t x typed f) (λ y e. chain_comes u y links h e)

-- values of the second type are values of the first
record Within (u t : Typing) : Type 0 where
  typed : IsTyped t
  grows : (x : Value) → HasType t x → HasType u x

abbrev EachWithin : Typing → List Typing → Type 0
EachWithin u [] = Unit {0}
EachWithin u (t ∷ types) = Within u t × EachWithin u types

null_typed : (u : Typing) → IsTyped u → HasType u v.Null
null_typed OnlyNull h = refl
null_typed (OfKind kind) h = tt
null_typed Ill h = h

meet_left : (s t : Typing) (x : Value) → IsTyped (meet s t) → HasType s x → HasType (meet s t) x
meet_left s t x h f = (meet_both s t x v.Null h f (null_typed t (meet_typed s t h).1)).left

meet_right : (s t : Typing) (y : Value) → IsTyped (meet s t) → HasType t y → HasType (meet s t) y
meet_right s t y h g = (meet_both s t v.Null y h (null_typed s (meet_typed s t h).0) g).right

-- what a type that several parts have says of each
record OneType (u t : Typing) (types : List Typing) : Type 0 where
  first : Within u t
  others : EachWithin u types

one_type : (t : Typing) (types : List Typing) → IsTyped (meet_all t types) → OneType (meet_all t types) t types
one_type t [] h = record { first = record { typed = h; grows = λ x f. f }; others = tt }
one_type t (u ∷ types) h =
    let rest = one_type (meet t u) types h in
    let sides = meet_typed t u rest.first.typed in
    record {
      first = record { typed = sides.0; grows = λ x f. rest.first.grows x (meet_left t u x rest.first.typed f) };
      others = (record { typed = sides.1; grows = λ x f. rest.first.grows x (meet_right t u x rest.first.typed f) }, rest.others);
    }

either_way : (u : Typing) (c : Bool) (a b : Outcome) → Comes u a → Comes u b → Comes u (if c then a else b)
either_way u true a b f g = f
either_way u false a b f g = g

module _ (types : List Typing) (row : List Value) where
  coalesced_comes : (u : Typing) (parts : List (Part types row)) → IsTyped u → EachWithin u (part_types types row parts) → Comes u (coalesced (part_values types row parts))
  coalesced_comes u [] h w = null_typed u h
  coalesced_comes u (p ∷ parts) h w =
      then_comes (type_of types p.0) u (value_at row p.0) _ (p.1 w.0.typed) (λ x f. either_way u (is_null x) (coalesced (part_values types row parts)) (gives x) (coalesced_comes u parts h w.1) (w.0.grows x f))

  equals_comes : (a : Value) (p : Part types row) → IsTyped (type_of types p.0) → Comes (OfKind k.Bool) (equals a (value_at row p.0))
  equals_comes a p h = then_comes (type_of types p.0) (OfKind k.Bool) (value_at row p.0) (operated op.Eq a) (p.1 h) (λ y f. comparison_kind op.Eq a y)

  among_comes : (u : Typing) (a x : Value) (parts : List (Part types row)) → EachWithin u (part_types types row parts) → HasKind k.Bool x → Comes (OfKind k.Bool) (chained x (map (or_equals a) (part_values types row parts)))
  among_comes u a x [] w h = h
  among_comes u a x (p ∷ parts) w h =
      then_comes (OfKind k.Bool) (OfKind k.Bool) (linked op.Either x (equals a (value_at row p.0))) (λ y. chained y (map (or_equals a) (part_values types row parts)))
      (linked_comes op.Either (OfKind k.Bool) (OfKind k.Bool) x (equals a (value_at row p.0)) tt h (λ typed. equals_comes a p w.0.typed))
      (λ y f. among_comes u a y parts w.1 f)

  is_in_comes : (u : Typing) (a : Value) (parts : List (Part types row)) → EachWithin u (part_types types row parts) → Comes (OfKind k.Bool) (is_in a (part_values types row parts))
  is_in_comes u a [] w = tt
  is_in_comes u a (p ∷ parts) w =
      then_comes (OfKind k.Bool) (OfKind k.Bool) (equals a (value_at row p.0)) (λ x. chained x (map (or_equals a) (part_values types row parts))) (equals_comes a p w.0.typed) (λ x f. among_comes u a x parts w.1 f)

  measured_comes : (parts : List (Part types row)) → IsTyped (call_type f.Len (part_types types row parts)) → Comes (call_type f.Len (part_types types row parts)) (measured (part_values types row parts))
  measured_comes [] h = absurd h
  measured_comes (p ∷ []) h =
      let t = type_of types p.0 in
      let parts = given_parts (among is_byte_list t) (OfKind k.Int64) h in
      let passes = among_passes is_byte_list t parts.0 in
      let typed : IsTyped t = subst IsTyped passes.1 parts.0 in
      subst (λ u. Comes u (measured (value_at row p.0 ∷ []))) (sym parts.1) (then_comes t (OfKind k.Int64) (value_at row p.0) length_of (p.1 typed) (λ x g. length_comes t x passes.0 g))
  measured_comes (p ∷ q ∷ parts) h = absurd h

  questions_come : (test : List ℕ → List ℕ → Bool) (p q : Part types row) → IsTyped (among is_text (meet (type_of types p.0) (type_of types q.0))) → Comes (OfKind k.Bool) (asked_of test (value_at row p.0 ∷ value_at row q.0 ∷ []))
  questions_come test p q h =
      let s = type_of types p.0 in
      let t = type_of types q.0 in
      let typed = pair_typed is_text s t h in
      then_comes s (OfKind k.Bool) (value_at row p.0) _ (p.1 typed.0) (λ x g. then_comes t (OfKind k.Bool) (value_at row q.0) (asked test x) (q.1 typed.1) (λ y e. asked_comes test s t x y h g e))

  question_comes : (test : List ℕ → List ℕ → Bool) (p q : Part types row) → IsTyped (truth_of (among is_text (meet (type_of types p.0) (type_of types q.0)))) → Comes (truth_of (among is_text (meet (type_of types p.0) (type_of types q.0)))) (asked_of test (value_at row p.0 ∷ value_at row q.0 ∷ []))
  question_comes test p q h = truth_comes _ (asked_of test (value_at row p.0 ∷ value_at row q.0 ∷ [])) h (λ typed. questions_come test p q typed)

  pub called_comes : (function : Function) (parts : List (Part types row)) → IsTyped (call_type function (part_types types row parts)) → Comes (call_type function (part_types types row parts)) (called function (part_values types row parts))
  called_comes f.Len parts h = measured_comes parts h
  called_comes f.Contains (p ∷ q ∷ []) h = question_comes _ p q h
  called_comes f.HasPrefix (p ∷ q ∷ []) h = question_comes _ p q h
  called_comes f.HasSuffix (p ∷ q ∷ []) h = question_comes _ p q h
  called_comes f.Coalesce (p ∷ parts) h =
      let one = one_type (type_of types p.0) (part_types types row parts) h in
      let u = meet_all (type_of types p.0) (part_types types row parts) in
      coalesced_comes u (p ∷ parts) h (one.first, one.others)
  called_comes _ _ h = absurd h

module _ (types : List Typing) (row : List Value) where
  -- what one layer says of the expression that it makes
  by_layer : (z : Typed-F Typed TypedLink)
      → (IsTyped (type_step types (map-Typed Typed TypedLink Typing StepType (type_of types) (step_type_at types) z)) → Comes (type_step types (map-Typed Typed TypedLink Typing StepType (type_of types) (step_type_at types) z)) (value_step row (map-Typed Typed TypedLink Outcome Step (value_at row) (step_at row) z)))
      → IsSound types row (roll-Typed z)
  by_layer z h =
      let e = fold-roll-Typed Typing StepType (type_step types) link_type z in
      let g = fold-roll-Typed Outcome Step (value_step row) link_step z in
      let t = type_step types (map-Typed Typed TypedLink Typing StepType (type_of types) (step_type_at types) z) in
      subst (λ u. IsTyped u → Comes u (value_at row (roll-Typed z))) (sym e) (subst (λ o. IsTyped t → Comes t o) (sym g) h)

  by_link : (z : TypedLink-F Typed TypedLink) → IsSound types row z.part → IsSoundLink types row (roll-TypedLink z)
  by_link z h =
      let e = fold-roll-TypedLink Typing StepType (type_step types) link_type z in
      let g = fold-roll-TypedLink Outcome Step (value_step row) link_step z in
      record {
        op = ap (λ s. s.op) e ∙ sym (ap (λ s. s.op) g);
        part = subst (λ u. IsTyped u → Comes u (step_at row (roll-TypedLink z)).part) (sym (ap (λ s. s.part) e)) (subst (λ o. IsTyped (type_of types z.part) → Comes (type_of types z.part) o) (sym (ap (λ s. s.part) g)) h);
      }

  converted_comes : (kind : Kind) (p : Part types row) → IsTyped (given_type (among (converts kind) (type_of types p.0)) (OfKind kind)) → Comes (given_type (among (converts kind) (type_of types p.0)) (OfKind kind)) (then_from (value_at row p.0) (convert_to kind))
  converted_comes kind p h =
      let t = type_of types p.0 in
      let parts = given_parts (among (converts kind) t) (OfKind kind) h in
      let passes = among_passes (converts kind) t parts.0 in
      let typed : IsTyped t = subst IsTyped passes.1 parts.0 in
      subst (λ u. Comes u (then_from (value_at row p.0) (convert_to kind))) (sym parts.1) (then_comes t (OfKind kind) (value_at row p.0) (convert_to kind) (p.1 typed) (λ x e. convert_comes kind t x passes.0 e))

  narrowed_comes : (kind : Kind) (p : Part types row) → IsTyped (given_type (among is_integer (type_of types p.0)) (among is_integer (OfKind kind))) → Comes (given_type (among is_integer (type_of types p.0)) (among is_integer (OfKind kind))) (then_from (value_at row p.0) (narrow_to kind))
  narrowed_comes kind p h =
      let t = type_of types p.0 in
      let parts = given_parts (among is_integer t) (among is_integer (OfKind kind)) h in
      let passes = among_passes is_integer t parts.0 in
      let own = among_passes is_integer (OfKind kind) (subst IsTyped parts.1 h) in
      let typed : IsTyped t = subst IsTyped passes.1 parts.0 in
      subst (λ u. Comes u (then_from (value_at row p.0) (narrow_to kind))) (sym (parts.1 ∙ own.1)) (then_comes t (OfKind kind) (value_at row p.0) (narrow_to kind) (p.1 typed) (λ x e. narrow_comes kind t x own.0 passes.0 e))

  prefixes_come : (ops : List UnOp) (p : Part types row) → IsTyped (prefixed_type ops (type_of types p.0)) → Comes (prefixed_type ops (type_of types p.0)) (then_from (value_at row p.0) (prefixed ops))
  prefixes_come ops p h =
      let t = type_of types p.0 in
      then_comes t (prefixed_type ops t) (value_at row p.0) (prefixed ops) (p.1 (prefixed_typed ops t h)) (λ x e. prefixed_comes ops t x h e)

  chains_come : (p : Part types row) (links : List (Link types row)) → IsTyped (chain_type (type_of types p.0) (map (step_type_at types) (map (λ l. l.0) links))) → Comes (chain_type (type_of types p.0) (map (step_type_at types) (map (λ l. l.0) links))) (then_from (value_at row p.0) (λ x. chained x (map (step_at row) (map (λ l. l.0) links))))
  chains_come p links h =
      let t = type_of types p.0 in
      let u = chain_type t (map (step_type_at types) (map (λ l. l.0) links)) in
      then_comes t u (value_at row p.0) (λ x. chained x (map (step_at row) (map (λ l. l.0) links))) (p.1 (chain_typed types row t (map (step_type_at types) (map (λ l. l.0) links)) h)) (λ x e. chain_comes types row t x links h e)

  ins_come : (p : Part types row) (parts : List (Part types row)) → IsTyped (truth_of (meet_all (type_of types p.0) (part_types types row parts))) → Comes (truth_of (meet_all (type_of types p.0) (part_types types row parts))) (then_from (value_at row p.0) (λ a. is_in a (part_values types row parts)))
  ins_come p parts h =
      let t = type_of types p.0 in
      let u = meet_all t (part_types types row parts) in
      truth_comes u (then_from (value_at row p.0) (λ a. is_in a (part_values types row parts))) h (λ typed.
      let one = one_type t (part_types types row parts) typed in
      then_comes t (OfKind k.Bool) (value_at row p.0) (λ a. is_in a (part_values types row parts)) (p.1 one.first.typed) (λ a e. is_in_comes types row u a parts one.others))

  nulls_come : (p : Part types row) → IsTyped (truth_of (type_of types p.0)) → Comes (truth_of (type_of types p.0)) (then_from (value_at row p.0) (λ x. gives (v.Bool (is_null x))))
  nulls_come p h =
      let t = type_of types p.0 in
      truth_comes t (then_from (value_at row p.0) (λ x. gives (v.Bool (is_null x)))) h (λ typed. then_comes t (OfKind k.Bool) (value_at row p.0) (λ x. gives (v.Bool (is_null x))) (p.1 typed) (λ x e. tt))

  -- one expression, whose parts come to what their types say
  layer : FitsRow types row → (y : Typed-F (Part types row) (Link types row)) → IsSound types row (roll-Typed (map-Typed (Part types row) (Link types row) Typed TypedLink (λ p. p.0) (λ l. l.0) y))
  layer fits (Typed-F.Constant x) = by_layer (Typed-F.Constant x) (constant_comes x)
  layer fits (Typed-F.Place at) = by_layer (Typed-F.Place at) (place_comes types row at fits)
  layer fits (Typed-F.Chain p links) = by_layer (Typed-F.Chain p.0 (map (λ l. l.0) links)) (chains_come p links)
  layer fits (Typed-F.Unary ops p) = by_layer (Typed-F.Unary ops p.0) (prefixes_come ops p)
  layer fits (Typed-F.Convert kind p) = by_layer (Typed-F.Convert kind p.0) (converted_comes kind p)
  layer fits (Typed-F.Narrow kind p) = by_layer (Typed-F.Narrow kind p.0) (narrowed_comes kind p)
  layer fits (Typed-F.Call function parts) = by_layer (Typed-F.Call function (map (λ p. p.0) parts)) (called_comes types row function parts)
  layer fits (Typed-F.Aggregate function kind part) = by_layer (map-Typed (Part types row) (Link types row) Typed TypedLink (λ p. p.0) (λ l. l.0) (Typed-F.Aggregate function kind part)) (λ h. absurd h)
  layer fits (Typed-F.IsIn p parts) = by_layer (Typed-F.IsIn p.0 (map (λ z. z.0) parts)) (ins_come p parts)
  layer fits (Typed-F.IsNull p) = by_layer (Typed-F.IsNull p.0) (nulls_come p)

-- an expression that has a type at the row's types comes to a value of it, or to a refusal
pub sound : (types : List Typing) (row : List Value) (e : Typed) → FitsRow types row → IsSound types row e
sound types row e fits = ind-Typed (IsSound types row) (IsSoundLink types row)
    (λ x y is. subst (λ z. IsSound types row (roll-Typed z)) is (layer types row fits y))
    (λ x y is. subst (λ z. IsSoundLink types row (roll-TypedLink z)) is (by_link types row _ y.part.1)) e

pub meant : (t : Typing) (a : Outcome) → Comes t a → IsMeant a
meant t (gives x) h = tt
meant t (refuses r) h = tt
meant t means_nothing h = h

pub of_type : (t : Typing) (a : Outcome) (answer : Result Value EvalFault) → Comes t a → Gives a answer → IfOk answer (HasType t)
of_type t a (Ok x) h g = subst (Comes t) g h
of_type t a (Err e) h g = tt
