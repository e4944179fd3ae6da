-- Where no aggregate may stand, or none does, the type is that at a row.
use Rattle.std.proofs.Common.{◌≡◌, Bool, true, false, ◌||◌, List, [], ◌∷◌, map, refl, sym, ap, subst, ◌∙◌}
use Rattle.ql_syntax.specs.declared.typed.Typed.{Typed, map-Typed, roll-Typed}
use Rattle.ql_syntax.specs.declared.typed.Typed.TheOpen.{Typed-F, TypedLink-F}
use Rattle.ql_syntax.specs.declared.typed.Typed.TheFolds.{fold-TypedLink, fold-roll-Typed, fold-roll-TypedLink, ind-Typed}
use Rattle.ql_syntax.specs.declared.typed.TypedLink.{TypedLink, roll-TypedLink}
use Rattle.ql_value.specs.Kinds.{is_integer}
use Rattle.ql_syntax.specs.declared.typing.Typing.{Typing}
use Rattle.ql_syntax.specs.declared.typing.Typing.TheVariants.{OfKind}
use Rattle.ql_syntax.specs.Typing.{StepType, among, given_type, truth_of, meet_all, chain_type, prefixed_type, converts, call_type, type_of, type_step, link_type}
use Rattle.ql_syntax.specs.Aggregates.{is_any, aggregate_step, aggregate_link, has_aggregate, link_has_aggregate}
use Rattle.ql_syntax.specs.GroupTyping.{group_step, type_by}
use Rattle.ql_syntax.proofs.TypedBy.{types_of, links_of, link_by, by_roll, by_link_roll}

left_false : (a b : Bool) → (a || b) ≡ false → a ≡ false
left_false true b h = absurd (cc)
left_false false b h = refl

right_false : (a b : Bool) → (a || b) ≡ false → b ≡ false
right_false true b h = absurd (cc)
right_false false b h = h

module _ (types : List Typing) where
  abbrev link_type_of : TypedLink → StepType
  link_type_of = fold-TypedLink Typing StepType (type_step types) link_type

  abbrev pub IsSame : Typed → Type 0
  IsSame e = (may : Bool) → (may ≡ true → has_aggregate e ≡ false) → type_by may types e ≡ type_of types e

  abbrev IsSameLink : TypedLink → Type 0
  IsSameLink l = (may : Bool) → (may ≡ true → link_has_aggregate l ≡ false) → link_by may types l ≡ link_type_of l

  abbrev Part : Type 0
  Part = (e : Typed) × IsSame e

  abbrev Link : Type 0
  Link = (l : TypedLink) × IsSameLink l

  abbrev has : Typed-F Typed TypedLink → Bool
  has z = aggregate_step (map-Typed Typed TypedLink Bool Bool has_aggregate link_has_aggregate z)

  abbrev in_group : Bool → Typed-F Typed TypedLink → Typing
  in_group may z = group_step types (map-Typed Typed TypedLink (Bool → Typing) (Bool → StepType) (types_of types) (links_of types) z) may

  abbrev at_row : Typed-F Typed TypedLink → Typing
  at_row z = type_step types (map-Typed Typed TypedLink Typing StepType (type_of types) link_type_of z)

  by_layer : (z : Typed-F Typed TypedLink) → ((may : Bool) → (may ≡ true → has z ≡ false) → in_group may z ≡ at_row z) → IsSame (roll-Typed z)
  by_layer z h may e =
      by_roll may types z
      ∙ h may (λ m. sym (fold-roll-Typed Bool Bool aggregate_step aggregate_link z) ∙ e m)
      ∙ sym (fold-roll-Typed Typing StepType (type_step types) link_type z)

  by_link : (z : TypedLink-F Typed TypedLink) → IsSame z.part → IsSameLink (roll-TypedLink z)
  by_link z h may e =
      by_link_roll may types z
      ∙ ap (λ t. record { op = z.op; part = t }) (h may (λ m. sym (fold-roll-TypedLink Bool Bool aggregate_step aggregate_link z) ∙ e m))
      ∙ sym (fold-roll-TypedLink Typing StepType (type_step types) link_type z)

  parts_same : (may : Bool) (parts : List Part) → (may ≡ true → is_any (map has_aggregate (map (λ p. p.0) parts)) ≡ false) → map (λ type. type may) (map (types_of types) (map (λ p. p.0) parts)) ≡ map (type_of types) (map (λ p. p.0) parts)
  parts_same may [] e = refl
  parts_same may (p ∷ parts) e =
      let rest = is_any (map has_aggregate (map (λ q. q.0) parts)) in
      ap (λ t. t ∷ map (λ type. type may) (map (types_of types) (map (λ q. q.0) parts))) (p.1 may (λ m. left_false (has_aggregate p.0) rest (e m)))
      ∙ ap (λ ts. type_of types p.0 ∷ ts) (parts_same may parts (λ m. right_false (has_aggregate p.0) rest (e m)))

  links_same : (may : Bool) (links : List Link) → (may ≡ true → is_any (map link_has_aggregate (map (λ l. l.0) links)) ≡ false) → map (λ l. l may) (map (links_of types) (map (λ l. l.0) links)) ≡ map link_type_of (map (λ l. l.0) links)
  links_same may [] e = refl
  links_same may (l ∷ links) e =
      let rest = is_any (map link_has_aggregate (map (λ q. q.0) links)) in
      ap (λ t. t ∷ map (λ q. q may) (map (links_of types) (map (λ q. q.0) links))) (l.1 may (λ m. left_false (link_has_aggregate l.0) rest (e m)))
      ∙ ap (λ ts. link_type_of l.0 ∷ ts) (links_same may links (λ m. right_false (link_has_aggregate l.0) rest (e m)))

  abbrev bare : Typed-F Part Link → Typed-F Typed TypedLink
  bare = map-Typed Part Link Typed TypedLink (λ p. p.0) (λ l. l.0)

  no_aggregate : (may : Bool) (z : Typed-F Typed TypedLink) → has z ≡ true → (may ≡ true → has z ≡ false) → may ≡ false
  no_aggregate true z h e = absurd (let f = e refl in cc)
  no_aggregate false z h e = refl

  layer : (y : Typed-F Part Link) → IsSame (roll-Typed (bare y))
  layer (Typed-F.Constant x) = by_layer (Typed-F.Constant x) (λ may e. refl)
  layer (Typed-F.Place at) = by_layer (Typed-F.Place at) (λ may e. refl)
  layer (Typed-F.Chain p links) = by_layer (Typed-F.Chain p.0 (map (λ l. l.0) links)) (λ may e.
      let rest = is_any (map link_has_aggregate (map (λ l. l.0) links)) in
      ap (λ t. chain_type t (map (λ l. l may) (map (links_of types) (map (λ l. l.0) links)))) (p.1 may (λ m. left_false (has_aggregate p.0) rest (e m)))
      ∙ ap (chain_type (type_of types p.0)) (links_same may links (λ m. right_false (has_aggregate p.0) rest (e m))))
  layer (Typed-F.Unary ops p) = by_layer (Typed-F.Unary ops p.0) (λ may e. ap (prefixed_type ops) (p.1 may e))
  layer (Typed-F.Convert kind p) = by_layer (Typed-F.Convert kind p.0) (λ may e. ap (λ t. given_type (among (converts kind) t) (OfKind kind)) (p.1 may e))
  layer (Typed-F.Narrow kind p) = by_layer (Typed-F.Narrow kind p.0) (λ may e. ap (λ t. given_type (among is_integer t) (among is_integer (OfKind kind))) (p.1 may e))
  layer (Typed-F.Call function parts) = by_layer (Typed-F.Call function (map (λ p. p.0) parts)) (λ may e. ap (call_type function) (parts_same may parts e))
  layer (Typed-F.Aggregate function kind part) =
      let z = bare (Typed-F.Aggregate function kind part) in
      by_layer z (λ may e. ap (λ m. in_group m z) (no_aggregate may z refl e))
  layer (Typed-F.IsIn p list) = by_layer (Typed-F.IsIn p.0 (map (λ q. q.0) list)) (λ may e.
      let rest = is_any (map has_aggregate (map (λ q. q.0) list)) in
      ap (λ t. truth_of (meet_all t (map (λ type. type may) (map (types_of types) (map (λ q. q.0) list))))) (p.1 may (λ m. left_false (has_aggregate p.0) rest (e m)))
      ∙ ap (λ ts. truth_of (meet_all (type_of types p.0) ts)) (parts_same may list (λ m. right_false (has_aggregate p.0) rest (e m))))
  layer (Typed-F.IsNull p) = by_layer (Typed-F.IsNull p.0) (λ may e. ap truth_of (p.1 may e))

  pub same_types : (e : Typed) → IsSame e
  same_types = ind-Typed IsSame IsSameLink (λ x y is. subst (λ z. IsSame (roll-Typed z)) is (layer y)) (λ x y is. subst (λ z. IsSameLink (roll-TypedLink z)) is (by_link _ y.part.1))

  -- where no aggregate may stand
  pub row_type : (e : Typed) → type_by false types e ≡ type_of types e
  row_type e = same_types e false (λ m. absurd (cc))
