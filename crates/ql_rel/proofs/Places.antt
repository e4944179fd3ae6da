-- A name that means a place has the type of the place.
use Rattle.std.proofs.Common.{◌≡◌, ℕ, suc, Bool, true, false, ◌&&◌, if◌then◌else◌, List, [], ◌∷◌, length, Option, None, Some, Ok, subst, ◌∙◌}
use Rattle.ql_syntax.specs.declared.typed.Typed.TheVariants as t
use Rattle.ql_syntax.specs.declared.typing.Typing.{Typing}
use Rattle.ql_syntax.specs.Typing.{IsTyped, place_type}
use Rattle.ql_syntax.specs.declared.checked.Checked.{Checked}
use Rattle.ql_syntax.specs.declared.scope.Slot.{Slot}
use Rattle.ql_syntax.specs.declared.scope.Scope.{Scope}
use Rattle.ql_syntax.specs.declared.scope.RowPlace.{RowPlace}
use Rattle.ql_syntax.specs.Answers.{Answer}
use Rattle.ql_syntax.specs.Checked.{of_type}
use Rattle.ql_syntax.specs.Scopes.{places_named, the_one, first_some, seen_slots, written, is_of_set, is_of_column, column_place, id_place, id_place_of}
use Rattle.ql_syntax.specs.Resolving.{at_place}
use Rattle.ql_syntax.proofs.TypedBy.{by_place}
use Rattle.ql_rel.proofs.Fits.{Fits, then_ok, same_ok, known_fits}

-- the slots stand in the row from a place on
abbrev pub Stand : List Typing → ℕ → List Slot → Type 0
Stand row at [] = Unit {0}
Stand row at (s ∷ slots) = (place_type row at ≡ s.typing) × IsTyped s.typing × Stand row (suc at) slots

-- the slots of a scope stand in the row
pub record Stands (row : List Typing) (scope : Scope) : Type 0 where
  pub seen : Stand row 0 (seen_slots scope)
  pub fields : Stand row (length scope.row) scope.fields

-- a place of the row has its type
abbrev IsPlace : List Typing → RowPlace → Type 0
IsPlace row f = (place_type row f.at ≡ f.typing) × IsTyped f.typing

abbrev ArePlaces : List Typing → List RowPlace → Type 0
ArePlaces row [] = Unit {0}
ArePlaces row (f ∷ fs) = IsPlace row f × ArePlaces row fs

one_more : (row : List Typing) (b : Bool) (f : RowPlace) (fs : List RowPlace) → IsPlace row f → ArePlaces row fs → ArePlaces row (if b then f ∷ fs else fs)
one_more row true f fs p ps = (p, ps)
one_more row false f fs p ps = ps

named_places : (row : List Typing) (set column : Option (List ℕ)) (at : ℕ) (slots : List Slot) → Stand row at slots → ArePlaces row (places_named set column at slots)
named_places row set column at [] h = tt
named_places row set column at (s ∷ slots) h =
    one_more row (is_of_set set s && is_of_column column s) (record { at = at; typing = s.typing }) (places_named set column (suc at) slots) (h.0, h.1) (named_places row set column (suc at) slots h.2)

first_places : (row : List Typing) (fs gs : List RowPlace) → ArePlaces row fs → ArePlaces row gs → ArePlaces row (first_some fs gs)
first_places row [] gs p q = q
first_places row (f ∷ fs) gs p q = p

the_place : (row : List Typing) (name : List ℕ) (fs : List RowPlace) (f : RowPlace) → ArePlaces row fs → the_one name fs ≡ Ok f → IsPlace row f
the_place row name [] f p a = absurd (cc)
the_place row name (g ∷ []) f p a = subst (IsPlace row) (same_ok g f a) p.0
the_place row name (g ∷ h ∷ fs) f p a = absurd (cc)

module _ (may : Bool) (row : List Typing) (scope : Scope) (stands : Stands row scope) where
  place_fits : (place : Answer RowPlace) (c : Checked) → ((f : RowPlace) → place ≡ Ok f → IsPlace row f) → at_place place ≡ Ok c → Fits may row c
  place_fits place c h a =
      let s = then_ok place (λ p. Ok (of_type p.typing (t.Place p.at))) c a in
      let p = h s.0 s.1 in
      subst (Fits may row) (same_ok (of_type s.0.typing (t.Place s.0.at)) c s.2) (known_fits may row s.0.typing (t.Place s.0.at) p.1 (by_place may row s.0.at ∙ p.0))

  pub column_fits : (set : Option (List ℕ)) (column : List ℕ) (c : Checked) → at_place (column_place scope set column) ≡ Ok c → Fits may row c
  column_fits set column c a =
      let fields = places_named None (Some (written set column)) (length scope.row) scope.fields in
      let seen = places_named set (Some column) 0 (seen_slots scope) in
      place_fits (column_place scope set column) c
      (λ f e. the_place row (written set column) (first_some fields seen) f (first_places row fields seen (named_places row None (Some (written set column)) (length scope.row) scope.fields stands.fields) (named_places row set (Some column) 0 (seen_slots scope) stands.seen)) e) a

  pub id_fits : (c : Checked) → at_place (id_place scope) ≡ Ok c → Fits may row c
  id_fits c a = place_fits (id_place scope) c (λ f e. the_place row (105 ∷ 100 ∷ []) (places_named None None 0 (seen_slots scope)) f (named_places row None None 0 (seen_slots scope) stands.seen) e) a

  pub id_of_fits : (set : List ℕ) (c : Checked) → at_place (id_place_of scope set) ≡ Ok c → Fits may row c
  id_of_fits set c a = place_fits (id_place_of scope set) c (λ f e. the_place row set (places_named (Some set) None 0 (seen_slots scope)) f (named_places row (Some set) None 0 (seen_slots scope) stands.seen) e) a
