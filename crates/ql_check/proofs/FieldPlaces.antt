-- The fields of a SELECT as places, one by one.
use Rattle.std.proofs.Common.{◌≡◌, ℕ, zero, suc, ◌+◌, ◌<◌, List, [], ◌∷◌, ◌++◌, length, drop, get_or, refl, sym, ap, ◌∙◌, append_assoc, append-nil, add-one, ◌≤◌, arith}
use Rattle.std.specs.Prelude.{slice_get}
use Rattle.std.proofs.lemmas.List.{drop_more}
use Rattle.ql_value.specs.declared.value.Kind.{Kind}
use Rattle.ql_syntax.specs.declared.scope.Slot.{Slot}
use Rattle.ql_rel.specs.declared.change.Target.{Target}
use Rattle.ql_rel.specs.declared.select.ResultField.{ResultField}
use Rattle.ql_rel.specs.Plans.{field_slots}
use Rattle.ql_rel.specs.Targets.{kinds_of}
use Rattle.ql_check.specs.Outputs.{slot_for}

none_left : (kinds : List Kind) → field_slots kinds [] ≡ []
none_left [] = refl
none_left (k ∷ kinds) = refl

one_more : (targets : List Target) (at : ℕ) (x : ResultField) (fields : List ResultField)
    → field_slots (kinds_of (drop at targets)) (x ∷ fields) ≡ slot_for (slice_get targets at) x ∷ field_slots (kinds_of (drop (suc at) targets)) fields
one_more [] zero x fields = refl
one_more [] (suc at) x fields = refl
one_more (t ∷ targets) zero x fields = refl
one_more (t ∷ targets) (suc at) x fields = one_more targets at x fields

pub next_place : (targets : List Target) (fields : List ResultField) (at : ℕ) (x d : ResultField) (slot : Slot) (slots new total : List Slot) → at < length fields → x ≡ get_or fields at d → slot ≡ slot_for (slice_get targets at) x → new ≡ slots ++ slot ∷ []
    → slots ++ field_slots (kinds_of (drop at targets)) (drop at fields) ≡ total → new ++ field_slots (kinds_of (drop (at + 1) targets)) (drop (at + 1) fields) ≡ total
next_place targets fields at x d slot slots new total h e is n w =
    let rest = field_slots (kinds_of (drop (at + 1) targets)) (drop (at + 1) fields) in
    let here : drop at fields ≡ x ∷ drop (at + 1) fields = drop_more fields at d h ∙ ap (λ z. z ∷ drop (at + 1) fields) (sym e) in
    let one : field_slots (kinds_of (drop at targets)) (drop at fields) ≡ slot_for (slice_get targets at) x ∷ rest =
    ap (field_slots (kinds_of (drop at targets))) here ∙ one_more targets at x (drop (at + 1) fields) ∙ ap (λ i. slot_for (slice_get targets at) x ∷ field_slots (kinds_of (drop i targets)) (drop (at + 1) fields)) (sym (add-one at)) in
    ap (λ (z : List Slot). z ++ rest) (n ∙ ap (λ (z : Slot). slots ++ z ∷ []) is) ∙ append_assoc slots (slot_for (slice_get targets at) x ∷ []) rest ∙ sym (ap (λ (z : List Slot). slots ++ z) one) ∙ w

drop_none : (fields : List ResultField) (at : ℕ) → length fields ≤ at → drop at fields ≡ []
drop_none [] zero h = refl
drop_none [] (suc at) h = refl
drop_none (x ∷ fields) zero h = absurd (omega (arith, h))
drop_none (x ∷ fields) (suc at) h = drop_none fields at (omega (arith, h))

pub all_placed : (targets : List Target) (fields : List ResultField) (at : ℕ) (slots total : List Slot) → length fields ≤ at → slots ++ field_slots (kinds_of (drop at targets)) (drop at fields) ≡ total → slots ≡ total
all_placed targets fields at slots total h w =
    let none : field_slots (kinds_of (drop at targets)) (drop at fields) ≡ [] = ap (field_slots (kinds_of (drop at targets))) (drop_none fields at h) ∙ none_left (kinds_of (drop at targets)) in
    sym (ap (λ (z : List Slot). slots ++ z) none ∙ append-nil slots) ∙ w
