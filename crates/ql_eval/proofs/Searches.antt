-- A part in a list of bytes.
use Rattle.std.proofs.Common.{◌≡◌, ℕ, zero, suc, ◌≤◌, Bool, true, false, ◌||◌, List, [], ◌∷◌, length, take, drop, Option, None, Some, is_some, refl, sym, ap, arith, length-drop, length-take}
use Rattle.std.proofs.lemmas.Bool.Decides.{Decides-eqb}
use Rattle.std.proofs.lemmas.Slice.Eq.{slice_eq-Decides}
use Rattle.memchr.specs.Find.{OccursAt, FindsNeedle}
use Rattle.memchr.proofs.lemmas.MatchLemmas.{OccursAt-part, OccursAt-from_part}
use Rattle.ql_syntax.specs.Values.{contains, has_prefix}

-- the part stands at a place of the bytes
record StandsAt (bytes part : List ℕ) (k : ℕ) : Type 0 where
  low : k ≤ length bytes
  stands : take (length part) (drop k bytes) ≡ part

front_is : (bytes part : List ℕ) → has_prefix bytes part ≡ true → take (length part) bytes ≡ part
front_is bytes part h = sym ((slice_eq-Decides Decides-eqb part (take (length part) bytes) (has_prefix bytes part) refl).0 h)

is_front : (bytes part : List ℕ) → take (length part) bytes ≡ part → has_prefix bytes part ≡ true
is_front bytes part e = (slice_eq-Decides Decides-eqb part (take (length part) bytes) (has_prefix bytes part) refl).1 (sym e)

later : (b : ℕ) (bytes part : List ℕ) → (k : ℕ) × StandsAt bytes part k → (k : ℕ) × StandsAt (b ∷ bytes) part k
later b bytes part w = (suc w.0, record { low = omega (arith, w.1.low); stands = w.1.stands })

place_or_later : (b : ℕ) (bytes part : List ℕ) (here : Bool) → has_prefix (b ∷ bytes) part ≡ here → (here || contains bytes part) ≡ true → (contains bytes part ≡ true → (k : ℕ) × StandsAt bytes part k) → (k : ℕ) × StandsAt (b ∷ bytes) part k
place_or_later b bytes part true e h more = (0, record { low = omega arith; stands = front_is (b ∷ bytes) part e })
place_or_later b bytes part false e h more = later b bytes part (more h)

or_true : (a b : Bool) → b ≡ true → (a || b) ≡ true
or_true true b h = refl
or_true false b h = h

some_place : (bytes part : List ℕ) → contains bytes part ≡ true → (k : ℕ) × StandsAt bytes part k
some_place [] part h = (0, record { low = omega arith; stands = front_is [] part h })
some_place (b ∷ bytes) part h = place_or_later b bytes part (has_prefix (b ∷ bytes) part) refl h (λ more. some_place bytes part more)

is_place : (bytes part : List ℕ) (k : ℕ) → StandsAt bytes part k → contains bytes part ≡ true
is_place [] part zero s = is_front [] part s.stands
is_place [] part (suc k) s = absurd (omega (arith, s.low))
is_place (b ∷ bytes) part zero s = ap (λ here. here || contains bytes part) (is_front (b ∷ bytes) part s.stands)
is_place (b ∷ bytes) part (suc k) s = or_true (has_prefix (b ∷ bytes) part) (contains bytes part) (is_place bytes part k (record { low = omega (arith, s.low); stands = s.stands }))

occurs : (bytes part : List ℕ) (k : ℕ) → StandsAt bytes part k → OccursAt bytes part k
occurs bytes part k s = OccursAt-from_part bytes part k (omega (arith, s.low, length-take (length part) (drop k bytes), length-drop k bytes, ap length s.stands)) s.stands

none_found : (bytes part : List ℕ) (b : Bool) → contains bytes part ≡ b → FindsNeedle bytes part 0 None → false ≡ b
none_found bytes part false e h = refl
none_found bytes part true e h = let w = some_place bytes part e in absurd (h w.0 (omega arith) (omega (arith, w.1.low)) (occurs bytes part w.0 w.1))

pub found_is : (bytes part : List ℕ) (r : Option ℕ) → FindsNeedle bytes part 0 r → is_some r ≡ contains bytes part
found_is bytes part None h = none_found bytes part (contains bytes part) refl h
found_is bytes part (Some k) h = sym (is_place bytes part k (record { low = omega (arith, h.1.fits); stands = OccursAt-part bytes part k h.1 }))
