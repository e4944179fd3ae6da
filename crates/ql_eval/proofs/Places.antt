-- Places of a row.
use Rattle.std.proofs.Common.{◌≡◌, ℕ, zero, suc, ◌<◌, List, [], ◌∷◌, length, get_or, refl, arith}
use Rattle.ql_value.specs.declared.value.Value.{Value}
use Rattle.ql_syntax.specs.Values.{IsMeant, gives, at_place}

pub within : (row : List Value) (at : ℕ) → IsMeant (at_place row at) → at < length row
within [] at h = absurd h
within (x ∷ row) zero h = omega arith
within (x ∷ row) (suc at) h = omega (arith, within row at h)

pub placed_is : (row : List Value) (at : ℕ) (d : Value) → IsMeant (at_place row at) → at_place row at ≡ gives (get_or row at d)
placed_is [] at d h = absurd h
placed_is (x ∷ row) zero d h = refl
placed_is (x ∷ row) (suc at) d h = placed_is row at d h
