-- The value of digits, one digit after another.
use Rattle.std.proofs.Common.{◌≡◌, ℕ, ◌+◌, ◌*◌, ◌^◌, ◌<◌, ◌≤◌, List, [], ◌∷◌, length, get_or, drop, refl, arith, add-one, drop-cons}
use Rattle.std.proofs.Math.Nat.{le-mul_of_pos_right}
use Rattle.std.specs.Char.{digit_value}
use Rattle.ql_lex.specs.Numbers.{value_from}

pub value_from-drop : (base v : ℕ) (ds : List ℕ) (i : ℕ) → i < length ds → value_from base v (drop i ds) ≡ value_from base (v * base + digit_value (get_or ds i 0)) (drop (i + 1) ds)
value_from-drop base v ds i h = rw (add-one, drop-cons ds i 0) refl

-- a value does not fall as digits follow
pub at_least : (base v : ℕ) (ds : List ℕ) → 0 < base → v ≤ value_from base v ds
at_least base v [] h = omega arith
at_least base v (d ∷ ds) h =
    let more : v ≤ v * base = le-mul_of_pos_right v h in
    let rest : v * base + digit_value d ≤ value_from base (v * base + digit_value d) ds = at_least base (v * base + digit_value d) ds h in
    omega (arith, more, rest)

pub too_large : (base v total : ℕ) (ds : List ℕ) (i : ℕ) → 0 < base → i < length ds → value_from base v (drop i ds) ≡ total → 2 ^ 64 ≤ v * base + digit_value (get_or ds i 0) → 2 ^ 64 ≤ total
too_large base v total ds i h l e big =
    let step = value_from-drop base v ds i l in
    let rest = at_least base (v * base + digit_value (get_or ds i 0)) (drop (i + 1) ds) h in
    omega (arith, step, rest, e, big)
