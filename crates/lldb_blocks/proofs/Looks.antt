-- What stands at an atom of a row, as the row changes.
use Rattle.std.proofs.Common.{◌≡◌, ℕ, ◌+◌, ◌<◌, ◌≤◌, Bool, true, false, cond, eqb, List, [], ◌∷◌, ◌++◌, Option, Some, None, refl, sym, ◌∙◌, ap, inl, inr, arith, eq-eqb, ne_eqb}
use Rattle.std.proofs.lemmas.Bool.{cases_eq, cases_lt}
use Rattle.lldb_atoms.specs.Blocks.{Extent, size}
use Rattle.lldb_atoms.specs.Rows.{atoms_in, extent_at}
use Rattle.lldb_blocks.specs.Laid.{Solid}

pub atoms_append : (x y : List Extent) → atoms_in (x ++ y) ≡ atoms_in x + atoms_in y
atoms_append [] y = omega arith
atoms_append (e ∷ x) y = let rest = atoms_append x y in omega (arith, rest)

pub Solid_append : (x y : List Extent) → Solid x → Solid y → Solid (x ++ y)
Solid_append [] y first second = second
Solid_append (e ∷ x) y first second = (first.0, Solid_append x y first.1 second)

pub Solid_left : (x y : List Extent) → Solid (x ++ y) → Solid x
Solid_left [] y solid = tt
Solid_left (e ∷ x) y solid = (solid.0, Solid_left x y solid.1)

pub Solid_right : (x y : List Extent) → Solid (x ++ y) → Solid y
Solid_right [] y solid = solid
Solid_right (e ∷ x) y solid = Solid_right x y solid.1

-- nothing begins before a row
pub look_low : (f : ℕ) (row : List Extent) (q : ℕ) → q < f → extent_at f row q ≡ None
look_low f [] q low = refl
look_low f (e ∷ row) q low = rw (ne_eqb q f (λ is. absurd (omega (arith, is)))) (look_low (f + size e) row q (omega arith))

-- nothing begins behind a row
pub look_past : (f : ℕ) (row : List Extent) (q : ℕ) → Solid row → f + atoms_in row ≤ q → extent_at f row q ≡ None
look_past f [] q solid past = refl
look_past f (e ∷ row) q solid past =
    let some = solid.0 in
    rw (ne_eqb q f (λ is. absurd (omega (arith, is, past, some)))) (look_past (f + size e) row q solid.1 (omega (arith, past)))

pub look_left : (f : ℕ) (x y : List Extent) (q : ℕ) → q < f + atoms_in x → extent_at f (x ++ y) q ≡ extent_at f x q
look_left f [] y q low = look_low f y q (omega arith)
look_left f (e ∷ x) y q low = ap (λ (r : Option Extent). cond (eqb q f) (Some e) r) (look_left (f + size e) x y q (omega arith))

pub look_right : (f : ℕ) (x y : List Extent) (q : ℕ) → Solid x → f + atoms_in x ≤ q → extent_at f (x ++ y) q ≡ extent_at (f + atoms_in x) y q
look_right f [] y q solid high = ap (λ (g : ℕ). extent_at g y q) (omega arith)
look_right f (e ∷ x) y q solid high =
    let some = solid.0 in
    let place : (f + size e) + atoms_in x ≡ f + (size e + atoms_in x) = omega arith in
    rw (ne_eqb q f (λ is. absurd (omega (arith, is, high, some)))) (look_right (f + size e) x y q solid.1 (omega (arith, high)) ∙ ap (λ (g : ℕ). extent_at g y q) place)

-- what stands behind a front of a row
pub look_here : (f : ℕ) (x : List Extent) (e : Extent) (y : List Extent) → Solid x → extent_at f (x ++ e ∷ y) (f + atoms_in x) ≡ Some e
look_here f x e y solid = look_right f x (e ∷ y) (f + atoms_in x) solid (omega arith) ∙ rw (eq-eqb (f + atoms_in x) (f + atoms_in x) refl) refl

-- another extent of the same size changes nothing elsewhere
pub look_there : (f : ℕ) (x : List Extent) (b c : Extent) (y : List Extent) (q : ℕ) → size b ≡ size c → (q ≡ f + atoms_in x → ⊥) → extent_at f (x ++ b ∷ y) q ≡ extent_at f (x ++ c ∷ y) q
look_there f [] b c y q same not =
    rw (ne_eqb q f (λ is. not (omega (arith, is)))) (ap (λ (s : ℕ). extent_at (f + s) y q) same)
look_there f (e ∷ x) b c y q same not =
    ap (λ (r : Option Extent). cond (eqb q f) (Some e) r) (look_there (f + size e) x b c y q same (λ is. not (omega (arith, is))))

-- each of these means for P what nothing means
abbrev pub Quiet : {A : Type 0} → (Option Extent → A) → List Extent → Type 0
Quiet P [] = Unit {0}
Quiet P (e ∷ m) = (P (Some e) ≡ P None) × Quiet P m

chosen : {A : Type 0} → (P : Option Extent → A) (b : Bool) (u v w : Option Extent) → P u ≡ P w → P v ≡ P w → P (cond b u v) ≡ P w
chosen P true u v w first second = first
chosen P false u v w first second = second

kept_choice : {A : Type 0} → (P : Option Extent → A) (b : Bool) (u v w : Option Extent) → P v ≡ P w → P (cond b u v) ≡ P (cond b u w)
kept_choice P true u v w same = refl
kept_choice P false u v w same = same

pub look_quiet : {A : Type 0} → (P : Option Extent → A) (f : ℕ) (m : List Extent) (q : ℕ) → Quiet P m → P (extent_at f m q) ≡ P None
look_quiet P f [] q quiet = refl
look_quiet P f (e ∷ m) q quiet = chosen P (eqb q f) (Some e) (extent_at (f + size e) m q) None quiet.0 (look_quiet P (f + size e) m q quiet.1)

exchanged_front : {A : Type 0} → (P : Option Extent → A) (m n y : List Extent) (f q : ℕ) → Quiet P m → Quiet P n → Solid m → Solid n → atoms_in m ≡ atoms_in n → P (extent_at f (m ++ y) q) ≡ P (extent_at f (n ++ y) q)
exchanged_front P m n y f q quiet_m quiet_n solid_m solid_n same = elim (cases_lt q (f + atoms_in m)) [
  | inl low ↦
      let low_n : q < f + atoms_in n = omega (arith, same, low) in
      ap P (look_left f m y q low) ∙ look_quiet P f m q quiet_m ∙ sym (look_quiet P f n q quiet_n) ∙ sym (ap P (look_left f n y q low_n))
  | inr high ↦
      let high_n : f + atoms_in n ≤ q = omega (arith, same, high) in
      ap P (look_right f m y q solid_m high ∙ ap (λ (k : ℕ). extent_at (f + k) y q) same ∙ sym (look_right f n y q solid_n high_n))
]

-- a part of a row that means nothing is exchanged for another
pub look_exchanged : {A : Type 0} → (P : Option Extent → A) (x m n y : List Extent) (f q : ℕ) → Quiet P m → Quiet P n → Solid m → Solid n → atoms_in m ≡ atoms_in n → P (extent_at f (x ++ (m ++ y)) q) ≡ P (extent_at f (x ++ (n ++ y)) q)
look_exchanged P [] m n y f q quiet_m quiet_n solid_m solid_n same = exchanged_front P m n y f q quiet_m quiet_n solid_m solid_n same
look_exchanged P (e ∷ x) m n y f q quiet_m quiet_n solid_m solid_n same =
    kept_choice P (eqb q f) (Some e) (extent_at (f + size e) (x ++ (m ++ y)) q) (extent_at (f + size e) (x ++ (n ++ y)) q)
    (look_exchanged P x m n y (f + size e) q quiet_m quiet_n solid_m solid_n same)

-- a part that means nothing is put behind a row
pub look_longer : {A : Type 0} → (P : Option Extent → A) (x m : List Extent) (f q : ℕ) → Quiet P m → Solid x → P (extent_at f (x ++ m) q) ≡ P (extent_at f x q)
look_longer P x m f q quiet solid = elim (cases_lt q (f + atoms_in x)) [
  | inl low ↦ ap P (look_left f x m q low)
  | inr high ↦ ap P (look_right f x m q solid high) ∙ look_quiet P (f + atoms_in x) m q quiet ∙ sym (ap P (look_past f x q solid high))
]

-- what stands at an atom has a front before it
pub found : (f : ℕ) (row : List Extent) (q : ℕ) (b : Extent) → extent_at f row q ≡ Some b → (x : List Extent) × (y : List Extent) × (row ≡ x ++ b ∷ y) × (q ≡ f + atoms_in x)
found f [] q b is = absurd (cc)
found f (e ∷ row) q b is = elim (cases_eq q f) [
  | inl here ↦
      let same : Some e ≡ Some b = sym (ap (λ (t : Bool). cond t (Some e) (extent_at (f + size e) row q)) (eq-eqb q f here)) ∙ is in
      let one : e ≡ b = cc in
      ([], row, ap (λ (c : Extent). c ∷ row) one, omega (arith, here))
  | inr not ↦
      let rest = found (f + size e) row q b (sym (ap (λ (t : Bool). cond t (Some e) (extent_at (f + size e) row q)) (ne_eqb q f not)) ∙ is) in
      let place = rest.3 in
      (e ∷ rest.0, rest.1, ap (λ (r : List Extent). e ∷ r) rest.2, omega (arith, place))
]
