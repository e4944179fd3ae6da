-- A search among the entries of a node, one entry at a time.
use Rattle.std.proofs.Common.{◌≡◌, ℕ, suc, ◌==◌, Bool, true, false, cond, not, ◌&&◌, ◌||◌, List, [], ◌∷◌, length, refl, sym, ap, ◌∙◌, arith}
use Rattle.std.proofs.lemmas.Bool.Decides.{nat_tests}
use Rattle.lldb_btree.specs.Bounds.{is_empty, from_first}
use Rattle.lldb_btree.specs.Nodes.{Entry, body}
use Rattle.lldb_btree.specs.Reading.{IsSought}

pub sought_none : (leaf : Bool) (test : List ℕ → Bool) (es : List Entry) (bytes : List ℕ) (left : ℕ) → left ≡ 0 → length es ≡ left → bytes ≡ body es → IsSought leaf test es bytes 0
sought_none leaf test [] bytes left z l is = (is, refl)
sought_none leaf test (e ∷ es) bytes left z l is = absurd (omega (arith, z, l))

last_left : (es : List Entry) (left : ℕ) → suc (length es) ≡ left → (left == 1) ≡ is_empty es
last_left [] left l = let one : left ≡ 1 = omega (arith, l) in rw one refl
last_left (e ∷ es) left l =
    let more : left ≡ 1 → ⊥ = λ o. omega (arith, l, o) in
    grind (arith, nat_tests)

pub sought_here : (leaf : Bool) (test : List ℕ → Bool) (e : Entry) (es : List Entry) (bytes : List ℕ) (left : ℕ) → suc (length es) ≡ left → bytes ≡ body (e ∷ es) → (test e.key || (not leaf && (left == 1))) ≡ true → IsSought leaf test (e ∷ es) bytes left
sought_here leaf test e es bytes left l is stop =
    let ends : (test e.key || (not leaf && is_empty es)) ≡ true = ap (λ (b : Bool). test e.key || (not leaf && b)) (sym (last_left es left l)) ∙ stop in
    let same : from_first leaf test (e ∷ es) ≡ e ∷ es = ap (λ (b : Bool). cond b (e ∷ es) (from_first leaf test es)) ends in
    (is ∙ ap body (sym same), sym l ∙ ap length (sym same))

pub sought_on : (leaf : Bool) (test : List ℕ → Bool) (e : Entry) (es : List Entry) (bytes : List ℕ) (left found : ℕ) → suc (length es) ≡ left → (test e.key || (not leaf && (left == 1))) ≡ false → IsSought leaf test es bytes found → IsSought leaf test (e ∷ es) bytes found
sought_on leaf test e es bytes left found l on more =
    let ends : (test e.key || (not leaf && is_empty es)) ≡ false = ap (λ (b : Bool). test e.key || (not leaf && b)) (sym (last_left es left l)) ∙ on in
    let same : from_first leaf test (e ∷ es) ≡ from_first leaf test es = ap (λ (b : Bool). cond b (e ∷ es) (from_first leaf test es)) ends in
    (more.0 ∙ ap body (sym same), more.1 ∙ ap length (sym same))
