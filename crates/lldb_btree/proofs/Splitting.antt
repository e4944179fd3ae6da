-- The parts of an entry, one behind the other.
use Rattle.std.proofs.Common.{◌≡◌, ◌↔◌, ℕ, zero, suc, ◌+◌, ◌-◌, ◌<◌, ◌≤◌, Bool, true, false, not, ◌&&◌, ◌||◌, ◌==◌, List, [], ◌∷◌, ◌++◌, length, take, drop, get_or, Option, Some, None, MatchOption, IfSome, IsSomeAnd, IsTrue, Bor, refl, sym, ap, ap₂, ◌∙◌, arith, length-append, take-append-drop, length-take-le, take_at, drop_at, add-one, w16}
use Rattle.std.specs.Int.{to_be_bytes, from_be_bytes}
use Rattle.std.specs.List.{AllByRecursion, IsSplitAt, slice_get}
use Rattle.std.proofs.lemmas.Nat.{be_bytes_2}
use Rattle.lldb_btree.specs.Nodes.{Entry, IsEntry, IsTail, entry_bytes, body}
use Rattle.lldb_btree.specs.Reading.{IsSought}
use Rattle.lldb_btree.proofs.Searching.{sought_here, sought_on}

two_small : (a b : ℕ) → a < 256 → b < 256 → (i : ℕ) → get_or (a ∷ b ∷ []) i 0 < 256
two_small a b p q zero = p
two_small a b p q (suc zero) = q
two_small a b p q (suc (suc i)) = omega arith

counted : (bytes len rest front back : List ℕ) (n : ℕ) → ((i : ℕ) → get_or bytes i 0 < 256) → len ≡ take 2 bytes → rest ≡ drop 2 bytes → length rest + 2 ≡ length bytes → n ≡ from_be_bytes w16 len → IsSplitAt rest n front back → bytes ≡ to_be_bytes w16 (length front) ++ (front ++ back)
counted [] len rest front back n small l r two is s = absurd (omega (arith, two))
counted (a ∷ []) len rest front back n small l r two is s = absurd (omega (arith, two))
counted (a ∷ b ∷ bytes) len rest front back n small l r two is s =
    let head : n ≡ from_be_bytes w16 (a ∷ b ∷ []) = is ∙ ap (from_be_bytes w16) l in
    let number : to_be_bytes w16 n ≡ a ∷ b ∷ [] = be_bytes_2 (a ∷ b ∷ []) n refl (two_small a b (small 0) (small 1)) head in
    let whole : front ++ back ≡ bytes = ap₂ (λ (x y : List ℕ). x ++ y) s.1 s.2 ∙ take-append-drop n rest ∙ r in
    let lens : to_be_bytes w16 (length front) ≡ a ∷ b ∷ [] = ap (to_be_bytes w16) s.3 ∙ number in
    sym (ap₂ (λ (x y : List ℕ). x ++ y) lens whole)

pub counted_some : (bytes len rest : List ℕ) (n : ℕ) (r : Option (Bor (List ℕ) × Bor (List ℕ))) → ((i : ℕ) → get_or bytes i 0 < 256) → len ≡ take 2 bytes → rest ≡ drop 2 bytes → length rest + 2 ≡ length bytes → n ≡ from_be_bytes w16 len → MatchOption r (length rest < n) (λ p. IsSplitAt rest n p.0.now p.1.now) → IfSome r (λ p. bytes ≡ to_be_bytes w16 (length p.0.now) ++ (p.0.now ++ p.1.now))
counted_some bytes len rest n None small l r two is m = tt
counted_some bytes len rest n (Some p) small l r two is m = counted bytes len rest p.0.now p.1.now n small l r two is m

pub tail_of_eight : (leaf : Bool) (bytes : List ℕ) (r : Option (Bor (List ℕ) × Bor (List ℕ))) → leaf ≡ false → MatchOption r (length bytes < 8) (λ p. IsSplitAt bytes 8 p.0.now p.1.now) → (tail more : List ℕ) → IsTail leaf tail → bytes ≡ tail ++ more → IsSomeAnd r (λ p. (p.0.now ≡ tail) × (p.1.now ≡ more))
tail_of_eight leaf bytes None e m tail more is b =
    let t : IsTail false tail = rw e at is in
    let eight : length tail ≡ 8 = t in
    absurd (omega (arith, m, ap length b, length-append tail more, eight))
tail_of_eight leaf bytes (Some p) e m tail more is b =
    let t : IsTail false tail = rw e at is in
    (m.1 ∙ ap (take 8) b ∙ take_at tail more 8 t, m.2 ∙ ap (drop 8) b ∙ drop_at tail more 8 t)

pub tail_of_value : (leaf : Bool) (bytes : List ℕ) (n : ℕ) (r : Option (Bor (List ℕ) × Bor (List ℕ))) → leaf ≡ true → Some n ≡ slice_get bytes 0 → n ≤ 16 → MatchOption r (length bytes < n + 1) (λ p. IsSplitAt bytes (n + 1) p.0.now p.1.now) → IfSome r (λ p. (bytes ≡ p.0.now ++ p.1.now) × IsTail leaf p.0.now)
tail_of_value leaf bytes n None e first low m = tt
tail_of_value leaf [] n (Some p) e first low m = absurd (cc)
tail_of_value leaf (b ∷ bytes) n (Some p) e first low m =
    let same : n ≡ b = cc (first) in
    let long : length (take n bytes) ≡ n = length-take-le n bytes (omega (arith, m.0)) in
    let front : take (n + 1) (b ∷ bytes) ≡ b ∷ take n bytes = rw add-one refl in
    let tail : p.0.now ≡ length (take n bytes) ∷ take n bytes = m.1 ∙ front ∙ ap (λ (x : ℕ). x ∷ take n bytes) (sym same ∙ sym long) in
    let is : IsTail true p.0.now = (take n bytes, omega (arith, long, low), tail) in
    (sym (ap₂ (λ (x y : List ℕ). x ++ y) m.1 m.2 ∙ take-append-drop (n + 1) (b ∷ bytes)), rw e is)

-- a call that reads entries whole finds one where there is one
abbrev pub Whole : Bool → List ℕ → List ℕ → List ℕ → List ℕ → Type 0
Whole leaf bytes key tail rest = (e : Entry) (more : List ℕ) → IsEntry leaf e → bytes ≡ entry_bytes e ++ more → (key ≡ e.key) × (tail ≡ e.tail) × (rest ≡ more)

pub seek_bad : (leaf : Bool) (left : ℕ) (bytes : List ℕ) → (left ≡ 0 → ⊥) → ((e : Entry) (more : List ℕ) → IsEntry leaf e → bytes ≡ entry_bytes e ++ more → ⊥) → (es : List Entry) → AllByRecursion (IsEntry leaf) es → length es ≡ left → bytes ≡ body es → ⊥
seek_bad leaf left bytes some none [] fits len is = some (sym len)
seek_bad leaf left bytes some none (e ∷ es) fits len is = none e (body es) fits.0 is

pub seek_stops : (leaf : Bool) (test : List ℕ → Bool) (left : ℕ) (bytes key tail rest : List ℕ) → (left ≡ 0 → ⊥) → Whole leaf bytes key tail rest → (test key || (not leaf && (left == 1))) ≡ true → (es : List Entry) → AllByRecursion (IsEntry leaf) es → length es ≡ left → bytes ≡ body es → IsSought leaf test es bytes left
seek_stops leaf test left bytes key tail rest some whole stop [] fits len is = absurd (some (sym len))
seek_stops leaf test left bytes key tail rest some whole stop (e ∷ es) fits len is =
    let w : (key ≡ e.key) × (tail ≡ e.tail) × (rest ≡ body es) = whole e (body es) fits.0 is in
    let here : (test e.key || (not leaf && (left == 1))) ≡ true = ap (λ (k : List ℕ). test k || (not leaf && (left == 1))) (sym w.0) ∙ stop in
    sought_here leaf test e es bytes left len is here

sought_same : (leaf : Bool) (test : List ℕ → Bool) (e : Entry) (es : List Entry) (bytes : List ℕ) (left found : ℕ) → suc (length es) ≡ left → (test e.key || (not leaf && (left == 1))) ≡ false → IsSought leaf test es bytes found → IsSought leaf test (e ∷ es) bytes found
sought_same leaf test e es bytes left found l on s = sought_on leaf test e es bytes left found l on s

pub some_on : {X : Type 0} (P Q : X → Type 0) (r : Option X) → ((x : X) → P x → Q x) → IsSomeAnd r P → IsSomeAnd r Q
some_on P Q None f p = p
some_on P Q (Some x) f p = f x p

pub seek_goes : (leaf : Bool) (test : List ℕ → Bool) (left : ℕ) (bytes key tail rest : List ℕ) (r : Option (Bor (List ℕ) × ℕ)) → (left ≡ 0 → ⊥) → Whole leaf bytes key tail rest → (test key || (not leaf && (left == 1))) ≡ false → ((es : List Entry) → AllByRecursion (IsEntry leaf) es → length es ≡ left - 1 → rest ≡ body es → IsSomeAnd r (λ p. IsSought leaf test es p.0.now p.1)) → (es : List Entry) → AllByRecursion (IsEntry leaf) es → length es ≡ left → bytes ≡ body es → IsSomeAnd r (λ p. IsSought leaf test es p.0.now p.1)
seek_goes leaf test left bytes key tail rest r some whole on next [] fits len is = absurd (some (sym len))
seek_goes leaf test left bytes key tail rest r some whole on next (e ∷ es) fits len is =
    let w : (key ≡ e.key) × (tail ≡ e.tail) × (rest ≡ body es) = whole e (body es) fits.0 is in
    let past : (test e.key || (not leaf && (left == 1))) ≡ false = ap (λ (k : List ℕ). test k || (not leaf && (left == 1))) (sym w.0) ∙ on in
    some_on (λ p. IsSought leaf test es p.0.now p.1) (λ p. IsSought leaf test (e ∷ es) p.0.now p.1) r (λ p s. sought_same leaf test e es p.0.now left p.1 len past s) (next es fits.1 (omega (arith, len)) w.2)

-- an answer of no refuses what a yes would mean
pub refused_by : (b : Bool) (P : Type 0) → (IsTrue b ↔ P) → b ≡ false → P → ⊥
refused_by b P iff off p = let clash : true ≡ false = sym (iff.1 p) ∙ off in absurd (cc)

pub granted_by : (b : Bool) (P : Type 0) → (IsTrue b ↔ P) → b ≡ true → P
granted_by b P iff on = iff.0 on
