-- Contents by rising handle: two with the same contents are one list.
use Rattle.std.proofs.Common.{◌≡◌, ℕ, suc, ◌<◌, ◌≤◌, Bool, false, cond, List, [], ◌∷◌, Option, Some, None, refl, sym, ◌∙◌, ap, ap₂, subst, inl, inr, arith, eq-eqb, ne_eqb, lt-ltb, le-ltb}
use Rattle.std.proofs.lemmas.Bool.{cases_eq, cases_order}
use Rattle.std.specs.declared.cmp.Ordering.TheVariants.{Less, Equal, Greater}
use Rattle.std.specs.Ordering.{nat_cmp, is_eq}
use Rattle.lldb_blocks.specs.Maps.{Rising}
use Rattle.lldb_base.specs.Contents.{Contents, content_of, with_content, without}

is_less : (a b : ℕ) → a < b → nat_cmp a b ≡ Less
is_less a b below = rw (lt-ltb a b below) refl

is_equal : (a b : ℕ) → a ≡ b → nat_cmp a b ≡ Equal
is_equal a b same = rw (le-ltb a b (omega (arith, same)), eq-eqb a b same) refl

is_greater : (a b : ℕ) → b < a → nat_cmp a b ≡ Greater
is_greater a b above = rw (le-ltb a b (omega arith), ne_eqb a b (λ is. absurd (omega (arith, is)))) refl

not_equal : (a b : ℕ) → (a ≡ b → ⊥) → is_eq (nat_cmp a b) ≡ false
not_equal a b not = elim (cases_order a b) [
  | inl is ↦ absurd (not is)
  | inr (inl below) ↦ ap is_eq (is_less a b below)
  | inr (inr above) ↦ ap is_eq (is_greater a b above)
]

pub content_here : (q : ℕ) (e : ℕ × List ℕ) (es : Contents) → q ≡ e.0 → content_of q (e ∷ es) ≡ Some e.1
content_here q e es is = ap (λ (b : Bool). cond b (Some e.1) (content_of q es)) (ap is_eq (is_equal q e.0 is))

pub content_there : (q : ℕ) (e : ℕ × List ℕ) (es : Contents) → (q ≡ e.0 → ⊥) → content_of q (e ∷ es) ≡ content_of q es
content_there q e es not = ap (λ (b : Bool). cond b (Some e.1) (content_of q es)) (not_equal q e.0 not)

pub content_low : (f : ℕ) (es : Contents) (q : ℕ) → Rising f es → q < f → content_of q es ≡ None
content_low f [] q rising low = refl
content_low f (e ∷ es) q rising low =
    let from = rising.0 in
    content_there q e es (λ is. absurd (omega (arith, is, from, low))) ∙ content_low (suc e.0) es q rising.1 (omega (arith, from, low))

same_entry : (e d : ℕ × List ℕ) (es ds : Contents) → e.0 ≡ d.0 → e.1 ≡ d.1 → es ≡ ds → ◌≡◌ {A = Contents} (e ∷ es) (d ∷ ds)
same_entry e d es ds key value rest = ap₂ (λ (a : ℕ × List ℕ) (r : Contents). a ∷ r) (ap₂ (λ (k : ℕ) (v : List ℕ). (k, v)) key value) rest

-- contents are determined by what each handle has
pub same_contents : (f : ℕ) (es ds : Contents) → Rising f es → Rising f ds → ((q : ℕ) → content_of q es ≡ content_of q ds) → es ≡ ds
same_contents f [] [] rise_e rise_d same = refl
same_contents f [] (d ∷ ds) rise_e rise_d same = absurd (let at = same d.0 in let here = content_here d.0 d ds refl in cc)
same_contents f (e ∷ es) [] rise_e rise_d same = absurd (let at = same e.0 in let here = content_here e.0 e es refl in cc)
same_contents f (e ∷ es) (d ∷ ds) rise_e rise_d same = elim (cases_order e.0 d.0) [
  | inr (inl below) ↦ absurd (
      let at = same e.0 in
      let here = content_here e.0 e es refl in
      let none = content_low d.0 (d ∷ ds) e.0 (omega arith, rise_d.1) below in cc)
  | inr (inr above) ↦ absurd (
      let at = same d.0 in
      let here = content_here d.0 d ds refl in
      let none = content_low e.0 (e ∷ es) d.0 (omega arith, rise_e.1) above in cc)
  | inl key ↦
      let value : Some e.1 ≡ Some d.1 = sym (content_here e.0 e es refl) ∙ same e.0 ∙ content_here e.0 d ds key in
      let one : e.1 ≡ d.1 = cc in
      let rise : Rising (suc e.0) ds = subst (λ (k : ℕ). Rising (suc k) ds) (sym key) rise_d.1 in
      same_entry e d es ds key one (same_contents (suc e.0) es ds rise_e.1 rise (λ q. rest q key rise))
]
  where
    rest : (q : ℕ) → e.0 ≡ d.0 → Rising (suc e.0) ds → content_of q es ≡ content_of q ds
    rest q key rise = elim (cases_eq q e.0) [
      | inl is ↦ content_low (suc e.0) es q rise_e.1 (omega (arith, is)) ∙ sym (content_low (suc e.0) ds q rise (omega (arith, is)))
      | inr not ↦ sym (content_there q e es not) ∙ same q ∙ content_there q d ds (λ is. not (is ∙ sym key))
    ]

with_less : (k : ℕ) (v : List ℕ) (e : ℕ × List ℕ) (es : Contents) → k < e.0 → with_content k v (e ∷ es) ≡ (k, v) ∷ e ∷ es
with_less k v e es below = rw (is_less k e.0 below) refl

with_equal : (k : ℕ) (v : List ℕ) (e : ℕ × List ℕ) (es : Contents) → k ≡ e.0 → with_content k v (e ∷ es) ≡ (e.0, v) ∷ es
with_equal k v e es same = rw (is_equal k e.0 same) refl

with_greater : (k : ℕ) (v : List ℕ) (e : ℕ × List ℕ) (es : Contents) → e.0 < k → with_content k v (e ∷ es) ≡ e ∷ with_content k v es
with_greater k v e es above = rw (is_greater k e.0 above) refl

pub Rising_with : (f k : ℕ) (v : List ℕ) (es : Contents) → f ≤ k → Rising f es → Rising f (with_content k v es)
Rising_with f k v [] from rising = (from, tt)
Rising_with f k v (e ∷ es) from rising = elim (cases_order k e.0) [
  | inr (inl below) ↦ subst (λ (m : Contents). Rising f m) (sym (with_less k v e es below)) (from, (below, rising.1))
  | inl same ↦ subst (λ (m : Contents). Rising f m) (sym (with_equal k v e es same)) (rising.0, rising.1)
  | inr (inr above) ↦ subst (λ (m : Contents). Rising f m) (sym (with_greater k v e es above)) (rising.0, Rising_with (suc e.0) k v es above rising.1)
]

pub with_here : (k : ℕ) (v : List ℕ) (es : Contents) → content_of k (with_content k v es) ≡ Some v
with_here k v [] = content_here k (k, v) [] refl
with_here k v (e ∷ es) = elim (cases_order k e.0) [
  | inr (inl below) ↦ ap (content_of k) (with_less k v e es below) ∙ content_here k (k, v) (e ∷ es) refl
  | inl same ↦ ap (content_of k) (with_equal k v e es same) ∙ content_here k (e.0, v) es same
  | inr (inr above) ↦ ap (content_of k) (with_greater k v e es above) ∙ content_there k e (with_content k v es) (λ is. absurd (omega (arith, is))) ∙ with_here k v es
]

pub with_there : (k : ℕ) (v : List ℕ) (es : Contents) (q : ℕ) → (q ≡ k → ⊥) → content_of q (with_content k v es) ≡ content_of q es
with_there k v [] q not = content_there q (k, v) [] not
with_there k v (e ∷ es) q not = elim (cases_order k e.0) [
  | inr (inl below) ↦ ap (content_of q) (with_less k v e es below) ∙ content_there q (k, v) (e ∷ es) not
  | inl same ↦ ap (content_of q) (with_equal k v e es same) ∙ content_there q (e.0, v) es (λ is. not (is ∙ sym same)) ∙ sym (content_there q e es (λ is. not (is ∙ sym same)))
  | inr (inr above) ↦ ap (content_of q) (with_greater k v e es above) ∙ ap (λ (r : Option (List ℕ)). cond (is_eq (nat_cmp q e.0)) (Some e.1) r) (with_there k v es q not)
]

out_equal : (k : ℕ) (e : ℕ × List ℕ) (es : Contents) → k ≡ e.0 → without k (e ∷ es) ≡ es
out_equal k e es same = ap (λ (b : Bool). cond b es (e ∷ without k es)) (ap is_eq (is_equal k e.0 same))

out_other : (k : ℕ) (e : ℕ × List ℕ) (es : Contents) → (k ≡ e.0 → ⊥) → without k (e ∷ es) ≡ e ∷ without k es
out_other k e es not = ap (λ (b : Bool). cond b es (e ∷ without k es)) (not_equal k e.0 not)

pub Rising_from : (f g : ℕ) (es : Contents) → g ≤ f → Rising f es → Rising g es
Rising_from f g [] low rising = tt
Rising_from f g (e ∷ es) low rising = let from = rising.0 in (omega (arith, from, low), rising.1)

pub Rising_without : (f k : ℕ) (es : Contents) → Rising f es → Rising f (without k es)
Rising_without f k [] rising = tt
Rising_without f k (e ∷ es) rising = elim (cases_eq k e.0) [
  | inl same ↦ subst (λ (m : Contents). Rising f m) (sym (out_equal k e es same)) (let from = rising.0 in Rising_from (suc e.0) f es (omega (arith, from)) rising.1)
  | inr not ↦ subst (λ (m : Contents). Rising f m) (sym (out_other k e es not)) (rising.0, Rising_without (suc e.0) k es rising.1)
]

pub without_here : (f k : ℕ) (es : Contents) → Rising f es → content_of k (without k es) ≡ None
without_here f k [] rising = refl
without_here f k (e ∷ es) rising = elim (cases_eq k e.0) [
  | inl same ↦ ap (content_of k) (out_equal k e es same) ∙ content_low (suc e.0) es k rising.1 (omega (arith, same))
  | inr not ↦ ap (content_of k) (out_other k e es not) ∙ content_there k e (without k es) not ∙ without_here (suc e.0) k es rising.1
]

pub without_there : (k : ℕ) (es : Contents) (q : ℕ) → (q ≡ k → ⊥) → content_of q (without k es) ≡ content_of q es
without_there k [] q not = refl
without_there k (e ∷ es) q not = elim (cases_eq k e.0) [
  | inl same ↦ ap (content_of q) (out_equal k e es same) ∙ sym (content_there q e es (λ is. not (is ∙ sym same)))
  | inr other ↦ ap (content_of q) (out_other k e es other) ∙ ap (λ (r : Option (List ℕ)). cond (is_eq (nat_cmp q e.0)) (Some e.1) r) (without_there k es q not)
]

-- a content that is given, and taken again
pub without_with : (f k : ℕ) (v : List ℕ) (es : Contents) → Rising f es → f ≤ k → content_of k es ≡ None → without k (with_content k v es) ≡ es
without_with f k v es rising from none =
    let rise = Rising_with f k v es from rising in
    same_contents f (without k (with_content k v es)) es (Rising_without f k (with_content k v es) rise) rising (λ q. elim (cases_eq q k) [
      | inl is ↦ subst (λ (a : ℕ). content_of a (without k (with_content k v es)) ≡ content_of a es) (sym is) (without_here f k (with_content k v es) rise ∙ sym none)
      | inr not ↦ without_there k (with_content k v es) q not ∙ with_there k v es q not
    ])

-- a content that is given in place of one that was taken
pub with_without : (f k : ℕ) (v : List ℕ) (es : Contents) → Rising f es → f ≤ k → with_content k v (without k es) ≡ with_content k v es
with_without f k v es rising from =
    same_contents f (with_content k v (without k es)) (with_content k v es) (Rising_with f k v (without k es) from (Rising_without f k es rising)) (Rising_with f k v es from rising) (λ q. elim (cases_eq q k) [
      | inl is ↦ subst (λ (a : ℕ). content_of a (with_content k v (without k es)) ≡ content_of a (with_content k v es)) (sym is) (with_here k v (without k es) ∙ sym (with_here k v es))
      | inr not ↦ with_there k v (without k es) q not ∙ without_there k es q not ∙ sym (with_there k v es q not)
    ])
