-- What a heap's map has at each handle after one change.
use Rattle.std.proofs.Common.{◌≡◌, ⊎_elim, ℕ, ◌+◌, ◌≤◌, Bool, true, false, cond, eqb, List, [], ◌∷◌, Option, Some, None, refl, sym, ap, ◌∙◌, arith}
use Rattle.std.specs.declared.cmp.Ordering.{Ordering}
use Rattle.std.specs.declared.cmp.Ordering.TheVariants.{Less, Equal, Greater}
use Rattle.std.specs.Ordering.{nat_cmp, match_ordering, is_eq}
use Rattle.std.specs.Cmp.{nat_cmp_total, tied_itself}
use Rattle.std.proofs.lemmas.Bool.{cases_eq}
use Rattle.std.proofs.lemmas.Bool.Decides.{nat_tests}
use Rattle.std.proofs.lemmas.Cmp.{ranked}
use Rattle.lldb_base.specs.Contents.{Contents, content_of, with_content}
use Rattle.lldb_btree.specs.Footprints.{unless, Edits}

self : (n : ℕ) → nat_cmp n n ≡ Equal
self n = tied_itself nat_cmp_total n

same_step : (h : ℕ) (c : List ℕ) (e : ℕ × List ℕ) (es : Contents) → content_of h (with_content h c es) ≡ Some c → (o : Ordering) → nat_cmp h e.0 ≡ o → content_of h (match_ordering o ((h, c) ∷ e ∷ es) ((e.0, c) ∷ es) (e ∷ with_content h c es)) ≡ Some c
same_step h c e es more Less is = ap (λ (o : Ordering). cond (is_eq o) (Some c) (content_of h (e ∷ es))) (self h)
same_step h c e es more Equal is = ap (λ (o : Ordering). cond (is_eq o) (Some c) (content_of h es)) is
same_step h c e es more Greater is = ap (λ (o : Ordering). cond (is_eq o) (Some e.1) (content_of h (with_content h c es))) is ∙ more

-- the handle has the content
pub put_same : (h : ℕ) (c : List ℕ) (m : Contents) → content_of h (with_content h c m) ≡ Some c
put_same h c [] = ap (λ (o : Ordering). cond (is_eq o) (Some c) None) (self h)
put_same h c (e ∷ es) = same_step h c e es (put_same h c es) (nat_cmp h e.0) refl

other_step : (n h : ℕ) (c : List ℕ) (e : ℕ × List ℕ) (es : Contents) → is_eq (nat_cmp n h) ≡ false → content_of n (with_content h c es) ≡ content_of n es → (o : Ordering) → nat_cmp h e.0 ≡ o → content_of n (match_ordering o ((h, c) ∷ e ∷ es) ((e.0, c) ∷ es) (e ∷ with_content h c es)) ≡ content_of n (e ∷ es)
other_step n h c e es apart more Less is = ap (λ (b : Bool). cond b (Some c) (content_of n (e ∷ es))) apart
other_step n h c e es apart more Equal is =
    let here : h ≡ e.0 = ranked h e.0 Equal (sym is) in
    let no : is_eq (nat_cmp n e.0) ≡ false = ap (λ (k : ℕ). is_eq (nat_cmp n k)) (sym here) ∙ apart in
    ap (λ (b : Bool). cond b (Some c) (content_of n es)) no ∙ sym (ap (λ (b : Bool). cond b (Some e.1) (content_of n es)) no)
other_step n h c e es apart more Greater is = ap (λ (r : Option (List ℕ)). cond (is_eq (nat_cmp n e.0)) (Some e.1) r) more

-- every other handle has what it had
pub put_other : (n h : ℕ) (c : List ℕ) (m : Contents) → is_eq (nat_cmp n h) ≡ false → content_of n (with_content h c m) ≡ content_of n m
put_other n h c [] apart = ap (λ (b : Bool). cond b (Some c) None) apart
put_other n h c (e ∷ es) apart = other_step n h c e es apart (put_other n h c es apart) (nat_cmp h e.0) refl

pub apart_from : (n h : ℕ) → (n ≡ h → ⊥) → (o : Ordering) → nat_cmp n h ≡ o → is_eq o ≡ false
apart_from n h ne Less is = refl
apart_from n h ne Equal is = absurd (ne (ranked n h Equal (sym is)))
apart_from n h ne Greater is = refl

pub put_apart : (n h : ℕ) (c : List ℕ) (m : Contents) → (n ≡ h → ⊥) → content_of n (with_content h c m) ≡ content_of n m
put_apart n h c m ne = put_other n h c m (apart_from n h ne (nat_cmp n h) refl)

pub eqb_self : (n : ℕ) → eqb n n ≡ true
eqb_self n = grind (arith, nat_tests)

pub eqb_apart : (n h : ℕ) → (n ≡ h → ⊥) → eqb n h ≡ false
eqb_apart n h ne = grind (arith, nat_tests)

-- a handle that was not live is added
pub edit_create : (old : Contents) (h : ℕ) (c : List ℕ) → content_of h old ≡ None → Edits old (with_content h c old) [] (h ∷ [])
edit_create old h c dead = record {
  rest = λ n. ⊎_elim
      (λ same. at_handle n same)
      (λ ne. ap (λ (b : Bool). unless (cond b 1 0 + 0) (content_of n (with_content h c old))) (eqb_apart n h ne) ∙ put_apart n h c old ne)
      (cases_eq n h);
  once = λ n. once_at n (eqb n h);
} where
  at_handle : (n : ℕ) → n ≡ h → unless (cond (eqb n h) 1 0 + 0) (content_of n (with_content h c old)) ≡ content_of n old
  at_handle n same = rw same (ap (λ (b : Bool). unless (cond b 1 0 + 0) (content_of h (with_content h c old))) (eqb_self h) ∙ sym dead)

  once_at : (n : ℕ) (b : Bool) → cond b 1 0 + 0 ≤ 1
  once_at n true = omega arith
  once_at n false = omega arith
