-- Edits one after the other, and an edit as one of a larger part.
use Rattle.std.proofs.Common.{◌≡◌, ⊎_elim, ℕ, zero, suc, ◌+◌, ◌<◌, ◌≤◌, Bool, cond, List, [], ◌∷◌, ◌++◌, Option, None, refl, sym, ap, ◌∙◌, arith}
use Rattle.std.proofs.lemmas.Bool.{cases_eq}
use Rattle.lldb_base.specs.Contents.{Contents, content_of, with_content}
use Rattle.lldb_btree.specs.Footprints.{times, unless, Edits}
use Rattle.lldb_btree.proofs.Puts.{put_apart, eqb_self, eqb_apart}

-- each handle of a footprint is live
abbrev pub Live : Contents → List ℕ → Type 0
Live m us = (n : ℕ) → 0 < times n us → content_of n m ≡ None → ⊥

pub times_append : (n : ℕ) (xs ys : List ℕ) → times n (xs ++ ys) ≡ times n xs + times n ys
times_append n [] ys = omega arith
times_append n (x ∷ xs) ys = omega (arith, times_append n xs ys)

pub times_here : (h : ℕ) (us : List ℕ) → 0 < times h (h ∷ us)
times_here h us = rw (eqb_self h) (omega arith)

pub times_self : (h : ℕ) (us : List ℕ) → times h (h ∷ us) ≡ 1 + times h us
times_self h us = rw (eqb_self h) refl

pub times_there : (n h : ℕ) (us : List ℕ) → (n ≡ h → ⊥) → times n (h ∷ us) ≡ times n us
times_there n h us ne = ap (λ (b : Bool). cond b 1 0 + times n us) (eqb_apart n h ne) ∙ none_more (times n us) where
  none_more : (k : ℕ) → 0 + k ≡ k
  none_more k = omega arith

pub edits_then : (a b c : Contents) (xs ys zs : List ℕ) → Edits a b xs ys → Edits b c ys zs → Edits a c xs zs
edits_then a b c xs ys zs e f = record { rest = λ n. f.rest n ∙ e.rest n; once = f.once }

pub edits_none : (m : Contents) (us : List ℕ) → ((n : ℕ) → times n us ≤ 1) → Edits m m us us
edits_none m us once = record { rest = λ n. refl; once = once }

in_once : (a b p : ℕ) (x y : Option (List ℕ)) → p + b ≤ 1 → a ≤ 1 → (0 < p → y ≡ None → ⊥) → unless a x ≡ unless b y → p + a ≤ 1
in_once a b zero x y w o live e = omega (arith, o)
in_once zero b (suc p) x y w o live e = omega (arith, w)
in_once (suc a) zero (suc p) x y w o live e = absurd (live (omega arith) (sym e))
in_once (suc a) (suc b) (suc p) x y w o live e = absurd (omega (arith, w))

both_none : (s t : ℕ) (x y : Option (List ℕ)) → 0 < s → 0 < t → unless s x ≡ unless t y
both_none zero t x y low high = absurd (omega (arith, low))
both_none (suc s) zero x y low high = absurd (omega (arith, high))
both_none (suc s) (suc t) x y low high = refl

in_rest : (a b p s t : ℕ) (x y : Option (List ℕ)) → s ≡ p + a → t ≡ p + b → unless a x ≡ unless b y → unless s x ≡ unless t y
in_rest a b zero s t x y es et e =
    let sa : s ≡ a = omega (arith, es) in
    let tb : t ≡ b = omega (arith, et) in
    rw (sa, tb) e
in_rest a b (suc p) s t x y es et e = both_none s t x y (omega (arith, es)) (omega (arith, et))

-- an edit of a part is one of the whole, where the rest of it is live and apart
pub edits_in : (old new : Contents) (before after part whole whole_new : List ℕ) → Edits old new before after → Live old part → ((n : ℕ) → times n whole ≡ times n part + times n before) → ((n : ℕ) → times n whole_new ≡ times n part + times n after) → ((n : ℕ) → times n whole ≤ 1) → Edits old new whole whole_new
edits_in old new before after part whole whole_new e live sum sum_new once = record {
  rest = λ n. in_rest (times n after) (times n before) (times n part) (times n whole_new) (times n whole) (content_of n new) (content_of n old) (sum_new n) (sum n) (e.rest n);
  once = λ n.
      let low : times n part + times n before ≤ 1 = omega (arith, sum n, once n) in
      let most : times n part + times n after ≤ 1 = in_once (times n after) (times n before) (times n part) (content_of n new) (content_of n old) low (e.once n) (live n) (e.rest n) in
      omega (arith, sum_new n, most);
}

-- another content at a handle of a footprint
pub edit_put : (m : Contents) (h : ℕ) (c : List ℕ) (us : List ℕ) → 0 < times h us → ((n : ℕ) → times n us ≤ 1) → Edits m (with_content h c m) us us
edit_put m h c us here once = record {
  rest = λ n. ⊎_elim
      (λ same. both_none (times n us) (times n us) (content_of n (with_content h c m)) (content_of n m) (rw same here) (rw same here))
      (λ ne. ap (unless (times n us)) (put_apart n h c m ne))
      (cases_eq n h);
  once = once;
}

stays_at : (a b : ℕ) (x y : Option (List ℕ)) → b ≡ 0 → unless a x ≡ unless b y → (y ≡ None → ⊥) → x ≡ y
stays_at zero zero x y z e live = e
stays_at (suc a) zero x y z e live = absurd (live (sym e))
stays_at a (suc b) x y z e live = absurd (omega (arith, z))

-- what is live and apart from what is edited stays
pub edit_stays : (old new : Contents) (before after : List ℕ) (n : ℕ) → Edits old new before after → times n before ≡ 0 → (content_of n old ≡ None → ⊥) → content_of n new ≡ content_of n old
edit_stays old new before after n e apart live = stays_at (times n after) (times n before) (content_of n new) (content_of n old) apart (e.rest n) live
