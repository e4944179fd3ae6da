-- Entries of a map in order.
use Rattle.std.proofs.Common.{◌≡◌, ℕ, ◌^◌, ◌<◌, ◌≤◌, ◌⊎◌, inl, inr, Bool, true, false, cond, List, [], ◌∷◌, ◌++◌, length, Option, Some, None, MatchOption, is_some, All, refl, arith, sym, ◌∙◌, ap, append_assoc}
use Rattle.std.specs.declared.cmp.Ordering.{Ordering}
use Rattle.std.specs.declared.cmp.Ordering.TheVariants.{Less, Equal, Greater}
use Rattle.std.specs.Ordering.{nat_cmp, match_ordering, is_eq}
use Rattle.std.specs.List.{AllByRecursion}
use Rattle.std.specs.List.Sorted.{IsStrictlySortedBy}
use Rattle.std.specs.Map.{keys_of, remove_entry}
use Rattle.std.specs.BTreeMap.{insert_entry, is_at}
use Rattle.std.specs.Cmp.{nat_cmp_is}
use Rattle.std.proofs.lemmas.Cmp.{ranked}
use Rattle.std.proofs.lemmas.List.Elements.{All-cons, All-head, All-tail, All-rest}
use Rattle.std.proofs.lemmas.Map.Keys.{sorted_head, sorted_tail}
use Rattle.lldb_base.specs.Contents.{Contents, content_of, with_content, without, IsEntry, AreContents}

in_middle : (P : ℕ → Type 0) (es : List (ℕ × List ℕ)) (k : ℕ) (v : List ℕ) (left : List (ℕ × List ℕ)) → AllByRecursion P (keys_of (es ++ (k, v) ∷ left)) → P k
in_middle P [] k v left all = all.0
in_middle P (e ∷ es) k v left all = in_middle P es k v left all.1

greater : (a b : ℕ) → nat_cmp a b ≡ Less → nat_cmp b a ≡ Greater
greater a b below = sym (nat_cmp_is b a Greater (ranked a b Less (sym below)))

-- an entry whose key is above all others goes to the end
pub insert_last : (es : List (ℕ × List ℕ)) (k : ℕ) (v : List ℕ) (left : List (ℕ × List ℕ)) → IsStrictlySortedBy nat_cmp (keys_of (es ++ (k, v) ∷ left)) → insert_entry nat_cmp es k v ≡ es ++ (k, v) ∷ []
insert_last [] k v left sorted = refl
insert_last (e ∷ es) k v left sorted =
    rw (greater e.0 k (in_middle (λ y. nat_cmp e.0 y ≡ Less) es k v left (sorted_head nat_cmp e.0 (keys_of (es ++ (k, v) ∷ left)) sorted)))
    (ap (λ (xs : List (ℕ × List ℕ)). e ∷ xs) (insert_last es k v left (sorted_tail nat_cmp e.0 (keys_of (es ++ (k, v) ∷ left)) sorted)))

pub copied_on : (done now left all : List (ℕ × List ℕ)) (k : ℕ) (v : List ℕ) → IsStrictlySortedBy nat_cmp (keys_of all) → done ++ (k, v) ∷ left ≡ all → now ≡ insert_entry nat_cmp done k v → now ++ left ≡ all
copied_on done now left all k v sorted here is =
    let last = insert_last done k v left (rw here sorted) in
    ap (λ (xs : List (ℕ × List ℕ)). xs ++ left) (is ∙ last) ∙ append_assoc done ((k, v) ∷ []) left ∙ here

all_chosen : (P : ℕ × List ℕ → Type 0) (o : Ordering) (a b c : Contents) → All P a → All P b → All P c → All P (match_ordering o a b c)
all_chosen P Less a b c p q r = p
all_chosen P Equal a b c p q r = q
all_chosen P Greater a b c p q r = r

all_either : (P : ℕ × List ℕ → Type 0) (b : Bool) (x y : Contents) → All P x → All P y → All P (cond b x y)
all_either P true x y p q = p
all_either P false x y p q = q

all_with : (k : ℕ) (v : List ℕ) (es : Contents) → IsEntry (k, v) → All IsEntry es → All IsEntry (with_content k v es)
all_with k v [] new all = All-cons IsEntry (k, v) [] new all
all_with k v (e ∷ es) new all =
    let here : IsEntry e = All-head IsEntry e es all in
    let rest : All IsEntry es = All-tail IsEntry e es all in
    all_chosen IsEntry (nat_cmp k e.0) ((k, v) ∷ e ∷ es) ((e.0, v) ∷ es) (e ∷ with_content k v es)
    (All-cons IsEntry (k, v) (e ∷ es) new all)
    (All-cons IsEntry (e.0, v) es (here.0, here.1, new.2) rest)
    (All-cons IsEntry e (with_content k v es) here (all_with k v es new rest))

all_without : (test : ℕ → Bool) (es : Contents) → All IsEntry es → All IsEntry (remove_entry test es)
all_without test [] all = all
all_without test (e ∷ es) all =
    let rest : All IsEntry es = All-tail IsEntry e es all in
    all_either IsEntry (test e.0) es (e ∷ remove_entry test es) rest (All-cons IsEntry e (remove_entry test es) (All-head IsEntry e es all) (all_without test es rest))

pub contents_with : (k : ℕ) (v : List ℕ) (es now : Contents) → AreContents es → 8 ≤ k → k < 2 ^ 64 → length v ≤ 65787 → IsStrictlySortedBy nat_cmp (keys_of now) → now ≡ with_content k v es → AreContents now
contents_with k v es now old low high short rising is = record { rising = rising; entries = rw is (all_with k v es (low, high, short) old.entries) }

pub contents_without : (k : ℕ) (es now : Contents) → AreContents es → IsStrictlySortedBy nat_cmp (keys_of now) → now ≡ without k es → AreContents now
contents_without k es now old rising is = record { rising = rising; entries = rw is (all_without (is_at (nat_cmp k)) es old.entries) }

found_here : (k : ℕ) (e : ℕ × List ℕ) (rest : Option (List ℕ)) (o : Ordering) → o ≡ nat_cmp k e.0 → is_some (cond (is_eq o) (Some e.1) rest) ≡ true → (k ≡ e.0) ⊎ (is_some rest ≡ true)
found_here k e rest Less is found = inr found
found_here k e rest Equal is found = inl (ranked k e.0 Equal is)
found_here k e rest Greater is found = inr found

live_entry : (k : ℕ) (es : Contents) → All IsEntry es → is_some (content_of k es) ≡ true → 8 ≤ k
live_entry k [] all found = absurd (cc)
live_entry k (e ∷ es) all found =
    elim (found_here k e (content_of k es) (nat_cmp k e.0) refl found) [
      | inl same ↦ let here : IsEntry e = All-head IsEntry e es all in omega (arith, same, here.0)
      | inr more ↦ live_entry k es (All-tail IsEntry e es all) more
    ]

-- a live handle is at least 8
pub live_from : (k : ℕ) (es : Contents) → AreContents es → is_some (content_of k es) ≡ true → 8 ≤ k
live_from k es old found = live_entry k es old.entries found

pub all_after : (top : Contents) (old now : List Contents) → old ≡ top ∷ now → All AreContents old → All AreContents now
all_after top old now is all = All-rest AreContents top now old is all

pub top_of : (top : Contents) (old now : List Contents) → old ≡ top ∷ now → All AreContents old → AreContents top
top_of top old now is all = All-head AreContents top now (rw is at all)

pub all_popped : {X : Type 0} (f : X → Contents) (r : Option X) (old now : List Contents) → MatchOption r ((old ≡ []) × (now ≡ [])) (λ top. old ≡ f top ∷ now) → All AreContents old → All AreContents now
all_popped f None old now is all = rw (is.1 ∙ sym is.0) all
all_popped f (Some top) old now is all = all_after (f top) old now is all
