-- The lists of a row's free blocks, as a block leaves its list or comes into one, and as other parts of the row change.
use Rattle.std.proofs.Common.{◌≡◌, ℕ, ◌+◌, ◌<◌, true, false, List, [], ◌∷◌, ◌++◌, Option, Some, None, refl, sym, ◌∙◌, ap, subst, inl, inr, arith, eq-eqb, ne_eqb, eqb-true}
use Rattle.std.proofs.lemmas.Bool.{cases_eq, false≢true}
use Rattle.lldb_atoms.specs.Blocks.{Extent, Used, Compressed, Moved, Free, Hole, size}
use Rattle.lldb_atoms.specs.Rows.{atoms_in, extent_at, contains}
use Rattle.lldb_atoms.specs.Lists.{in_class, class_of}
use Rattle.lldb_blocks.specs.Links.{Apart, leaving_out, first, last, Linked, at_one, head_without, Listed}
use Rattle.lldb_blocks.specs.Laid.{Solid}
use Rattle.lldb_blocks.proofs.Chains.{at_one_here, at_one_there, at_one_cases, differs, has_head, has_rest, has_last, has_append_left, has_append_right, Linked_same, Linked_out, Linked_in, Apart_out, cut_at, out_of, contains_out, out_lacks, links_of}
use Rattle.lldb_blocks.proofs.Looks.{look_low, look_here, look_there, look_exchanged, look_longer, Quiet}

-- an extent is in one class at most
pub one_class : (k l : ℕ) (o : Option Extent) → in_class k o ≡ true → in_class l o ≡ true → k ≡ l
one_class k l None first second = absurd (false≢true first)
one_class k l (Some (Used c)) first second = absurd (false≢true first)
one_class k l (Some (Compressed c)) first second = absurd (false≢true first)
one_class k l (Some (Moved t)) first second = absurd (false≢true first)
one_class k l (Some (Free s)) first second = sym (eqb-true (class_of s) k first) ∙ eqb-true (class_of s) l second
one_class k l (Some (Hole s)) first second = absurd (false≢true first)

-- no list has the atom 0
pub lacks_zero : (h p n : ℕ → ℕ) (row : List Extent) (chains : ℕ → List ℕ) → Listed h p n row chains → (k : ℕ) → contains (chains k) 0 ≡ false
lacks_zero h p n row chains listed k = listed.members k 0 ∙ ap (in_class k) (look_low 8 row 0 (omega arith))

-- lists of two classes have no atom in common
pub disjoint : (h p n : ℕ → ℕ) (row : List Extent) (chains : ℕ → List ℕ) → Listed h p n row chains → (k l q : ℕ) → (k ≡ l → ⊥) → contains (chains k) q ≡ true → contains (chains l) q ≡ true → ⊥
disjoint h p n row chains listed k l q not first second =
    not (one_class k l (extent_at 8 row q) (sym (listed.members k q) ∙ first) (sym (listed.members l q) ∙ second))

-- the head of a list whose atom is taken out
head_of_out : (h : ℕ → ℕ) (k a : ℕ) (x y : List ℕ) → h k ≡ first (x ++ a ∷ y) → contains (x ++ a ∷ y) 0 ≡ false → head_without h k (last 0 x) (first y) k ≡ first (x ++ y)
head_of_out h k a [] y is none = at_one_here h k (first y) k refl
head_of_out h k a (c ∷ x) y is none =
    rw (ne_eqb (last c x) 0 (λ zero. differs (c ∷ (x ++ a ∷ y)) (last c x) 0 (has_append_left (c ∷ x) (a ∷ y) (last c x) (has_last c x)) none zero)) is

head_elsewhere : (h : ℕ → ℕ) (k b n l : ℕ) → (l ≡ k → ⊥) → head_without h k b n l ≡ h l
head_elsewhere h k b n l not = elim (cases_eq b 0) [
  | inl is ↦ rw (eq-eqb b 0 is) (at_one_there h k n l not)
  | inr some ↦ rw (ne_eqb b 0 some) refl
]

first_differs : (y : List ℕ) (q : ℕ) → (q ≡ 0 → ⊥) → (contains y q ≡ true → ⊥) → q ≡ first y → ⊥
first_differs [] q some not is = some is
first_differs (c ∷ y) q some not is = not (subst (λ (a : ℕ). contains (c ∷ y) a ≡ true) (sym is) (has_head c y))

last_differs : (x : List ℕ) (q : ℕ) → (q ≡ 0 → ⊥) → (contains x q ≡ true → ⊥) → q ≡ last 0 x → ⊥
last_differs [] q some not is = some is
last_differs (c ∷ x) q some not is = not (subst (λ (a : ℕ). contains (c ∷ x) a ≡ true) (sym is) (has_last c x))

module _ (h p n : ℕ → ℕ) (x y : List Extent) (s here : ℕ) (chains : ℕ → List ℕ) (solid : Solid x) (place : here ≡ 8 + atoms_in x) where
  at_here : (b : Extent) → extent_at 8 (x ++ b ∷ y) here ≡ Some b
  at_here b = subst (λ (q : ℕ). extent_at 8 (x ++ b ∷ y) q ≡ Some b) (sym place) (look_here 8 x b y solid)

  elsewhere : (b c : Extent) → size b ≡ size c → (q : ℕ) → (q ≡ here → ⊥) → extent_at 8 (x ++ b ∷ y) q ≡ extent_at 8 (x ++ c ∷ y) q
  elsewhere b c same q not = look_there 8 x b c y q same (λ is. not (is ∙ sym place))

  in_own : in_class (class_of s) (Some (Free s)) ≡ true
  in_own = eq-eqb (class_of s) (class_of s) refl

  in_other : (k : ℕ) → (k ≡ class_of s → ⊥) → in_class k (Some (Free s)) ≡ false
  in_other k not = ne_eqb (class_of s) k (λ is. not (sym is))

  module _ (listed : Listed h p n (x ++ Free s ∷ y) chains) where
    pub listed_here : contains (chains (class_of s)) here ≡ true
    listed_here = listed.members (class_of s) here ∙ ap (in_class (class_of s)) (at_here (Free s)) ∙ in_own

    module _ (u v : List ℕ) (is : chains (class_of s) ≡ u ++ here ∷ v) where
      own : Linked p n 0 (u ++ here ∷ v)
      own = subst (λ (cs : List ℕ). Linked p n 0 cs) is (listed.linked (class_of s))

      own_once : Apart (u ++ here ∷ v)
      own_once = subst (λ (cs : List ℕ). Apart cs) is (listed.once (class_of s))

      own_none : contains (u ++ here ∷ v) 0 ≡ false
      own_none = subst (λ (cs : List ℕ). contains cs 0 ≡ false) is (lacks_zero h p n (x ++ Free s ∷ y) chains listed (class_of s))

      left : leaving_out here (chains (class_of s)) ≡ u ++ v
      left = ap (leaving_out here) is ∙ out_of u here v own_once

      in_chain : (q : ℕ) → contains (u ++ here ∷ v) q ≡ true → contains (chains (class_of s)) q ≡ true
      in_chain q h = subst (λ (cs : List ℕ). contains cs q ≡ true) (sym is) h

      -- the new links, by the parts of the list
      out_linked : (k : ℕ) → Linked (at_one p (first v) (last 0 u)) (at_one n (last 0 u) (first v)) 0 (at_one chains (class_of s) (leaving_out here (chains (class_of s))) k)
      out_linked k = at_one_cases (λ (cs : List ℕ). Linked (at_one p (first v) (last 0 u)) (at_one n (last 0 u) (first v)) 0 cs) chains (class_of s) (leaving_out here (chains (class_of s))) k
          (λ same. subst (λ (cs : List ℕ). Linked (at_one p (first v) (last 0 u)) (at_one n (last 0 u) (first v)) 0 cs) (sym left) (Linked_out p n 0 here u v own own_once own_none own_none))
          (λ not. Linked_same p n (at_one p (first v) (last 0 u)) (at_one n (last 0 u) (first v)) 0 (chains k)
          (λ q found.
          let some : q ≡ 0 → ⊥ = differs (chains k) q 0 found (lacks_zero h p n (x ++ Free s ∷ y) chains listed k) in
          let apart : contains (chains (class_of s)) q ≡ true → ⊥ = disjoint h p n (x ++ Free s ∷ y) chains listed k (class_of s) q not found in (
            at_one_there p (first v) (last 0 u) q (first_differs v q some (λ h. apart (in_chain q (has_append_right u (here ∷ v) q (has_rest here v q h))))),
            at_one_there n (last 0 u) (first v) q (last_differs u q some (λ h. apart (in_chain q (has_append_left u (here ∷ v) q h)))),
          ))
          (listed.linked k))

      out_heads : (k : ℕ) → k < 16 → head_without h (class_of s) (last 0 u) (first v) k ≡ first (at_one chains (class_of s) (leaving_out here (chains (class_of s))) k)
      out_heads k below = at_one_cases (λ (cs : List ℕ). head_without h (class_of s) (last 0 u) (first v) k ≡ first cs) chains (class_of s) (leaving_out here (chains (class_of s))) k
          (λ same. subst (λ (j : ℕ). head_without h (class_of s) (last 0 u) (first v) j ≡ first (leaving_out here (chains (class_of s)))) (sym same)
          (subst (λ (cs : List ℕ). head_without h (class_of s) (last 0 u) (first v) (class_of s) ≡ first cs) (sym left)
          (head_of_out h (class_of s) here u v (listed.heads (class_of s) (subst (λ (j : ℕ). j < 16) same below) ∙ ap first is) own_none)))
          (λ not. head_elsewhere h (class_of s) (last 0 u) (first v) k not ∙ listed.heads k below)

      out_once : (k : ℕ) → Apart (at_one chains (class_of s) (leaving_out here (chains (class_of s))) k)
      out_once k = at_one_cases (λ (cs : List ℕ). Apart cs) chains (class_of s) (leaving_out here (chains (class_of s))) k
          (λ same. subst (λ (cs : List ℕ). Apart cs) (sym left) (Apart_out u here v own_once))
          (λ not. listed.once k)

    out_members : (k q : ℕ) → contains (at_one chains (class_of s) (leaving_out here (chains (class_of s))) k) q ≡ in_class k (extent_at 8 (x ++ Hole s ∷ y) q)
    out_members k q = elim (cases_eq q here) [
      | inl is ↦ subst (λ (a : ℕ). contains (at_one chains (class_of s) (leaving_out here (chains (class_of s))) k) a ≡ in_class k (extent_at 8 (x ++ Hole s ∷ y) a)) (sym is)
          (at_one_cases (λ (cs : List ℕ). contains cs here ≡ false) chains (class_of s) (leaving_out here (chains (class_of s))) k
          (λ same. out_lacks here (chains (class_of s)))
          (λ not. listed.members k here ∙ ap (in_class k) (at_here (Free s)) ∙ in_other k not)
          ∙ sym (ap (in_class k) (at_here (Hole s))))
      | inr not ↦
          at_one_cases (λ (cs : List ℕ). contains cs q ≡ contains (chains k) q) chains (class_of s) (leaving_out here (chains (class_of s))) k
          (λ same. contains_out here (chains (class_of s)) q not ∙ ap (λ (j : ℕ). contains (chains j) q) (sym same))
          (λ other. refl)
          ∙ listed.members k q ∙ ap (in_class k) (elsewhere (Free s) (Hole s) refl q not)
    ]

    -- a free block is taken out of its list, and is a hole
    pub unlinked : Listed (head_without h (class_of s) (p here) (n here)) (at_one p (n here) (p here)) (at_one n (p here) (n here)) (x ++ Hole s ∷ y) (at_one chains (class_of s) (leaving_out here (chains (class_of s))))
    unlinked =
        let parts = cut_at (chains (class_of s)) here listed_here in
        let u = parts.0 in
        let v = parts.1 in
        let links = links_of p n 0 here u v (own u v parts.2) in
        subst (λ (b : ℕ). Listed (head_without h (class_of s) b (n here)) (at_one p (n here) b) (at_one n b (n here)) (x ++ Hole s ∷ y) (at_one chains (class_of s) (leaving_out here (chains (class_of s))))) (sym links.0)
        (subst (λ (f : ℕ). Listed (head_without h (class_of s) (last 0 u) f) (at_one p f (last 0 u)) (at_one n (last 0 u) f) (x ++ Hole s ∷ y) (at_one chains (class_of s) (leaving_out here (chains (class_of s))))) (sym links.1)
        (record { heads = out_heads u v parts.2; linked = out_linked u v parts.2; once = out_once u v parts.2; members = out_members }))

  module _ (listed : Listed h p n (x ++ Hole s ∷ y) chains) where
    unlisted_here : (k : ℕ) → contains (chains k) here ≡ false
    unlisted_here k = listed.members k here ∙ ap (in_class k) (at_here (Hole s))

    in_linked : (f : ℕ) → f ≡ first (chains (class_of s)) → (k : ℕ) → Linked (at_one (at_one p f here) here 0) (at_one n here f) 0 (at_one chains (class_of s) (here ∷ chains (class_of s)) k)
    in_linked f is k = subst (λ (g : ℕ). Linked (at_one (at_one p g here) here 0) (at_one n here g) 0 (at_one chains (class_of s) (here ∷ chains (class_of s)) k)) (sym is)
        (at_one_cases (λ (cs : List ℕ). Linked (at_one (at_one p (first (chains (class_of s))) here) here 0) (at_one n here (first (chains (class_of s)))) 0 cs) chains (class_of s) (here ∷ chains (class_of s)) k
        (λ same. Linked_in p n here (chains (class_of s)) (listed.linked (class_of s)) (listed.once (class_of s)) (unlisted_here (class_of s)) (λ zero. absurd (omega (arith, zero, place))))
        (λ not. Linked_same p n (at_one (at_one p (first (chains (class_of s))) here) here 0) (at_one n here (first (chains (class_of s)))) 0 (chains k)
        (λ q found.
        let some : q ≡ 0 → ⊥ = differs (chains k) q 0 found (lacks_zero h p n (x ++ Hole s ∷ y) chains listed k) in
        let other : q ≡ here → ⊥ = differs (chains k) q here found (unlisted_here k) in
        let apart : contains (chains (class_of s)) q ≡ true → ⊥ = disjoint h p n (x ++ Hole s ∷ y) chains listed k (class_of s) q not found in (
          at_one_there (at_one p (first (chains (class_of s))) here) here 0 q other ∙ at_one_there p (first (chains (class_of s))) here q (first_differs (chains (class_of s)) q some apart),
          at_one_there n here (first (chains (class_of s))) q other,
        ))
        (listed.linked k)))

    in_members : (k q : ℕ) → contains (at_one chains (class_of s) (here ∷ chains (class_of s)) k) q ≡ in_class k (extent_at 8 (x ++ Free s ∷ y) q)
    in_members k q = elim (cases_eq q here) [
      | inl is ↦ subst (λ (a : ℕ). contains (at_one chains (class_of s) (here ∷ chains (class_of s)) k) a ≡ in_class k (extent_at 8 (x ++ Free s ∷ y) a)) (sym is)
          (at_one_cases (λ (cs : List ℕ). contains cs here ≡ in_class k (Some (Free s))) chains (class_of s) (here ∷ chains (class_of s)) k
          (λ same. has_head here (chains (class_of s)) ∙ sym (eq-eqb (class_of s) k (sym same)))
          (λ not. unlisted_here k ∙ sym (in_other k not))
          ∙ sym (ap (in_class k) (at_here (Free s))))
      | inr not ↦
          at_one_cases (λ (cs : List ℕ). contains cs q ≡ contains (chains k) q) chains (class_of s) (here ∷ chains (class_of s)) k
          (λ same. rw (ne_eqb q here not) (ap (λ (j : ℕ). contains (chains j) q) (sym same)))
          (λ other. refl)
          ∙ listed.members k q ∙ ap (in_class k) (elsewhere (Hole s) (Free s) refl q not)
    ]

    -- a hole is a free block, the first of the list of its class, once the old first names it; `f` is the old head
    pub listed_in : (f : ℕ) → f ≡ first (chains (class_of s)) → Listed (at_one h (class_of s) here) (at_one (at_one p f here) here 0) (at_one n here f) (x ++ Free s ∷ y) (at_one chains (class_of s) (here ∷ chains (class_of s)))
    listed_in f is = record {
      heads = λ k below. at_one_cases (λ (cs : List ℕ). at_one h (class_of s) here k ≡ first cs) chains (class_of s) (here ∷ chains (class_of s)) k
          (λ same. at_one_here h (class_of s) here k same)
          (λ not. at_one_there h (class_of s) here k not ∙ listed.heads k below);
      linked = in_linked f is;
      once = λ k. at_one_cases (λ (cs : List ℕ). Apart cs) chains (class_of s) (here ∷ chains (class_of s)) k
          (λ same. (unlisted_here (class_of s), listed.once (class_of s)))
          (λ not. listed.once k);
      members = in_members;
    }

-- another row with the same free blocks has the same lists
pub relisted : (h p n : ℕ → ℕ) (v w : List Extent) (chains : ℕ → List ℕ) → Listed h p n v chains → ((k q : ℕ) → in_class k (extent_at 8 v q) ≡ in_class k (extent_at 8 w q)) → Listed h p n w chains
relisted h p n v w chains listed same = record { heads = listed.heads; linked = listed.linked; once = listed.once; members = λ k q. listed.members k q ∙ same k q }

-- a part of the row without free blocks is exchanged for another
pub exchanged : (h p n : ℕ → ℕ) (x m k y : List Extent) (chains : ℕ → List ℕ) → ((c : ℕ) → Quiet (in_class c) m) → ((c : ℕ) → Quiet (in_class c) k) → Solid m → Solid k → atoms_in m ≡ atoms_in k → Listed h p n (x ++ (m ++ y)) chains → Listed h p n (x ++ (k ++ y)) chains
exchanged h p n x m k y chains quiet_m quiet_k solid_m solid_k same listed =
    relisted h p n (x ++ (m ++ y)) (x ++ (k ++ y)) chains listed (λ c q. look_exchanged (in_class c) x m k y 8 q (quiet_m c) (quiet_k c) solid_m solid_k same)

-- a part without free blocks is put behind the row, or cut off there
pub longer : (h p n : ℕ → ℕ) (x m : List Extent) (chains : ℕ → List ℕ) → ((c : ℕ) → Quiet (in_class c) m) → Solid x → Listed h p n x chains → Listed h p n (x ++ m) chains
longer h p n x m chains quiet solid listed = relisted h p n x (x ++ m) chains listed (λ c q. sym (look_longer (in_class c) x m 8 q (quiet c) solid))

pub shorter : (h p n : ℕ → ℕ) (x m : List Extent) (chains : ℕ → List ℕ) → ((c : ℕ) → Quiet (in_class c) m) → Solid x → Listed h p n (x ++ m) chains → Listed h p n x chains
shorter h p n x m chains quiet solid listed = relisted h p n (x ++ m) x chains listed (λ c q. look_longer (in_class c) x m 8 q (quiet c) solid)
