-- Lists of atoms and their links, with one atom taken out or put in front.
use Rattle.std.proofs.Common.{◌≡◌, ℕ, Bool, true, false, ◌||◌, eqb, List, [], ◌∷◌, ◌++◌, refl, sym, ◌∙◌, ap, inl, inr, eq-eqb, ne_eqb}
use Rattle.std.proofs.lemmas.Bool.{cases_eq, false≢true}
use Rattle.lldb_atoms.specs.Rows.{contains}
use Rattle.lldb_blocks.specs.Links.{Apart, leaving_out, first, last, Linked, at_one}

pub at_one_here : {A : Type 0} → (f : ℕ → A) (a : ℕ) (v : A) (q : ℕ) → q ≡ a → at_one f a v q ≡ v
at_one_here f a v q is = rw (eq-eqb q a is) refl

pub at_one_there : {A : Type 0} → (f : ℕ → A) (a : ℕ) (v : A) (q : ℕ) → (q ≡ a → ⊥) → at_one f a v q ≡ f q
at_one_there f a v q not = rw (ne_eqb q a not) refl

pub at_one_cases : {A : Type 0} → (P : A → Type 0) (f : ℕ → A) (a : ℕ) (v : A) (q : ℕ) → (q ≡ a → P v) → ((q ≡ a → ⊥) → P (f q)) → P (at_one f a v q)
at_one_cases P f a v q here there = elim (cases_eq q a) [
  | inl is ↦ rw (eq-eqb q a is) (here is)
  | inr not ↦ rw (ne_eqb q a not) (there not)
]

-- an atom of a list is not one that the list lacks
pub differs : (cs : List ℕ) (q a : ℕ) → contains cs q ≡ true → contains cs a ≡ false → q ≡ a → ⊥
differs cs q a here lacks is = false≢true (sym lacks ∙ ap (contains cs) (sym is) ∙ here)

pub has_head : (a : ℕ) (cs : List ℕ) → contains (a ∷ cs) a ≡ true
has_head a cs = rw (eq-eqb a a refl) refl

-- what a list lacks is not its first, and not among the others
pub lacks_head : (a : ℕ) (cs : List ℕ) (q : ℕ) → contains (a ∷ cs) q ≡ false → q ≡ a → ⊥
lacks_head a cs q lacks is = differs (a ∷ cs) a q (has_head a cs) lacks (sym is)

pub lacks_rest : (a : ℕ) (cs : List ℕ) (q : ℕ) → contains (a ∷ cs) q ≡ false → contains cs q ≡ false
lacks_rest a cs q lacks = sym (ap (λ (b : Bool). b || contains cs q) (ne_eqb q a (lacks_head a cs q lacks))) ∙ lacks

pub lacks_from : (a : ℕ) (cs : List ℕ) (q : ℕ) → (q ≡ a → ⊥) → contains cs q ≡ false → contains (a ∷ cs) q ≡ false
lacks_from a cs q not lacks = rw (ne_eqb q a not) lacks

pub has_rest : (a : ℕ) (cs : List ℕ) (q : ℕ) → contains cs q ≡ true → contains (a ∷ cs) q ≡ true
has_rest a cs q here = elim (cases_eq q a) [
  | inl is ↦ rw (eq-eqb q a is) refl
  | inr not ↦ rw (ne_eqb q a not) here
]

-- links that are the same at the atoms of a list
pub Linked_same : (p n p2 n2 : ℕ → ℕ) (b : ℕ) (cs : List ℕ) → ((q : ℕ) → contains cs q ≡ true → (p2 q ≡ p q) × (n2 q ≡ n q)) → Linked p n b cs → Linked p2 n2 b cs
Linked_same p n p2 n2 b [] same linked = tt
Linked_same p n p2 n2 b (a ∷ cs) same linked =
    let here = same a (has_head a cs) in
    (here.0 ∙ linked.0, here.1 ∙ linked.1, Linked_same p n p2 n2 a cs (λ q h. same q (has_rest a cs q h)) linked.2)

-- the last of a list is one of it
pub has_last : (a : ℕ) (cs : List ℕ) → contains (a ∷ cs) (last a cs) ≡ true
has_last a [] = has_head a []
has_last a (c ∷ cs) = has_rest a (c ∷ cs) (last c cs) (has_last c cs)

pub has_append_left : (x y : List ℕ) (q : ℕ) → contains x q ≡ true → contains (x ++ y) q ≡ true
has_append_left [] y q here = absurd (false≢true here)
has_append_left (a ∷ x) y q here = elim (cases_eq q a) [
  | inl is ↦ rw (eq-eqb q a is) refl
  | inr not ↦ rw (ne_eqb q a not) (has_append_left x y q (sym (ap (λ (b : Bool). b || contains x q) (ne_eqb q a not)) ∙ here))
]

pub has_append_right : (x y : List ℕ) (q : ℕ) → contains y q ≡ true → contains (x ++ y) q ≡ true
has_append_right [] y q here = here
has_append_right (a ∷ x) y q here = has_rest a (x ++ y) q (has_append_right x y q here)

-- a list behind one that names it as its first, seen from before
out_here : (p n : ℕ → ℕ) (b a : ℕ) (y : List ℕ) → Linked p n b (a ∷ y) → Apart (a ∷ y) → contains (a ∷ y) b ≡ false → Linked (at_one p (first y) b) (at_one n b (first y)) b y
out_here p n b a [] linked apart lacks = tt
out_here p n b a (c ∷ y) linked apart lacks =
    let lacks_b = lacks_rest a (c ∷ y) b lacks in (
      at_one_here p c b c refl,
      at_one_there n b c c (differs (c ∷ y) c b (has_head c y) lacks_b) ∙ linked.2.1,
      Linked_same p n (at_one p c b) (at_one n b c) c y
          (λ q h. (at_one_there p c b q (differs y q c h apart.1.0), at_one_there n b c q (differs (c ∷ y) q b (has_rest c y q h) lacks_b)))
          linked.2.2,
    )

first_lacks : (y : List ℕ) (c : ℕ) → (c ≡ 0 → ⊥) → contains y c ≡ false → c ≡ first y → ⊥
first_lacks [] c some lacks is = some is
first_lacks (d ∷ y) c some lacks is = lacks_head d y c lacks is

next_out : (n : ℕ → ℕ) (c a : ℕ) (x y : List ℕ) → n c ≡ first (x ++ a ∷ y) → Apart (c ∷ (x ++ a ∷ y)) → at_one n (last c x) (first y) c ≡ first (x ++ y)
next_out n c a [] y is apart = at_one_here n c (first y) c refl
next_out n c a (e ∷ x) y is apart =
    at_one_there n (last e x) (first y) c (λ same. differs (e ∷ (x ++ a ∷ y)) (last e x) c (has_append_left (e ∷ x) (a ∷ y) (last e x) (has_last e x)) apart.0 (sym same)) ∙ is

-- an atom is taken out: the one behind it names the one before, and the one before names the one behind
pub Linked_out : (p n : ℕ → ℕ) (b a : ℕ) (x y : List ℕ) → Linked p n b (x ++ a ∷ y) → Apart (x ++ a ∷ y) → contains (x ++ a ∷ y) b ≡ false → contains (x ++ a ∷ y) 0 ≡ false → Linked (at_one p (first y) (last b x)) (at_one n (last b x) (first y)) b (x ++ y)
Linked_out p n b a [] y linked apart lacks none = out_here p n b a y linked apart lacks
Linked_out p n b a (c ∷ x) y linked apart lacks none =
    let some : c ≡ 0 → ⊥ = λ is. lacks_head c (x ++ a ∷ y) 0 none (sym is) in
    let beyond : contains y c ≡ false = lacks_behind x a y c apart.0 in (
      at_one_there p (first y) (last c x) c (first_lacks y c some beyond) ∙ linked.0,
      next_out n c a x y linked.1 apart,
      Linked_out p n c a x y linked.2 apart.1 apart.0 (lacks_rest c (x ++ a ∷ y) 0 none),
    )
  where
    lacks_behind : (x : List ℕ) (a : ℕ) (y : List ℕ) (q : ℕ) → contains (x ++ a ∷ y) q ≡ false → contains y q ≡ false
    lacks_behind [] a y q lacks = lacks_rest a y q lacks
    lacks_behind (e ∷ x) a y q lacks = lacks_behind x a y q (lacks_rest e (x ++ a ∷ y) q lacks)

-- an atom is put in front of a list
pub Linked_in : (p n : ℕ → ℕ) (a : ℕ) (y : List ℕ) → Linked p n 0 y → Apart y → contains y a ≡ false → (a ≡ 0 → ⊥) → Linked (at_one (at_one p (first y) a) a 0) (at_one n a (first y)) 0 (a ∷ y)
Linked_in p n a [] linked apart lacks some = (at_one_here (at_one p 0 a) a 0 a refl, at_one_here n a 0 a refl, tt)
Linked_in p n a (c ∷ y) linked apart lacks some =
    let q1 = at_one p c a in (
      at_one_here q1 a 0 a refl,
      at_one_here n a c a refl,
      (
        at_one_there q1 a 0 c (λ is. lacks_head c y a lacks (sym is)) ∙ at_one_here p c a c refl,
        at_one_there n a c c (λ is. lacks_head c y a lacks (sym is)) ∙ linked.1,
        Linked_same p n (at_one q1 a 0) (at_one n a c) c y
            (λ q h. (
              at_one_there q1 a 0 q (differs y q a h (lacks_rest c y a lacks)) ∙ at_one_there p c a q (differs y q c h apart.0),
              at_one_there n a c q (differs y q a h (lacks_rest c y a lacks)),
            ))
            linked.2,
      ),
    )

pub append_lacks : (x : List ℕ) (a : ℕ) (y : List ℕ) (q : ℕ) → contains (x ++ a ∷ y) q ≡ false → (contains (x ++ y) q ≡ false) × (q ≡ a → ⊥)
append_lacks [] a y q lacks = (lacks_rest a y q lacks, lacks_head a y q lacks)
append_lacks (e ∷ x) a y q lacks =
    let rest = append_lacks x a y q (lacks_rest e (x ++ a ∷ y) q lacks) in
    (lacks_from e (x ++ y) q (lacks_head e (x ++ a ∷ y) q lacks) rest.0, rest.1)

pub append_lacks_right : (x y : List ℕ) (q : ℕ) → contains (x ++ y) q ≡ false → contains y q ≡ false
append_lacks_right [] y q lacks = lacks
append_lacks_right (e ∷ x) y q lacks = append_lacks_right x y q (lacks_rest e (x ++ y) q lacks)

pub append_lacks_left : (x y : List ℕ) (q : ℕ) → contains (x ++ y) q ≡ false → contains x q ≡ false
append_lacks_left [] y q lacks = refl
append_lacks_left (e ∷ x) y q lacks = lacks_from e x q (lacks_head e (x ++ y) q lacks) (append_lacks_left x y q (lacks_rest e (x ++ y) q lacks))

pub Apart_out : (x : List ℕ) (a : ℕ) (y : List ℕ) → Apart (x ++ a ∷ y) → Apart (x ++ y)
Apart_out [] a y apart = apart.1
Apart_out (e ∷ x) a y apart = ((append_lacks x a y e apart.0).0, Apart_out x a y apart.1)

-- a list is cut at one of its atoms
pub cut_at : (cs : List ℕ) (a : ℕ) → contains cs a ≡ true → (x : List ℕ) × (y : List ℕ) × (cs ≡ x ++ a ∷ y)
cut_at [] a here = absurd (false≢true here)
cut_at (c ∷ cs) a here = elim (cases_eq a c) [
  | inl is ↦ ([], cs, ap (λ (d : ℕ). d ∷ cs) (sym is))
  | inr not ↦
      let rest = cut_at cs a (sym (ap (λ (b : Bool). b || contains cs a) (ne_eqb a c not)) ∙ here) in
      (c ∷ rest.0, rest.1, ap (λ (ds : List ℕ). c ∷ ds) rest.2)
]

out_lacking : (a : ℕ) (cs : List ℕ) → contains cs a ≡ false → leaving_out a cs ≡ cs
out_lacking a [] lacks = refl
out_lacking a (c ∷ cs) lacks =
    rw (ne_eqb c a (λ is. lacks_head c cs a lacks (sym is))) (ap (λ (ds : List ℕ). c ∷ ds) (out_lacking a cs (lacks_rest c cs a lacks)))

-- leaving out an atom that stands once
pub out_of : (x : List ℕ) (a : ℕ) (y : List ℕ) → Apart (x ++ a ∷ y) → leaving_out a (x ++ a ∷ y) ≡ x ++ y
out_of [] a y apart = rw (eq-eqb a a refl) (out_lacking a y apart.0)
out_of (e ∷ x) a y apart =
    rw (ne_eqb e a (λ is. (append_lacks x a y e apart.0).1 is)) (ap (λ (ds : List ℕ). e ∷ ds) (out_of x a y apart.1))

-- an atom other than one that is taken out
pub contains_out : (a : ℕ) (cs : List ℕ) (q : ℕ) → (q ≡ a → ⊥) → contains (leaving_out a cs) q ≡ contains cs q
contains_out a [] q not = refl
contains_out a (c ∷ cs) q not = elim (cases_eq c a) [
  | inl is ↦ rw (eq-eqb c a is, ne_eqb q c (λ same. not (same ∙ is))) (contains_out a cs q not)
  | inr other ↦ rw (ne_eqb c a other) (ap (λ (b : Bool). eqb q c || b) (contains_out a cs q not))
]

pub out_lacks : (a : ℕ) (cs : List ℕ) → contains (leaving_out a cs) a ≡ false
out_lacks a [] = refl
out_lacks a (c ∷ cs) = elim (cases_eq c a) [
  | inl is ↦ rw (eq-eqb c a is) (out_lacks a cs)
  | inr other ↦ rw (ne_eqb c a other) (lacks_from c (leaving_out a cs) a (λ is. other (sym is)) (out_lacks a cs))
]

-- the links of an atom of a list
pub links_of : (p n : ℕ → ℕ) (b a : ℕ) (x y : List ℕ) → Linked p n b (x ++ a ∷ y) → (p a ≡ last b x) × (n a ≡ first y)
links_of p n b a [] y linked = (linked.0, linked.1)
links_of p n b a (c ∷ x) y linked = links_of p n c a x y linked.2
