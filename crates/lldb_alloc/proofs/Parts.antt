-- A part of a free block is taken.
use Rattle.std.proofs.Common.{◌≡◌, ℕ, ◌+◌, ◌-◌, ◌<◌, ◌≤◌, eqb, List, [], ◌∷◌, ◌++◌, Option, Some, None, IfSome, sym, ◌∙◌, subst, arith, append_assoc, eq-eqb, ne_eqb}
use Rattle.std.proofs.lemmas.Bool.{cond-true, cond-false}
use Rattle.lldb_atoms.specs.Blocks.{Extent, Free, Hole}
use Rattle.lldb_atoms.specs.Rows.{atoms_in}
use Rattle.lldb_blocks.specs.Laid.{Lays}
use Rattle.lldb_blocks.specs.Steps.{Takes, Puts}
use Rattle.lldb_blocks.proofs.Looks.{atoms_append}
use Rattle.lldb_blocks.proofs.Lays.{lays_parted}
use Rattle.lldb_alloc.specs.Changes.{Turns, LacksListed, LacksHole, LacksPart, TakesPart, left_over}

pub left_none : (r : ℕ) → r ≡ 0 → left_over r ≡ []
left_none r is = cond-true (eqb r 0) [] (Free r ∷ []) (eq-eqb r 0 is)

pub left_some : (r : ℕ) → (r ≡ 0 → ⊥) → left_over r ≡ Free r ∷ []
left_some r not = cond-false (eqb r 0) [] (Free r ∷ []) (ne_eqb r 0 not)

-- no block is where no block can be
pub part_low : (told : Option (List ℕ)) (at atoms : ℕ) → at < 8 → IfSome told (LacksPart at atoms)
part_low None at atoms low = tt
part_low (Some c) at atoms low = λ x y s place enough l. omega (arith, low, place)

pub part_unlisted : (told : Option (List ℕ)) (at atoms : ℕ) → IfSome told (LacksListed at) → IfSome told (LacksPart at atoms)
part_unlisted None at atoms lacks = tt
part_unlisted (Some c) at atoms lacks = λ x y s place enough l. lacks x y s place l

pub part_short : (told mid : Option (List ℕ)) (at atoms count : ℕ) → count < atoms → Turns told mid (Takes at count) → IfSome told (LacksPart at atoms)
part_short None mid at atoms count short takes = tt
part_short (Some c) None at atoms count short takes = absurd takes
part_short (Some c) (Some d) at atoms count short takes = λ x y s place enough l.
    let is = (takes x y s place l).0 in
    omega (arith, short, enough, is)

-- the hole in two
two_holes : (c : List ℕ) (x y : List Extent) (at atoms s : ℕ) → at ≡ 8 + atoms_in x → 1 ≤ atoms → atoms < s → Lays c (x ++ Hole s ∷ y) → Lays c ((x ++ Hole atoms ∷ []) ++ Hole (s - atoms) ∷ y)
two_holes c x y at atoms s place some more l =
    let rest : 1 ≤ s - atoms = omega (arith, more) in
    let whole : s ≡ atoms + (s - atoms) = omega (arith, more) in
    subst (λ (r : List Extent). Lays c r) (sym (append_assoc x (Hole atoms ∷ []) (Hole (s - atoms) ∷ y)))
    (lays_parted c x atoms (s - atoms) y some rest (subst (λ (k : ℕ). Lays c (x ++ Hole k ∷ y)) whole l))

behind_part : (x : List Extent) (at atoms : ℕ) → at ≡ 8 + atoms_in x → at + atoms ≡ 8 + atoms_in (x ++ Hole atoms ∷ [])
behind_part x at atoms place = let all = atoms_append x (Hole atoms ∷ []) in omega (arith, place, all)

pub part_sane : (told mid : Option (List ℕ)) (at atoms count : ℕ) → 1 ≤ atoms → atoms < count → Turns told mid (Takes at count) → IfSome mid (LacksHole (at + atoms) (count - atoms)) → IfSome told (LacksPart at atoms)
part_sane None mid at atoms count some more takes lacks = tt
part_sane (Some c) None at atoms count some more takes lacks = absurd takes
part_sane (Some c) (Some d) at atoms count some more takes lacks = λ x y s place enough l.
    let t = takes x y s place l in
    let holes : Lays d ((x ++ Hole atoms ∷ []) ++ Hole (count - atoms) ∷ y) = two_holes d x y at atoms count place some more (subst (λ (k : ℕ). Lays d (x ++ Hole k ∷ y)) (sym t.0) t.1) in
    lacks (x ++ Hole atoms ∷ []) y (behind_part x at atoms place) holes

-- all of the block is taken, or some
pub part_whole : (told mid : Option (List ℕ)) (at atoms count : ℕ) → count ≡ atoms → Turns told mid (Takes at count) → Turns told mid (TakesPart at atoms)
part_whole None mid at atoms count whole takes = tt
part_whole (Some c) None at atoms count whole takes = takes
part_whole (Some c) (Some d) at atoms count whole takes = λ x y s place enough l.
    let t = takes x y s place l in
    let is = t.0 in
    let none : left_over (s - atoms) ≡ [] = left_none (s - atoms) (omega (arith, whole, is)) in
    let same : s ≡ atoms = sym is ∙ whole in
    subst (λ (r : List Extent). Lays d (x ++ Hole atoms ∷ (r ++ y))) (sym none) (subst (λ (k : ℕ). Lays d (x ++ Hole k ∷ y)) same t.1)

pub part_rest : (told mid after : Option (List ℕ)) (at atoms count : ℕ) → 1 ≤ atoms → atoms < count → Turns told mid (Takes at count) → Turns mid after (Puts (at + atoms) (count - atoms)) → Turns told after (TakesPart at atoms)
part_rest None mid after at atoms count some more takes puts = tt
part_rest (Some c) None after at atoms count some more takes puts = absurd takes
part_rest (Some c) (Some d) None at atoms count some more takes puts = puts
part_rest (Some c) (Some d) (Some e) at atoms count some more takes puts = λ x y s place enough l.
    let t = takes x y s place l in
    let is = t.0 in
    let holes : Lays d ((x ++ Hole atoms ∷ []) ++ Hole (count - atoms) ∷ y) = two_holes d x y at atoms count place some more (subst (λ (k : ℕ). Lays d (x ++ Hole k ∷ y)) (sym t.0) t.1) in
    let done : Lays e ((x ++ Hole atoms ∷ []) ++ Free (count - atoms) ∷ y) = puts (x ++ Hole atoms ∷ []) y (behind_part x at atoms place) holes in
    let flat : Lays e (x ++ Hole atoms ∷ (Free (count - atoms) ∷ y)) = subst (λ (r : List Extent). Lays e r) (append_assoc x (Hole atoms ∷ []) (Free (count - atoms) ∷ y)) done in
    let kept : left_over (s - atoms) ≡ Free (s - atoms) ∷ [] = left_some (s - atoms) (λ none. omega (arith, more, is, none)) in
    subst (λ (r : List Extent). Lays e (x ++ Hole atoms ∷ (r ++ y))) (sym kept) (subst (λ (k : ℕ). Lays e (x ++ Hole atoms ∷ (Free (k - atoms) ∷ y))) is flat)
