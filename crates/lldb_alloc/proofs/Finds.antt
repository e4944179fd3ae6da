-- Where there is room.
use Rattle.std.proofs.Common.{◌≡◌, ℕ, ◌+◌, ◌≤◌, true, List, [], ◌∷◌, Option, Some, None, IfSome, sym, ◌∙◌, ap, subst, inl, inr, arith, ne_eqb}
use Rattle.std.proofs.lemmas.Bool.{cases_eq, cases_lt, false≢true}
use Rattle.lldb_atoms.specs.Blocks.{Extent, Free}
use Rattle.lldb_atoms.specs.Rows.{extent_at, contains}
use Rattle.lldb_atoms.specs.Lists.{class_of, in_class}
use Rattle.lldb_blocks.specs.Links.{first}
use Rattle.lldb_blocks.proofs.Chains.{has_head}
use Rattle.lldb_blocks.proofs.Bridges.{head_read}
use Rattle.lldb_blocks.proofs.Readings.{class_rises, fits_nowhere}
use Rattle.lldb_alloc.specs.Room.{FindsIn, FirstFrom, FindsRoom}
use Rattle.lldb_alloc.proofs.Lists.{placed}
use Rattle.lldb_alloc.proofs.Walked.{place_look}

-- a free block of a class is that of the row
same_class : (row : List Extent) (q s k : ℕ) → extent_at 8 row q ≡ Some (Free s) → in_class k (extent_at 8 row q) ≡ true → class_of s ≡ k
same_class row q s k is member = elim (cases_eq (class_of s) k) [
  | inl same ↦ same
  | inr other ↦ absurd (false≢true (sym (ne_eqb (class_of s) k other) ∙ sym (ap (in_class k) is) ∙ member))
]

-- the first block of a greater class has room
pub first_room : (told : Option (List ℕ)) (wanted class at : ℕ) → 1 ≤ wanted → class ≡ class_of wanted → IfSome told (FirstFrom (class + 1) (Some at)) → IfSome told (FindsRoom wanted (Some at))
first_room None wanted class at some is found = tt
first_room (Some c) wanted class at some is found = λ row l.
    let k = found.0 in
    let head : at ≡ l.head k = sym found.3 ∙ head_read l.head l.previous l.next c row k found.2 l.spells in
    let heads : l.head k ≡ first (l.chains k) = l.listed.heads k found.2 in
    let member : contains (l.chains k) at ≡ true = first_in (l.chains k) at (head ∙ heads) found.4 in
    let f = placed l.head l.previous l.next row l.chains k at l.spells.solid l.listed member in
    let look : extent_at 8 row at ≡ Some (Free f.size) = place_look row at f l.spells.solid in
    let class_is : class_of f.size ≡ k = same_class row at f.size k look (sym (l.listed.members k at) ∙ member) in
    (f.size, look, room f.size k f.some class_is found.1)
  where
    first_in : (cs : List ℕ) (q : ℕ) → q ≡ first cs → (q ≡ 0 → ⊥) → contains cs q ≡ true
    first_in [] q is not = absurd (not is)
    first_in (a ∷ cs) q is not = subst (λ (p : ℕ). contains (a ∷ cs) p ≡ true) (sym is) (has_head a cs)

    room : (s k : ℕ) → 1 ≤ s → class_of s ≡ k → class + 1 ≤ k → wanted ≤ s
    room s k one same greater = elim (cases_lt s wanted) [
      | inr fine ↦ fine
      | inl less ↦
          let rises : class_of s ≤ class_of wanted = class_rises wanted s one (omega (arith, less)) in
          absurd (omega (arith, rises, same, greater, is))
    ]

-- a block of the own class has
pub own_room : (told : Option (List ℕ)) (wanted class : ℕ) (found : Option ℕ) → 1 ≤ wanted → class ≡ class_of wanted → IfSome told (FirstFrom (class + 1) None) → IfSome told (FindsIn class wanted found) → IfSome told (FindsRoom wanted found)
own_room None wanted class found some is greater own = tt
own_room (Some c) wanted class None some is greater own = λ row l.
    fits_nowhere c row wanted some l (λ q s look same. own row l q s look (same ∙ sym is)) (λ k more below. greater k (omega (arith, is, more)) below)
own_room (Some c) wanted class (Some at) some is greater own = own
