-- A hole comes into a list of a content that is told.
use Rattle.std.proofs.Common.{◌≡◌, ℕ, ◌+◌, ◌-◌, ◌*◌, ◌<◌, ◌≤◌, ◌^◌, List, [], ◌∷◌, ◌++◌, length, take, drop, get_or, Option, Some, None, IfSome, option_map, refl, sym, ◌∙◌, ap, subst, arith, append-nil, add-zero, length-append, eqb, eq-eqb, ne_eqb}
use Rattle.std.proofs.lemmas.Bool.{cond-true, cond-false}
use Rattle.std.proofs.lemmas.List.{get_or-take, take-append-drop}
use Rattle.std.specs.Option.{IsSomeAnd}
use Rattle.byteorder.specs.Endian.{big_number}
use Rattle.lldb_base.specs.Batch.{put}
use Rattle.lldb_atoms.specs.declared.block.Block.TheVariants as block
use Rattle.lldb_atoms.specs.Numbers.{as_bytes, number_in}
use Rattle.lldb_atoms.specs.Heads.{head_of}
use Rattle.lldb_atoms.specs.Blocks.{Extent, Free, Hole, free_head, free_ending}
use Rattle.lldb_atoms.specs.Rows.{atoms_in}
use Rattle.lldb_atoms.specs.Lists.{class_of, list_head}
use Rattle.lldb_atoms.proofs.AsBytes.{length-as_bytes}
use Rattle.lldb_atoms.proofs.Listed.{class_below}
use Rattle.lldb_blocks.specs.Links.{first}
use Rattle.lldb_blocks.specs.Steps.{SetsHead, SetsFree, Backward, Puts}
use Rattle.lldb_blocks.proofs.Places.{same_number}
use Rattle.lldb_blocks.proofs.Looks.{atoms_append}
use Rattle.lldb_blocks.proofs.Bridges.{head_read}
use Rattle.lldb_blocks.proofs.Lays.{lays_linked, lays_length}
use Rattle.lldb_blocks.proofs.Writes.{sets_free}
use Rattle.lldb_alloc.specs.Changes.{Turns, LacksFree, LacksHole, LacksRow}
use Rattle.lldb_alloc.proofs.Lists.{first_place, stands}

-- the head of a list as it is read
pub list_read : (told : Option (List ℕ)) (bytes : List ℕ) (n class : ℕ) → IfSome told (λ c. bytes ≡ take 8 (drop (8 * class) c)) → n ≡ big_number 8 bytes → IfSome told (λ c. list_head c class ≡ n)
unfolding list_head number_in
list_read None bytes n class read is = tt
list_read (Some c) bytes n class read is =
    same_number 8 (drop (8 * class) c) bytes (λ k below. sym (get_or-take 8 (drop (8 * class) c) k 0 below) ∙ ap (λ (u : List ℕ). get_or u k 0) (sym read)) ∙ sym is

-- a list begins within the content
pub list_small : (told : Option (List ℕ)) (first_atom class bytes : ℕ) → class < 16 → IfSome told (λ c. length c ≡ bytes) → bytes ≤ 2 ^ 60 → IfSome told (λ c. list_head c class ≡ first_atom) → 2 ^ 56 ≤ first_atom → IfSome told LacksRow
list_small None n class bytes below long most is large = tt
list_small (Some c) n class bytes below long most is large = λ row l.
    let head : n ≡ l.head class = sym is ∙ head_read l.head l.previous l.next c row class below l.spells in
    let f = first_place c row class l below (λ none. let zero_head : n ≡ 0 = head ∙ none in omega (arith, zero_head, large)) in
    let all = lays_length c row l in
    let parts : atoms_in row ≡ atoms_in f.before + (f.size + atoms_in f.behind) = ap atoms_in f.row_is ∙ atoms_append f.before (Free f.size ∷ f.behind) in
    let place = f.atom_is in
    let some = f.some in
    omega (arith, head, place, all, parts, some, long, most, large)

pub rowless : (told : Option (List ℕ)) (at s : ℕ) → IfSome told LacksRow → IfSome told (LacksHole at s)
rowless None at s lacks = tt
rowless (Some c) at s lacks = λ x y place l. lacks (x ++ Hole s ∷ y) l

-- the first of a list is a free block
pub link_sane : (told : Option (List ℕ)) (at s class first_atom : ℕ) → class < 16 → IfSome told (λ c. list_head c class ≡ first_atom) → (first_atom ≡ 0 → ⊥) × IfSome told (LacksFree first_atom) → IfSome told (LacksHole at s)
link_sane None at s class n below is lacks = tt
link_sane (Some c) at s class n below is lacks = λ x y place l.
    let row : List Extent = x ++ Hole s ∷ y in
    let head : n ≡ l.head class = sym is ∙ head_read l.head l.previous l.next c row class below l.spells in
    let f = first_place c row class l below (λ none. lacks.0 (head ∙ none)) in
    stands l.head l.previous l.next c row (l.head class) f l.spells (subst (λ (q : ℕ). LacksFree q c) head lacks.1)

-- a free block as its head and its ending are written
put_nothing : (k : ℕ) (c : List ℕ) → put k [] c ≡ c
put_nothing k c = simp (append-nil, add-zero) (take-append-drop k c)

set_free : (told mid after : Option (List ℕ)) (at s next : ℕ) (f g : List ℕ → List ℕ) → mid ≡ option_map f told → after ≡ option_map g mid → ((c : List ℕ) → SetsFree at s 0 next c (g (f c))) → Turns told after (SetsFree at s 0 next)
set_free None mid after at s next f g first then_so sets = tt
set_free (Some c) mid after at s next f g first then_so sets = subst (λ (o : Option (List ℕ)). IsSomeAnd o (λ d. SetsFree at s 0 next c d)) (sym (then_so ∙ ap (option_map g) first)) (sets c)

pub more_free : (told mid after : Option (List ℕ)) (at s next : ℕ) → 2 ≤ s → s < 2 ^ 56 → next < 2 ^ 56 → mid ≡ option_map (put (16 * at) (head_of (free_head s 0 next))) told → after ≡ option_map (put (16 * (at + s) - 8) (as_bytes 7 s ++ 255 ∷ [])) mid → Turns told after (SetsFree at s 0 next)
more_free told mid after at s next some small next_small first then_so =
    set_free told mid after at s next (put (16 * at) (head_of (free_head s 0 next))) (put (16 * (at + s) - 8) (as_bytes 7 s ++ 255 ∷ [])) first then_so (λ c. sets c)
  where
    ending : free_ending s ≡ as_bytes 7 s ++ 255 ∷ []
    ending = cond-false (eqb s 1) [] (as_bytes 7 s ++ 255 ∷ []) (ne_eqb s 1 (λ one. omega (arith, one, some)))

    eight : length (as_bytes 7 s ++ 255 ∷ []) ≡ 8
    eight = length-append (as_bytes 7 s) (255 ∷ []) ∙ ap (λ (k : ℕ). k + 1) (length-as_bytes 7 s)

    sets : (c : List ℕ) → SetsFree at s 0 next c (put (16 * (at + s) - 8) (as_bytes 7 s ++ 255 ∷ []) (put (16 * at) (head_of (free_head s 0 next)) c))
    sets c =
        let one : 1 ≤ s = omega (arith, some) in
        let low : 0 < 2 ^ 56 = omega arith in
        let start : 16 * at + 0 ≡ 16 * at = omega arith in
        let long : length (free_ending s) ≡ 8 = ap length ending ∙ eight in
        let place : 16 * at + (16 * s - length (free_ending s)) ≡ 16 * (at + s) - 8 = omega (arith, long, some) in
        subst (λ (k : ℕ). SetsFree at s 0 next c (put (16 * (at + s) - 8) (as_bytes 7 s ++ 255 ∷ []) (put k (head_of (free_head s 0 next)) c))) start
        (subst (λ (k : ℕ). SetsFree at s 0 next c (put k (as_bytes 7 s ++ 255 ∷ []) (put (16 * at + 0) (head_of (free_head s 0 next)) c))) place
        (subst (λ (u : List ℕ). SetsFree at s 0 next c (put (16 * at + (16 * s - length (free_ending s))) u (put (16 * at + 0) (head_of (free_head s 0 next)) c))) ending
        (sets_free at s 0 next c one small low next_small)))

pub one_free : (told after : Option (List ℕ)) (at next : ℕ) → next < 2 ^ 56 → after ≡ option_map (put (16 * at) (head_of (free_head 1 0 next))) told → Turns told after (SetsFree at 1 0 next)
one_free told after at next next_small is =
    set_free told after after at 1 next (put (16 * at) (head_of (free_head 1 0 next))) (λ c. c) is (same after) (λ c. sets c)
  where
    same : (o : Option (List ℕ)) → o ≡ option_map (λ (c : List ℕ). c) o
    same None = refl
    same (Some c) = refl

    sets : (c : List ℕ) → SetsFree at 1 0 next c (put (16 * at) (head_of (free_head 1 0 next)) c)
    sets c =
        let low : 0 < 2 ^ 56 = omega arith in
        let one : 1 ≤ 1 = omega arith in
        let small : 1 < 2 ^ 56 = omega arith in
        let start : 16 * at + 0 ≡ 16 * at = omega arith in
        subst (λ (k : ℕ). SetsFree at 1 0 next c (put k (head_of (free_head 1 0 next)) c)) start
        (subst (λ (u : List ℕ). SetsFree at 1 0 next c u) (put_nothing (16 * at + 16) (put (16 * at + 0) (head_of (free_head 1 0 next)) c))
        (sets_free at 1 0 next c one small low next_small))

-- the head of a free block that is the first of its list
pub one_head : (n : ℕ) (s : ℕ) → s ≡ 1 → block.FreeOne 0 n ≡ free_head s 0 n
one_head n s one = sym (cond-true (eqb s 1) (block.FreeOne 0 n) (block.Free s 0 n) (eq-eqb s 1 one))

pub many_heads : (n s : ℕ) → (s ≡ 1 → ⊥) → block.Free s 0 n ≡ free_head s 0 n
many_heads n s many = sym (cond-false (eqb s 1) (block.FreeOne 0 n) (block.Free s 0 n) (ne_eqb s 1 many))

-- the hole is a free block of a list
pub linked_told : (told mid made after : Option (List ℕ)) (at s class first_atom : ℕ) → class ≡ class_of s → IfSome told (λ c. list_head c class ≡ first_atom) → Turns told mid (Backward at first_atom) → Turns mid made (SetsFree at s 0 first_atom) → Turns made after (SetsHead class at) → Turns told after (Puts at s)
linked_told None mid made after at s class n is head backward free sets = tt
linked_told (Some b) None made after at s class n is head backward free sets = absurd backward
linked_told (Some b) (Some c) None after at s class n is head backward free sets = absurd free
linked_told (Some b) (Some c) (Some d) None at s class n is head backward free sets = sets
linked_told (Some b) (Some c) (Some d) (Some e) at s class n is head backward free sets = λ x y place l.
    lays_linked x s y at n b c d e place (class_below s)
    (λ h p nx row spells. sym (head_read h p nx b row (class_of s) (class_below s) spells) ∙ subst (λ (k : ℕ). list_head b k ≡ n) is head)
    backward free (subst (λ (k : ℕ). SetsHead k at d e) is sets) l
