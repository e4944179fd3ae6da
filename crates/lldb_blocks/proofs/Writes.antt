-- Single writes: what each does to the row that lies in a content.
use Rattle.std.proofs.Common.{◌≡◌, ℕ, suc, ◌+◌, ◌-◌, ◌*◌, ◌^◌, ◌<◌, ◌≤◌, Bool, cond, eqb, List, [], ◌∷◌, ◌++◌, length, take, drop, refl, sym, ◌∙◌, ap, ap₂, subst, arith, append_assoc, append-nil, length-append, length-drop, inl, inr, eq-eqb, ne_eqb, get_or-drop}
use Rattle.std.proofs.lemmas.Bool.{cases_eq, cases_Bool, cases_lt}
use Rattle.std.proofs.lemmas.List.{drop_all}
use Rattle.lldb_base.specs.Batch.{put}
use Rattle.lldb_atoms.specs.Numbers.{as_bytes, number_in}
use Rattle.lldb_atoms.specs.Heads.{head_of}
use Rattle.lldb_atoms.specs.Blocks.{Extent, Free, Hole, size, free_head, free_ending, spelling, IsBlock}
use Rattle.lldb_atoms.specs.Rows.{atoms_in}
use Rattle.lldb_atoms.specs.Lists.{list_head}
use Rattle.lldb_blocks.specs.Links.{at_one}
use Rattle.lldb_blocks.specs.Laid.{Solid, Spells}
use Rattle.lldb_blocks.specs.Steps.{links_from, SetsHead, SetsPrevious, SetsNext, SetsFree, HasAtoms}
use Rattle.lldb_blocks.proofs.Chains.{at_one_here, at_one_there, at_one_cases}
use Rattle.lldb_blocks.proofs.Looks.{Solid_append, Solid_left, Solid_right}
use Rattle.lldb_atoms.proofs.AsBytes.{length-as_bytes, reads_back}
use Rattle.lldb_blocks.proofs.Places.{same_number, put_front, put_behind, put_middle, put_start, put_over, length_put, byte_before, byte_behind, drop_put}
use Rattle.lldb_blocks.proofs.Tilings.{Tiles_length, opened, closed}

Solid_other : (x : List Extent) (e d : Extent) (y : List Extent) → size d ≡ size e → Solid (x ++ e ∷ y) → Solid (x ++ d ∷ y)
Solid_other x e d y same solid =
    let right = Solid_right x (e ∷ y) solid in
    Solid_append x (d ∷ y) (Solid_left x (e ∷ y) solid) (subst (λ (s : ℕ). 1 ≤ s) (sym same) right.0, right.1)

-- one block is changed by writes within it
pub spells_edit : (h p n p2 n2 : ℕ → ℕ) (x : List Extent) (e d : Extent) (y : List Extent) (at : ℕ) (c : List ℕ) (all one : List ℕ → List ℕ) → at ≡ 8 + atoms_in x → size d ≡ size e → ((q : ℕ) → (q ≡ at → ⊥) → (p2 q ≡ p q) × (n2 q ≡ n q)) → ((a here rest : List ℕ) → length a ≡ 16 * at → IsBlock (p at) (n at) e here → (all (a ++ (here ++ rest)) ≡ a ++ (one here ++ rest)) × IsBlock (p2 at) (n2 at) d (one here)) → Spells h p n c (x ++ e ∷ y) → Spells h p2 n2 (all c) (x ++ d ∷ y)
spells_edit h p n p2 n2 x e d y at c all one place same others step spells =
    let open_ = opened p n 8 x e y spells.body spells.tiles in
    let a : List ℕ = spells.table ++ open_.front in
    let long : length a ≡ 16 * at =
    let whole = spells.is_table.whole in
    let front = Tiles_length p n 8 x open_.front open_.before in
    length-append spells.table open_.front ∙ omega (arith, whole, front, place) in
    let block : IsBlock (p at) (n at) e open_.here = subst (λ (q : ℕ). IsBlock (p q) (n q) e open_.here) (sym place) open_.block in
    let edit = step a open_.here open_.rest long block in
    let parts : c ≡ a ++ (open_.here ++ open_.rest) = spells.content_is ∙ ap (λ (u : List ℕ). spells.table ++ u) open_.is ∙ sym (append_assoc spells.table open_.front (open_.here ++ open_.rest)) in
    let solid_x = Solid_left x (e ∷ y) spells.solid in
    let solid_e = Solid_right x (e ∷ y) spells.solid in
    record {
      table = spells.table;
      body = open_.front ++ (one open_.here ++ open_.rest);
      content_is = ap all parts ∙ edit.0 ∙ append_assoc spells.table open_.front (one open_.here ++ open_.rest);
      is_table = spells.is_table;
      tiles = closed p n p2 n2 8 x e d y open_.front (one open_.here) open_.rest solid_x solid_e.0 same (λ q not. others q (λ is. not (is ∙ place))) open_.before (subst (λ (q : ℕ). IsBlock (p2 q) (n2 q) d (one open_.here)) place edit.1) open_.behind;
      solid = Solid_other x e d y same spells.solid;
    }

abbrev front_of : Bool → ℕ → List ℕ
front_of b s = cond b (254 ∷ []) (255 ∷ as_bytes 7 s)

abbrev rest_of : Bool → List ℕ → List ℕ → List ℕ
rest_of b any ending = cond b (254 ∷ []) [] ++ (any ++ ending)

pub free_spelled : (s p n : ℕ) (any : List ℕ) → spelling p n any (Free s) ≡ front_of (eqb s 1) s ++ (as_bytes 7 p ++ (as_bytes 7 n ++ rest_of (eqb s 1) any (free_ending s)))
free_spelled s p n any = elim (cases_Bool (eqb s 1)) [
  | inl one ↦ rw one (simp append_assoc)
  | inr more ↦ rw more (simp append_assoc)
]

length_front : (s : ℕ) → length (front_of (eqb s 1) s) ≡ links_from s
length_front s = elim (cases_Bool (eqb s 1)) [
  | inl one ↦ rw one refl
  | inr more ↦ rw more (ap suc (length-as_bytes 7 s))
]

length_free : (a b c d : List ℕ) → length (a ++ (b ++ (c ++ d))) ≡ length a + (length b + (length c + length d))
length_free a b c d = simp length-append

free_whole : (s p n p2 n2 : ℕ) (any : List ℕ) → length (spelling p2 n2 any (Free s)) ≡ length (spelling p n any (Free s))
free_whole s p n p2 n2 any =
    let long = λ (p n : ℕ). ap length (free_spelled s p n any) ∙ length_free (front_of (eqb s 1) s) (as_bytes 7 p) (as_bytes 7 n) (rest_of (eqb s 1) any (free_ending s)) ∙ ap₂ (λ (a b : ℕ). length (front_of (eqb s 1) s) + (a + (b + length (rest_of (eqb s 1) any (free_ending s))))) (length-as_bytes 7 p) (length-as_bytes 7 n) in
    long p2 n2 ∙ sym (long p n)

-- a link to the one before is written
previous_written : (s p n v : ℕ) (here : List ℕ) → v < 2 ^ 56 → IsBlock p n (Free s) here → IsBlock v n (Free s) (put (links_from s) (as_bytes 7 v) here)
previous_written s p n v here small block =
    let front = front_of (eqb s 1) s in
    let rest = as_bytes 7 n ++ rest_of (eqb s 1) block.any (free_ending s) in
    let is : here ≡ front ++ (as_bytes 7 p ++ rest) = block.spelled ∙ free_spelled s p n block.any in
    let new : put (links_from s) (as_bytes 7 v) here ≡ spelling v n block.any (Free s) =
    ap₂ (λ (k : ℕ) (u : List ℕ). put k (as_bytes 7 v) u) (sym (length_front s)) is
    ∙ put_over front (as_bytes 7 p) (as_bytes 7 v) rest (length-as_bytes 7 v ∙ sym (length-as_bytes 7 p))
    ∙ sym (free_spelled s v n block.any) in
    record { any = block.any; spelled = new; whole = ap length new ∙ free_whole s p n v n block.any ∙ ap length (sym block.spelled) ∙ block.whole; room = (block.room.0, block.room.1, small, block.room.3) }

-- a link to the one behind is written
next_written : (s p n v : ℕ) (here : List ℕ) → v < 2 ^ 56 → IsBlock p n (Free s) here → IsBlock p v (Free s) (put (links_from s + 7) (as_bytes 7 v) here)
next_written s p n v here small block =
    let front = front_of (eqb s 1) s in
    let rest = rest_of (eqb s 1) block.any (free_ending s) in
    let is : here ≡ (front ++ as_bytes 7 p) ++ (as_bytes 7 n ++ rest) = block.spelled ∙ free_spelled s p n block.any ∙ sym (append_assoc front (as_bytes 7 p) (as_bytes 7 n ++ rest)) in
    let long : links_from s + 7 ≡ length (front ++ as_bytes 7 p) =
    let f = length_front s in
    let seven = length-as_bytes 7 p in
    sym (length-append front (as_bytes 7 p) ∙ ap₂ (λ (a b : ℕ). a + b) f seven) in
    let new : put (links_from s + 7) (as_bytes 7 v) here ≡ spelling p v block.any (Free s) =
    ap₂ (λ (k : ℕ) (u : List ℕ). put k (as_bytes 7 v) u) long is
    ∙ put_over (front ++ as_bytes 7 p) (as_bytes 7 n) (as_bytes 7 v) rest (length-as_bytes 7 v ∙ sym (length-as_bytes 7 n))
    ∙ append_assoc front (as_bytes 7 p) (as_bytes 7 v ++ rest)
    ∙ sym (free_spelled s p v block.any) in
    record { any = block.any; spelled = new; whole = ap length new ∙ free_whole s p n p v block.any ∙ ap length (sym block.spelled) ∙ block.whole; room = (block.room.0, block.room.1, block.room.2, small) }

-- the head and the ending of a free block within its bytes
length_head : (s p n : ℕ) → length (head_of (free_head s p n)) ≡ links_from s + 14 + cond (eqb s 1) 1 0
length_head s p n = elim (cases_Bool (eqb s 1)) [
  | inl one ↦ rw one (simp (length-append, length-as_bytes))
  | inr more ↦ rw more (simp (length-append, length-as_bytes))
]

pub length_ending : (s : ℕ) → length (free_ending s) ≡ cond (eqb s 1) 0 8
length_ending s = elim (cases_Bool (eqb s 1)) [
  | inl one ↦ rw one refl
  | inr more ↦ rw more (simp (length-append, length-as_bytes))
]

pub free_fits : (s p n : ℕ) → 1 ≤ s → length (head_of (free_head s p n)) + length (free_ending s) ≤ 16 * s
free_fits s p n some = elim (cases_eq s 1) [
  | inl is ↦
      let one = eq-eqb s 1 is in
      let head : length (head_of (free_head s p n)) ≡ 16 = length_head s p n ∙ rw one refl in
      let ending : length (free_ending s) ≡ 0 = length_ending s ∙ rw one refl in
      omega (arith, head, ending, some)
  | inr not ↦
      let more = ne_eqb s 1 not in
      let head : length (head_of (free_head s p n)) ≡ 22 = length_head s p n ∙ rw more refl in
      let ending : length (free_ending s) ≡ 8 = length_ending s ∙ rw more refl in
      let two : 2 ≤ s = omega (arith, some, not) in
      omega (arith, head, ending, two)
]

-- two pieces, at the front and at the end
ends_written : (x front back : List ℕ) (j : ℕ) → length front + length back ≤ length x → j + length back ≡ length x → put j back (put 0 front x) ≡ (front ++ take (j - length front) (drop (length front) x)) ++ back
ends_written x front back j room at =
    let z = drop (length front) x in
    let k = j - length front in
    let long : length z ≡ length x - length front = length-drop (length front) x in
    let from : j ≡ length front + k = omega (arith, room, at) in
    let none : drop (k + length back) z ≡ [] = drop_all (k + length back) z (omega (arith, long, room, at)) in
    ap (put j back) (put_start front x)
    ∙ ap (λ (i : ℕ). put i back (front ++ z)) from
    ∙ put_behind front z back k
    ∙ ap (λ (u : List ℕ). front ++ ((take k z ++ back) ++ u)) none
    ∙ ap (λ (u : List ℕ). front ++ u) (append-nil (take k z ++ back))
    ∙ sym (append_assoc front (take k z) back)

free_written : (s p n p0 n0 : ℕ) (here : List ℕ) → 1 ≤ s → s < 2 ^ 56 → p < 2 ^ 56 → n < 2 ^ 56 → IsBlock p0 n0 (Hole s) here → IsBlock p n (Free s) (put (16 * s - length (free_ending s)) (free_ending s) (put 0 (head_of (free_head s p n)) here))
free_written s p n p0 n0 here some small small_p small_n block =
    let front = head_of (free_head s p n) in
    let back = free_ending s in
    let fits : length front + length back ≤ length here = let all = block.whole in let room = free_fits s p n some in omega (arith, all, room) in
    let at : (16 * s - length back) + length back ≡ length here = let all = block.whole in omega (arith, all, fits) in
    record {
      any = take ((16 * s - length back) - length front) (drop (length front) here);
      spelled = ends_written here front back (16 * s - length back) fits at;
      whole = length_put (16 * s - length back) back (put 0 front here) (let same = length_put 0 front here (omega (arith, fits)) in omega (arith, same, at)) ∙ length_put 0 front here (omega (arith, fits)) ∙ block.whole;
      room = (some, small, small_p, small_n);
    }

-- a write at a place of a block
pub within_block : (a here rest piece : List ℕ) (at j : ℕ) → length a ≡ 16 * at → j + length piece ≤ length here → put (16 * at + j) piece (a ++ (here ++ rest)) ≡ a ++ (put j piece here ++ rest)
within_block a here rest piece at j long within = ap (λ (k : ℕ). put (k + j) piece (a ++ (here ++ rest))) (sym long) ∙ put_middle a here rest piece j within

links_fit : (s p n : ℕ) (here : List ℕ) → IsBlock p n (Free s) here → links_from s + 14 ≤ length here
links_fit s p n here block =
    let room = free_fits s p n block.room.0 in
    let head = length_head s p n in
    let all = block.whole in
    omega (arith, room, head, all)

-- the link to the one before is written
previous_at : (at s v : ℕ) (c : List ℕ) → v < 2 ^ 56 → (h p n : ℕ → ℕ) (x y : List Extent) → at ≡ 8 + atoms_in x → Spells h p n c (x ++ Free s ∷ y) → Spells h (at_one p at v) n (put (16 * at + links_from s) (as_bytes 7 v) c) (x ++ Free s ∷ y)
previous_at at s v c small h p n x y place spells =
    let seven = length-as_bytes 7 v in
    spells_edit h p n (at_one p at v) n x (Free s) (Free s) y at c (put (16 * at + links_from s) (as_bytes 7 v)) (put (links_from s) (as_bytes 7 v)) place refl
    (λ q not. (at_one_there p at v q not, refl))
    (λ a here rest long block.
    let fits = links_fit s (p at) (n at) here block in (
      within_block a here rest (as_bytes 7 v) at (links_from s) long (omega (arith, fits, seven)),
      subst (λ (k : ℕ). IsBlock k (n at) (Free s) (put (links_from s) (as_bytes 7 v) here)) (sym (at_one_here p at v at refl)) (previous_written s (p at) (n at) v here small block),
    ))
    spells

pub sets_previous : (at s v : ℕ) (c : List ℕ) → v < 2 ^ 56 → HasAtoms at s c → SetsPrevious at v c (put (16 * at + links_from s) (as_bytes 7 v) c)
sets_previous at s v c small has h p n x y s2 place spells = subst (λ (k : ℕ). Spells h (at_one p at v) n (put (16 * at + links_from s) (as_bytes 7 v) c) (x ++ Free k ∷ y)) (sym (has h p n x y s2 place spells)) (previous_at at s v c small h p n x y place (subst (λ (k : ℕ). Spells h p n c (x ++ Free k ∷ y)) (has h p n x y s2 place spells) spells))

-- the link to the one behind is written
next_at : (at s v : ℕ) (c : List ℕ) → v < 2 ^ 56 → (h p n : ℕ → ℕ) (x y : List Extent) → at ≡ 8 + atoms_in x → Spells h p n c (x ++ Free s ∷ y) → Spells h p (at_one n at v) (put (16 * at + (links_from s + 7)) (as_bytes 7 v) c) (x ++ Free s ∷ y)
next_at at s v c small h p n x y place spells =
    let seven = length-as_bytes 7 v in
    spells_edit h p n p (at_one n at v) x (Free s) (Free s) y at c (put (16 * at + (links_from s + 7)) (as_bytes 7 v)) (put (links_from s + 7) (as_bytes 7 v)) place refl
    (λ q not. (refl, at_one_there n at v q not))
    (λ a here rest long block.
    let fits = links_fit s (p at) (n at) here block in (
      within_block a here rest (as_bytes 7 v) at (links_from s + 7) long (omega (arith, fits, seven)),
      subst (λ (k : ℕ). IsBlock (p at) k (Free s) (put (links_from s + 7) (as_bytes 7 v) here)) (sym (at_one_here n at v at refl)) (next_written s (p at) (n at) v here small block),
    ))
    spells

pub sets_next : (at s v : ℕ) (c : List ℕ) → v < 2 ^ 56 → HasAtoms at s c → SetsNext at v c (put (16 * at + (links_from s + 7)) (as_bytes 7 v) c)
sets_next at s v c small has h p n x y s2 place spells = subst (λ (k : ℕ). Spells h p (at_one n at v) (put (16 * at + (links_from s + 7)) (as_bytes 7 v) c) (x ++ Free k ∷ y)) (sym (has h p n x y s2 place spells)) (next_at at s v c small h p n x y place (subst (λ (k : ℕ). Spells h p n c (x ++ Free k ∷ y)) (has h p n x y s2 place spells) spells))

-- a hole is written as a free block: its head, then its ending
pub sets_free : (at s before behind : ℕ) (c : List ℕ) → 1 ≤ s → s < 2 ^ 56 → before < 2 ^ 56 → behind < 2 ^ 56 → SetsFree at s before behind c (put (16 * at + (16 * s - length (free_ending s))) (free_ending s) (put (16 * at + 0) (head_of (free_head s before behind)) c))
sets_free at s before behind c some small small_p small_n h p n x y place spells =
    let front = head_of (free_head s before behind) in
    let back = free_ending s in
    let room = free_fits s before behind some in
    spells_edit h p n (at_one p at before) (at_one n at behind) x (Hole s) (Free s) y at c
    (λ u. put (16 * at + (16 * s - length back)) back (put (16 * at + 0) front u))
    (λ u. put (16 * s - length back) back (put 0 front u)) place refl
    (λ q not. (at_one_there p at before q not, at_one_there n at behind q not))
    (λ a here rest long block.
    let all = block.whole in
    let same = length_put 0 front here (omega (arith, room, all)) in (
      ap (put (16 * at + (16 * s - length back)) back) (within_block a here rest front at 0 long (omega (arith, room, all)))
          ∙ within_block a (put 0 front here) rest back at (16 * s - length back) long (omega (arith, room, all, same)),
      subst (λ (k : ℕ). IsBlock k (at_one n at behind at) (Free s) (put (16 * s - length back) back (put 0 front here))) (sym (at_one_here p at before at refl))
          (subst (λ (k : ℕ). IsBlock before k (Free s) (put (16 * s - length back) back (put 0 front here))) (sym (at_one_here n at behind at refl))
          (free_written s before behind (p at) (n at) here some small small_p small_n block)),
    ))
    spells

-- the head of a list is written
head_kept : (t : List ℕ) (k v j : ℕ) → length t ≡ 128 → k < 16 → j < 16 → (j ≡ k → ⊥) → list_head (put (8 * k) (as_bytes 8 v) t) j ≡ list_head t j
unfolding list_head
head_kept t k v j long low_k low_j other =
    let eight = length-as_bytes 8 v in
    same_number 8 (drop (8 * j) (put (8 * k) (as_bytes 8 v) t)) (drop (8 * j) t) (λ i low.
    get_or-drop (8 * j) (put (8 * k) (as_bytes 8 v) t) i 0
    ∙ elim (cases_lt j k) [
      | inl below ↦ byte_before (8 * k) (as_bytes 8 v) t (8 * j + i) (omega (arith, long, low_k)) (omega (arith, low, below))
      | inr above ↦ byte_behind (8 * k) (as_bytes 8 v) t (8 * j + i) (omega (arith, long, low_k)) (omega (arith, low, above, eight, other))
    ]
    ∙ sym (get_or-drop (8 * j) t i 0))

head_set : (t : List ℕ) (k v : ℕ) → length t ≡ 128 → k < 16 → v < 2 ^ 64 → list_head (put (8 * k) (as_bytes 8 v) t) k ≡ v
unfolding list_head
head_set t k v long low small =
    ap (number_in 8) (drop_put (8 * k) (as_bytes 8 v) t (omega (arith, long, low)))
    ∙ reads_back 8 v (drop (8 * k + length (as_bytes 8 v)) t) small

pub sets_head : (k v : ℕ) (c : List ℕ) → k < 16 → v < 2 ^ 64 → SetsHead k v c (put (8 * k) (as_bytes 8 v) c)
sets_head k v c low small h p n row spells =
    let eight = length-as_bytes 8 v in
    let long = spells.is_table.whole in
    let within : 8 * k + length (as_bytes 8 v) ≤ length spells.table = omega (arith, eight, long, low) in
    record {
      table = put (8 * k) (as_bytes 8 v) spells.table;
      body = spells.body;
      content_is = ap (put (8 * k) (as_bytes 8 v)) spells.content_is ∙ put_front spells.table spells.body (as_bytes 8 v) (8 * k) within;
      is_table = record {
        whole = length_put (8 * k) (as_bytes 8 v) spells.table within ∙ long;
        heads = λ j below. at_one_cases (λ (w : ℕ). list_head (put (8 * k) (as_bytes 8 v) spells.table) j ≡ w) h k v j
            (λ is. subst (λ (i : ℕ). list_head (put (8 * k) (as_bytes 8 v) spells.table) i ≡ v) (sym is) (head_set spells.table k v long low small))
            (λ not. head_kept spells.table k v j long low below not ∙ spells.is_table.heads j below);
      };
      tiles = spells.tiles;
      solid = spells.solid;
    }
