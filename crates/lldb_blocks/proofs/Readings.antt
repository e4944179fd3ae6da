-- What is read of a row in the content in which it lies.
use Rattle.std.proofs.Common.{◌≡◌, ℕ, zero, suc, ◌+◌, ◌*◌, ◌^◌, ◌<◌, ◌≤◌, true, false, eqb, List, [], ◌∷◌, ◌++◌, length, take, drop, get_or, Some, refl, sym, ◌∙◌, ap, ap₂, subst, inl, inr, arith, append_assoc, append-nil, length-append, take_at, drop_at, eq-eqb, ne_eqb, get_or-drop, leb, le-leb}
use Rattle.std.proofs.lemmas.Bool.{cases_eq, cases_lt, cond-true, cond-false, false≢true, lt-leb}
use Rattle.byteorder.specs.Endian.{big_from}
use Rattle.lldb_atoms.specs.Numbers.{as_bytes, number_in}
use Rattle.lldb_atoms.specs.Heads.{head_of, atoms_of, IsValid, head_at}
use Rattle.lldb_atoms.specs.Blocks.{Extent, Used, Compressed, Moved, Free, Hole, size, tile_for, tile_at, used_head, free_head, head_for, free_ending, IsBlock}
use Rattle.lldb_atoms.specs.Rows.{atoms_in, extent_at, contains}
use Rattle.lldb_atoms.specs.Lists.{class_of, in_class, list_head}
use Rattle.lldb_atoms.specs.declared.block.Block.{Block}
use Rattle.lldb_atoms.specs.declared.block.Block.TheVariants as block
use Rattle.std.proofs.Math.Nat.{pow-succ', pow-le-pow_right}
use Rattle.lldb_atoms.proofs.Spoken.{head_reads}
use Rattle.lldb_atoms.proofs.Classes.{class_is}
use Rattle.lldb_blocks.specs.Links.{first}
use Rattle.lldb_blocks.specs.Laid.{Spells, Lays, AtRest}
use Rattle.lldb_blocks.specs.Steps.{largest}
use Rattle.lldb_blocks.proofs.Chains.{differs, has_head}
use Rattle.lldb_blocks.proofs.Listings.{lacks_zero}
use Rattle.lldb_atoms.proofs.AsBytes.{length-as_bytes}
use Rattle.lldb_blocks.proofs.Tilings.{Tiles_length, Tiles_split, opened}
use Rattle.lldb_blocks.specs.Steps.{ending_for}
use Rattle.lldb_atoms.specs.Laws.{is_block}
use Rattle.lldb_blocks.proofs.Decoded.{tile_reads}
use Rattle.lldb_blocks.proofs.Bridges.{head_read}
use Rattle.lldb_atoms.proofs.Listed.{class_below}
use Rattle.lldb_blocks.proofs.Calls.{largest_below}

-- a block of a row with the bytes before and behind it
pub record Found (p n : ℕ) (e : Extent) (at : ℕ) (c : List ℕ) : Type 0 where
  pub front : List ℕ
  pub here : List ℕ
  pub rest : List ℕ
  pub is : c ≡ front ++ (here ++ rest)
  pub long : length front ≡ 16 * at
  pub block : IsBlock p n e here

pub block_found : (h p n : ℕ → ℕ) (c : List ℕ) (x : List Extent) (e : Extent) (y : List Extent) (at : ℕ) → at ≡ 8 + atoms_in x → Spells h p n c (x ++ e ∷ y) → Found (p at) (n at) e at c
block_found h p n c x e y at place s =
    let o = opened p n 8 x e y s.body s.tiles in
    let whole = s.is_table.whole in
    let front = Tiles_length p n 8 x o.front o.before in
    record {
      front = s.table ++ o.front;
      here = o.here;
      rest = o.rest;
      is = s.content_is ∙ ap (λ (u : List ℕ). s.table ++ u) o.is ∙ sym (append_assoc s.table o.front (o.here ++ o.rest));
      long = length-append s.table o.front ∙ omega (arith, whole, front, place);
      block = subst (λ (q : ℕ). IsBlock (p q) (n q) e o.here) (sym place) o.block;
    }

-- the block at an atom is read there
pub tile_found : (h p n : ℕ → ℕ) (c : List ℕ) (x : List Extent) (e : Extent) (y : List Extent) (at : ℕ) → at ≡ 8 + atoms_in x → is_block e ≡ true → Spells h p n c (x ++ e ∷ y) → tile_at (drop (16 * at) c) ≡ Some (tile_for (p at) (n at) e)
tile_found h p n c x e y at place known s =
    let f = block_found h p n c x e y at place s in
    ap tile_at (ap (drop (16 * at)) f.is ∙ drop_at f.front (f.here ++ f.rest) (16 * at) f.long) ∙ tile_reads (p at) (n at) e f.here f.rest known f.block

-- a block begins with its head
pub record Begins (b : Block) (e : Extent) (here : List ℕ) : Type 0 where
  pub valid : IsValid b
  pub atoms : atoms_of b ≡ size e
  pub more : List ℕ
  pub is : here ≡ head_of b ++ more

begins_used : (b : Block) (c any tail here : List ℕ) → used_head (length c) ≡ b → IsValid b → atoms_of b ≡ size (Used c) → here ≡ ((head_of (used_head (length c)) ++ c) ++ any) ++ tail → Begins (used_head (length c)) (Used c) here
begins_used b c any tail here head valid atoms is = record {
  valid = subst (λ (d : Block). IsValid d) (sym head) valid;
  atoms = subst (λ (d : Block). atoms_of d ≡ size (Used c)) (sym head) atoms;
  more = c ++ (any ++ tail);
  is = is ∙ append_assoc (head_of (used_head (length c)) ++ c) any tail ∙ append_assoc (head_of (used_head (length c))) c (any ++ tail);
}

used_begins : (c any tail here : List ℕ) → length c ≤ 65787 → here ≡ ((head_of (used_head (length c)) ++ c) ++ any) ++ tail → Begins (used_head (length c)) (Used c) here
used_begins c any tail here room is = elim (cases_lt 251 (length c)) [
  | inl large ↦ begins_used (block.Long (length c)) c any tail here (cond-false (leb (length c) 251) (block.Short (length c)) (block.Long (length c)) (lt-leb (length c) 251 large)) (large, room) refl is
  | inr small ↦ begins_used (block.Short (length c)) c any tail here (cond-true (leb (length c) 251) (block.Short (length c)) (block.Long (length c)) (le-leb (length c) 251 small)) small refl is
]

pub block_begins : (p n : ℕ) (e : Extent) (here : List ℕ) → is_block e ≡ true → IsBlock p n e here → Begins (head_for p n e) e here
block_begins p n (Used c) here known b = used_begins c b.any (0 ∷ []) here b.room b.spelled
block_begins p n (Compressed c) here known b =
    let r = used_begins c b.any (1 ∷ []) here b.room b.spelled in
    record { valid = r.valid; atoms = r.atoms; more = r.more; is = r.is }
block_begins p n (Moved t) here known b = record { valid = b.room; atoms = refl; more = []; is = b.spelled ∙ sym (append-nil (head_of (block.Relocated t))) }
block_begins p n (Free s) here known b = elim (cases_eq s 1) [
  | inl one ↦
      let h : free_head s p n ≡ block.FreeOne p n = cond-true (eqb s 1) (block.FreeOne p n) (block.Free s p n) (eq-eqb s 1 one) in
      record { valid = subst (λ (d : Block). IsValid d) (sym h) (b.room.2, b.room.3); atoms = ap atoms_of h ∙ sym one; more = b.any ++ free_ending s; is = b.spelled ∙ append_assoc (head_of (free_head s p n)) b.any (free_ending s) }
  | inr many ↦
      let some = b.room.0 in
      let h : free_head s p n ≡ block.Free s p n = cond-false (eqb s 1) (block.FreeOne p n) (block.Free s p n) (ne_eqb s 1 many) in
      record { valid = subst (λ (d : Block). IsValid d) (sym h) (omega (arith, some, many), b.room.1, b.room.2, b.room.3); atoms = ap atoms_of h; more = b.any ++ free_ending s; is = b.spelled ∙ append_assoc (head_of (free_head s p n)) b.any (free_ending s) }
]
block_begins p n (Hole s) here known b = absurd (false≢true known)

-- the head of the block at an atom is read there, in any bytes that begin with it
pub head_found : (h p n : ℕ → ℕ) (c : List ℕ) (x : List Extent) (e : Extent) (y : List Extent) (at left : ℕ) (bytes : List ℕ) → at ≡ 8 + atoms_in x → is_block e ≡ true → size e ≤ left → take (length (head_of (head_for (p at) (n at) e))) bytes ≡ take (length (head_of (head_for (p at) (n at) e))) (drop (16 * at) c) → Spells h p n c (x ++ e ∷ y) → head_at left bytes ≡ Some (head_for (p at) (n at) e)
head_found h p n c x e y at left bytes place known room same s =
    let f = block_found h p n c x e y at place s in
    let b = block_begins (p at) (n at) e f.here known f.block in
    let head = head_for (p at) (n at) e in
    let atoms = b.atoms in
    let written : take (length (head_of head)) (drop (16 * at) c) ≡ head_of head =
    ap (λ (u : List ℕ). take (length (head_of head)) u) (ap (drop (16 * at)) f.is ∙ drop_at f.front (f.here ++ f.rest) (16 * at) f.long ∙ ap (λ (u : List ℕ). u ++ f.rest) b.is ∙ append_assoc (head_of head) b.more f.rest)
    ∙ take_at (head_of head) (b.more ++ f.rest) (length (head_of head)) refl in
    head_reads left bytes head (record { valid = b.valid; written = same ∙ written }) (omega (arith, atoms, room))

-- the bytes before a block are those of the one before it
pub before_found : (h p n : ℕ → ℕ) (c : List ℕ) (x : List Extent) (e : Extent) (y : List Extent) (at : ℕ) → at ≡ 8 + atoms_in (x ++ e ∷ []) → Spells h p n c ((x ++ e ∷ []) ++ y) → (front : List ℕ) × (here : List ℕ) × (take (16 * at) c ≡ front ++ here) × IsBlock (p (8 + atoms_in x)) (n (8 + atoms_in x)) e here
before_found h p n c x e y at place s =
    let parts = Tiles_split p n 8 (x ++ e ∷ []) y s.body s.tiles in
    let o = opened p n 8 x e [] parts.0 parts.3 in
    let whole = s.is_table.whole in
    let long = Tiles_length p n 8 (x ++ e ∷ []) parts.0 parts.3 in
    let none : o.rest ≡ [] = o.behind in (
      s.table ++ o.front,
      o.here,
      ap (take (16 * at)) (s.content_is ∙ ap (λ (u : List ℕ). s.table ++ u) parts.2 ∙ sym (append_assoc s.table parts.0 parts.1))
          ∙ take_at (s.table ++ parts.0) parts.1 (16 * at) (length-append s.table parts.0 ∙ omega (arith, whole, long, place))
          ∙ ap (λ (u : List ℕ). s.table ++ u) (o.is ∙ ap (λ (u : List ℕ). o.front ++ (o.here ++ u)) none ∙ ap (λ (u : List ℕ). o.front ++ u) (append-nil o.here))
          ∙ sym (append_assoc s.table o.front o.here),
      o.block,
    )

-- a table of zeros is a content without blocks

zeros_from : (i n : ℕ) (xs : List ℕ) → ((k : ℕ) → get_or xs k 0 ≡ 0) → big_from i n xs ≡ 0
zeros_from i zero xs none = refl
zeros_from i (suc n) xs none = ap₂ (λ (a b : ℕ). a * 256 ^ n + b) (none i) (zeros_from (suc i) n xs none) ∙ omega arith

zero_number : (n : ℕ) (xs : List ℕ) → ((k : ℕ) → get_or xs k 0 ≡ 0) → number_in n xs ≡ 0
unfolding number_in
zero_number n xs none = zeros_from 0 n xs none

zero_head : (t : List ℕ) (k : ℕ) → ((i : ℕ) → get_or t i 0 ≡ 0) → list_head t k ≡ 0
unfolding list_head
zero_head t k none = zero_number 8 (drop (8 * k) t) (λ i. get_or-drop (8 * k) t i 0 ∙ none (8 * k + i))

nothing_in : (k : ℕ) (q : ℕ) → contains [] q ≡ in_class k (extent_at 8 [] q)
nothing_in k q = refl

pub lays_new : (t : List ℕ) → length t ≡ 128 → ((i : ℕ) → get_or t i 0 ≡ 0) → Lays t []
lays_new t long none = record {
  head = λ k. 0;
  previous = λ q. 0;
  next = λ q. 0;
  chains = λ k. [];
  spells = record { table = t; body = []; content_is = sym (append-nil t); is_table = record { whole = long; heads = λ k below. zero_head t k none }; tiles = refl; solid = tt };
  listed = record { heads = λ k below. refl; linked = λ k. tt; once = λ k. tt; members = nothing_in };
}

pub rest_new : AtRest []
rest_new = record { spread = refl; closed = refl; once = refl; used = refl }

-- classes rise with the number of atoms
pub class_rises : (s n : ℕ) → 1 ≤ n → n ≤ s → class_of n ≤ class_of s
class_rises s n some more = elim (cases_lt (class_of s) (class_of n)) [
  | inr fine ↦ fine
  | inl less ↦
      let first = class_is s (omega (arith, some, more)) in
      let second = class_is n some in
      let most = second.most in
      let low = second.low in
      let high = first.high (omega (arith, less, most)) in
      let grows : 2 ^ (suc (class_of s)) ≤ 2 ^ class_of n = pow-le-pow_right {n = 2} (omega arith) (omega (arith, less)) in
      let step : 2 ^ (suc (class_of s)) ≡ 2 * 2 ^ class_of s = pow-succ' 2 (class_of s) in
      absurd (omega (arith, low, high, grows, step, more))
]

-- no free block has room where the list of the class has none with room and the lists of greater classes are empty
pub fits_nowhere : (c : List ℕ) (row : List Extent) (n : ℕ) → 1 ≤ n → Lays c row → ((q s : ℕ) → extent_at 8 row q ≡ Some (Free s) → class_of s ≡ class_of n → s < n) → ((k : ℕ) → class_of n < k → k < 16 → list_head c k ≡ 0) → largest row < n
fits_nowhere c row n some l own greater =
    largest_below row 8 n some l.spells.solid (λ q s is. elim (cases_lt s n) [
      | inl below ↦ below
      | inr room ↦ elim (cases_eq (class_of s) (class_of n)) [
        | inl same ↦ own q s is same
        | inr other ↦
            let rises = class_rises s n some room in
            let member : contains (l.chains (class_of s)) q ≡ true = l.listed.members (class_of s) q ∙ ap (in_class (class_of s)) is ∙ eq-eqb (class_of s) (class_of s) refl in
            let none : first (l.chains (class_of s)) ≡ 0 =
            sym (l.listed.heads (class_of s) (class_below s)) ∙ sym (head_read l.head l.previous l.next c row (class_of s) (class_below s) l.spells) ∙ greater (class_of s) (omega (arith, rises, other)) (class_below s) in
            absurd (empty_first (l.chains (class_of s)) q member none (lacks_zero l.head l.previous l.next row l.chains l.listed (class_of s)))
      ]
    ])
  where
    empty_first : (cs : List ℕ) (q : ℕ) → contains cs q ≡ true → first cs ≡ 0 → contains cs 0 ≡ false → ⊥
    empty_first [] q member is lacks = false≢true member
    empty_first (a ∷ cs) q member is lacks = differs (a ∷ cs) a 0 (has_head a cs) lacks is

-- what a head of a free block tells
pub one_known : (s p n before behind : ℕ) → head_for p n (Free s) ≡ block.FreeOne before behind → (s ≡ 1) × (p ≡ before) × (n ≡ behind)
one_known s p n before behind is = elim (cases_eq s 1) [
  | inl one ↦
      let two : block.FreeOne p n ≡ block.FreeOne before behind = sym (cond-true (eqb s 1) (block.FreeOne p n) (block.Free s p n) (eq-eqb s 1 one)) ∙ is in
      (one, cc, cc)
  | inr many ↦
      let two : block.Free s p n ≡ block.FreeOne before behind = sym (cond-false (eqb s 1) (block.FreeOne p n) (block.Free s p n) (ne_eqb s 1 many)) ∙ is in
      absurd (cc)
]

pub more_known : (s p n atoms before behind : ℕ) → head_for p n (Free s) ≡ block.Free atoms before behind → (s ≡ atoms) × (p ≡ before) × (n ≡ behind)
more_known s p n atoms before behind is = elim (cases_eq s 1) [
  | inl one ↦
      let two : block.FreeOne p n ≡ block.Free atoms before behind = sym (cond-true (eqb s 1) (block.FreeOne p n) (block.Free s p n) (eq-eqb s 1 one)) ∙ is in
      absurd (cc)
  | inr many ↦
      let two : block.Free s p n ≡ block.Free atoms before behind = sym (cond-false (eqb s 1) (block.FreeOne p n) (block.Free s p n) (ne_eqb s 1 many)) ∙ is in
      (cc, cc, cc)
]

-- a block ends in its ending
pub block_ends : (p n : ℕ) (e : Extent) (here : List ℕ) → is_block e ≡ true → IsBlock p n e here → (front : List ℕ) × (here ≡ front ++ ending_for e)
block_ends p n (Used c) here known b = ((head_of (used_head (length c)) ++ c) ++ b.any, b.spelled)
block_ends p n (Compressed c) here known b = ((head_of (used_head (length c)) ++ c) ++ b.any, b.spelled)
block_ends p n (Moved t) here known b =
    (253 ∷ (as_bytes 7 t ++ (0 ∷ 0 ∷ 0 ∷ 0 ∷ 0 ∷ 0 ∷ 0 ∷ [])), b.spelled ∙ ap (λ (u : List ℕ). 253 ∷ u) (sym (append_assoc (as_bytes 7 t) (0 ∷ 0 ∷ 0 ∷ 0 ∷ 0 ∷ 0 ∷ 0 ∷ []) (0 ∷ []))))
block_ends p n (Free s) here known b = elim (cases_eq s 1) [
  | inl one ↦
      let so : eqb s 1 ≡ true = eq-eqb s 1 one in
      let h : free_head s p n ≡ block.FreeOne p n = cond-true (eqb s 1) (block.FreeOne p n) (block.Free s p n) so in
      let z : free_ending s ≡ [] = cond-true (eqb s 1) [] (as_bytes 7 s ++ 255 ∷ []) so in
      let is : here ≡ (head_of (block.FreeOne p n) ++ b.any) ++ [] = b.spelled ∙ ap₂ (λ (d : Block) (u : List ℕ). (head_of d ++ b.any) ++ u) h z in
      let whole = b.whole in
      let long : length (head_of (block.FreeOne p n)) ≡ 16 = simp (length-append, length-as_bytes) in
      let none : b.any ≡ [] = empty b.any (let a = ap length is in let two = length-append (head_of (block.FreeOne p n) ++ b.any) [] in let three = length-append (head_of (block.FreeOne p n)) b.any in omega (arith, long, a, two, three, whole, one)) in (
        254 ∷ (as_bytes 7 p ++ as_bytes 7 n),
        is ∙ append-nil (head_of (block.FreeOne p n) ++ b.any) ∙ ap (λ (u : List ℕ). head_of (block.FreeOne p n) ++ u) none ∙ append-nil (head_of (block.FreeOne p n))
            ∙ ap (λ (u : List ℕ). (254 ∷ (as_bytes 7 p ++ as_bytes 7 n)) ++ u) (sym (cond-true (eqb s 1) (254 ∷ []) (as_bytes 7 s ++ 255 ∷ []) so)),
      )
  | inr many ↦
      let not : eqb s 1 ≡ false = ne_eqb s 1 many in (
        head_of (free_head s p n) ++ b.any,
        b.spelled ∙ ap (λ (u : List ℕ). (head_of (free_head s p n) ++ b.any) ++ u) (cond-false (eqb s 1) [] (as_bytes 7 s ++ 255 ∷ []) not ∙ sym (cond-false (eqb s 1) (254 ∷ []) (as_bytes 7 s ++ 255 ∷ []) not)),
      )
]
  where
    empty : (u : List ℕ) → length u ≡ 0 → u ≡ []
    empty [] is = refl
    empty (a ∷ u) is = absurd (omega (arith, is))
block_ends p n (Hole s) here known b = absurd (false≢true known)

-- the bytes that are written for a content and for a relocated block
pub used_spelled : (p n : ℕ) (u any : List ℕ) → length u ≤ 65787 → length (head_of (used_head (length u))) + length u + length any + 1 ≡ 16 * size (Used u) → IsBlock p n (Used u) (head_of (used_head (length u)) ++ u ++ any ++ 0 ∷ [])
used_spelled p n u any room whole = record {
  any = any;
  spelled = refl;
  room = room;
  whole = length-append ((head_of (used_head (length u)) ++ u) ++ any) (0 ∷ []) ∙ ap (λ (k : ℕ). k + 1) (length-append (head_of (used_head (length u)) ++ u) any ∙ ap (λ (k : ℕ). k + length any) (length-append (head_of (used_head (length u))) u)) ∙ whole;
}

pub moved_spelled : (p n t : ℕ) → t < 2 ^ 56 → IsBlock p n (Moved t) (head_of (block.Relocated t))
moved_spelled p n t room = record { any = []; spelled = refl; room = room; whole = simp (length-append, length-as_bytes) }
