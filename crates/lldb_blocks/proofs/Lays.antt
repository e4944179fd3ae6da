-- Rows as they lie in contents: what each edit of a row asks of the writes.
use Rattle.std.proofs.Common.{◌≡◌, ℕ, ◌+◌, ◌*◌, ◌<◌, ◌≤◌, Bool, true, false, cond, MatchBool, List, [], ◌∷◌, ◌++◌, length, take, drop, Option, Some, None, refl, sym, ◌∙◌, ap, subst, arith, append_assoc, append-nil, length-append, length-take, length-drop, take-append-drop, take_at, inl, inr, eq-eqb, ne_eqb}
use Rattle.std.proofs.lemmas.Bool.{cases_eq, false≢true}
use Rattle.lldb_base.specs.Batch.{put}
use Rattle.lldb_atoms.specs.Blocks.{Extent, Used, Compressed, Moved, Free, Hole, size, is_free, IsBlock}
use Rattle.lldb_atoms.specs.Rows.{atoms_in, extent_at, contains}
use Rattle.lldb_atoms.specs.Lists.{in_class, class_of}
use Rattle.lldb_blocks.specs.Links.{first, last, Linked, leaving_out, at_one, head_without, Listed}
use Rattle.lldb_blocks.specs.Laid.{Solid, Tiles, Spells, Lays}
use Rattle.lldb_blocks.specs.Steps.{SetsHead, SetsPrevious, SetsNext, SetsFree, HasLinks, Forward, Backward}
use Rattle.lldb_blocks.proofs.Chains.{at_one_there, cut_at, links_of, has_head, has_last, has_append_left, has_append_right}
use Rattle.lldb_blocks.proofs.Looks.{Quiet, Solid_append, Solid_left, Solid_right, found}
use Rattle.lldb_blocks.proofs.Listings.{unlinked, listed_in, listed_here, exchanged, longer, shorter}
use Rattle.lldb_blocks.proofs.Places.{put_whole, put_end}
use Rattle.lldb_blocks.proofs.Tilings.{Tiles_same, Tiles_split, Tiles_join, Tiles_length}
use Rattle.lldb_blocks.proofs.Writes.{spells_edit, within_block}

-- links at the atom 0 are not spelled
pub no_previous : (h p n : ℕ → ℕ) (v : ℕ) (c : List ℕ) (row : List Extent) → Spells h p n c row → Spells h (at_one p 0 v) n c row
no_previous h p n v c row s = record {
  table = s.table;
  body = s.body;
  content_is = s.content_is;
  is_table = s.is_table;
  solid = s.solid;
  tiles = Tiles_same p n (at_one p 0 v) n 8 row s.body (λ q from. (at_one_there p 0 v q (λ is. absurd (omega (arith, is, from))), refl)) s.tiles;
}

pub no_next : (h p n : ℕ → ℕ) (v : ℕ) (c : List ℕ) (row : List Extent) → Spells h p n c row → Spells h p (at_one n 0 v) c row
no_next h p n v c row s = record {
  table = s.table;
  body = s.body;
  content_is = s.content_is;
  is_table = s.is_table;
  solid = s.solid;
  tiles = Tiles_same p n p (at_one n 0 v) 8 row s.body (λ q from. (refl, at_one_there n 0 v q (λ is. absurd (omega (arith, is, from))))) s.tiles;
}

free_of : (k : ℕ) (o : Option Extent) → in_class k o ≡ true → (s : ℕ) × (o ≡ Some (Free s))
free_of k None is = absurd (false≢true is)
free_of k (Some (Used c)) is = absurd (false≢true is)
free_of k (Some (Compressed c)) is = absurd (false≢true is)
free_of k (Some (Moved t)) is = absurd (false≢true is)
free_of k (Some (Free s)) is = (s, refl)
free_of k (Some (Hole s)) is = absurd (false≢true is)

-- each atom of a list is that of a free block of the row
pub listed_free : (h p n : ℕ → ℕ) (row : List Extent) (chains : ℕ → List ℕ) (k q : ℕ) → Listed h p n row chains → contains (chains k) q ≡ true → (s : ℕ) × (x : List Extent) × (y : List Extent) × (row ≡ x ++ Free s ∷ y) × (q ≡ 8 + atoms_in x)
listed_free h p n row chains k q listed here =
    let free = free_of k (extent_at 8 row q) (sym (listed.members k q) ∙ here) in
    let parts = found 8 row q (Free free.0) free.1 in
    (free.0, parts.0, parts.1, parts.2, parts.3)

-- a link of a listed block is 0 or names a listed block
last_listed : (u v : List ℕ) → (last 0 u ≡ 0 → ⊥) → contains (u ++ v) (last 0 u) ≡ true
last_listed [] v some = absurd (some refl)
last_listed (c ∷ u) v some = has_append_left (c ∷ u) v (last c u) (has_last c u)

first_listed : (u v : List ℕ) → (first v ≡ 0 → ⊥) → contains (u ++ v) (first v) ≡ true
first_listed u [] some = absurd (some refl)
first_listed u (c ∷ v) some = has_append_right u (c ∷ v) c (has_head c v)

next_set : (h p n : ℕ → ℕ) (row : List Extent) (before behind k : ℕ) (c d : List ℕ) → ((before ≡ 0 → ⊥) → (s : ℕ) × (x : List Extent) × (y : List Extent) × (row ≡ x ++ Free s ∷ y) × (before ≡ 8 + atoms_in x)) → Forward k before behind c d → Spells h p n c row → Spells (head_without h k before behind) p (at_one n before behind) d row
next_set h p n row before behind k c d free forward spells = elim (cases_eq before 0) [
  | inl is ↦
      let sets : SetsHead k behind c d = subst (λ (b : Bool). MatchBool b (SetsHead k behind c d) (SetsNext before behind c d)) (eq-eqb before 0 is) forward in
      subst (λ (b : Bool). Spells (cond b (at_one h k behind) h) p (at_one n before behind) d row) (sym (eq-eqb before 0 is))
      (subst (λ (q : ℕ). Spells (at_one h k behind) p (at_one n q behind) d row) (sym is) (no_next (at_one h k behind) p n behind d row (sets h p n row spells)))
  | inr some ↦
      let sets : SetsNext before behind c d = subst (λ (b : Bool). MatchBool b (SetsHead k behind c d) (SetsNext before behind c d)) (ne_eqb before 0 some) forward in
      let at = free some in
      subst (λ (b : Bool). Spells (cond b (at_one h k behind) h) p (at_one n before behind) d row) (sym (ne_eqb before 0 some))
      (subst (λ (r : List Extent). Spells h p (at_one n before behind) d r) (sym at.3)
      (sets h p n at.1 at.2 at.0 at.4 (subst (λ (r : List Extent). Spells h p n c r) at.3 spells)))
]

previous_set : (h p n : ℕ → ℕ) (row : List Extent) (before behind : ℕ) (c d : List ℕ) → ((behind ≡ 0 → ⊥) → (s : ℕ) × (x : List Extent) × (y : List Extent) × (row ≡ x ++ Free s ∷ y) × (behind ≡ 8 + atoms_in x)) → Backward before behind c d → Spells h p n c row → Spells h (at_one p behind before) n d row
previous_set h p n row before behind c d free backward spells = elim (cases_eq behind 0) [
  | inl is ↦
      let same : d ≡ c = subst (λ (b : Bool). MatchBool b (d ≡ c) (SetsPrevious behind before c d)) (eq-eqb behind 0 is) backward in
      subst (λ (u : List ℕ). Spells h (at_one p behind before) n u row) (sym same)
      (subst (λ (q : ℕ). Spells h (at_one p q before) n c row) (sym is) (no_previous h p n before c row spells))
  | inr some ↦
      let sets : SetsPrevious behind before c d = subst (λ (b : Bool). MatchBool b (d ≡ c) (SetsPrevious behind before c d)) (ne_eqb behind 0 some) backward in
      let at = free some in
      subst (λ (r : List Extent). Spells h (at_one p behind before) n d r) (sym at.3)
      (sets h p n at.1 at.2 at.0 at.4 (subst (λ (r : List Extent). Spells h p n c r) at.3 spells))
]

-- a part of the row is other blocks over the same bytes
pub spells_part : (h p n : ℕ → ℕ) (c : List ℕ) (x m k y : List Extent) → Solid k → ((f : ℕ) (b : List ℕ) → Tiles p n f (m ++ y) b → Tiles p n f (k ++ y) b) → Spells h p n c (x ++ (m ++ y)) → Spells h p n c (x ++ (k ++ y))
spells_part h p n c x m k y solid step s =
    let parts = Tiles_split p n 8 x (m ++ y) s.body s.tiles in
    record {
      table = s.table;
      body = s.body;
      content_is = s.content_is;
      is_table = s.is_table;
      solid = Solid_append x (k ++ y) (Solid_left x (m ++ y) s.solid) (Solid_append k y solid (Solid_right m y (Solid_right x (m ++ y) s.solid)));
      tiles = subst (λ (u : List ℕ). Tiles p n 8 (x ++ (k ++ y)) u) (sym parts.2) (Tiles_join p n 8 x (k ++ y) parts.0 parts.1 parts.3 (step (8 + atoms_in x) parts.1 parts.4));
    }

hole_of : (p n : ℕ) (e : Extent) (b : List ℕ) → IsBlock p n e b → IsBlock p n (Hole (size e)) b
hole_of p n e b block = record { any = b; spelled = refl; whole = block.whole; room = tt }

-- the bytes of a block in hand may be any
pub spells_hole : (h p n : ℕ → ℕ) (c : List ℕ) (x : List Extent) (e : Extent) (y : List Extent) → Spells h p n c (x ++ e ∷ y) → Spells h p n c (x ++ Hole (size e) ∷ y)
spells_hole h p n c x e y s =
    spells_part h p n c x (e ∷ []) (Hole (size e) ∷ []) y (let some = Solid_right x (e ∷ y) s.solid in (some.0, tt))
    (λ f b tiles. (tiles.0, tiles.1, tiles.2, hole_of (p f) (n f) e tiles.0 tiles.3, tiles.4)) s

-- a free block is taken out of its list: two links are written
pub lays_unlinked : (x : List Extent) (s : ℕ) (y : List Extent) (at before behind : ℕ) (c d e : List ℕ) → at ≡ 8 + atoms_in x → HasLinks at before behind c → Forward (class_of s) before behind c d → Backward before behind d e → Lays c (x ++ Free s ∷ y) → Lays e (x ++ Hole s ∷ y)
lays_unlinked x s y at before behind c d e place has forward backward l =
    let row : List Extent = x ++ Free s ∷ y in
    let p = l.previous in
    let n = l.next in
    let links = has l.head p n x y s place l.spells in
    let solid = Solid_left x (Free s ∷ y) l.spells.solid in
    let here = listed_here l.head p n x y s at l.chains solid place l.listed in
    let parts = cut_at (l.chains (class_of s)) at here in
    let ends = links_of p n 0 at parts.0 parts.1 (subst (λ (cs : List ℕ). Linked p n 0 cs) parts.2 (l.listed.linked (class_of s))) in
    let is_before : before ≡ last 0 parts.0 = sym links.0 ∙ ends.0 in
    let is_behind : behind ≡ first parts.1 = sym links.1 ∙ ends.1 in
    let free_before = λ (some : before ≡ 0 → ⊥).
    listed_free l.head p n row l.chains (class_of s) before l.listed
    (subst (λ (cs : List ℕ). contains cs before ≡ true) (sym parts.2)
    (subst (λ (q : ℕ). contains (parts.0 ++ at ∷ parts.1) q ≡ true) (sym is_before) (last_listed parts.0 (at ∷ parts.1) (λ zero. some (is_before ∙ zero))))) in
    let free_behind = λ (some : behind ≡ 0 → ⊥).
    listed_free l.head p n row l.chains (class_of s) behind l.listed
    (subst (λ (cs : List ℕ). contains cs behind ≡ true) (sym parts.2)
    (subst (λ (q : ℕ). contains (parts.0 ++ at ∷ parts.1) q ≡ true) (sym is_behind)
    (subst (λ (cs : List ℕ). contains cs (first parts.1) ≡ true) (append_assoc parts.0 (at ∷ []) parts.1) (first_listed (parts.0 ++ at ∷ []) parts.1 (λ zero. some (is_behind ∙ zero)))))) in
    let one = next_set l.head p n row before behind (class_of s) c d free_before forward l.spells in
    let two = previous_set (head_without l.head (class_of s) before behind) p (at_one n before behind) row before behind d e free_behind backward one in
    let three = spells_hole (head_without l.head (class_of s) before behind) (at_one p behind before) (at_one n before behind) e x (Free s) y two in
    let lists = unlinked l.head p n x y s at l.chains solid place l.listed in
    record {
      head = head_without l.head (class_of s) before behind;
      previous = at_one p behind before;
      next = at_one n before behind;
      chains = at_one l.chains (class_of s) (leaving_out at (l.chains (class_of s)));
      spells = three;
      listed = subst (λ (b : ℕ). Listed (head_without l.head (class_of s) b behind) (at_one p behind b) (at_one n b behind) (x ++ Hole s ∷ y) (at_one l.chains (class_of s) (leaving_out at (l.chains (class_of s))))) links.0
          (subst (λ (f : ℕ). Listed (head_without l.head (class_of s) (p at) f) (at_one p f (p at)) (at_one n (p at) f) (x ++ Hole s ∷ y) (at_one l.chains (class_of s) (leaving_out at (l.chains (class_of s))))) links.1 lists);
    }

-- a hole comes into the list of its class: the old first names it, it is written as a free block, and the head names it
pub lays_linked : (x : List Extent) (s : ℕ) (y : List Extent) (at old : ℕ) (b c d e : List ℕ) → at ≡ 8 + atoms_in x → class_of s < 16 → ((h p n : ℕ → ℕ) (row : List Extent) → Spells h p n b row → h (class_of s) ≡ old) → Backward at old b c → SetsFree at s 0 old c d → SetsHead (class_of s) at d e → Lays b (x ++ Hole s ∷ y) → Lays e (x ++ Free s ∷ y)
lays_linked x s y at old b c d e place below has backward free sets l =
    let row : List Extent = x ++ Hole s ∷ y in
    let h = l.head in
    let p = l.previous in
    let n = l.next in
    let solid = Solid_left x (Hole s ∷ y) l.spells.solid in
    let is : old ≡ first (l.chains (class_of s)) = sym (has h p n row l.spells) ∙ l.listed.heads (class_of s) below in
    let free_old = λ (some : old ≡ 0 → ⊥).
    listed_free h p n row l.chains (class_of s) old l.listed
    (subst (λ (q : ℕ). contains (l.chains (class_of s)) q ≡ true) (sym is) (first_listed [] (l.chains (class_of s)) (λ zero. some (is ∙ zero)))) in
    let one = previous_set h p n row at old b c free_old backward l.spells in
    let two = free h (at_one p old at) n x y place one in
    record {
      head = at_one h (class_of s) at;
      previous = at_one (at_one p old at) at 0;
      next = at_one n at old;
      chains = at_one l.chains (class_of s) (at ∷ l.chains (class_of s));
      spells = sets h (at_one (at_one p old at) at 0) (at_one n at old) (x ++ Free s ∷ y) two;
      listed = listed_in h p n x y s at l.chains solid place l.listed old is;
    }

-- a part of the row without free blocks is other blocks over the same bytes
pub lays_part : (c : List ℕ) (x m k y : List Extent) → ((class : ℕ) → Quiet (in_class class) m) → ((class : ℕ) → Quiet (in_class class) k) → Solid k → atoms_in m ≡ atoms_in k → ((p n : ℕ → ℕ) (f : ℕ) (b : List ℕ) → Tiles p n f (m ++ y) b → Tiles p n f (k ++ y) b) → Lays c (x ++ (m ++ y)) → Lays c (x ++ (k ++ y))
lays_part c x m k y quiet_m quiet_k solid same step l = record {
  head = l.head;
  previous = l.previous;
  next = l.next;
  chains = l.chains;
  spells = spells_part l.head l.previous l.next c x m k y solid (step l.previous l.next) l.spells;
  listed = exchanged l.head l.previous l.next x m k y l.chains quiet_m quiet_k (Solid_left m y (Solid_right x (m ++ y) l.spells.solid)) solid same l.listed;
}

unclassed : (e : Extent) → is_free e ≡ false → (k : ℕ) → in_class k (Some e) ≡ in_class k None
unclassed (Used c) not k = refl
unclassed (Compressed c) not k = refl
unclassed (Moved t) not k = refl
unclassed (Free s) not k = absurd (false≢true (sym not))
unclassed (Hole s) not k = refl

-- a block that is not free is taken in hand: no write
pub lays_emptied : (c : List ℕ) (x : List Extent) (e : Extent) (y : List Extent) → is_free e ≡ false → Lays c (x ++ e ∷ y) → Lays c (x ++ Hole (size e) ∷ y)
lays_emptied c x e y not l =
    lays_part c x (e ∷ []) (Hole (size e) ∷ []) y (λ k. (unclassed e not k, tt)) (λ k. (refl, tt)) (let some = Solid_right x (e ∷ y) l.spells.solid in (some.0, tt)) refl
    (λ p n f b tiles. (tiles.0, tiles.1, tiles.2, hole_of (p f) (n f) e tiles.0 tiles.3, tiles.4)) l

-- two holes are one: no write
pub lays_joined : (c : List ℕ) (x : List Extent) (s t : ℕ) (y : List Extent) → Lays c (x ++ Hole s ∷ Hole t ∷ y) → Lays c (x ++ Hole (s + t) ∷ y)
lays_joined c x s t y l =
    lays_part c x (Hole s ∷ Hole t ∷ []) (Hole (s + t) ∷ []) y (λ k. (refl, (refl, tt))) (λ k. (refl, tt))
    (let some = Solid_right x (Hole s ∷ Hole t ∷ y) l.spells.solid in let first = some.0 in (omega (arith, first), tt)) (omega arith)
    (λ p n f b (one, rest, is, block, (two, more, is2, block2, behind)). (
      one ++ two,
      more,
      is ∙ ap (λ (u : List ℕ). one ++ u) is2 ∙ sym (append_assoc one two more),
      record { any = one ++ two; spelled = refl; whole = length-append one two ∙ (let a = block.whole in let z = block2.whole in omega (arith, a, z)); room = tt },
      subst (λ (g : ℕ). Tiles p n g y more) (omega arith) behind,
    )) l

-- one hole is two: no write
pub lays_parted : (c : List ℕ) (x : List Extent) (s t : ℕ) (y : List Extent) → 1 ≤ s → 1 ≤ t → Lays c (x ++ Hole (s + t) ∷ y) → Lays c (x ++ Hole s ∷ Hole t ∷ y)
lays_parted c x s t y some_s some_t l =
    lays_part c x (Hole (s + t) ∷ []) (Hole s ∷ Hole t ∷ []) y (λ k. (refl, tt)) (λ k. (refl, (refl, tt))) (some_s, (some_t, tt)) (omega arith)
    (λ p n f b (all, more, is, block, behind).
    let whole = block.whole in (
      take (16 * s) all,
      drop (16 * s) all ++ more,
      is ∙ ap (λ (u : List ℕ). u ++ more) (sym (take-append-drop (16 * s) all)) ∙ append_assoc (take (16 * s) all) (drop (16 * s) all) more,
      record { any = take (16 * s) all; spelled = refl; whole = length-take (16 * s) all ∙ omega (arith, whole); room = tt },
      (
        drop (16 * s) all,
        more,
        refl,
        record { any = drop (16 * s) all; spelled = refl; whole = length-drop (16 * s) all ∙ omega (arith, whole); room = tt },
        subst (λ (g : ℕ). Tiles p n g y more) (omega arith) behind,
      ),
    )) l

-- the links of a block that is not free are not spelled
pub any_links : (p n p2 n2 : ℕ) (e : Extent) (b : List ℕ) → is_free e ≡ false → IsBlock p n e b → IsBlock p2 n2 e b
any_links p n p2 n2 (Used c) b not block = record { any = block.any; spelled = block.spelled; whole = block.whole; room = block.room }
any_links p n p2 n2 (Compressed c) b not block = record { any = block.any; spelled = block.spelled; whole = block.whole; room = block.room }
any_links p n p2 n2 (Moved t) b not block = record { any = block.any; spelled = block.spelled; whole = block.whole; room = block.room }
any_links p n p2 n2 (Free s) b not block = absurd (false≢true (sym not))
any_links p n p2 n2 (Hole s) b not block = record { any = block.any; spelled = block.spelled; whole = block.whole; room = block.room }

-- a hole is written as a block of its size that is not free: one write
pub lays_filled : (c : List ℕ) (x : List Extent) (e : Extent) (y : List Extent) (at : ℕ) (piece : List ℕ) → at ≡ 8 + atoms_in x → is_free e ≡ false → IsBlock 0 0 e piece → Lays c (x ++ Hole (size e) ∷ y) → Lays (put (16 * at) piece c) (x ++ e ∷ y)
lays_filled c x e y at piece place not block l = record {
  head = l.head;
  previous = l.previous;
  next = l.next;
  chains = l.chains;
  spells = subst (λ (k : ℕ). Spells l.head l.previous l.next (put k piece c) (x ++ e ∷ y)) (omega arith)
      (spells_edit l.head l.previous l.next l.previous l.next x (Hole (size e)) e y at c (put (16 * at + 0) piece) (put 0 piece) place refl (λ q other. (refl, refl))
      (λ a here rest long hole.
      let all = hole.whole in
      let whole = block.whole in (
        within_block a here rest piece at 0 long (omega (arith, all, whole)),
        subst (λ (u : List ℕ). IsBlock (l.previous at) (l.next at) e u) (sym (put_whole piece here (whole ∙ sym all))) (any_links 0 0 (l.previous at) (l.next at) e piece not block),
      ))
      l.spells);
  listed = exchanged l.head l.previous l.next x (Hole (size e) ∷ []) (e ∷ []) y l.chains (λ k. (refl, tt)) (λ k. (unclassed e not k, tt))
      (let some = Solid_right x (Hole (size e) ∷ y) l.spells.solid in (some.0, tt)) (let some = Solid_right x (Hole (size e) ∷ y) l.spells.solid in (some.0, tt)) refl l.listed;
}

-- how long a content is
pub lays_length : (c : List ℕ) (row : List Extent) → Lays c row → length c ≡ 16 * (8 + atoms_in row)
lays_length c row l =
    let whole = l.spells.is_table.whole in
    let body = Tiles_length l.previous l.next 8 row l.spells.body l.spells.tiles in
    ap length l.spells.content_is ∙ length-append l.spells.table l.spells.body ∙ omega (arith, whole, body)

-- a hole at the end is cut off
pub lays_cut : (c : List ℕ) (x : List Extent) (s : ℕ) → Lays c (x ++ Hole s ∷ []) → Lays (take (16 * (8 + atoms_in x)) c) x
lays_cut c x s l =
    let parts = Tiles_split l.previous l.next 8 x (Hole s ∷ []) l.spells.body l.spells.tiles in
    let solid = Solid_left x (Hole s ∷ []) l.spells.solid in
    let front : c ≡ (l.spells.table ++ parts.0) ++ parts.1 = l.spells.content_is ∙ ap (λ (u : List ℕ). l.spells.table ++ u) parts.2 ∙ sym (append_assoc l.spells.table parts.0 parts.1) in
    let whole = l.spells.is_table.whole in
    let body = Tiles_length l.previous l.next 8 x parts.0 parts.3 in
    let long : length (l.spells.table ++ parts.0) ≡ 16 * (8 + atoms_in x) = length-append l.spells.table parts.0 ∙ omega (arith, whole, body) in
    record {
      head = l.head;
      previous = l.previous;
      next = l.next;
      chains = l.chains;
      spells = record {
        table = l.spells.table;
        body = parts.0;
        is_table = l.spells.is_table;
        tiles = parts.3;
        solid = solid;
        content_is = ap (take (16 * (8 + atoms_in x))) front ∙ take_at (l.spells.table ++ parts.0) parts.1 (16 * (8 + atoms_in x)) long;
      };
      listed = shorter l.head l.previous l.next x (Hole s ∷ []) l.chains (λ k. (refl, tt)) solid l.listed;
    }

-- a block that is not free is written at the end
pub lays_grown : (c : List ℕ) (x : List Extent) (e : Extent) (piece : List ℕ) → is_free e ≡ false → 1 ≤ size e → IsBlock 0 0 e piece → Lays c x → Lays (put (length c) piece c) (x ++ e ∷ [])
lays_grown c x e piece not some block l = record {
  head = l.head;
  previous = l.previous;
  next = l.next;
  chains = l.chains;
  spells = record {
    table = l.spells.table;
    body = l.spells.body ++ piece;
    is_table = l.spells.is_table;
    content_is = put_end c piece ∙ ap (λ (u : List ℕ). u ++ piece) l.spells.content_is ∙ append_assoc l.spells.table l.spells.body piece;
    tiles = Tiles_join l.previous l.next 8 x (e ∷ []) l.spells.body piece l.spells.tiles (piece, [], sym (append-nil piece), any_links 0 0 (l.previous (8 + atoms_in x)) (l.next (8 + atoms_in x)) e piece not block, refl);
    solid = Solid_append x (e ∷ []) l.spells.solid (some, tt);
  };
  listed = longer l.head l.previous l.next x (e ∷ []) l.chains (λ k. (unclassed e not k, tt)) l.spells.solid l.listed;
}
