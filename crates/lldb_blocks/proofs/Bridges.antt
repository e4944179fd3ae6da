-- A sound content is a row at rest that lies in it, and a row at rest makes its content sound.
use Rattle.std.proofs.Common.{◌≡◌, ℕ, zero, suc, ◌+◌, ◌*◌, ◌<◌, ◌≤◌, Bool, true, false, not, ◌&&◌, ◌||◌, cond, eqb, leb, ltb, List, [], ◌∷◌, ◌++◌, length, take, drop, Option, Some, None, is_some, unwrap_or, option_and_then, option_map, refl, sym, ◌∙◌, ap, ap₂, subst, arith, length-append, length-take, take-append-drop, drop_at, inl, inr, eq-eqb, ne_eqb, le-leb, leb-true, lt-ltb, le-ltb, get_or-drop, get_or-take}
use Rattle.std.proofs.lemmas.Bool.{cases_Bool, cases_lt, cases_eq, and_parts, and_from, false≢true, not-true, not_from_false, cond-true}
use Rattle.std.proofs.lemmas.List.{get_or_append_left}
use Rattle.std.proofs.lemmas.Map.Steps.{length-le_from_distinct_below}
use Rattle.std.proofs.lemmas.Map.Keys.{IsDistinct-cons}
use Rattle.std.specs.List.{list_all, IsDistinct, AllByRecursion}
use Rattle.lldb_atoms.specs.Blocks.{Extent, Used, Compressed, Moved, Free, Hole, size, Tile, tile_at}
use Rattle.lldb_atoms.specs.Rows.{atoms_in, extent_at, contains, are_distinct, targets, are_used, are_spaced, ends_free, heap}
use Rattle.lldb_atoms.specs.Lists.{class_of, in_class, free_from, row_of, tile_from, list_head, chain, list_of, has_class, are_listed}
use Rattle.lldb_atoms.specs.Sound.{tiles_in, tiling, is_sound_tiling, sound_tiling, is_sound, heap_in}
use Rattle.lldb_atoms.proofs.Listed.{class_below}
use Rattle.lldb_blocks.specs.Links.{Apart, first, Linked}
use Rattle.lldb_blocks.specs.Laid.{Solid, Spells, Lays, AtRest}
use Rattle.lldb_blocks.proofs.Chains.{has_head, has_rest, lacks_head, lacks_rest}
use Rattle.lldb_blocks.proofs.Looks.{found, atoms_append, Solid_right}
use Rattle.lldb_blocks.proofs.Listings.{lacks_zero}
use Rattle.lldb_blocks.proofs.Places.{same_number}
use Rattle.lldb_blocks.proofs.Tilings.{Tiles_length}
use Rattle.lldb_blocks.proofs.Decoded.{tile_says}
use Rattle.lldb_blocks.proofs.Sounds.{previous_in, next_in, NoHoles, laid, row_of_laid, tiles_read, tiles_say, one_more, agrees_from, chain_reads, chain_says}

-- a test that all pass, at one of them
at_member : (test : ℕ → Bool) (ns : List ℕ) (n : ℕ) → list_all test ns ≡ true → contains ns n ≡ true → test n ≡ true
at_member test [] n all member = absurd (false≢true member)
at_member test (m ∷ ns) n all member =
    let two = and_parts (test m) (list_all test ns) all in
    elim (cases_eq n m) [
      | inl is ↦ ap test is ∙ two.0
      | inr other ↦ at_member test ns n two.1 (sym (ap (λ (b : Bool). b || contains ns n) (ne_eqb n m other)) ∙ member)
    ]

all_from : (test : ℕ → Bool) (ns : List ℕ) → ((n : ℕ) → contains ns n ≡ true → test n ≡ true) → list_all test ns ≡ true
all_from test [] each = refl
all_from test (m ∷ ns) each = and_from (test m) (list_all test ns) (each m (has_head m ns)) (all_from test ns (λ n member. each n (has_rest m ns n member)))

pub Apart_from : (ns : List ℕ) → are_distinct ns ≡ true → Apart ns
Apart_from [] distinct = tt
Apart_from (n ∷ ns) distinct =
    let two = and_parts (not (contains ns n)) (are_distinct ns) distinct in
    (not-true (contains ns n) two.0, Apart_from ns two.1)

pub distinct_from : (ns : List ℕ) → Apart ns → are_distinct ns ≡ true
distinct_from [] apart = refl
distinct_from (n ∷ ns) apart = and_from (not (contains ns n)) (are_distinct ns) (not_from_false (contains ns n) apart.0) (distinct_from ns apart.1)

-- the free blocks of a class are those of the row
free_in : (k f : ℕ) (row : List Extent) (q : ℕ) → in_class k (extent_at f row q) ≡ true → contains (free_from k f row) q ≡ true
free_in k f [] q is = absurd (false≢true is)
free_in k f (e ∷ row) q is = elim (cases_eq q f) [
  | inl here ↦
      let test : in_class k (Some e) ≡ true = sym (ap (λ (b : Bool). in_class k (cond b (Some e) (extent_at (f + size e) row q))) (eq-eqb q f here)) ∙ is in
      ap (λ (b : Bool). contains (cond b (f ∷ free_from k (f + size e) row) (free_from k (f + size e) row)) q) test
      ∙ ap (λ (b : Bool). b || contains (free_from k (f + size e) row) q) (eq-eqb q f here)
  | inr other ↦
      let rest = free_in k (f + size e) row q (sym (ap (λ (b : Bool). in_class k (cond b (Some e) (extent_at (f + size e) row q))) (ne_eqb q f other)) ∙ is) in
      either (in_class k (Some e)) (free_from k (f + size e) row) rest
]
  where
    either : (b : Bool) (ns : List ℕ) → contains ns q ≡ true → contains (cond b (f ∷ ns) ns) q ≡ true
    either true ns member = has_rest f ns q member
    either false ns member = member

free_out : (k f : ℕ) (row : List Extent) (q : ℕ) → Solid row → contains (free_from k f row) q ≡ true → (in_class k (extent_at f row q) ≡ true) × (f ≤ q)
free_out k f [] q solid member = absurd (false≢true member)
free_out k f (e ∷ row) q solid member = elim (cases_Bool (in_class k (Some e))) [
  | inl test ↦ elim (cases_eq q f) [
    | inl here ↦ (ap (λ (b : Bool). in_class k (cond b (Some e) (extent_at (f + size e) row q))) (eq-eqb q f here) ∙ test, omega (arith, here))
    | inr other ↦ later other (sym (ap (λ (b : Bool). b || contains (free_from k (f + size e) row) q) (ne_eqb q f other)) ∙ sym (ap (λ (b : Bool). contains (cond b (f ∷ free_from k (f + size e) row) (free_from k (f + size e) row)) q) test) ∙ member)
        (free_out k (f + size e) row q solid.1 (sym (ap (λ (b : Bool). b || contains (free_from k (f + size e) row) q) (ne_eqb q f other)) ∙ sym (ap (λ (b : Bool). contains (cond b (f ∷ free_from k (f + size e) row) (free_from k (f + size e) row)) q) test) ∙ member))
  ]
  | inr test ↦
      let rest = free_out k (f + size e) row q solid.1 (sym (ap (λ (b : Bool). contains (cond b (f ∷ free_from k (f + size e) row) (free_from k (f + size e) row)) q) test) ∙ member) in
      let some = solid.0 in
      let from = rest.1 in
      (ap (λ (b : Bool). in_class k (cond b (Some e) (extent_at (f + size e) row q))) (ne_eqb q f (λ is. absurd (omega (arith, is, from, some)))) ∙ rest.0, omega (arith, from))
]
  where
    later : (q ≡ f → ⊥) → contains (free_from k (f + size e) row) q ≡ true → (in_class k (extent_at (f + size e) row q) ≡ true) × (f + size e ≤ q) → (in_class k (cond (eqb q f) (Some e) (extent_at (f + size e) row q)) ≡ true) × (f ≤ q)
    later other member rest = let from = rest.1 in (ap (λ (b : Bool). in_class k (cond b (Some e) (extent_at (f + size e) row q))) (ne_eqb q f other) ∙ rest.0, omega (arith, from))

-- the table at the front of a content
head_of_front : (c : List ℕ) (k : ℕ) → k < 16 → list_head (take 128 c) k ≡ list_head c k
unfolding list_head
head_of_front c k below =
    same_number 8 (drop (8 * k) (take 128 c)) (drop (8 * k) c) (λ i low.
    get_or-drop (8 * k) (take 128 c) i 0 ∙ get_or-take 128 c (8 * k + i) 0 (omega (arith, below, low)) ∙ sym (get_or-drop (8 * k) c i 0))

head_of_table : (t z : List ℕ) (k : ℕ) → length t ≡ 128 → k < 16 → list_head (t ++ z) k ≡ list_head t k
unfolding list_head
head_of_table t z k long below =
    same_number 8 (drop (8 * k) (t ++ z)) (drop (8 * k) t) (λ i low.
    get_or-drop (8 * k) (t ++ z) i 0 ∙ get_or_append_left t z 0 (8 * k + i) (omega (arith, long, below, low)) ∙ sym (get_or-drop (8 * k) t i 0))

-- the head of a list is read in the content
pub head_read : (h p n : ℕ → ℕ) (c : List ℕ) (row : List Extent) (k : ℕ) → k < 16 → Spells h p n c row → list_head c k ≡ h k
head_read h p n c row k below s =
    ap (λ (u : List ℕ). list_head u k) s.content_is ∙ head_of_table s.table s.body k s.is_table.whole below ∙ s.is_table.heads k below

-- from a sound content to a row

pub record LaidOut (c : List ℕ) : Type 0 where
  pub row : List Extent
  pub lays : Lays c row
  pub rest : AtRest row
  pub heap_is : heap_in c ≡ Some (heap row)

tiles_solid : (most : ℕ) (z : List ℕ) (ts : List Tile) → tiles_in most z ≡ Some ts → Solid (row_of ts)
unfolding tiles_in
tiles_solid most z [] is = tt
tiles_solid most [] (t ∷ ts) is = absurd (cc)
tiles_solid zero (b ∷ z) (t ∷ ts) is = absurd (cc)
tiles_solid (suc most) (b ∷ z) (t ∷ ts) is =
    let parts = one_more (tile_at (b ∷ z)) (λ tile. tiles_in most (drop (16 * size tile.extent) (b ∷ z))) (t ∷ ts) is in
    let cons : parts.0 ∷ parts.1 ≡ t ∷ ts = parts.4 in
    let same : parts.0 ≡ t = cc in
    let same_rest : parts.1 ≡ ts = cc in (
      (tile_says (b ∷ z) t (parts.2 ∙ ap (λ (u : Tile). Some u) same)).0.some,
      tiles_solid most (drop (16 * size parts.0.extent) (b ∷ z)) ts (parts.3 ∙ ap (λ (us : List Tile). Some us) same_rest),
    )

-- what the test of a list says
record Held (row : List Extent) (k : ℕ) (o : Option (List ℕ)) : Type 0 where
  cs : List ℕ
  is : o ≡ Some cs
  once : are_distinct cs ≡ true
  inside : (q : ℕ) → contains cs q ≡ true → in_class k (extent_at 8 row q) ≡ true
  all : (q : ℕ) → in_class k (extent_at 8 row q) ≡ true → contains cs q ≡ true

held : (row : List Extent) (k : ℕ) (o : Option (List ℕ)) → has_class row k o ≡ true → Held row k o
held row k None test = absurd (false≢true test)
held row k (Some cs) test =
    let one = and_parts (are_distinct cs) (list_all (λ q. in_class k (extent_at 8 row q)) cs && list_all (contains cs) (free_from k 8 row)) test in
    let two = and_parts (list_all (λ q. in_class k (extent_at 8 row q)) cs) (list_all (contains cs) (free_from k 8 row)) one.1 in
    record {
      cs = cs;
      is = refl;
      once = one.0;
      inside = λ q member. at_member (λ a. in_class k (extent_at 8 row a)) cs q two.0 member;
      all = λ q is. at_member (contains cs) (free_from k 8 row) q two.1 (free_in k 8 row q is);
    }

each_class : (c : List ℕ) (ts : List Tile) (n k : ℕ) → are_listed c ts n ≡ true → k < n → has_class (row_of ts) k (list_of c ts k) ≡ true
each_class c ts zero k test below = absurd (omega (arith, below))
each_class c ts (suc n) k test below =
    let two = and_parts (are_listed c ts n) (has_class (row_of ts) n (list_of c ts n)) test in
    elim (cases_eq k n) [
      | inl is ↦ subst (λ (j : ℕ). has_class (row_of ts) j (list_of c ts j) ≡ true) (sym is) two.1
      | inr other ↦ each_class c ts n k two.0 (omega (arith, below, other))
    ]

both_ways : (a b : Bool) → (a ≡ true → b ≡ true) → (b ≡ true → a ≡ true) → a ≡ b
both_ways true b there back = sym (there refl)
both_ways false true there back = back refl
both_ways false false there back = refl

no_class : (k : ℕ) (o : Option Extent) → 16 ≤ k → in_class k o ≡ false
no_class k None large = refl
no_class k (Some (Used c)) large = refl
no_class k (Some (Compressed c)) large = refl
no_class k (Some (Moved t)) large = refl
no_class k (Some (Free s)) large = ne_eqb (class_of s) k (λ is. let below = class_below s in absurd (omega (arith, is, below, large)))
no_class k (Some (Hole s)) large = refl

abbrev lists_in : List ℕ → List Tile → ℕ → List ℕ
lists_in c ts k = cond (ltb k 16) (unwrap_or (list_of c ts k) []) []

-- a content with its tiles, where the lists are as they have to be
tiled_lays : (c : List ℕ) (ts : List Tile) → 128 ≤ length c → tiles_in (length c) (drop 128 c) ≡ Some ts → are_listed c ts 16 ≡ true → Lays c (row_of ts)
unfolding list_of
tiled_lays c ts long read listed =
    let p : ℕ → ℕ = λ q. previous_in (tile_from 8 ts q) in
    let n : ℕ → ℕ = λ q. next_in (tile_from 8 ts q) in
    let solid = tiles_solid (length c) (drop 128 c) ts read in
    let says = tiles_say p n 8 (length c) (drop 128 c) ts read (agrees_from ts 8 ts solid (λ q from. refl)) in
    let is : ts ≡ laid p n 8 (row_of ts) = says.3 in
    let hold = λ (k : ℕ) (below : k < 16). held (row_of ts) k (list_of c ts k) (each_class c ts 16 k listed below) in
    let mine = λ (k : ℕ) (below : k < 16). ap (λ (b : Bool). cond b (unwrap_or (list_of c ts k) []) []) (lt-ltb k 16 below) ∙ ap (λ (o : Option (List ℕ)). unwrap_or o []) ((hold k below).is) in
    let none = λ (k : ℕ) (large : 16 ≤ k). ap (λ (b : Bool). cond b (unwrap_or (list_of c ts k) []) []) (le-ltb k 16 large) in
    let runs = λ (k : ℕ) (below : k < 16).
    chain_says p n (row_of ts) (length c) 0 (list_head c k) (hold k below).cs (ap (λ (us : List Tile). chain us (length c) 0 (list_head c k)) (sym is) ∙ (hold k below).is) in
    record {
      head = list_head c;
      previous = p;
      next = n;
      chains = lists_in c ts;
      spells = record {
        table = take 128 c;
        body = drop 128 c;
        content_is = sym (take-append-drop 128 c);
        is_table = record { whole = length-take 128 c ∙ omega (arith, long); heads = λ k below. head_of_front c k below };
        tiles = says.0;
        solid = solid;
      };
      listed = record {
        heads = λ k below. (runs k below).starts ∙ ap first (sym (mine k below));
        linked = λ k. elim (cases_lt k 16) [
          | inl below ↦ subst (λ (cs : List ℕ). Linked p n 0 cs) (sym (mine k below)) (runs k below).linked
          | inr large ↦ subst (λ (cs : List ℕ). Linked p n 0 cs) (sym (none k large)) tt
        ];
        once = λ k. elim (cases_lt k 16) [
          | inl below ↦ subst (λ (cs : List ℕ). Apart cs) (sym (mine k below)) (Apart_from (hold k below).cs (hold k below).once)
          | inr large ↦ subst (λ (cs : List ℕ). Apart cs) (sym (none k large)) tt
        ];
        members = λ k q. elim (cases_lt k 16) [
          | inl below ↦ ap (λ (cs : List ℕ). contains cs q) (mine k below) ∙ both_ways (contains (hold k below).cs q) (in_class k (extent_at 8 (row_of ts) q)) ((hold k below).inside q) ((hold k below).all q)
          | inr large ↦ ap (λ (cs : List ℕ). contains cs q) (none k large) ∙ sym (no_class k (extent_at 8 (row_of ts) q) large)
        ];
      };
    }

picked : (b : Bool) (o : Option (List Tile)) (ts : List Tile) → cond b o None ≡ Some ts → (b ≡ true) × (o ≡ Some ts)
picked true o ts is = (refl, is)
picked false o ts is = absurd (cc)

kept_tiles : (f : List Tile → Bool) (o : Option (List Tile)) (ts : List Tile) → option_and_then (λ us. cond (f us) (Some us) None) o ≡ Some ts → (o ≡ Some ts) × (f ts ≡ true)
kept_tiles f None ts is = absurd (cc)
kept_tiles f (Some us) ts is =
    let two = picked (f us) (Some us) ts is in
    let same : us ≡ ts = let e = two.1 in cc in
    (two.1, subst (λ (vs : List Tile). f vs ≡ true) same two.0)

-- a sound content is laid out
pub sound_lays : (c : List ℕ) (ts : List Tile) → sound_tiling c ≡ Some ts → Lays c (row_of ts) × AtRest (row_of ts)
unfolding sound_tiling tiling
sound_lays c ts is =
    let read = kept_tiles (is_sound_tiling c) (tiling c) ts is in
    let tiles = picked (leb 128 (length c)) (tiles_in (length c) (drop 128 c)) ts read.0 in
    let row = row_of ts in
    let a = and_parts (are_spaced false row) (not (ends_free false row) && (are_distinct (targets row) && (are_used row (targets row) && are_listed c ts 16))) read.1 in
    let b = and_parts (not (ends_free false row)) (are_distinct (targets row) && (are_used row (targets row) && are_listed c ts 16)) a.1 in
    let d = and_parts (are_distinct (targets row)) (are_used row (targets row) && are_listed c ts 16) b.1 in
    let e = and_parts (are_used row (targets row)) (are_listed c ts 16) d.1 in (
      tiled_lays c ts (leb-true 128 (length c) tiles.0) tiles.1 e.1,
      record { spread = a.0; closed = not-true (ends_free false row) b.0; once = d.0; used = e.0 },
    )

sound_some : (o : Option (List Tile)) → is_some o ≡ true → (ts : List Tile) × (o ≡ Some ts)
sound_some None is = absurd (false≢true is)
sound_some (Some ts) is = (ts, refl)

pub laid_out : (b : ℕ) (c : List ℕ) → is_sound (b ∷ c) ≡ true → LaidOut (b ∷ c)
unfolding heap_in
laid_out b c sound =
    let tiles = sound_some (sound_tiling (b ∷ c)) sound in
    let both = sound_lays (b ∷ c) tiles.0 tiles.1 in
    record { row = row_of tiles.0; lays = both.0; rest = both.1; heap_is = ap (option_map (λ ts. heap (row_of ts))) tiles.1 }

-- from a row to a sound content

no_holes : (before : Bool) (row : List Extent) → are_spaced before row ≡ true → NoHoles row
no_holes before [] spread = tt
no_holes before (Used c ∷ row) spread = (refl, no_holes false row spread)
no_holes before (Compressed c ∷ row) spread = absurd (false≢true spread)
no_holes before (Moved t ∷ row) spread = (refl, no_holes false row spread)
no_holes before (Free s ∷ row) spread = (refl, no_holes true row (and_parts (not before) (are_spaced true row) spread).1)
no_holes before (Hole s ∷ row) spread = absurd (false≢true spread)

no_key : (n : ℕ) (ms : List ℕ) → contains ms n ≡ false → AllByRecursion (λ y. eqb n y ≡ false) ms
no_key n [] lacks = tt
no_key n (m ∷ ms) lacks = (ne_eqb n m (lacks_head m ms n lacks), no_key n ms (lacks_rest m ms n lacks))

distinct_keys : (ns : List ℕ) → Apart ns → IsDistinct eqb ns
unfolding IsDistinct
distinct_keys [] apart = tt
distinct_keys (n ∷ ns) apart = IsDistinct-cons eqb n ns (no_key n ns apart.0) (distinct_keys ns apart.1)

in_class_some : (k : ℕ) (o : Option Extent) → in_class k o ≡ true → (e : Extent) × (o ≡ Some e)
in_class_some k None is = absurd (false≢true is)
in_class_some k (Some e) is = (e, refl)

-- a list is no longer than its content
list_short : (c : List ℕ) (row : List Extent) (l : Lays c row) (k : ℕ) → length (l.chains k) ≤ length c
list_short c row l k =
    length-le_from_distinct_below (l.chains k) (length c) (distinct_keys (l.chains k) (l.listed.once k)) (λ q member.
    let some = in_class_some k (extent_at 8 row q) (sym (l.listed.members k q) ∙ member) in
    let parts = found 8 row q some.0 some.1 in
    let solid = Solid_right parts.0 (some.0 ∷ parts.1) (subst (λ (r : List Extent). Solid r) parts.2 l.spells.solid) in
    let one = solid.0 in
    let place = parts.3 in
    let all = ap atoms_in parts.2 ∙ atoms_append parts.0 (some.0 ∷ parts.1) in
    let body = Tiles_length l.previous l.next 8 row l.spells.body l.spells.tiles in
    let table = l.spells.is_table.whole in
    let whole = ap length l.spells.content_is ∙ length-append l.spells.table l.spells.body in
    omega (arith, one, place, all, body, table, whole))

-- each list of a row that lies in a content is read as it is
list_read : (c : List ℕ) (row : List Extent) (l : Lays c row) (k : ℕ) → k < 16 → list_of c (laid l.previous l.next 8 row) k ≡ Some (l.chains k)
unfolding list_of
list_read c row l k below =
    ap (chain (laid l.previous l.next 8 row) (length c) 0) (head_read l.head l.previous l.next c row k below l.spells ∙ l.listed.heads k below)
    ∙ chain_reads l.previous l.next row k (length c) 0 (l.chains k) (list_short c row l k) (lacks_zero l.head l.previous l.next row l.chains l.listed k) (l.listed.linked k)
    (λ q member. sym (l.listed.members k q) ∙ member)

has_each : (c : List ℕ) (row : List Extent) (l : Lays c row) (k : ℕ) → k < 16 → has_class (row_of (laid l.previous l.next 8 row)) k (list_of c (laid l.previous l.next 8 row) k) ≡ true
has_each c row l k below =
    ap₂ (λ (r : List Extent) (o : Option (List ℕ)). has_class r k o) (row_of_laid l.previous l.next 8 row) (list_read c row l k below)
    ∙ and_from (are_distinct (l.chains k)) (list_all (λ q. in_class k (extent_at 8 row q)) (l.chains k) && list_all (contains (l.chains k)) (free_from k 8 row)) (distinct_from (l.chains k) (l.listed.once k))
    (and_from (list_all (λ q. in_class k (extent_at 8 row q)) (l.chains k)) (list_all (contains (l.chains k)) (free_from k 8 row))
    (all_from (λ q. in_class k (extent_at 8 row q)) (l.chains k) (λ q member. sym (l.listed.members k q) ∙ member))
    (all_from (contains (l.chains k)) (free_from k 8 row) (λ q member. l.listed.members k q ∙ (free_out k 8 row q l.spells.solid member).0)))

listed_all : (c : List ℕ) (row : List Extent) (l : Lays c row) (n : ℕ) → n ≤ 16 → are_listed c (laid l.previous l.next 8 row) n ≡ true
listed_all c row l zero most = refl
listed_all c row l (suc n) most =
    and_from (are_listed c (laid l.previous l.next 8 row) n) (has_class (row_of (laid l.previous l.next 8 row)) n (list_of c (laid l.previous l.next 8 row) n)) (listed_all c row l n (omega (arith, most))) (has_each c row l n (omega (arith, most)))

rest_tiling : (c : List ℕ) (ts : List Tile) (row : List Extent) → row_of ts ≡ row → AtRest row → are_listed c ts 16 ≡ true → is_sound_tiling c ts ≡ true
rest_tiling c ts row is rest listed =
    let at = subst (λ (r : List Extent). AtRest r) (sym is) rest in
    let r = row_of ts in
    and_from (are_spaced false r) (not (ends_free false r) && (are_distinct (targets r) && (are_used r (targets r) && are_listed c ts 16))) at.spread
    (and_from (not (ends_free false r)) (are_distinct (targets r) && (are_used r (targets r) && are_listed c ts 16)) (not_from_false (ends_free false r) at.closed)
    (and_from (are_distinct (targets r)) (are_used r (targets r) && are_listed c ts 16) at.once
    (and_from (are_used r (targets r)) (are_listed c ts 16) at.used listed)))

-- a row at rest makes its content sound, and its tiles are found
pub lays_tiling : (c : List ℕ) (row : List Extent) (l : Lays c row) → AtRest row → sound_tiling c ≡ Some (laid l.previous l.next 8 row)
unfolding sound_tiling tiling
lays_tiling c row l rest =
    let s = l.spells in
    let table = s.is_table.whole in
    let long : length c ≡ 128 + length s.body = ap length s.content_is ∙ length-append s.table s.body ∙ omega (arith, table) in
    let body : drop 128 c ≡ s.body = ap (drop 128) s.content_is ∙ drop_at s.table s.body 128 table in
    let read : tiles_in (length c) (drop 128 c) ≡ Some (laid l.previous l.next 8 row) =
    ap (tiles_in (length c)) body ∙ tiles_read l.previous l.next 8 (length c) row s.body (no_holes false row rest.spread) s.solid s.tiles (omega (arith, long)) in
    let all : tiling c ≡ Some (laid l.previous l.next 8 row) =
    cond-true (leb 128 (length c)) (tiles_in (length c) (drop 128 c)) None (le-leb 128 (length c) (omega (arith, long))) ∙ read in
    ap (option_and_then (λ ts. cond (is_sound_tiling c ts) (Some ts) None)) all
    ∙ cond-true (is_sound_tiling c (laid l.previous l.next 8 row)) (Some (laid l.previous l.next 8 row)) None
    (rest_tiling c (laid l.previous l.next 8 row) row (row_of_laid l.previous l.next 8 row) rest (listed_all c row l 16 (omega arith)))

pub lays_sound : (c : List ℕ) (row : List Extent) → Lays c row → AtRest row → is_sound c ≡ true
lays_sound c row l rest = ap is_some (lays_tiling c row l rest)

filled : (b : ℕ) (d : List ℕ) → heap_in (b ∷ d) ≡ option_map (λ ts. heap (row_of ts)) (sound_tiling (b ∷ d))
unfolding heap_in
filled b d = refl

some_bytes : (c : List ℕ) → 1 ≤ length c → heap_in c ≡ option_map (λ ts. heap (row_of ts)) (sound_tiling c)
some_bytes [] some = absurd (omega (arith, some))
some_bytes (b ∷ d) some = filled b d

-- the heap of a content in which a row at rest lies is that of the row
pub lays_heap : (c : List ℕ) (row : List Extent) → Lays c row → AtRest row → heap_in c ≡ Some (heap row)
lays_heap c row l rest =
    let s = l.spells in
    let table = s.is_table.whole in
    let long : length c ≡ 128 + length s.body = ap length s.content_is ∙ length-append s.table s.body ∙ omega (arith, table) in
    some_bytes c (omega (arith, long))
    ∙ ap (option_map (λ ts. heap (row_of ts))) (lays_tiling c row l rest)
    ∙ ap (λ (r : List Extent). Some (heap r)) (row_of_laid l.previous l.next 8 row)
