-- Contents as tilings that are computed, and as rows that lie in them.
use Rattle.std.proofs.Common.{◌≡◌, ℕ, zero, suc, ◌+◌, ◌*◌, ◌≤◌, Bool, true, false, ◌&&◌, cond, eqb, List, [], ◌∷◌, length, take, drop, Option, Some, None, option_and_then, option_map, refl, sym, ◌∙◌, ap, ap₂, subst, arith, length-append, take-append-drop, drop_at, inl, inr, eq-eqb, ne_eqb, eqb-true}
use Rattle.std.proofs.lemmas.Bool.{cases_Bool, cases_eq, and_parts, and_from, false≢true}
use Rattle.lldb_atoms.specs.Blocks.{Extent, Used, Compressed, Moved, Free, Hole, size, is_free, Tile, tile_for, tile_at, IsBlock}
use Rattle.lldb_atoms.specs.Rows.{extent_at, contains}
use Rattle.lldb_atoms.specs.Lists.{in_class, row_of, tile_from, chain}
use Rattle.lldb_atoms.specs.Sound.{tiles_in}
use Rattle.lldb_blocks.specs.Links.{first, Linked}
use Rattle.lldb_blocks.specs.Laid.{Solid, Tiles}
use Rattle.lldb_blocks.proofs.Chains.{has_head, has_rest, lacks_head, lacks_rest}
use Rattle.lldb_atoms.specs.Laws.{is_block}
use Rattle.lldb_blocks.proofs.Decoded.{tile_says, tile_reads}

-- the links that tiles name, by atom
abbrev pub previous_in : Option Tile → ℕ
previous_in None = 0
previous_in (Some t) = t.previous

abbrev pub next_in : Option Tile → ℕ
next_in None = 0
next_in (Some t) = t.next

-- nothing of a row is in hand
abbrev pub NoHoles : List Extent → Type 0
NoHoles [] = Unit {0}
NoHoles (e ∷ row) = (is_block e ≡ true) × NoHoles row

-- tiles from functions of the links
abbrev pub laid : (ℕ → ℕ) → (ℕ → ℕ) → ℕ → List Extent → List Tile
laid p n f [] = []
laid p n f (e ∷ row) = tile_for (p f) (n f) e ∷ laid p n (f + size e) row

extent_of : (p n : ℕ) (e : Extent) → (tile_for p n e).extent ≡ e
extent_of p n (Used c) = refl
extent_of p n (Compressed c) = refl
extent_of p n (Moved t) = refl
extent_of p n (Free s) = refl
extent_of p n (Hole s) = refl

pub row_of_laid : (p n : ℕ → ℕ) (f : ℕ) (row : List Extent) → row_of (laid p n f row) ≡ row
row_of_laid p n f [] = refl
row_of_laid p n f (e ∷ row) = ap₂ (λ (a : Extent) (r : List Extent). a ∷ r) (extent_of (p f) (n f) e) (row_of_laid p n (f + size e) row)

-- a row that is spelled is read
pub tiles_read : (p n : ℕ → ℕ) (f most : ℕ) (row : List Extent) (z : List ℕ) → NoHoles row → Solid row → Tiles p n f row z → length z ≤ most → tiles_in most z ≡ Some (laid p n f row)
unfolding tiles_in
tiles_read p n f most [] [] known solid tiles enough = refl
tiles_read p n f most [] (b ∷ z) known solid tiles enough = absurd (cc)
tiles_read p n f most (e ∷ row) [] known solid (here, rest, is, block, behind) enough =
    let whole = block.whole in
    let some = solid.0 in
    let none = ap length is in
    let two = length-append here rest in
    absurd (omega (arith, whole, some, none, two))
tiles_read p n f zero (e ∷ row) (b ∷ z) known solid tiles enough = absurd (omega (arith, enough))
tiles_read p n f (suc most) (e ∷ row) (b ∷ z) known solid (here, rest, is, block, behind) enough =
    let whole = block.whole in
    let some = solid.0 in
    let all = ap length is in
    let two = length-append here rest in
    let tile : tile_at (b ∷ z) ≡ Some (tile_for (p f) (n f) e) = ap tile_at is ∙ tile_reads (p f) (n f) e here rest known.0 block in
    let rest_is : drop (16 * size (tile_for (p f) (n f) e).extent) (b ∷ z) ≡ rest =
    ap (λ (d : Extent). drop (16 * size d) (b ∷ z)) (extent_of (p f) (n f) e) ∙ ap (drop (16 * size e)) is ∙ drop_at here rest (16 * size e) whole in
    let more = tiles_read p n (f + size e) most row rest known.1 solid.1 behind (omega (arith, whole, some, all, two, enough)) in
    ap (λ (o : Option Tile). option_and_then (λ tile. option_map (λ tiles. tile ∷ tiles) (tiles_in most (drop (16 * size tile.extent) (b ∷ z)))) o) tile
    ∙ ap (option_map (λ tiles. tile_for (p f) (n f) e ∷ tiles)) (ap (tiles_in most) rest_is ∙ more)

pub one_more : (o : Option Tile) (rest : Tile → Option (List Tile)) (ts : List Tile) → option_and_then (λ tile. option_map (λ tiles. tile ∷ tiles) (rest tile)) o ≡ Some ts → (t : Tile) × (us : List Tile) × (o ≡ Some t) × (rest t ≡ Some us) × (t ∷ us ≡ ts)
one_more None rest ts is = absurd (cc)
one_more (Some t) rest ts is = mapped (rest t) refl is
  where
    mapped : (r : Option (List Tile)) → rest t ≡ r → option_map (λ tiles. t ∷ tiles) r ≡ Some ts → (u : Tile) × (us : List Tile) × (Some t ≡ Some u) × (rest u ≡ Some us) × (u ∷ us ≡ ts)
    mapped None same is = absurd (cc)
    mapped (Some us) same is = (t, us, refl, same, cc)

-- functions that give the links that tiles name
abbrev pub Agrees : (ℕ → ℕ) → (ℕ → ℕ) → ℕ → List Tile → Type 0
Agrees p n f [] = Unit {0}
Agrees p n f (t ∷ ts) = (p f ≡ t.previous) × (n f ≡ t.next) × Agrees p n (f + size t.extent) ts

-- what is read is a row that is spelled
pub tiles_say : (p n : ℕ → ℕ) (f most : ℕ) (z : List ℕ) (ts : List Tile) → tiles_in most z ≡ Some ts → Agrees p n f ts → Tiles p n f (row_of ts) z × Solid (row_of ts) × NoHoles (row_of ts) × (ts ≡ laid p n f (row_of ts))
unfolding tiles_in
tiles_say p n f most [] [] is agrees = (refl, tt, tt, refl)
tiles_say p n f most [] (t ∷ ts) is agrees = absurd (cc)
tiles_say p n f zero (b ∷ z) ts is agrees = absurd (cc)
tiles_say p n f (suc most) (b ∷ z) [] is agrees =
    let parts = one_more (tile_at (b ∷ z)) (λ tile. tiles_in most (drop (16 * size tile.extent) (b ∷ z))) [] is in
    absurd (let e = parts.4 in cc)
tiles_say p n f (suc most) (b ∷ z) (t ∷ ts) is agrees =
    let parts = one_more (tile_at (b ∷ z)) (λ tile. tiles_in most (drop (16 * size tile.extent) (b ∷ z))) (t ∷ ts) is in
    let cons : parts.0 ∷ parts.1 ≡ t ∷ ts = parts.4 in
    let same : parts.0 ≡ t = cc in
    let same_rest : parts.1 ≡ ts = cc in
    let says = tile_says (b ∷ z) t (parts.2 ∙ ap (λ (u : Tile). Some u) same) in
    let read : tiles_in most (drop (16 * size t.extent) (b ∷ z)) ≡ Some ts = ap (λ (u : Tile). tiles_in most (drop (16 * size u.extent) (b ∷ z))) (sym same) ∙ parts.3 ∙ ap (λ (us : List Tile). Some us) same_rest in
    let rest = tiles_say p n (f + size t.extent) most (drop (16 * size t.extent) (b ∷ z)) ts read agrees.2 in
    let block : IsBlock (p f) (n f) t.extent (take (16 * size t.extent) (b ∷ z)) =
    subst (λ (a : ℕ). IsBlock a (n f) t.extent (take (16 * size t.extent) (b ∷ z))) (sym agrees.0)
    (subst (λ (a : ℕ). IsBlock t.previous a t.extent (take (16 * size t.extent) (b ∷ z))) (sym agrees.1) says.0.block) in (
      (take (16 * size t.extent) (b ∷ z), drop (16 * size t.extent) (b ∷ z), sym (take-append-drop (16 * size t.extent) (b ∷ z)), block, rest.0),
      (says.0.some, rest.1),
      (says.0.known, rest.2),
      ap₂ (λ (u : Tile) (us : List Tile). u ∷ us) (says.0.links ∙ ap₂ (λ (a c : ℕ). tile_for a c t.extent) (sym agrees.0) (sym agrees.1)) rest.3,
    )

-- the links that tiles name, as functions
pub agrees_from : (all : List Tile) (f : ℕ) (ts : List Tile) → Solid (row_of ts) → ((q : ℕ) → f ≤ q → tile_from 8 all q ≡ tile_from f ts q) → Agrees (λ q. previous_in (tile_from 8 all q)) (λ q. next_in (tile_from 8 all q)) f ts
agrees_from all f [] solid same = tt
agrees_from all f (t ∷ ts) solid same =
    let here : tile_from 8 all f ≡ Some t = same f (omega arith) ∙ ap (λ (b : Bool). cond b (Some t) (tile_from (f + size t.extent) ts f)) (eq-eqb f f refl) in
    let some = solid.0 in (
      ap previous_in here,
      ap next_in here,
      agrees_from all (f + size t.extent) ts solid.1 (λ q from. same q (omega (arith, from)) ∙ ap (λ (b : Bool). cond b (Some t) (tile_from (f + size t.extent) ts q)) (ne_eqb q f (λ is. absurd (omega (arith, is, from, some))))),
    )

-- what a tile at an atom is, by the row
pub tile_look : (p n : ℕ → ℕ) (f : ℕ) (row : List Extent) (q : ℕ) (e : Extent) → extent_at f row q ≡ Some e → tile_from f (laid p n f row) q ≡ Some (tile_for (p q) (n q) e)
tile_look p n f [] q e is = absurd (cc)
tile_look p n f (d ∷ row) q e is = elim (cases_eq q f) [
  | inl here ↦
      let one : Some d ≡ Some e = sym (ap (λ (b : Bool). cond b (Some d) (extent_at (f + size d) row q)) (eq-eqb q f here)) ∙ is in
      let same : d ≡ e = cc in
      ap (λ (b : Bool). cond b (Some (tile_for (p f) (n f) d)) (tile_from (f + size (tile_for (p f) (n f) d).extent) (laid p n (f + size d) row) q)) (eq-eqb q f here)
      ∙ ap₂ (λ (a : ℕ) (c : Extent). Some (tile_for (p a) (n a) c)) (sym here) same
  | inr other ↦
      let rest : extent_at (f + size d) row q ≡ Some e = sym (ap (λ (b : Bool). cond b (Some d) (extent_at (f + size d) row q)) (ne_eqb q f other)) ∙ is in
      ap (λ (b : Bool). cond b (Some (tile_for (p f) (n f) d)) (tile_from (f + size (tile_for (p f) (n f) d).extent) (laid p n (f + size d) row) q)) (ne_eqb q f other)
      ∙ ap (λ (c : Extent). tile_from (f + size c) (laid p n (f + size d) row) q) (extent_of (p f) (n f) d)
      ∙ tile_look p n (f + size d) row q e rest
]

look_tile : (p n : ℕ → ℕ) (f : ℕ) (row : List Extent) (q : ℕ) (t : Tile) → tile_from f (laid p n f row) q ≡ Some t → extent_at f row q ≡ Some t.extent
look_tile p n f [] q t is = absurd (cc)
look_tile p n f (d ∷ row) q t is = elim (cases_eq q f) [
  | inl here ↦
      let one : Some (tile_for (p f) (n f) d) ≡ Some t = sym (ap (λ (b : Bool). cond b (Some (tile_for (p f) (n f) d)) (tile_from (f + size (tile_for (p f) (n f) d).extent) (laid p n (f + size d) row) q)) (eq-eqb q f here)) ∙ is in
      let same : tile_for (p f) (n f) d ≡ t = cc in
      ap (λ (b : Bool). cond b (Some d) (extent_at (f + size d) row q)) (eq-eqb q f here) ∙ ap (λ (c : Extent). Some c) (sym (extent_of (p f) (n f) d) ∙ ap (λ (u : Tile). u.extent) same)
  | inr other ↦
      let rest : tile_from (f + size d) (laid p n (f + size d) row) q ≡ Some t =
      ap (λ (c : Extent). tile_from (f + size c) (laid p n (f + size d) row) q) (sym (extent_of (p f) (n f) d))
      ∙ sym (ap (λ (b : Bool). cond b (Some (tile_for (p f) (n f) d)) (tile_from (f + size (tile_for (p f) (n f) d).extent) (laid p n (f + size d) row) q)) (ne_eqb q f other)) ∙ is in
      ap (λ (b : Bool). cond b (Some d) (extent_at (f + size d) row q)) (ne_eqb q f other) ∙ look_tile p n (f + size d) row q t rest
]

-- chains

free_only : (p n : ℕ) (e : Extent) → is_free e ≡ true → ((tile_for p n e).previous ≡ p) × ((tile_for p n e).next ≡ n) × (is_free (tile_for p n e).extent ≡ true)
free_only p n (Used c) free = absurd (false≢true free)
free_only p n (Compressed c) free = absurd (false≢true free)
free_only p n (Moved t) free = absurd (false≢true free)
free_only p n (Free s) free = (refl, refl, refl)
free_only p n (Hole s) free = absurd (false≢true free)

free_class : (k : ℕ) (o : Option Extent) → in_class k o ≡ true → (e : Extent) × (o ≡ Some e) × (is_free e ≡ true)
free_class k None is = absurd (false≢true is)
free_class k (Some (Used c)) is = absurd (false≢true is)
free_class k (Some (Compressed c)) is = absurd (false≢true is)
free_class k (Some (Moved t)) is = absurd (false≢true is)
free_class k (Some (Free s)) is = (Free s, refl, refl)
free_class k (Some (Hole s)) is = absurd (false≢true is)

abbrev after : List Tile → ℕ → ℕ → ℕ → Tile → Option (List ℕ)
after tiles most before atom tile =
    cond (is_free tile.extent && eqb tile.previous before) (option_map (λ rest. suc atom ∷ rest) (chain tiles most (suc atom) tile.next)) None

-- a list that is linked is read
pub chain_reads : (p n : ℕ → ℕ) (row : List Extent) (k most before : ℕ) (cs : List ℕ) → length cs ≤ most → contains cs 0 ≡ false → Linked p n before cs → ((q : ℕ) → contains cs q ≡ true → in_class k (extent_at 8 row q) ≡ true) → chain (laid p n 8 row) most before (first cs) ≡ Some cs
unfolding chain
chain_reads p n row k most before [] enough none linked free = refl
chain_reads p n row k most before (zero ∷ cs) enough none linked free = absurd (lacks_head zero cs 0 none refl)
chain_reads p n row k zero before (suc a ∷ cs) enough none linked free = absurd (omega (arith, enough))
chain_reads p n row k (suc most) before (suc a ∷ cs) enough none linked free =
    let class = free_class k (extent_at 8 row (suc a)) (free (suc a) (has_head (suc a) cs)) in
    let tile = tile_look p n 8 row (suc a) class.0 class.1 in
    let own = free_only (p (suc a)) (n (suc a)) class.0 class.2 in
    let t = tile_for (p (suc a)) (n (suc a)) class.0 in
    let rest : chain (laid p n 8 row) most (suc a) t.next ≡ Some cs =
    ap (chain (laid p n 8 row) most (suc a)) (own.1 ∙ linked.1)
    ∙ chain_reads p n row k most (suc a) cs (omega (arith, enough)) (lacks_rest (suc a) cs 0 none) linked.2 (λ q here. free q (has_rest (suc a) cs q here)) in
    let test : (is_free t.extent && eqb t.previous before) ≡ true = and_from (is_free t.extent) (eqb t.previous before) own.2 (eq-eqb t.previous before (own.0 ∙ linked.0)) in
    ap (option_and_then (after (laid p n 8 row) most before a)) tile
    ∙ ap (λ (b : Bool). cond b (option_map (λ rest. suc a ∷ rest) (chain (laid p n 8 row) most (suc a) t.next)) None) test
    ∙ ap (option_map (λ rest. suc a ∷ rest)) rest

-- what is read is linked
pub record Runs (p n : ℕ → ℕ) (before here : ℕ) (cs : List ℕ) : Type 0 where
  pub starts : here ≡ first cs
  pub linked : Linked p n before cs

after_says : (o : Option Tile) (tiles : List Tile) (most before a : ℕ) (cs : List ℕ) → option_and_then (after tiles most before a) o ≡ Some cs → (t : Tile) × (ds : List ℕ) × (o ≡ Some t) × (is_free t.extent ≡ true) × (t.previous ≡ before) × (chain tiles most (suc a) t.next ≡ Some ds) × (suc a ∷ ds ≡ cs)
after_says None tiles most before a cs is = absurd (cc)
after_says (Some t) tiles most before a cs is = elim (cases_Bool (is_free t.extent && eqb t.previous before)) [
  | inl so ↦
      let two = and_parts (is_free t.extent) (eqb t.previous before) so in
      let one : option_map (λ rest. suc a ∷ rest) (chain tiles most (suc a) t.next) ≡ Some cs =
      sym (ap (λ (b : Bool). cond b (option_map (λ rest. suc a ∷ rest) (chain tiles most (suc a) t.next)) None) so) ∙ is in
      let rest = mapped (chain tiles most (suc a) t.next) one in
      (t, rest.0, refl, two.0, eqb-true t.previous before two.1, rest.1, rest.2)
  | inr lacks ↦
      absurd (let none : None ≡ Some cs = sym (ap (λ (b : Bool). cond b (option_map (λ rest. suc a ∷ rest) (chain tiles most (suc a) t.next)) None) lacks) ∙ is in cc)
]
  where
    mapped : (r : Option (List ℕ)) → option_map (λ rest. suc a ∷ rest) r ≡ Some cs → (ds : List ℕ) × (r ≡ Some ds) × (suc a ∷ ds ≡ cs)
    mapped None is = absurd (cc)
    mapped (Some ds) is = (ds, refl, cc)

links_by : (p n : ℕ) (e : Extent) (t : Tile) → Some (tile_for p n e) ≡ Some t → is_free t.extent ≡ true → (t.previous ≡ p) × (t.next ≡ n)
links_by p n e t is free =
    let same : tile_for p n e ≡ t = cc in
    let own = free_only p n e (ap is_free (sym (extent_of p n e) ∙ ap (λ (u : Tile). u.extent) same) ∙ free) in
    (ap (λ (u : Tile). u.previous) (sym same) ∙ own.0, ap (λ (u : Tile). u.next) (sym same) ∙ own.1)

pub chain_says : (p n : ℕ → ℕ) (row : List Extent) (most before here : ℕ) (cs : List ℕ) → chain (laid p n 8 row) most before here ≡ Some cs → Runs p n before here cs
unfolding chain
chain_says p n row most before zero [] is = record { starts = refl; linked = tt }
chain_says p n row most before zero (c ∷ cs) is = absurd (cc)
chain_says p n row zero before (suc a) cs is = absurd (cc)
chain_says p n row (suc most) before (suc a) [] is =
    let parts = after_says (tile_from 8 (laid p n 8 row) (suc a)) (laid p n 8 row) most before a [] is in
    absurd (let e = parts.6 in cc)
chain_says p n row (suc most) before (suc a) (c ∷ cs) is =
    let parts = after_says (tile_from 8 (laid p n 8 row) (suc a)) (laid p n 8 row) most before a (c ∷ cs) is in
    let cons : suc a ∷ parts.1 ≡ c ∷ cs = parts.6 in
    let same : suc a ≡ c = cc in
    let same_rest : parts.1 ≡ cs = cc in
    let look = look_tile p n 8 row (suc a) parts.0 parts.2 in
    let tile = tile_look p n 8 row (suc a) parts.0.extent look in
    let links = links_by (p (suc a)) (n (suc a)) parts.0.extent parts.0 (sym tile ∙ parts.2) parts.3 in
    let rest = chain_says p n row most (suc a) parts.0.next parts.1 parts.5 in
    record {
      starts = same;
      linked = subst (λ (ds : List ℕ). Linked p n before ds) cons
          (sym links.0 ∙ parts.4, sym links.1 ∙ rest.starts, rest.linked);
    }
