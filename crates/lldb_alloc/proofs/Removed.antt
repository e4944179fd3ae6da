-- A content is removed from a row at rest: its blocks become holes, which are given up.
use Rattle.std.proofs.Common.{◌≡◌, ℕ, ◌+◌, ◌*◌, ◌<◌, ◌≤◌, Bool, true, false, cond, List, [], ◌∷◌, ◌++◌, length, Option, Some, None, IfSome, refl, sym, ◌∙◌, ap, subst, arith}
use Rattle.lldb_base.specs.Contents.{Contents, content_of, with_content, without, atoms_for}
use Rattle.lldb_base.specs.Heaps.{MayBeDead}
use Rattle.lldb_atoms.specs.Blocks.{Extent, Used, Moved, Hole, size, is_free}
use Rattle.lldb_atoms.specs.Rows.{atoms_in, extent_at, contains, targets, used_content, heap}
use Rattle.lldb_atoms.specs.Sound.{heap_in}
use Rattle.lldb_blocks.specs.Laid.{Lays, AtRest}
use Rattle.lldb_blocks.proofs.Looks.{atoms_append, found, look_there, Solid_left}
use Rattle.lldb_blocks.proofs.Lays.{lays_emptied, lays_length}
use Rattle.lldb_blocks.proofs.Heaps.{heap_at, meant, Rising_heap, target_named}
use Rattle.lldb_blocks.proofs.Contents.{heap_emptied, heap_unpointed}
use Rattle.lldb_blocks.proofs.Calls.{named_of, hole_unnamed, rest_parts}
use Rattle.lldb_blocks.proofs.Moves.{Named_emptied, Named_unpointed, removed_map}
use Rattle.lldb_blocks.proofs.Bridges.{lays_heap}
use Rattle.lldb_alloc.specs.Changes.{Turns}
use Rattle.lldb_alloc.specs.Releases.{LacksGap, Releases}
use Rattle.lldb_alloc.specs.Told.{heap_told}
use Rattle.lldb_alloc.specs.Handles.{HasSite, LacksHandle, Removes, RemovesIn}
use Rattle.lldb_alloc.specs.declared.site.Site.TheVariants as site
use Rattle.lldb_alloc.proofs.Uses.{used_says}
use Rattle.lldb_alloc.proofs.ToldHeaps.{no_contents}
use Rattle.lldb_alloc.proofs.Created.{by_row}

-- a block that is not within a content
pub gap_low : (told : Option (List ℕ)) (at atoms : ℕ) → at < 8 → IfSome told (LacksGap at atoms)
gap_low None at atoms low = tt
gap_low (Some c) at atoms low = λ x y place spread_x spread_y l. omega (arith, low, place)

pub gap_past : (told : Option (List ℕ)) (at atoms bytes : ℕ) → IfSome told (λ c. length c ≡ bytes) → bytes < 16 * (at + atoms) → IfSome told (LacksGap at atoms)
gap_past None at atoms bytes long past = tt
gap_past (Some c) at atoms bytes long past = λ x y place spread_x spread_y l.
    let all = lays_length c (x ++ Hole atoms ∷ y) l in
    let parts = atoms_append x (Hole atoms ∷ y) in
    omega (arith, all, parts, place, long, past)

-- a row with a block of it in the middle
pub record Split (c : List ℕ) (row : List Extent) (q : ℕ) (e : Extent) : Type 0 where
  pub x : List Extent
  pub y : List Extent
  pub is : row ≡ x ++ e ∷ y
  pub place : q ≡ 8 + atoms_in x
  pub lays : Lays c (x ++ e ∷ y)
  pub rest : AtRest (x ++ e ∷ y)

pub split : (c : List ℕ) (row : List Extent) (q : ℕ) (e : Extent) → Lays c row → AtRest row → extent_at 8 row q ≡ Some e → Split c row q e
split c row q e l rest here =
    let f = found 8 row q e here in
    record {
      x = f.0;
      y = f.1;
      is = f.2;
      place = f.3;
      lays = subst (λ (r : List Extent). Lays c r) f.2 l;
      rest = subst (λ (r : List Extent). AtRest r) f.2 rest;
    }

-- a block that is no free one can be a hole
pub gap_stands : (c : List ℕ) (row : List Extent) (q : ℕ) (e : Extent) → is_free e ≡ false → Lays c row → AtRest row → extent_at 8 row q ≡ Some e → LacksGap q (size e) c → ⊥
gap_stands c row q e known l rest here lacks =
    let s = split c row q e l rest here in
    let parts = rest_parts s.x e s.y known s.rest in
    lacks s.x s.y s.place parts.0 parts.1 (lays_emptied c s.x e s.y known s.lays)

-- the content of a handle's own block
pub own_removed : (c d : List ℕ) (row : List Extent) (q : ℕ) (u : List ℕ) → Lays c row → AtRest row → extent_at 8 row q ≡ Some (Used u) → contains (targets row) q ≡ false → Releases q (atoms_for (length u)) c d → heap_in d ≡ Some (without q (heap row))
own_removed c d row q u l rest here lacks releases =
    let s = split c row q (Used u) l rest here in
    let x : List Extent = s.x in
    let y : List Extent = s.y in
    let n : ℕ = atoms_for (length u) in
    let parts = rest_parts x (Used u) y refl s.rest in
    let none : contains (targets (x ++ Used u ∷ y)) (8 + atoms_in x) ≡ false = ap (contains (targets (x ++ Used u ∷ y))) (sym s.place) ∙ ap (λ (r : List Extent). contains (targets r) q) (sym s.is) ∙ lacks in
    let named = Named_emptied x u y none (named_of (x ++ Used u ∷ y) s.rest) in
    let solid_x = Solid_left x (Used u ∷ y) s.lays.spells.solid in
    let bare : contains (targets (x ++ Hole n ∷ y)) q ≡ false = ap (contains (targets (x ++ Hole n ∷ y))) s.place ∙ hole_unnamed x n y solid_x named in
    let done = releases x y s.place (lays_emptied c x (Used u) y refl s.lays) parts.0 parts.1 parts.2 named in
    lays_heap d done.row done.lays done.rest
    ∙ ap (λ (m : Contents). Some m) (done.heap_is ∙ heap_emptied x y u q s.lays.spells.solid s.place bare ∙ ap (λ (r : List Extent). without q (heap r)) (sym s.is))

-- what is left once the block of a handle whose content stands elsewhere is given up
record Left (d : List ℕ) (row : List Extent) (q t : ℕ) (u : List ℕ) : Type 0 where
  pub now : List Extent
  pub lays : Lays d now
  pub rest : AtRest now
  pub there : extent_at 8 now t ≡ Some (Used u)
  pub unnamed : contains (targets now) t ≡ false
  pub heap_is : heap now ≡ with_content t u (without q (heap row))
  pub low : 8 ≤ t
  pub apart : t ≡ q → ⊥
  pub none : content_of t (heap row) ≡ None

left : (c d : List ℕ) (row : List Extent) (q t : ℕ) (u : List ℕ) → Lays c row → AtRest row → extent_at 8 row q ≡ Some (Moved t) → extent_at 8 row t ≡ Some (Used u) → Releases q 1 c d → Left d row q t u
left c d row q t u l rest here there releases =
    let s = split c row q (Moved t) l rest here in
    let x : List Extent = s.x in
    let y : List Extent = s.y in
    let parts = rest_parts x (Moved t) y refl s.rest in
    let solid_x = Solid_left x (Moved t ∷ y) s.lays.spells.solid in
    let named = Named_unpointed x t y solid_x (named_of (x ++ Moved t ∷ y) s.rest) in
    let done = releases x y s.place (lays_emptied c x (Moved t) y refl s.lays) parts.0 parts.1 parts.2 named.0 in
    let apart : t ≡ q → ⊥ = λ is. (let two : Some (Used u) ≡ Some (Moved t) = sym there ∙ ap (extent_at 8 row) is ∙ here in cc) in
    let used : extent_at 8 (x ++ Hole 1 ∷ y) t ≡ Some (Used u) = look_there 8 x (Hole 1) (Moved t) y t refl (λ is. apart (is ∙ sym s.place)) ∙ ap (λ (r : List Extent). extent_at 8 r t) (sym s.is) ∙ there in
    let low = found 8 row t (Used u) there in
    let at_least : 8 ≤ t = (let at = low.3 in omega (arith, at)) in
    let alive : contains (targets row) t ≡ true = target_named row q t here in
    record {
      now = done.row;
      lays = done.lays;
      rest = done.rest;
      there = used_says (extent_at 8 done.row t) u (done.used_are t ∙ ap used_content used);
      unnamed = ap (λ (ts : List ℕ). contains ts t) done.targets_are ∙ named.1;
      heap_is = done.heap_is ∙ heap_unpointed x y t u q s.lays.spells.solid s.place used named.1 at_least ∙ ap (λ (r : List Extent). with_content t u (without q (heap r))) (sym s.is);
      low = at_least;
      apart = apart;
      none = heap_at row t l.spells.solid ∙ ap (meant (contains (targets row)) (extent_at 8 row) t) there ∙ ap (λ (b : Bool). cond b None (Some u)) alive;
    }

-- the content of a block that the handle names
pub away_removed : (c d e : List ℕ) (row : List Extent) (q t : ℕ) (u : List ℕ) → Lays c row → AtRest row → extent_at 8 row q ≡ Some (Moved t) → extent_at 8 row t ≡ Some (Used u) → Releases q 1 c d → Releases t (atoms_for (length u)) d e → heap_in e ≡ Some (without q (heap row))
away_removed c d e row q t u l rest here there first second =
    let k = left c d row q t u l rest here there first in
    own_removed d e k.now t u k.lays k.rest k.there k.unnamed second
    ∙ ap (λ (m : Contents). Some (without t m)) k.heap_is
    ∙ ap (λ (m : Contents). Some m) (removed_map (heap row) q t u (Rising_heap row l.spells.solid) k.low k.apart k.none)

-- the same of a content that is told
pub removed_own : (told after : Option (List ℕ)) (handle atoms : ℕ) → IfSome told (HasSite handle (site.Own atoms)) → Turns told after (Releases handle atoms) → Turns told after (RemovesIn handle)
removed_own None after handle atoms site releases = tt
removed_own (Some c) None handle atoms site releases = releases
removed_own (Some c) (Some d) handle atoms site releases = λ row u l rest live.
    let is = site row u l rest live in
    own_removed c d row handle u l rest is.0 is.1 (subst (λ (k : ℕ). Releases handle k c d) is.2 releases)

pub removed_away : (told mid after : Option (List ℕ)) (handle at atoms : ℕ) → IfSome told (HasSite handle (site.Away at atoms)) → Turns told mid (Releases handle 1) → Turns mid after (Releases at atoms) → Turns told after (RemovesIn handle)
removed_away None mid after handle at atoms site first second = tt
removed_away (Some c) None after handle at atoms site first second = absurd first
removed_away (Some c) (Some d) None handle at atoms site first second = second
removed_away (Some c) (Some d) (Some e) handle at atoms site first second = λ row u l rest live.
    let is = site row u l rest live in
    away_removed c d e row handle at u l rest is.0 is.1 first (subst (λ (k : ℕ). Releases at k d e) is.2 second)

-- damage says that the handle is not live
pub own_unlive : (told : Option (List ℕ)) (handle atoms : ℕ) → IfSome told (HasSite handle (site.Own atoms)) → IfSome told (LacksGap handle atoms) → IfSome told (LacksHandle handle)
own_unlive None handle atoms site lacks = tt
own_unlive (Some c) handle atoms site lacks = λ row u l rest live.
    let is = site row u l rest live in
    gap_stands c row handle (Used u) refl l rest is.0 (subst (λ (k : ℕ). LacksGap handle k c) is.2 lacks)

pub away_unlive : (told : Option (List ℕ)) (handle at atoms : ℕ) → IfSome told (HasSite handle (site.Away at atoms)) → IfSome told (LacksGap handle 1) → IfSome told (LacksHandle handle)
away_unlive None handle at atoms site lacks = tt
away_unlive (Some c) handle at atoms site lacks = λ row u l rest live. gap_stands c row handle (Moved at) refl l rest (site row u l rest live).0 lacks

pub away_unlive_behind : (told mid : Option (List ℕ)) (handle at atoms : ℕ) → IfSome told (HasSite handle (site.Away at atoms)) → Turns told mid (Releases handle 1) → IfSome mid (LacksGap at atoms) → IfSome told (LacksHandle handle)
away_unlive_behind None mid handle at atoms site first lacks = tt
away_unlive_behind (Some c) None handle at atoms site first lacks = absurd first
away_unlive_behind (Some c) (Some d) handle at atoms site first lacks = λ row u l rest live.
    let is = site row u l rest live in
    let k = left c d row handle at u l rest is.0 is.1 first in
    gap_stands d k.now at (Used u) refl k.lays k.rest k.there (subst (λ (n : ℕ). LacksGap at n d) is.2 lacks)

-- the heap that is told
pub by_live : (P : List ℕ → Type 0) (o : Option (List ℕ)) → ((u : List ℕ) → o ≡ Some u → P u) → IfSome o P
by_live P None goes = tt
by_live P (Some u) goes = goes u refl

pub removed_told : (told after : Option (List ℕ)) (handle : ℕ) → Turns told after (RemovesIn handle) → Removes handle (heap_told told) (heap_told after)
removed_told None after handle turns = tt
removed_told (Some []) after handle turns = subst (λ (o : Option Contents). Removes handle o (heap_told after)) (sym no_contents) tt
removed_told (Some (b ∷ c)) None handle turns = absurd turns
removed_told (Some (b ∷ c)) (Some d) handle turns =
    by_row (λ o. Removes handle o (heap_in d)) b c tt (λ row l rest. by_live (λ _. heap_in d ≡ Some (without handle (heap row))) (content_of handle (heap row)) (λ u live. turns row u l rest live))

not_some : (o : Option (List ℕ)) → ((u : List ℕ) → o ≡ Some u → ⊥) → o ≡ None
not_some None never = refl
not_some (Some u) never = absurd (never u refl)

pub dead_told : (told : Option (List ℕ)) (handle : ℕ) → IfSome told (LacksHandle handle) → MayBeDead handle (heap_told told)
dead_told None handle lacks = tt
dead_told (Some []) handle lacks = subst (λ (o : Option Contents). MayBeDead handle o) (sym no_contents) refl
dead_told (Some (b ∷ c)) handle lacks = by_row (λ o. MayBeDead handle o) b c tt (λ row l rest. not_some (content_of handle (heap row)) (λ u live. lacks row u l rest live))
