-- A hole takes in its free neighbours, and is given up.
use Rattle.std.proofs.Common.{◌≡◌, ℕ, ◌+◌, ◌-◌, ◌*◌, ◌<◌, ◌≤◌, ◌^◌, Bool, true, false, cond, leb, eqb, List, [], ◌∷◌, ◌++◌, length, take, drop, get_or, Option, Some, None, IfSome, option_map, Ok, Err, refl, sym, ◌∙◌, ap, subst, inl, inr, arith, append_assoc, length-append, drop_at, le-leb, eq-eqb, ne_eqb, get_or-drop}
use Rattle.std.specs.Option.{IsSomeAnd}
use Rattle.std.specs.Prelude.{◌⊎◌, slice_index, ⊤}
use Rattle.std.proofs.Math.Seq.{get_or-append_seam}
use Rattle.std.proofs.lemmas.List.{drop-take, length-take-le, take-append-drop}
use Rattle.std.proofs.lemmas.Bool.{cases_lt, cases_eq, cond-true, cond-false, lt-leb, false≢true, and_parts}
use Rattle.lldb_base.specs.declared.trouble.Trouble.{Trouble}
use Rattle.lldb_base.specs.declared.trouble.Trouble.TheVariants as trouble
use Rattle.lldb_base.specs.Trouble.{Refuses}
use Rattle.lldb_atoms.specs.Numbers.{as_bytes, number_in}
use Rattle.lldb_atoms.specs.declared.block.Block.{Block}
use Rattle.lldb_atoms.specs.declared.block.Block.TheVariants as block
use Rattle.lldb_atoms.specs.Blocks.{Extent, Used, Compressed, Moved, Free, Hole, size, is_free, used_head, free_head, head_for, IsBlock}
use Rattle.lldb_atoms.specs.Rows.{atoms_in, are_spaced, ends_free}
use Rattle.lldb_atoms.specs.Laws.{is_block}
use Rattle.lldb_atoms.proofs.AsBytes.{length-as_bytes, reads_back}
use Rattle.lldb_blocks.specs.Laid.{Lays}
use Rattle.lldb_blocks.specs.Steps.{begins_free, Takes, Puts, TakesBehind, TakesBefore, GivesUp, ending_for}
use Rattle.lldb_blocks.proofs.Looks.{atoms_append, Solid_left, Solid_right}
use Rattle.lldb_blocks.proofs.Lays.{lays_joined, lays_cut, lays_length}
use Rattle.lldb_blocks.proofs.Readings.{before_found, block_ends}
use Rattle.lldb_blocks.proofs.Rests.{released, back_cases, spaced_append, ends_append, spaced_less}
use Rattle.lldb_alloc.specs.Reads.{HasBlock}
use Rattle.lldb_alloc.specs.Changes.{Turns, LacksListed, LacksHole}
use Rattle.lldb_alloc.specs.Releases.{TellsFree, LacksBlock, free_atoms, EndsFree, free_by, LacksGap, Releases}
use Rattle.lldb_alloc.proofs.Uses.{short_not_free, long_not_free, moved_not_free}

-- the head of a content is not that of a free block
used_not_free : (m s p n : ℕ) → used_head m ≡ free_head s p n → ⊥
used_not_free m s p n is = elim (cases_lt 251 m) [
  | inl large ↦ long_not_free m s p n (sym (cond-false (leb m 251) (block.Short m) (block.Long m) (lt-leb m 251 large)) ∙ is)
  | inr small ↦ short_not_free m s p n (sym (cond-true (leb m 251) (block.Short m) (block.Long m) (le-leb m 251 small)) ∙ is)
]

free_by_head : (p n s a b : ℕ) (e : Extent) → is_block e ≡ true → free_head s a b ≡ head_for p n e → true ≡ is_free e
free_by_head p n s a b (Used c) known is = absurd (used_not_free (length c) s a b (sym is))
free_by_head p n s a b (Compressed c) known is = absurd (used_not_free (length c) s a b (sym is))
free_by_head p n s a b (Moved t) known is = absurd (moved_not_free t s a b (sym is))
free_by_head p n s a b (Free t) known is = refl
free_by_head p n s a b (Hole t) known is = absurd (false≢true known)

pub tells_some : (told : Option (List ℕ)) (at s a k : ℕ) (b : Block) → b ≡ free_head s a k → IfSome told (HasBlock at (Ok b)) → IfSome told (TellsFree at true)
tells_some None at s a k b is has = tt
tells_some (Some c) at s a k b is has = λ h p n x e y place known spells. free_by_head (p at) (n at) s a k e known (sym is ∙ has h p n x e y place known spells)

not_by_head : (p n : ℕ) (b : Block) (e : Extent) → ((s a k : ℕ) → b ≡ free_head s a k → ⊥) → b ≡ head_for p n e → false ≡ is_free e
not_by_head p n b (Used c) not is = refl
not_by_head p n b (Compressed c) not is = refl
not_by_head p n b (Moved t) not is = refl
not_by_head p n b (Free s) not is = absurd (not s p n is)
not_by_head p n b (Hole s) not is = refl

pub tells_none : (told : Option (List ℕ)) (at : ℕ) (b : Block) → ((s a k : ℕ) → b ≡ free_head s a k → ⊥) → IfSome told (HasBlock at (Ok b)) → IfSome told (TellsFree at false)
tells_none None at b not has = tt
tells_none (Some c) at b not has = λ h p n x e y place known spells. not_by_head (p at) (n at) b e not (has h p n x e y place known spells)

-- a head that was refused
pub refused_block : (told : Option (List ℕ)) (at : ℕ) (t : Trouble) → Refuses {T = Block} (λ _ _. ⊥) ⊤ (Err t) → IfSome told (HasBlock at (Err t)) → Refuses {T = Bool} (λ _ _. ⊥) (IfSome told (LacksBlock at)) (Err t)
refused_block told at trouble.Failed refuses has = tt
refused_block told at trouble.NoMemory refuses has = tt
refused_block told at (trouble.Full a b) refuses has = refuses
refused_block None at trouble.Damaged refuses has = tt
refused_block (Some c) at trouble.Damaged refuses has = λ h p n x e y place known spells. has h p n x e y place known spells

-- no hole with a block behind it
behind_hole : (x y : List Extent) (e : Extent) (at atoms : ℕ) → at ≡ 8 + atoms_in x → at + atoms ≡ 8 + atoms_in (x ++ Hole atoms ∷ [])
behind_hole x y e at atoms place = let all = atoms_append x (Hole atoms ∷ []) in omega (arith, place, all)

apart : (c : List ℕ) (x y : List Extent) (atoms : ℕ) → Lays c (x ++ Hole atoms ∷ y) → Lays c ((x ++ Hole atoms ∷ []) ++ y)
apart c x y atoms l = subst (λ (r : List Extent). Lays c r) (sym (append_assoc x (Hole atoms ∷ []) y)) l

spaced_block : (e : Extent) (y : List Extent) → are_spaced false (e ∷ y) ≡ true → is_block e ≡ true
spaced_block (Used c) y spread = refl
spaced_block (Compressed c) y spread = refl
spaced_block (Moved t) y spread = refl
spaced_block (Free s) y spread = refl
spaced_block (Hole s) y spread = absurd (false≢true spread)

-- where bytes stand behind a hole, a block does
some_behind : (c : List ℕ) (x y : List Extent) (at atoms size : ℕ) → at ≡ 8 + atoms_in x → length c ≡ size → (16 * (at + atoms) ≡ size → ⊥) → Lays c (x ++ Hole atoms ∷ y) → y ≡ [] → ⊥
some_behind c x y at atoms size place long more l none =
    let all = lays_length c (x ++ Hole atoms ∷ y) l in
    let parts = atoms_append x (Hole atoms ∷ y) in
    let empty : atoms_in y ≡ 0 = ap atoms_in none in
    more (omega (arith, all, parts, empty, place, long))

-- nothing stands behind
pub behind_end : (told : Option (List ℕ)) (at atoms size : ℕ) → IfSome told (λ c. length c ≡ size) → 16 * (at + atoms) ≡ size → Turns told told (TakesBehind at atoms atoms)
behind_end None at atoms size long end = tt
behind_end (Some c) at atoms size long end = record {
  free = λ x y more place l.
      let all = lays_length c (x ++ Hole atoms ∷ Free more ∷ y) l in
      let parts = atoms_append x (Hole atoms ∷ Free more ∷ y) in
      let some = Solid_right x (Hole atoms ∷ Free more ∷ y) l.spells.solid in
      let one = some.1.0 in
      absurd (omega (arith, all, parts, one, place, long, end));
  other = λ x y place not spread l. (refl, l);
}

-- no free block stands behind
pub behind_other : (told after : Option (List ℕ)) (at atoms : ℕ) → after ≡ told → IfSome told (TellsFree (at + atoms) false) → Turns told after (TakesBehind at atoms atoms)
behind_other None after at atoms same tells = tt
behind_other (Some c) after at atoms same tells = subst (λ (o : Option (List ℕ)). IsSomeAnd o (λ d. TakesBehind at atoms atoms c d)) (sym same) (record {
  free = λ x y more place l.
      let m = apart c x (Free more ∷ y) atoms l in
      absurd (false≢true (tells m.head m.previous m.next (x ++ Hole atoms ∷ []) (Free more) y (behind_hole x y (Free more) at atoms place) refl m.spells));
  other = λ x y place not spread l. (refl, l);
})

-- the free block behind was taken
pub behind_taken : (told mid after : Option (List ℕ)) (at atoms more size : ℕ) → IfSome told (λ c. length c ≡ size) → (16 * (at + atoms) ≡ size → ⊥) → IfSome told (TellsFree (at + atoms) true) → mid ≡ told → Turns mid after (Takes (at + atoms) more) → Turns told after (TakesBehind at atoms (atoms + more))
behind_taken None mid after at atoms more size long some tells same takes = tt
behind_taken (Some c) mid after at atoms more size long some tells same takes = at_end after (subst (λ (o : Option (List ℕ)). Turns o after (Takes (at + atoms) more)) same takes)
  where
    not_other : (y x : List Extent) → at ≡ 8 + atoms_in x → begins_free y ≡ false → are_spaced false y ≡ true → Lays c (x ++ Hole atoms ∷ y) → ⊥
    not_other [] x place not spread l = some_behind c x [] at atoms size place long some l refl
    not_other (e ∷ y) x place not spread l =
        let m = apart c x (e ∷ y) atoms l in
        false≢true (sym (tells m.head m.previous m.next (x ++ Hole atoms ∷ []) e y (behind_hole x y e at atoms place) (spaced_block e y spread) m.spells ∙ not))

    at_end : (after : Option (List ℕ)) → Turns (Some c) after (Takes (at + atoms) more) → Turns (Some c) after (TakesBehind at atoms (atoms + more))
    at_end None takes = takes
    at_end (Some d) takes = record {
      free = λ x y s place l.
          let t = takes (x ++ Hole atoms ∷ []) y s (behind_hole x y (Free s) at atoms place) (apart c x (Free s ∷ y) atoms l) in
          let flat : Lays d (x ++ (Hole atoms ∷ Hole s ∷ y)) = subst (λ (r : List Extent). Lays d r) (append_assoc x (Hole atoms ∷ []) (Hole s ∷ y)) t.1 in (
            ap (λ (k : ℕ). atoms + k) t.0,
            subst (λ (k : ℕ). Lays d (x ++ Hole (atoms + k) ∷ y)) (sym t.0) (lays_joined d x atoms s y flat),
          );
      other = λ x y place not spread l. absurd (not_other y x place not spread l);
    }

-- damage behind
pub behind_blockless : (told : Option (List ℕ)) (at atoms size : ℕ) → IfSome told (λ c. length c ≡ size) → (16 * (at + atoms) ≡ size → ⊥) → IfSome told (LacksBlock (at + atoms)) → IfSome told (LacksGap at atoms)
behind_blockless None at atoms size long some lacks = tt
behind_blockless (Some c) at atoms size long some lacks = λ x y place spread_x spread l. by_block y x place spread l
  where
    by_block : (y x : List Extent) → at ≡ 8 + atoms_in x → are_spaced false y ≡ true → Lays c (x ++ Hole atoms ∷ y) → ⊥
    by_block [] x place spread l = some_behind c x [] at atoms size place long some l refl
    by_block (e ∷ y) x place spread l =
        let m = apart c x (e ∷ y) atoms l in
        lacks m.head m.previous m.next (x ++ Hole atoms ∷ []) e y (behind_hole x y e at atoms place) (spaced_block e y spread) m.spells

pub behind_unlisted : (told mid : Option (List ℕ)) (at atoms size : ℕ) → IfSome told (λ c. length c ≡ size) → (16 * (at + atoms) ≡ size → ⊥) → IfSome told (TellsFree (at + atoms) true) → mid ≡ told → IfSome mid (LacksListed (at + atoms)) → IfSome told (LacksGap at atoms)
behind_unlisted None mid at atoms size long some tells same lacks = tt
behind_unlisted (Some c) mid at atoms size long some tells same lacks = λ x y place spread_x spread l. by_block y x place spread l
  where
    lacks_here : LacksListed (at + atoms) c
    lacks_here = subst (λ (o : Option (List ℕ)). IfSome o (LacksListed (at + atoms))) same lacks

    by_free : (e : Extent) (x y : List Extent) → at ≡ 8 + atoms_in x → true ≡ is_free e → Lays c (x ++ Hole atoms ∷ e ∷ y) → ⊥
    by_free (Used u) x y place free l = false≢true (sym free)
    by_free (Compressed u) x y place free l = false≢true (sym free)
    by_free (Moved t) x y place free l = false≢true (sym free)
    by_free (Hole s) x y place free l = false≢true (sym free)
    by_free (Free s) x y place free l = lacks_here (x ++ Hole atoms ∷ []) y s (behind_hole x y (Free s) at atoms place) (apart c x (Free s ∷ y) atoms l)

    by_block : (y x : List Extent) → at ≡ 8 + atoms_in x → are_spaced false y ≡ true → Lays c (x ++ Hole atoms ∷ y) → ⊥
    by_block [] x place spread l = some_behind c x [] at atoms size place long some l refl
    by_block (e ∷ y) x place spread l =
        let m = apart c x (e ∷ y) atoms l in
        by_free e x y place (tells m.head m.previous m.next (x ++ Hole atoms ∷ []) e y (behind_hole x y e at atoms place) (spaced_block e y spread) m.spells) l

-- the last byte of some
last_is : (bytes pre g : List ℕ) (v n : ℕ) → bytes ≡ drop (n - 8) pre → pre ≡ g ++ v ∷ [] → length pre ≡ n → 8 ≤ n → get_or bytes 7 0 ≡ v
last_is bytes pre g v n is ends long some =
    let all : length pre ≡ length g + 1 = ap length ends ∙ length-append g (v ∷ []) in
    let place : n - 8 + 7 ≡ length g = omega (arith, all, long, some) in
    ap (λ (u : List ℕ). get_or u 7 0) is ∙ get_or-drop (n - 8) pre 7 0 ∙ ap (λ (k : ℕ). get_or pre k 0) place ∙ ap (λ (u : List ℕ). get_or u (length g) 0) ends ∙ get_or-append_seam g v [] 0

by_last : (bytes : List ℕ) (v : ℕ) → get_or bytes 7 0 ≡ v → free_by bytes ≡ cond (eqb v 254) 1 (cond (eqb v 255) (number_in 7 bytes) 0)
by_last bytes v is = ap (λ (k : ℕ). cond (eqb k 254) 1 (cond (eqb k 255) (number_in 7 bytes) 0)) is

-- bytes that end in the ending of a block
ended : (bytes pre g : List ℕ) (e : Extent) (n : ℕ) → bytes ≡ drop (n - 8) pre → pre ≡ g ++ ending_for e → length pre ≡ n → 8 ≤ n → is_block e ≡ true → ((s : ℕ) → e ≡ Free s → s < 2 ^ 56) → free_by bytes ≡ free_atoms e
ended bytes pre g (Used c) n is ends long some known small = by_last bytes 0 (last_is bytes pre g 0 n is ends long some)
ended bytes pre g (Compressed c) n is ends long some known small = by_last bytes 1 (last_is bytes pre g 1 n is ends long some)
ended bytes pre g (Moved t) n is ends long some known small = by_last bytes 0 (last_is bytes pre g 0 n is ends long some)
ended bytes pre g (Hole s) n is ends long some known small = absurd (false≢true known)
ended bytes pre g (Free s) n is ends long some known small = elim (cases_eq s 1) [
  | inl one ↦
      let ending : ending_for (Free s) ≡ 254 ∷ [] = cond-true (eqb s 1) (254 ∷ []) (as_bytes 7 s ++ 255 ∷ []) (eq-eqb s 1 one) in
      by_last bytes 254 (last_is bytes pre g 254 n is (ends ∙ ap (λ (u : List ℕ). g ++ u) ending) long some) ∙ sym one
  | inr many ↦
      let ending : ending_for (Free s) ≡ as_bytes 7 s ++ 255 ∷ [] = cond-false (eqb s 1) (254 ∷ []) (as_bytes 7 s ++ 255 ∷ []) (ne_eqb s 1 many) in
      let whole : pre ≡ g ++ (as_bytes 7 s ++ 255 ∷ []) = ends ∙ ap (λ (u : List ℕ). g ++ u) ending in
      let eight : length (as_bytes 7 s ++ 255 ∷ []) ≡ 8 = length-append (as_bytes 7 s) (255 ∷ []) ∙ ap (λ (k : ℕ). k + 1) (length-as_bytes 7 s) in
      let all : length pre ≡ length g + length (as_bytes 7 s ++ 255 ∷ []) = ap length whole ∙ length-append g (as_bytes 7 s ++ 255 ∷ []) in
      let here : bytes ≡ as_bytes 7 s ++ 255 ∷ [] = is ∙ ap (drop (n - 8)) whole ∙ drop_at g (as_bytes 7 s ++ 255 ∷ []) (n - 8) (omega (arith, all, eight, long)) in
      by_last bytes 255 (last_is bytes pre (g ++ as_bytes 7 s) 255 n is (whole ∙ sym (append_assoc g (as_bytes 7 s) (255 ∷ []))) long some)
      ∙ ap (number_in 7) here ∙ reads_back 7 s (255 ∷ []) (small s refl)
]

free_small : (p n s : ℕ) (e : Extent) (here : List ℕ) → IsBlock p n e here → e ≡ Free s → s < 2 ^ 56
free_small p n s e here b is = (subst (λ (d : Extent). IsBlock p n d here) is b).room.1

pub ends_some : (told : Option (List ℕ)) (bytes : List ℕ) (at size k : ℕ) → IfSome told (λ c. length c ≡ size) → 16 * at ≤ size → 8 ≤ at → IfSome told (λ c. bytes ≡ take 8 (drop (16 * at - 8) c)) → k ≡ free_by bytes → IfSome told (EndsFree at k)
ends_some None bytes at size k long within start read is = tt
ends_some (Some c) bytes at size k long within start read is = λ h p n x e y place known spells.
    let f = before_found h p n c x e y at place spells in
    let b = block_ends (p (8 + atoms_in x)) (n (8 + atoms_in x)) e f.1 known f.3 in
    let step : 16 * at - 8 + 8 ≡ 16 * at = omega (arith, start) in
    let pre : List ℕ = take (16 * at) c in
    let last : bytes ≡ drop (16 * at - 8) pre = read ∙ sym (drop-take (16 * at - 8) 8 c) ∙ ap (λ (k : ℕ). drop (16 * at - 8) (take k c)) step in
    let ends : pre ≡ (f.0 ++ b.0) ++ ending_for e = f.2 ∙ ap (λ (u : List ℕ). f.0 ++ u) b.1 ∙ sym (append_assoc f.0 b.0 (ending_for e)) in
    is ∙ ended bytes pre (f.0 ++ b.0) e (16 * at) last ends (length-take-le (16 * at) c (omega (arith, long, within))) (omega (arith, start)) known (λ s same. free_small (p (8 + atoms_in x)) (n (8 + atoms_in x)) s e f.1 f.3 same)

-- nothing stands before the first block
pub ends_none : (told : Option (List ℕ)) (at k : ℕ) → at ≡ 8 → IfSome told (EndsFree at k)
ends_none None at k first = tt
ends_none (Some c) at k first = λ h p n x e y place known spells.
    let one = (Solid_right x (e ∷ []) (Solid_left (x ++ e ∷ []) y spells.solid)).0 in
    let all = atoms_append x (e ∷ []) in
    absurd (omega (arith, one, all, place, first))

-- no block before, or one
pub last_block : (x : List Extent) → (x ≡ []) ⊎ ((u : List Extent) × (e : Extent) × (x ≡ u ++ e ∷ []))
last_block [] = inl refl
last_block (d ∷ x) = elim (last_block x) [
  | inl none ↦ inr ([], d, ap (λ (r : List Extent). d ∷ r) none)
  | inr some ↦ inr (d ∷ some.0, some.1, ap (λ (r : List Extent). d ∷ r) some.2)
]

last_known : (u : List Extent) (e : Extent) → are_spaced false (u ++ e ∷ []) ≡ true → is_block e ≡ true
last_known u e spread = by_flag (ends_free false u) e (and_parts (are_spaced false u) (are_spaced (ends_free false u) (e ∷ [])) (sym (spaced_append false u (e ∷ [])) ∙ spread)).1
  where
    by_flag : (b : Bool) (e : Extent) → are_spaced b (e ∷ []) ≡ true → is_block e ≡ true
    by_flag b (Used c) spread = refl
    by_flag b (Compressed c) spread = refl
    by_flag b (Moved t) spread = refl
    by_flag b (Free s) spread = refl
    by_flag b (Hole s) spread = absurd (false≢true spread)

not_free_atoms : (e : Extent) → is_free e ≡ false → free_atoms e ≡ 0
not_free_atoms (Used c) not = refl
not_free_atoms (Compressed c) not = refl
not_free_atoms (Moved t) not = refl
not_free_atoms (Free s) not = absurd (false≢true (sym not))
not_free_atoms (Hole s) not = refl

atoms_free : (e : Extent) (k : ℕ) → 1 ≤ k → k ≡ free_atoms e → e ≡ Free k
atoms_free (Used c) k some is = absurd (omega (arith, some, is))
atoms_free (Compressed c) k some is = absurd (omega (arith, some, is))
atoms_free (Moved t) k some is = absurd (omega (arith, some, is))
atoms_free (Free s) k some is = ap Free (sym is)
atoms_free (Hole s) k some is = absurd (omega (arith, some, is))

-- what ends before a hole, in a row of blocks
before_hole : (c : List ℕ) (u : List Extent) (e : Extent) (y : List Extent) (at atoms more : ℕ) → at ≡ 8 + atoms_in (u ++ e ∷ []) → are_spaced false (u ++ e ∷ []) ≡ true → EndsFree at more c → Lays c ((u ++ e ∷ []) ++ Hole atoms ∷ y) → more ≡ free_atoms e
before_hole c u e y at atoms more place spread tells l = tells l.head l.previous l.next u e (Hole atoms ∷ y) place (last_known u e spread) l.spells

-- no free block stands before
pub before_none : (told after : Option (List ℕ)) (at atoms more : ℕ) → after ≡ told → more ≡ 0 → IfSome told (EndsFree at more) → Turns told after (TakesBefore at atoms at atoms)
before_none None after at atoms more same zero_more tells = tt
before_none (Some c) after at atoms more same zero_more tells = subst (λ (o : Option (List ℕ)). IsSomeAnd o (λ d. TakesBefore at atoms at atoms c d)) (sym same) (record {
  free = λ x y s place l.
      let is : more ≡ s = tells l.head l.previous l.next x (Free s) (Hole atoms ∷ y) place refl l.spells in
      let one = (Solid_right x (Free s ∷ []) (Solid_left (x ++ Free s ∷ []) (Hole atoms ∷ y) l.spells.solid)).0 in
      absurd (omega (arith, one, is, zero_more));
  other = λ x y place not spread l. (refl, refl, l);
})

flat_row : (c : List ℕ) (x : List Extent) (e : Extent) (y : List Extent) → Lays c ((x ++ e ∷ []) ++ y) → Lays c (x ++ e ∷ y)
flat_row c x e y l = subst (λ (r : List Extent). Lays c r) (append_assoc x (e ∷ []) y) l

-- the free block before was taken
pub before_taken : (told mid after : Option (List ℕ)) (at atoms more count : ℕ) → mid ≡ told → IfSome told (EndsFree at more) → (more ≡ 0 → ⊥) → 8 + more ≤ at → count ≡ more → Turns mid after (Takes (at - more) count) → Turns told after (TakesBefore at atoms (at - more) (more + atoms))
before_taken None mid after at atoms more count same tells some room equal takes = tt
before_taken (Some c) mid after at atoms more count same tells some room equal takes = at_end after (subst (λ (o : Option (List ℕ)). Turns o after (Takes (at - more) count)) same takes)
  where
    not_other : (x y : List Extent) → at ≡ 8 + atoms_in x → ends_free false x ≡ false → are_spaced false x ≡ true → Lays c (x ++ Hole atoms ∷ y) → ⊥
    not_other x y place not spread l = elim (last_block x) [
      | inl none ↦ let empty : atoms_in x ≡ 0 = ap atoms_in none in some (omega (arith, empty, place, room))
      | inr last ↦
          let u : List Extent = last.0 in
          let e : Extent = last.1 in
          let is : more ≡ free_atoms e = before_hole c u e y at atoms more (place ∙ ap (λ (r : List Extent). 8 + atoms_in r) last.2) (ap (are_spaced false) (sym last.2) ∙ spread) tells (subst (λ (r : List Extent). Lays c (r ++ Hole atoms ∷ y)) last.2 l) in
          some (is ∙ not_free_atoms e (sym (ends_append false u (e ∷ [])) ∙ ap (ends_free false) (sym last.2) ∙ not))
    ]

    at_end : (after : Option (List ℕ)) → Turns (Some c) after (Takes (at - more) count) → Turns (Some c) after (TakesBefore at atoms (at - more) (more + atoms))
    at_end None takes = takes
    at_end (Some d) takes = record {
      free = λ x y s place l.
          let is : more ≡ s = tells l.head l.previous l.next x (Free s) (Hole atoms ∷ y) place refl l.spells in
          let all = atoms_append x (Free s ∷ []) in
          let from : at - more ≡ 8 + atoms_in x = omega (arith, all, place, is) in
          let t = takes x (Hole atoms ∷ y) s from (flat_row c x (Free s) (Hole atoms ∷ y) l) in (
            from,
            ap (λ (k : ℕ). k + atoms) is,
            subst (λ (k : ℕ). Lays d (x ++ Hole (k + atoms) ∷ y)) (sym is) (lays_joined d x s atoms y t.1),
          );
      other = λ x y place not spread l. absurd (not_other x y place not spread l);
    }

-- damage before
in_gap : (c : List ℕ) (at atoms more : ℕ) → EndsFree at more c → (at ≡ 8 → more ≡ 0) → (more ≡ 0 → ⊥) → ((u y : List Extent) → at ≡ 8 + (atoms_in u + more) → Lays c (u ++ Free more ∷ Hole atoms ∷ y) → ⊥) → LacksGap at atoms c
in_gap c at atoms more tells first some not = λ x y place spread spread_y l. elim (last_block x) [
  | inl none ↦ let empty : atoms_in x ≡ 0 = ap atoms_in none in some (first (omega (arith, empty, place)))
  | inr last ↦
      let u : List Extent = last.0 in
      let e : Extent = last.1 in
      let here : Lays c ((u ++ e ∷ []) ++ Hole atoms ∷ y) = subst (λ (r : List Extent). Lays c (r ++ Hole atoms ∷ y)) last.2 l in
      let there : at ≡ 8 + atoms_in (u ++ e ∷ []) = place ∙ ap (λ (r : List Extent). 8 + atoms_in r) last.2 in
      let is : more ≡ free_atoms e = before_hole c u e y at atoms more there (ap (are_spaced false) (sym last.2) ∙ spread) tells here in
      let free : e ≡ Free more = atoms_free e more (at_least more some) is in
      let all = atoms_append u (e ∷ []) in
      let sized : size e ≡ more = ap size free in
      not u y (omega (arith, there, all, sized)) (subst (λ (d : Extent). Lays c (u ++ d ∷ Hole atoms ∷ y)) free (flat_row c u e (Hole atoms ∷ y) here))
]
  where
    at_least : (k : ℕ) → (k ≡ 0 → ⊥) → 1 ≤ k
    at_least k some = omega (arith, some)

pub before_low : (told : Option (List ℕ)) (at atoms more : ℕ) → IfSome told (EndsFree at more) → (at ≡ 8 → more ≡ 0) → (more ≡ 0 → ⊥) → at < 8 + more → IfSome told (LacksGap at atoms)
before_low None at atoms more tells first some low = tt
before_low (Some c) at atoms more tells first some low = in_gap c at atoms more tells first some (λ u y place l. omega (arith, place, low))

pub before_unlisted : (told mid : Option (List ℕ)) (at atoms more : ℕ) → mid ≡ told → IfSome told (EndsFree at more) → (at ≡ 8 → more ≡ 0) → (more ≡ 0 → ⊥) → IfSome mid (LacksListed (at - more)) → IfSome told (LacksGap at atoms)
before_unlisted None mid at atoms more same tells first some lacks = tt
before_unlisted (Some c) mid at atoms more same tells first some lacks = in_gap c at atoms more tells first some (λ u y place l. lacks_here u (Hole atoms ∷ y) more (omega (arith, place)) l)
  where
    lacks_here : LacksListed (at - more) c
    lacks_here = subst (λ (o : Option (List ℕ)). IfSome o (LacksListed (at - more))) same lacks

pub before_other : (told mid after : Option (List ℕ)) (at atoms more count : ℕ) → mid ≡ told → IfSome told (EndsFree at more) → (at ≡ 8 → more ≡ 0) → (more ≡ 0 → ⊥) → (count ≡ more → ⊥) → Turns mid after (Takes (at - more) count) → IfSome told (LacksGap at atoms)
before_other None mid after at atoms more count same tells first some other takes = tt
before_other (Some c) mid after at atoms more count same tells first some other takes = at_end after (subst (λ (o : Option (List ℕ)). Turns o after (Takes (at - more) count)) same takes)
  where
    at_end : (after : Option (List ℕ)) → Turns (Some c) after (Takes (at - more) count) → LacksGap at atoms c
    at_end None takes = absurd takes
    at_end (Some d) takes = in_gap c at atoms more tells first some (λ u y place l. other (takes u (Hole atoms ∷ y) more (omega (arith, place)) l).0)

-- the hole is cut off, or listed
pub gives_cut : (told after : Option (List ℕ)) (at atoms size : ℕ) → IfSome told (λ c. length c ≡ size) → 16 * (at + atoms) ≡ size → after ≡ option_map (take (16 * at)) told → Turns told after (GivesUp at atoms)
gives_cut None after at atoms size long end is = tt
gives_cut (Some c) after at atoms size long end is = subst (λ (o : Option (List ℕ)). IsSomeAnd o (λ d. GivesUp at atoms c d)) (sym is) (record {
  end = λ x place l. subst (λ (k : ℕ). Lays (take (16 * k) c) x) (sym place) (lays_cut c x atoms l);
  within = λ x e y place l.
      let all = lays_length c (x ++ Hole atoms ∷ e ∷ y) l in
      let parts = atoms_append x (Hole atoms ∷ e ∷ y) in
      let some = (Solid_right x (Hole atoms ∷ e ∷ y) l.spells.solid).1.0 in
      absurd (omega (arith, all, parts, some, place, long, end));
})

pub gives_listed : (told after : Option (List ℕ)) (at atoms size : ℕ) → IfSome told (λ c. length c ≡ size) → (16 * (at + atoms) ≡ size → ⊥) → Turns told after (Puts at atoms) → Turns told after (GivesUp at atoms)
gives_listed None after at atoms size long other puts = tt
gives_listed (Some c) None at atoms size long other puts = puts
gives_listed (Some c) (Some d) at atoms size long other puts = record {
  end = λ x place l.
      let all = lays_length c (x ++ Hole atoms ∷ []) l in
      let parts = atoms_append x (Hole atoms ∷ []) in
      absurd (other (omega (arith, all, parts, place, long)));
  within = λ x e y place l. puts x (e ∷ y) place l;
}

-- the whole
pub released_told : (told one two after : Option (List ℕ)) (at atoms total from most : ℕ) → Turns told one (TakesBehind at atoms total) → Turns one two (TakesBefore at total from most) → Turns two after (GivesUp from most) → Turns told after (Releases at atoms)
released_told None one two after at atoms total from most behind before gives = tt
released_told (Some c) None two after at atoms total from most behind before gives = absurd behind
released_told (Some c) (Some d) None after at atoms total from most behind before gives = absurd before
released_told (Some c) (Some d) (Some e) None at atoms total from most behind before gives = gives
released_told (Some c) (Some d) (Some e) (Some f) at atoms total from most behind before gives = λ x y place l spread_x spread_y closed named.
    released at atoms from total most c d e f x y behind before gives place l spread_x spread_y closed named

-- the hole stands once it has taken in what is behind it
gap_behind : (c d : List ℕ) (at atoms total : ℕ) (x y : List Extent) → TakesBehind at atoms total c d → at ≡ 8 + atoms_in x → are_spaced false y ≡ true → Lays c (x ++ Hole atoms ∷ y) → (z : List Extent) × (are_spaced false z ≡ true) × Lays d (x ++ Hole total ∷ z)
gap_behind c d at atoms total x [] takes place spread l = ([], refl, (takes.other x [] place refl refl l).1)
gap_behind c d at atoms total x (Used u ∷ y) takes place spread l = (Used u ∷ y, spread, (takes.other x (Used u ∷ y) place refl spread l).1)
gap_behind c d at atoms total x (Compressed u ∷ y) takes place spread l = absurd (false≢true spread)
gap_behind c d at atoms total x (Moved t ∷ y) takes place spread l = (Moved t ∷ y, spread, (takes.other x (Moved t ∷ y) place refl spread l).1)
gap_behind c d at atoms total x (Free s ∷ y) takes place spread l = (y, spaced_less y spread, (takes.free x y s place l).1)
gap_behind c d at atoms total x (Hole s ∷ y) takes place spread l = absurd (false≢true spread)

gap_before : (c d : List ℕ) (at atoms from total : ℕ) (x y : List Extent) → TakesBefore at atoms from total c d → at ≡ 8 + atoms_in x → are_spaced false x ≡ true → Lays c (x ++ Hole atoms ∷ y) → LacksHole from total d → ⊥
gap_before c d at atoms from total x y takes place spread l lacks = elim (back_cases x) [
  | inl other ↦
      let r = takes.other x y place other spread l in
      lacks x y (r.0 ∙ place) (subst (λ (k : ℕ). Lays d (x ++ Hole k ∷ y)) refl r.2)
  | inr ends ↦
      let r = takes.free ends.0 y ends.1 (place ∙ ap (λ (v : List Extent). 8 + atoms_in v) ends.2) (subst (λ (v : List Extent). Lays c (v ++ Hole atoms ∷ y)) ends.2 l) in
      lacks ends.0 y r.0 r.2
]

pub release_behind : (told mid : Option (List ℕ)) (at atoms total : ℕ) → Turns told mid (TakesBehind at atoms total) → IfSome mid (LacksGap at total) → IfSome told (LacksGap at atoms)
release_behind None mid at atoms total takes lacks = tt
release_behind (Some c) None at atoms total takes lacks = absurd takes
release_behind (Some c) (Some d) at atoms total takes lacks = λ x y place spread_x spread_y l.
    let g = gap_behind c d at atoms total x y takes place spread_y l in
    lacks x g.0 place spread_x g.1 g.2

pub release_last : (told mid two : Option (List ℕ)) (at atoms total from most : ℕ) → Turns told mid (TakesBehind at atoms total) → Turns mid two (TakesBefore at total from most) → IfSome two (LacksHole from most) → IfSome told (LacksGap at atoms)
release_last None mid two at atoms total from most behind before lacks = tt
release_last (Some c) None two at atoms total from most behind before lacks = absurd behind
release_last (Some c) (Some d) None at atoms total from most behind before lacks = absurd before
release_last (Some c) (Some d) (Some e) at atoms total from most behind before lacks = λ x y place spread_x spread_y l.
    let g = gap_behind c d at atoms total x y behind place spread_y l in
    gap_before d e at total from most x g.0 before place spread_x g.2 lacks

-- what eight bytes tell
pub ended_one : (bytes : List ℕ) → slice_index bytes 7 ≡ 254 → 1 ≡ free_by bytes
ended_one bytes is = sym (ap (λ (k : ℕ). cond (eqb k 254) 1 (cond (eqb k 255) (number_in 7 bytes) 0)) is)

pub ended_more : (bytes : List ℕ) (r : ℕ) → slice_index bytes 7 ≡ 255 → r < 2 ^ 56 → as_bytes 7 r ≡ take 7 bytes → r ≡ free_by bytes
ended_more bytes r is small spelled =
    sym (reads_back 7 r (drop 7 bytes) small) ∙ ap (λ (u : List ℕ). number_in 7 (u ++ drop 7 bytes)) spelled ∙ ap (number_in 7) (take-append-drop 7 bytes)
    ∙ sym (ap (λ (k : ℕ). cond (eqb k 254) 1 (cond (eqb k 255) (number_in 7 bytes) 0)) is)

pub ended_none : (bytes : List ℕ) → (slice_index bytes 7 ≡ 254 → ⊥) → (slice_index bytes 7 ≡ 255 → ⊥) → 0 ≡ free_by bytes
ended_none bytes one more =
    sym (cond-false (eqb (slice_index bytes 7) 254) 1 (cond (eqb (slice_index bytes 7) 255) (number_in 7 bytes) 0) (ne_eqb (slice_index bytes 7) 254 one)
    ∙ cond-false (eqb (slice_index bytes 7) 255) (number_in 7 bytes) 0 (ne_eqb (slice_index bytes 7) 255 more))
