-- How the first pass goes from block to block.
use Rattle.std.proofs.Common.{◌≡◌, ℕ, zero, suc, ◌+◌, ◌*◌, ◌/◌, ◌%◌, ◌≤◌, ◌<◌, Bool, true, false, cond, ◌||◌, List, [], ◌∷◌, ◌++◌, length, drop, Option, Some, None, IfSome, is_some, option_map, Result, Ok, Err, refl, sym, ◌∙◌, ap, subst, append_assoc, arith, length-drop, nat_eq}
use Rattle.std.specs.Prelude.{IsErrAnd}
use Rattle.std.proofs.Math.Nat.{mod-add-div'}
use Rattle.std.proofs.lemmas.Bool.{eq-eqb, ne_eqb}
use Rattle.std.proofs.lemmas.List.{drop-drop, drop_all}
use Rattle.lldb_atoms.specs.Blocks.{Extent, Used, Compressed, Moved, Free, Hole, Tile, size, is_free, tile_at}
use Rattle.lldb_atoms.specs.Rows.{atoms_in}
use Rattle.lldb_atoms.specs.Lists.{row_of, tile_from}
use Rattle.lldb_atoms.specs.Laws.{is_block}
use Rattle.lldb_atoms.proofs.Says.{tile_says}
use Rattle.lldb_verify.specs.declared.finding.Finding.{Finding}
use Rattle.lldb_verify.specs.declared.finding.Finding.TheVariants as finding
use Rattle.lldb_verify.specs.declared.finding.VerifyFault.{VerifyFault}
use Rattle.lldb_verify.specs.declared.finding.VerifyFault.TheVariants as fault
use Rattle.lldb_verify.specs.declared.finding.Stats.{Stats}
use Rattle.lldb_verify.specs.declared.place.Place.{Place}
use Rattle.lldb_verify.specs.declared.window.Window.{Window}
use Rattle.lldb_verify.specs.declared.seen.Seen.{Seen}
use Rattle.lldb_verify.specs.Findings.{with_rest, blocks_in, last_free, of_blocks, is_used}
use Rattle.lldb_verify.specs.Marks.{Marks, is_set, with_mark}
use Rattle.lldb_verify.specs.Reads.{Holds, seen_atoms, free_before, one_used, one_moved, one_free, seen_as, seen_of}
use Rattle.lldb_verify.specs.Passes.{blocks_from, found_at, is_moved, count_of, stats_of, Ahead, IsStuck, Goes, Passed}
use Rattle.ql_edge.specs.Cause.{Rose}
use Rattle.lldb_base.specs.declared.trouble.Trouble.{Trouble}
use Rattle.lldb_base.specs.declared.trouble.Trouble.TheVariants as trouble
use Rattle.lldb_verify.specs.Told.{IsFront, Tells, IsCausedFault, fault_of}
use Rattle.lldb_verify.proofs.Wholes.{measured}

-- the blocks behind one, by a number that is enough
abbrev behind : ℕ → List ℕ → Tile → List Tile
behind most z tile = blocks_in most (drop (16 * size tile.extent) z)

first_same : (m n : ℕ) (z : List ℕ) (o : Option Tile) → tile_at z ≡ o → length z ≤ suc m → length z ≤ suc n → 1 ≤ length z
    → ((y : List ℕ) → length y ≤ m → length y ≤ n → blocks_in m y ≡ blocks_in n y)
    → with_rest (behind m z) o ≡ with_rest (behind n z) o
first_same m n z None at low high some again = refl
first_same m n z (Some tile) at low high some again =
    let f = measured tile z at in
    let one = f.some in
    let within = f.within in
    let left = length-drop (16 * size tile.extent) z in
    ap (λ (rest : List Tile). tile ∷ rest) (again (drop (16 * size tile.extent) z) (omega (arith, left, one, within, low)) (omega (arith, left, one, within, high)))

-- each number that is enough gives the same blocks
enough : (m n : ℕ) (z : List ℕ) → length z ≤ m → length z ≤ n → blocks_in m z ≡ blocks_in n z
unfolding blocks_in
enough zero zero [] low high = refl
enough zero (suc n) [] low high = refl
enough (suc m) zero [] low high = refl
enough (suc m) (suc n) [] low high = refl
enough zero n (b ∷ bs) low high = absurd (omega (arith, low))
enough (suc m) zero (b ∷ bs) low high = absurd (omega (arith, high))
enough (suc m) (suc n) (b ∷ bs) low high = first_same m n (b ∷ bs) (tile_at (b ∷ bs)) refl (omega (arith, low)) (omega (arith, high)) (omega arith) (λ y. enough m n y)

opened : (m : ℕ) (z : List ℕ) → length z ≤ m → 1 ≤ length z → blocks_in m z ≡ with_rest (behind m z) (tile_at z)
unfolding blocks_in
opened zero z low some = absurd (omega (arith, low, some))
opened (suc m) [] low some = absurd (omega (arith, some))
opened (suc m) (b ∷ bs) low some = first_same m (suc m) (b ∷ bs) (tile_at (b ∷ bs)) refl (omega (arith, low)) (omega (arith, low)) (omega arith) (λ y lo hi. enough m (suc m) y lo hi)

none_in : (m : ℕ) → blocks_in m [] ≡ []
unfolding blocks_in
none_in zero = refl
none_in (suc m) = refl

-- the blocks from an atom on, by the one there
pub blocks_next : (c : List ℕ) (atom : ℕ) (o : Option Tile) → 16 * atom < length c → tile_at (drop (16 * atom) c) ≡ o → blocks_from c atom ≡ with_rest (λ tile. blocks_from c (atom + size tile.extent)) o
blocks_next c atom o within at =
    let left = length-drop (16 * atom) c in
    opened (length c) (drop (16 * atom) c) (omega (arith, left)) (omega (arith, left, within)) ∙ ap (with_rest (behind (length c) (drop (16 * atom) c))) at ∙ moved c atom o
  where
    moved : (c : List ℕ) (atom : ℕ) (o : Option Tile) → with_rest (behind (length c) (drop (16 * atom) c)) o ≡ with_rest (λ tile. blocks_from c (atom + size tile.extent)) o
    moved c atom None = refl
    moved c atom (Some tile) =
        let there : drop (16 * size tile.extent) (drop (16 * atom) c) ≡ drop (16 * (atom + size tile.extent)) c =
        drop-drop (16 * size tile.extent) (16 * atom) c ∙ ap (λ (k : ℕ). drop k c) (omega arith) in
        ap (λ (z : List ℕ). tile ∷ blocks_in (length c) z) there

-- behind the last atom no block begins
pub blocks_end : (c : List ℕ) (atom : ℕ) → length c ≤ 16 * atom → blocks_from c atom ≡ []
blocks_end c atom past = ap (blocks_in (length c)) (drop_all (16 * atom) c past) ∙ none_in (length c)

-- what is found in blocks, the first of them first
blocks_found : (atoms : ℕ) (before : Option ℕ) (from p n : ℕ) (e : Extent) (row : List Extent) → is_block e ≡ true → of_blocks atoms before from (e ∷ row) ≡ found_at before from (seen_as p n e) ++ of_blocks atoms (free_before from (seen_as p n e)) (from + seen_atoms (seen_as p n e)) row
blocks_found atoms before from p n (Used content) row stands = refl
blocks_found atoms before from p n (Compressed content) row stands = refl
blocks_found atoms before from p n (Moved target) row stands = refl
blocks_found atoms before from p n (Free count) row stands = refl
blocks_found atoms before from p n (Hole count) row stands = absurd (cc)

pub atoms_seen : (p n : ℕ) (e : Extent) → seen_atoms (seen_as p n e) ≡ size e
atoms_seen p n (Used content) = refl
atoms_seen p n (Compressed content) = refl
atoms_seen p n (Moved target) = refl
atoms_seen p n (Free count) = refl
atoms_seen p n (Hole count) = refl

used_seen : (p n : ℕ) (e : Extent) → one_used (seen_as p n e) ≡ cond (is_used (Some e)) 1 0
used_seen p n (Used content) = refl
used_seen p n (Compressed content) = refl
used_seen p n (Moved target) = refl
used_seen p n (Free count) = refl
used_seen p n (Hole count) = refl

moved_seen : (p n : ℕ) (e : Extent) → one_moved (seen_as p n e) ≡ cond (is_moved e) 1 0
moved_seen p n (Used content) = refl
moved_seen p n (Compressed content) = refl
moved_seen p n (Moved target) = refl
moved_seen p n (Free count) = refl
moved_seen p n (Hole count) = refl

free_seen : (p n : ℕ) (e : Extent) → is_block e ≡ true → one_free (seen_as p n e) ≡ cond (is_free e) 1 0
free_seen p n (Used content) stands = refl
free_seen p n (Compressed content) stands = refl
free_seen p n (Moved target) stands = refl
free_seen p n (Free count) stands = refl
free_seen p n (Hole count) stands = absurd (cc)

-- a mark where a block begins
marked_next : (b s m : Bool) (t : Tile) (o : Option Tile) → m ≡ cond s true b → (m || is_some o) ≡ (b || is_some (cond s (Some t) o))
marked_next b true m t o is = ap (λ (x : Bool). x || is_some o) is ∙ sym (or_true b)
  where
    or_true : (b : Bool) → (b || true) ≡ true
    or_true true = refl
    or_true false = refl
marked_next b false m t o is = ap (λ (x : Bool). x || is_some o) is

-- a place behind a block
pub record IsBehind (place next : Place) (s : Seen) : Type 0 where
  pub atom_is : next.atom ≡ place.atom + seen_atoms s
  pub before_is : next.before ≡ free_before place.atom s
  pub used_is : next.used ≡ place.used + one_used s
  pub relocated_is : next.relocated ≡ place.relocated + one_moved s
  pub free_is : next.free ≡ place.free + one_free s

ahead_next : (c : List ℕ) (all now told : List Finding) (place next : Place) (bits marks : Marks) (tile : Tile) → is_block tile.extent ≡ true → blocks_from c place.atom ≡ tile ∷ blocks_from c (place.atom + size tile.extent)
    → IsBehind place next (seen_of tile) → ((q : ℕ) → is_set marks q ≡ with_mark (is_set bits) place.atom true q) → told ≡ now ++ found_at place.before place.atom (seen_of tile)
    → Ahead c all place bits now → Ahead c all next marks told
ahead_next c all now told place next bits marks tile stands more b marked is a =
    let e : Extent = tile.extent in
    let p : ℕ = tile.previous in
    let n : ℕ = tile.next in
    let to : ℕ = place.atom + size e in
    let rest : List Tile = blocks_from c to in
    let row : List Extent = row_of rest in
    let here : next.atom ≡ to = b.atom_is ∙ ap (λ (k : ℕ). place.atom + k) (atoms_seen p n e) in
    let atoms : ℕ = length c / 16 in
    let split : of_blocks atoms place.before place.atom (row_of (blocks_from c place.atom)) ≡ found_at place.before place.atom (seen_as p n e) ++ of_blocks atoms next.before next.atom (row_of (blocks_from c next.atom)) =
    ap (λ (ts : List Tile). of_blocks atoms place.before place.atom (row_of ts)) more
    ∙ blocks_found atoms place.before place.atom p n e row stands
    ∙ ap (λ (o : Option ℕ). found_at place.before place.atom (seen_as p n e) ++ of_blocks atoms o (place.atom + seen_atoms (seen_as p n e)) row) (sym b.before_is)
    ∙ ap (λ (k : ℕ). found_at place.before place.atom (seen_as p n e) ++ of_blocks atoms next.before k row) (sym b.atom_is)
    ∙ ap (λ (k : ℕ). found_at place.before place.atom (seen_as p n e) ++ of_blocks atoms next.before next.atom (row_of (blocks_from c k))) (sym here) in
    let atoms_more : place.atom + atoms_in (row_of (blocks_from c place.atom)) ≡ place.atom + (size e + atoms_in row) = ap (λ (ts : List Tile). place.atom + atoms_in (row_of ts)) more in
    let used_more : count_of (λ x. is_used (Some x)) (row_of (blocks_from c place.atom)) ≡ cond (is_used (Some e)) 1 0 + count_of (λ x. is_used (Some x)) row = ap (λ (ts : List Tile). count_of (λ x. is_used (Some x)) (row_of ts)) more in
    let moved_more : count_of is_moved (row_of (blocks_from c place.atom)) ≡ cond (is_moved e) 1 0 + count_of is_moved row = ap (λ (ts : List Tile). count_of is_moved (row_of ts)) more in
    let free_more : count_of is_free (row_of (blocks_from c place.atom)) ≡ cond (is_free e) 1 0 + count_of is_free row = ap (λ (ts : List Tile). count_of is_free (row_of ts)) more in
    record {
      told = a.told ∙ ap (λ (fs : List Finding). now ++ fs) split ∙ sym (append_assoc now (found_at place.before place.atom (seen_as p n e)) _) ∙ ap (λ (fs : List Finding). fs ++ of_blocks atoms next.before next.atom (row_of (blocks_from c next.atom))) (sym is);
      marked = λ q. ap (λ (k : ℕ). is_set marks q || is_some (tile_from k (blocks_from c k) q)) here
          ∙ marked_next (is_set bits q) (nat_eq q place.atom) (is_set marks q) tile (tile_from to rest q) (marked q)
          ∙ sym (ap (λ (ts : List Tile). is_set bits q || is_some (tile_from place.atom ts q)) more)
          ∙ a.marked q;
      whole = ap (λ (k : ℕ). k + atoms_in (row_of (blocks_from c k))) here ∙ plus place.atom (size e) (atoms_in row) ∙ sym atoms_more ∙ a.whole;
      used_so = counted place.used next.used (one_used (seen_as p n e)) (cond (is_used (Some e)) 1 0) (count_of (λ x. is_used (Some x)) row) _ _ _ b.used_is (used_seen p n e) used_more (ap (λ (k : ℕ). count_of (λ x. is_used (Some x)) (row_of (blocks_from c k))) here) a.used_so;
      relocated_so = counted place.relocated next.relocated (one_moved (seen_as p n e)) (cond (is_moved e) 1 0) (count_of is_moved row) _ _ _ b.relocated_is (moved_seen p n e) moved_more (ap (λ (k : ℕ). count_of is_moved (row_of (blocks_from c k))) here) a.relocated_so;
      free_so = counted place.free next.free (one_free (seen_as p n e)) (cond (is_free e) 1 0) (count_of is_free row) _ _ _ b.free_is (free_seen p n e stands) free_more (ap (λ (k : ℕ). count_of is_free (row_of (blocks_from c k))) here) a.free_so;
    }
  where
    plus : (a b c : ℕ) → (a + b) + c ≡ a + (b + c)
    plus a b c = omega arith

    counted : (old new one step rest total all there : ℕ) → new ≡ old + one → one ≡ step → total ≡ step + rest → there ≡ rest → old + total ≡ all → new + there ≡ all
    counted old new one step rest total all there is same more behind whole = omega (arith, is, same, more, behind, whole)

-- what is seen stands there
pub record IsSeen (c : List ℕ) (atom : ℕ) (s : Seen) : Type 0 where
  pub tile : Tile
  pub at : tile_at (drop (16 * atom) c) ≡ Some tile
  pub seen_is : s ≡ seen_of tile
  pub stands : is_block tile.extent ≡ true

pub seen_there : (c : List ℕ) (atom : ℕ) (s : Seen) (o : Option Tile) → tile_at (drop (16 * atom) c) ≡ o → Some s ≡ option_map seen_of o → IsSeen c atom s
seen_there c atom s None at is = absurd (cc)
seen_there c atom s (Some tile) at is = record { tile = tile; at = at; seen_is = cc; stands = (tile_says tile (drop (16 * atom) c) at).tile_is.stands }

pub none_there : (c : List ℕ) (atom : ℕ) (o : Option Tile) → tile_at (drop (16 * atom) c) ≡ o → None ≡ option_map seen_of o → tile_at (drop (16 * atom) c) ≡ None
none_there c atom None at is = at
none_there c atom (Some tile) at is = absurd (cc)

-- the pass goes on behind a block
pub went_next : (content : Option (List ℕ)) (total : ℕ) (place next : Place) (bits marks : Marks) (now told : List Finding) (s : Seen) → IfSome content (λ c. length c ≡ total) → place.atom < total / 16
    → IfSome content (λ c. Some s ≡ option_map seen_of (tile_at (drop (16 * place.atom) c))) → IsBehind place next s → ((q : ℕ) → is_set marks q ≡ with_mark (is_set bits) place.atom true q) → told ≡ now ++ found_at place.before place.atom s
    → IfSome content (λ c. (all : List Finding) → Ahead c all place bits now → Ahead c all next marks told)
went_next None total place next bits marks now told s long within is b marked more = tt
went_next (Some c) total place next bits marks now told s long within is b marked more = λ all a.
    let t = seen_there c place.atom s (tile_at (drop (16 * place.atom) c)) refl is in
    let there : blocks_from c place.atom ≡ t.tile ∷ blocks_from c (place.atom + size t.tile.extent) = blocks_next c place.atom (Some t.tile) (omega (arith, within, long)) t.at in
    ahead_next c all now told place next bits marks t.tile t.stands there (subst (λ x. IsBehind place next x) t.seen_is b) marked (more ∙ ap (λ x. now ++ found_at place.before place.atom x) t.seen_is) a

-- findings in front of more
pub longer : (front rest all now : List Finding) → all ≡ front ++ rest → IsFront now front → IsFront now all
longer front rest all now is f = record { rest = f.rest ++ rest; whole = is ∙ ap (λ (x : List Finding). x ++ rest) f.whole ∙ append_assoc now f.rest rest }

-- a log that stopped in front of findings stopped in front of more
pub stopped_more : (front rest all now : List Finding) (bound : Option ℕ) (e : VerifyFault) → all ≡ front ++ rest → Tells {T = Unit {0}} front bound now (Err e) → Tells {T = Unit {0}} all bound now (Err e)
stopped_more front rest all now bound (fault.Found count) is t = t
stopped_more front rest all now bound (fault.Stopped last) is t = record { earlier = t.earlier; last_is = t.last_is; front = longer front rest all now is t.front; full = t.full }
stopped_more front rest all now bound fault.Failed is t = longer front rest all now is t
stopped_more front rest all now bound fault.NoMemory is t = longer front rest all now is t

-- the pass stopped at a block
pub went_stopped : (content : Option (List ℕ)) (place : Place) (bits : Marks) (now found told : List Finding) (bound : Option ℕ) (e : VerifyFault) (s : Seen) (total : ℕ) → IfSome content (λ c. length c ≡ total) → place.atom < total / 16
    → IfSome content (λ c. Some s ≡ option_map seen_of (tile_at (drop (16 * place.atom) c))) → found ≡ found_at place.before place.atom s → Tells {T = Unit {0}} (now ++ found) bound told (Err e)
    → IfSome content (λ c. (all : List Finding) → Ahead c all place bits now → Tells {T = Unit {0}} all bound told (Err e))
went_stopped None place bits now found told bound e s total long within is same t = tt
went_stopped (Some c) place bits now found told bound e s total long within is same t = λ all a.
    let seen = seen_there c place.atom s (tile_at (drop (16 * place.atom) c)) refl is in
    let there : blocks_from c place.atom ≡ seen.tile ∷ blocks_from c (place.atom + size seen.tile.extent) = blocks_next c place.atom (Some seen.tile) (omega (arith, within, long)) seen.at in
    let own : found ≡ found_at place.before place.atom (seen_of seen.tile) = same ∙ ap (found_at place.before place.atom) seen.seen_is in
    let e1 : Extent = seen.tile.extent in
    let p : ℕ = seen.tile.previous in
    let n : ℕ = seen.tile.next in
    let rest : List Finding = of_blocks (length c / 16) (free_before place.atom (seen_as p n e1)) (place.atom + seen_atoms (seen_as p n e1)) (row_of (blocks_from c (place.atom + size e1))) in
    let split : all ≡ now ++ (found ++ rest) =
    a.told ∙ ap (λ (ts : List Tile). now ++ of_blocks (length c / 16) place.before place.atom (row_of ts)) there
    ∙ ap (λ (fs : List Finding). now ++ fs) (blocks_found (length c / 16) place.before place.atom p n e1 (row_of (blocks_from c (place.atom + size e1))) seen.stands)
    ∙ ap (λ (fs : List Finding). now ++ (fs ++ rest)) (sym own) in
    stopped_more (now ++ found) rest all told bound e (split ∙ sym (append_assoc now found rest)) t

-- of all that is to be told a log has what was told
pub refused : (all now rest : List Finding) (bound : Option ℕ) (t : Trouble) → all ≡ now ++ rest → Tells {T = Unit {0}} all bound now (Err (fault_of t))
refused all now rest bound trouble.Failed is = record { rest = rest; whole = is }
refused all now rest bound trouble.NoMemory is = record { rest = rest; whole = is }
refused all now rest bound (trouble.Full a b) is = record { rest = rest; whole = is }
refused all now rest bound trouble.Damaged is = record { rest = rest; whole = is }

-- the device refused before anything was told
pub went_refused : (content : Option (List ℕ)) (place : Place) (bits : Marks) (now : List Finding) (bound : Option ℕ) (t : Trouble) → IfSome content (λ c. (all : List Finding) → Ahead c all place bits now → Tells {T = Unit {0}} all bound now (Err (fault_of t)))
went_refused None place bits now bound t = tt
went_refused (Some c) place bits now bound t = λ all a. refused all now _ bound t a.told

-- no block stands at the place
record Short (c : List ℕ) (all : List Finding) (place : Place) (now : List Finding) : Type 0 where
  told : all ≡ now ++ finding.BadBlock place.atom ∷ []
  short : nat_eq (8 + atoms_in (row_of (blocks_from c 8))) (length c / 16) ≡ false

short_at : (c : List ℕ) (all : List Finding) (place : Place) (bits : Marks) (now : List Finding) → place.atom < length c / 16 → tile_at (drop (16 * place.atom) c) ≡ None → Ahead c all place bits now → Short c all place now
short_at c all place bits now within at a =
    let none : blocks_from c place.atom ≡ [] = blocks_next c place.atom None (omega (arith, within)) at in
    let other : nat_eq place.atom (length c / 16) ≡ false = ne_eqb place.atom (length c / 16) (λ same. omega (arith, same, within)) in
    let whole : place.atom + atoms_in (row_of (blocks_from c place.atom)) ≡ place.atom + 0 = ap (λ (ts : List Tile). place.atom + atoms_in (row_of ts)) none in
    let all_of = a.whole in
    record {
      told = a.told ∙ ap (λ (ts : List Tile). now ++ of_blocks (length c / 16) place.before place.atom (row_of ts)) none ∙ ap (λ (b : Bool). now ++ cond b (last_free place.before) (finding.BadBlock place.atom ∷ [])) other;
      short = ne_eqb (8 + atoms_in (row_of (blocks_from c 8))) (length c / 16) (λ same. omega (arith, same, within, whole, all_of));
    }

pub went_stuck : (content : Option (List ℕ)) (total : ℕ) (place : Place) (bits : Marks) (now told : List Finding) → IfSome content (λ c. length c ≡ total) → place.atom < total / 16
    → IfSome content (λ c. None ≡ option_map seen_of (tile_at (drop (16 * place.atom) c))) → told ≡ now ++ finding.BadBlock place.atom ∷ []
    → IfSome content (λ c. (all : List Finding) → Ahead c all place bits now → IsStuck c all told)
went_stuck None total place bits now told long within is more = tt
went_stuck (Some c) total place bits now told long within is more = λ all a.
    let s = short_at c all place bits now (omega (arith, long, within)) (none_there c place.atom (tile_at (drop (16 * place.atom) c)) refl is) a in
    record { told = more ∙ sym s.told; short = s.short }

pub stuck_stopped : (content : Option (List ℕ)) (total : ℕ) (place : Place) (bits : Marks) (now told : List Finding) (bound : Option ℕ) (e : VerifyFault) → IfSome content (λ c. length c ≡ total) → place.atom < total / 16
    → IfSome content (λ c. None ≡ option_map seen_of (tile_at (drop (16 * place.atom) c))) → Tells {T = Unit {0}} (now ++ finding.BadBlock place.atom ∷ []) bound told (Err e)
    → IfSome content (λ c. (all : List Finding) → Ahead c all place bits now → Tells {T = Unit {0}} all bound told (Err e))
stuck_stopped None total place bits now told bound e long within is t = tt
stuck_stopped (Some c) total place bits now told bound e long within is t = λ all a.
    let s = short_at c all place bits now (omega (arith, long, within)) (none_there c place.atom (tile_at (drop (16 * place.atom) c)) refl is) a in
    subst (λ (fs : List Finding). Tells {T = Unit {0}} fs bound told (Err e)) (sym s.told) t

-- where the pass begins
pub ahead_first : (content : Option (List ℕ)) (place : Place) (bits : Marks) (now : List Finding) → place.atom ≡ 8 → place.before ≡ None → place.used ≡ 0 → place.relocated ≡ 0 → place.free ≡ 0 → ((q : ℕ) → is_set bits q ≡ false)
    → IfSome content (λ c. Ahead c (now ++ of_blocks (length c / 16) None 8 (row_of (blocks_from c 8))) place bits now)
ahead_first None place bits now at before used relocated free clear = tt
ahead_first (Some c) place bits now at before used relocated free clear =
    record {
      told = sym (ap (λ (k : ℕ). now ++ of_blocks (length c / 16) place.before k (row_of (blocks_from c k))) at ∙ ap (λ (o : Option ℕ). now ++ of_blocks (length c / 16) o 8 (row_of (blocks_from c 8))) before);
      marked = λ q. ap (λ (k : ℕ). is_set bits q || is_some (tile_from k (blocks_from c k) q)) at ∙ ap (λ (b : Bool). b || is_some (tile_from 8 (blocks_from c 8) q)) (clear q);
      whole = ap (λ (k : ℕ). k + atoms_in (row_of (blocks_from c k))) at;
      used_so = ap (λ (k : ℕ). place.used + count_of (λ x. is_used (Some x)) (row_of (blocks_from c k))) at ∙ ap (λ (k : ℕ). k + count_of (λ x. is_used (Some x)) (row_of (blocks_from c 8))) used ∙ zero_plus _;
      relocated_so = ap (λ (k : ℕ). place.relocated + count_of is_moved (row_of (blocks_from c k))) at ∙ ap (λ (k : ℕ). k + count_of is_moved (row_of (blocks_from c 8))) relocated ∙ zero_plus _;
      free_so = ap (λ (k : ℕ). place.free + count_of is_free (row_of (blocks_from c k))) at ∙ ap (λ (k : ℕ). k + count_of is_free (row_of (blocks_from c 8))) free ∙ zero_plus _;
    }
  where
    zero_plus : (n : ℕ) → 0 + n ≡ n
    zero_plus n = omega arith

-- behind the last block
record Ends (c : List ℕ) (all : List Finding) (place : Place) (bits : Marks) (now : List Finding) : Type 0 where
  told : all ≡ now ++ last_free place.before
  whole : nat_eq (8 + atoms_in (row_of (blocks_from c 8))) (length c / 16) ≡ true
  marked : (q : ℕ) → is_set bits q ≡ is_some (tile_from 8 (blocks_from c 8) q)
  used : place.used ≡ count_of (λ e. is_used (Some e)) (row_of (blocks_from c 8))
  relocated : place.relocated ≡ count_of is_moved (row_of (blocks_from c 8))
  free : place.free ≡ count_of is_free (row_of (blocks_from c 8))

ends_at : (c : List ℕ) (all : List Finding) (place : Place) (bits : Marks) (now : List Finding) → length c % 16 ≡ 0 → place.atom ≡ length c / 16 → Ahead c all place bits now → Ends c all place bits now
ends_at c all place bits now even at a =
    let parts = mod-add-div' (length c) 16 in
    let none : blocks_from c place.atom ≡ [] = blocks_end c place.atom (omega (arith, even, at, parts)) in
    let whole : place.atom + atoms_in (row_of (blocks_from c place.atom)) ≡ place.atom + 0 = ap (λ (ts : List Tile). place.atom + atoms_in (row_of ts)) none in
    let all_of = a.whole in
    let used_none : count_of (λ e. is_used (Some e)) (row_of (blocks_from c place.atom)) ≡ 0 = ap (λ (ts : List Tile). count_of (λ e. is_used (Some e)) (row_of ts)) none in
    let moved_none : count_of is_moved (row_of (blocks_from c place.atom)) ≡ 0 = ap (λ (ts : List Tile). count_of is_moved (row_of ts)) none in
    let free_none : count_of is_free (row_of (blocks_from c place.atom)) ≡ 0 = ap (λ (ts : List Tile). count_of is_free (row_of ts)) none in
    let used = a.used_so in
    let relocated = a.relocated_so in
    let free = a.free_so in
    record {
      told = a.told ∙ ap (λ (ts : List Tile). now ++ of_blocks (length c / 16) place.before place.atom (row_of ts)) none ∙ ap (λ (b : Bool). now ++ cond b (last_free place.before) (finding.BadBlock place.atom ∷ [])) (eq-eqb place.atom (length c / 16) at);
      whole = eq-eqb (8 + atoms_in (row_of (blocks_from c 8))) (length c / 16) (omega (arith, at, whole, all_of));
      marked = λ q. sym (or_false (is_set bits q)) ∙ sym (ap (λ (ts : List Tile). is_set bits q || is_some (tile_from place.atom ts q)) none) ∙ a.marked q;
      used = left_none _ _ _ used_none used;
      relocated = left_none _ _ _ moved_none relocated;
      free = left_none _ _ _ free_none free;
    }
  where
    or_false : (b : Bool) → (b || false) ≡ b
    or_false true = refl
    or_false false = refl

    left_none : (a b n : ℕ) → b ≡ 0 → a + b ≡ n → a ≡ n
    left_none a b n none is = omega (arith, none, is)

abbrev numbers : ℕ → ℕ → ℕ → ℕ → Stats
numbers a u r f = record { atoms = a; used = u; relocated = r; free = f }

-- the numbers, one by one
same_stats : (s t : Stats) → s.atoms ≡ t.atoms → s.used ≡ t.used → s.relocated ≡ t.relocated → s.free ≡ t.free → s ≡ t
same_stats s t a u r f = ap (λ (x : ℕ). numbers x s.used s.relocated s.free) a ∙ ap (λ (x : ℕ). numbers t.atoms x s.relocated s.free) u ∙ ap (λ (x : ℕ). numbers t.atoms t.used x s.free) r ∙ ap (λ (x : ℕ). numbers t.atoms t.used t.relocated x) f

pub passed_all : (goal : List ℕ → List Finding) (content : Option (List ℕ)) (total : ℕ) (place : Place) (bits : Marks) (now told : List Finding) (stats : Stats) → IfSome content (λ c. length c ≡ total) → total % 16 ≡ 0 → place.atom ≡ total / 16
    → stats.atoms ≡ total / 16 → stats.used ≡ place.used → stats.relocated ≡ place.relocated → stats.free ≡ place.free → told ≡ now ++ last_free place.before
    → IfSome content (λ c. Ahead c (goal c) place bits now) → IfSome content (λ c. Passed c (goal c) told bits stats)
passed_all goal None total place bits now told stats long even at atoms used relocated free more a = tt
passed_all goal (Some c) total place bits now told stats long even at atoms used relocated free more a =
    let e = ends_at c (goal c) place bits now (ap (λ (n : ℕ). n % 16) long ∙ even) (at ∙ sym (ap (λ (n : ℕ). n / 16) long)) a in
    record {
      told = more ∙ sym e.told;
      whole = e.whole;
      marked = e.marked;
      numbers = same_stats stats (stats_of (length c / 16) (row_of (blocks_from c 8))) (atoms ∙ sym (ap (λ (n : ℕ). n / 16) long)) (used ∙ e.used) (relocated ∙ e.relocated) (free ∙ e.free);
    }

pub end_stopped : (goal : List ℕ → List Finding) (content : Option (List ℕ)) (total : ℕ) (place : Place) (bits : Marks) (now told : List Finding) (bound : Option ℕ) (e : VerifyFault) → IfSome content (λ c. length c ≡ total) → total % 16 ≡ 0 → place.atom ≡ total / 16
    → Tells {T = Unit {0}} (now ++ last_free place.before) bound told (Err e) → IfSome content (λ c. Ahead c (goal c) place bits now) → IfSome content (λ c. Tells {T = Unit {0}} (goal c) bound told (Err e))
end_stopped goal None total place bits now told bound e long even at t a = tt
end_stopped goal (Some c) total place bits now told bound e long even at t a =
    let s = ends_at c (goal c) place bits now (ap (λ (n : ℕ). n % 16) long ∙ even) (at ∙ sym (ap (λ (n : ℕ). n / 16) long)) a in
    subst (λ (fs : List Finding). Tells {T = Unit {0}} fs bound told (Err e)) (sym s.told) t

-- an answer that is an error, by what holds of that error
pub by_fault : {T : Type 0} → (P : Result T VerifyFault → Type 0) (r : Result T VerifyFault) (e : VerifyFault) → IsErrAnd r (λ t. t ≡ e) → P (Err e) → P r
by_fault P (Ok v) e is holds = absurd is
by_fault P (Err t) e is holds = subst (λ (u : VerifyFault). P (Err u)) (sym is) holds

-- what a step did, said of all that the pass is to tell
pub went_on : (goal : List ℕ → List Finding) (told here : Option (List ℕ)) (place next : Place) (bits marks : Marks) (now later : List Finding) (bound : Option ℕ) (r : Bool) → here ≡ told → r ≡ true → IfSome here (λ c. (all : List Finding) → Ahead c all place bits now → Goes c all bound next marks later (Ok r)) → IfSome told (λ c. Ahead c (goal c) place bits now) → IfSome told (λ c. Ahead c (goal c) next marks later)
went_on goal None here place next bits marks now later bound r same stands went a = tt
went_on goal (Some c) here place next bits marks now later bound r same stands went a =
    let there : IfSome (Some c) (λ c. (all : List Finding) → Ahead c all place bits now → Goes c all bound next marks later (Ok r)) = subst (λ (o : Option (List ℕ)). IfSome o (λ c. (all : List Finding) → Ahead c all place bits now → Goes c all bound next marks later (Ok r))) same went in
    subst (λ (b : Bool). Goes c (goal c) bound next marks later (Ok b)) stands (there (goal c) a)

pub went_off : (goal : List ℕ → List Finding) (told here : Option (List ℕ)) (place next : Place) (bits marks : Marks) (now later : List Finding) (bound : Option ℕ) (r : Bool) → here ≡ told → r ≡ false → IfSome here (λ c. (all : List Finding) → Ahead c all place bits now → Goes c all bound next marks later (Ok r)) → IfSome told (λ c. Ahead c (goal c) place bits now) → IfSome told (λ c. IsStuck c (goal c) later)
went_off goal None here place next bits marks now later bound r same stands went a = tt
went_off goal (Some c) here place next bits marks now later bound r same stands went a =
    let there : IfSome (Some c) (λ c. (all : List Finding) → Ahead c all place bits now → Goes c all bound next marks later (Ok r)) = subst (λ (o : Option (List ℕ)). IfSome o (λ c. (all : List Finding) → Ahead c all place bits now → Goes c all bound next marks later (Ok r))) same went in
    subst (λ (b : Bool). Goes c (goal c) bound next marks later (Ok b)) stands (there (goal c) a)

pub went_wrong : (goal : List ℕ → List Finding) (told here : Option (List ℕ)) (place next : Place) (bits marks : Marks) (now later : List Finding) (bound : Option ℕ) (e : VerifyFault) → here ≡ told → IfSome here (λ c. (all : List Finding) → Ahead c all place bits now → Goes c all bound next marks later (Err e)) → IfSome told (λ c. Ahead c (goal c) place bits now) → IfSome told (λ c. Tells {T = Unit {0}} (goal c) bound later (Err e))
went_wrong goal None here place next bits marks now later bound e same went a = tt
went_wrong goal (Some c) here place next bits marks now later bound e same went a =
    let there : IfSome (Some c) (λ c. (all : List Finding) → Ahead c all place bits now → Goes c all bound next marks later (Err e)) = subst (λ (o : Option (List ℕ)). IfSome o (λ c. (all : List Finding) → Ahead c all place bits now → Goes c all bound next marks later (Err e))) same went in
    there (goal c) a

-- a fault of a log is none of the device
pub caused_same : (T U : Type 0) (e : VerifyFault) (before now : ℕ) → now ≡ before → ((n : ℕ) → IsCausedFault {T = T} (Err e) n n) → IsCausedFault {T = U} (Err e) before now
caused_same T U (fault.Found count) before now is all = is
caused_same T U (fault.Stopped last) before now is all = is
caused_same T U fault.Failed before now is all = subst (λ (n : ℕ). Rose before n) (sym is) (all before)
caused_same T U fault.NoMemory before now is all = is

-- a step behind others
pub step_on : (told here : Option (List ℕ)) (p0 p1 p2 : Place) (b0 b1 b2 : Marks) (n0 n1 n2 : List Finding) (bound : Option ℕ) (r : Bool) → here ≡ told → r ≡ true → IfSome here (λ c. (all : List Finding) → Ahead c all p1 b1 n1 → Goes c all bound p2 b2 n2 (Ok r))
    → IfSome told (λ c. (all : List Finding) → Ahead c all p0 b0 n0 → Ahead c all p1 b1 n1) → IfSome told (λ c. (all : List Finding) → Ahead c all p0 b0 n0 → Ahead c all p2 b2 n2)
step_on None here p0 p1 p2 b0 b1 b2 n0 n1 n2 bound r same stands went before = tt
step_on (Some c) here p0 p1 p2 b0 b1 b2 n0 n1 n2 bound r same stands went before = λ all a.
    let there : IfSome (Some c) (λ c. (all : List Finding) → Ahead c all p1 b1 n1 → Goes c all bound p2 b2 n2 (Ok r)) = subst (λ (o : Option (List ℕ)). IfSome o (λ c. (all : List Finding) → Ahead c all p1 b1 n1 → Goes c all bound p2 b2 n2 (Ok r))) same went in
    subst (λ (b : Bool). Goes c all bound p2 b2 n2 (Ok b)) stands (there all (before all a))

pub step_off : (told here : Option (List ℕ)) (p0 p1 p2 : Place) (b0 b1 b2 : Marks) (n0 n1 n2 : List Finding) (bound : Option ℕ) (r : Bool) → here ≡ told → r ≡ false → IfSome here (λ c. (all : List Finding) → Ahead c all p1 b1 n1 → Goes c all bound p2 b2 n2 (Ok r))
    → IfSome told (λ c. (all : List Finding) → Ahead c all p0 b0 n0 → Ahead c all p1 b1 n1) → IfSome told (λ c. (all : List Finding) → Ahead c all p0 b0 n0 → IsStuck c all n2)
step_off None here p0 p1 p2 b0 b1 b2 n0 n1 n2 bound r same stands went before = tt
step_off (Some c) here p0 p1 p2 b0 b1 b2 n0 n1 n2 bound r same stands went before = λ all a.
    let there : IfSome (Some c) (λ c. (all : List Finding) → Ahead c all p1 b1 n1 → Goes c all bound p2 b2 n2 (Ok r)) = subst (λ (o : Option (List ℕ)). IfSome o (λ c. (all : List Finding) → Ahead c all p1 b1 n1 → Goes c all bound p2 b2 n2 (Ok r))) same went in
    subst (λ (b : Bool). Goes c all bound p2 b2 n2 (Ok b)) stands (there all (before all a))

pub step_wrong : (told here : Option (List ℕ)) (p0 p1 p2 : Place) (b0 b1 b2 : Marks) (n0 n1 n2 : List Finding) (bound most : Option ℕ) (e : VerifyFault) → here ≡ told → bound ≡ most → IfSome here (λ c. (all : List Finding) → Ahead c all p1 b1 n1 → Goes c all bound p2 b2 n2 (Err e))
    → IfSome told (λ c. (all : List Finding) → Ahead c all p0 b0 n0 → Ahead c all p1 b1 n1) → IfSome told (λ c. (all : List Finding) → Ahead c all p0 b0 n0 → Tells {T = Unit {0}} all most n2 (Err e))
step_wrong None here p0 p1 p2 b0 b1 b2 n0 n1 n2 bound most e same is went before = tt
step_wrong (Some c) here p0 p1 p2 b0 b1 b2 n0 n1 n2 bound most e same is went before = λ all a.
    let there : IfSome (Some c) (λ c. (all : List Finding) → Ahead c all p1 b1 n1 → Goes c all bound p2 b2 n2 (Err e)) = subst (λ (o : Option (List ℕ)). IfSome o (λ c. (all : List Finding) → Ahead c all p1 b1 n1 → Goes c all bound p2 b2 n2 (Err e))) same went in
    subst (λ (o : Option ℕ). Tells {T = Unit {0}} all o n2 (Err e)) is (there all (before all a))

pub no_step : (told : Option (List ℕ)) (p : Place) (b : Marks) (n : List Finding) → IfSome told (λ c. (all : List Finding) → Ahead c all p b n → Ahead c all p b n)
no_step None p b n = tt
no_step (Some c) p b n = λ all a. a

-- what is held of a content is held of the same content
pub held_same : (told here : Option (List ℕ)) (w : Window) → here ≡ told → IfSome here (Holds w) → IfSome told (Holds w)
held_same told here w same h = subst (λ (o : Option (List ℕ)). IfSome o (Holds w)) same h
