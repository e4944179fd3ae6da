-- How the second pass goes from block to block.
use Rattle.std.proofs.Common.{◌≡◌, ℕ, ◌+◌, ◌*◌, ◌/◌, ◌%◌, ◌≤◌, ◌<◌, inl, inr, Bool, true, false, not, cond, ◌&&◌, ◌||◌, List, [], ◌∷◌, ◌++◌, length, drop, Option, Some, None, IfSome, Ok, Err, is_some, option_map, refl, sym, ◌∙◌, ap, subst, append_assoc, arith, length-drop, nat_eq}
use Rattle.std.proofs.Math.Nat.{mod-add-div'}
use Rattle.std.proofs.lemmas.List.{append-nil}
use Rattle.std.proofs.lemmas.Bool.{cases_Bool, cases_lt, eqb-true, false≢true}
use Rattle.lldb_atoms.specs.Blocks.{Extent, Used, Compressed, Moved, Free, Hole, Tile, size, tile_at}
use Rattle.lldb_atoms.specs.Rows.{extent_at, contains, target_of, targets}
use Rattle.lldb_atoms.specs.Lists.{row_of, tile_from}
use Rattle.lldb_verify.specs.Findings.{unless, with_rest, is_used, of_targets}
use Rattle.lldb_verify.specs.Logs.{kept_one}
use Rattle.lldb_verify.specs.Marks.{Marks, is_set, with_mark}
use Rattle.lldb_verify.specs.Reads.{seen_as, seen_of, seen_atoms, one_used, one_moved}
use Rattle.lldb_base.specs.declared.trouble.Trouble.{Trouble}
use Rattle.lldb_base.specs.declared.trouble.Trouble.TheVariants as trouble
use Rattle.lldb_verify.specs.declared.finding.Finding.{Finding}
use Rattle.lldb_verify.specs.declared.finding.Finding.TheVariants as finding
use Rattle.lldb_verify.specs.declared.finding.VerifyFault.{VerifyFault}
use Rattle.lldb_verify.specs.declared.finding.VerifyFault.TheVariants as fault
use Rattle.lldb_verify.specs.Told.{Tells, OfDevice, fault_of}
use Rattle.lldb_verify.specs.declared.seen.Seen.{Seen}
use Rattle.lldb_verify.specs.declared.seen.Seen.TheVariants as seen
use Rattle.lldb_verify.specs.Passes.{blocks_from, Marked, IsTaken, IsFound, Aiming, Aims, AllAimed}
use Rattle.lldb_verify.proofs.Wholes.{measured}
use Rattle.lldb_verify.proofs.Walks.{extent_there}
use Rattle.lldb_verify.proofs.Ahead.{blocks_next, blocks_end, atoms_seen, seen_there, none_there, stopped_more}

-- a block of a row that begins at an atom stands there in the content
pub record Stands (c : List ℕ) (q : ℕ) (t : Tile) : Type 0 where
  pub at : tile_at (drop (16 * q) c) ≡ Some t
  pub within : 16 * q < length c

-- the first of the blocks from an atom on
record First (c : List ℕ) (atom : ℕ) (u : Tile) (us : List Tile) : Type 0 where
  stands : Stands c atom u
  rest : us ≡ blocks_from c (atom + size u.extent)

first_by : (c : List ℕ) (atom : ℕ) (u : Tile) (us : List Tile) (o : Option Tile) → 16 * atom < length c → tile_at (drop (16 * atom) c) ≡ o → u ∷ us ≡ with_rest (λ tile. blocks_from c (atom + size tile.extent)) o → First c atom u us
first_by c atom u us None within at is = absurd (cc)
first_by c atom u us (Some t) within at is =
    let one : u ≡ t = cc in
    let more : us ≡ blocks_from c (atom + size t.extent) = cc in
    record {
      stands = record { at = at ∙ ap (λ (x : Tile). Some x) (sym one); within = within };
      rest = more ∙ ap (λ (x : Tile). blocks_from c (atom + size x.extent)) (sym one);
    }

first_of : (c : List ℕ) (atom : ℕ) (u : Tile) (us : List Tile) → u ∷ us ≡ blocks_from c atom → First c atom u us
first_of c atom u us is = elim (cases_lt (16 * atom) (length c)) [
  | inl within ↦ first_by c atom u us (tile_at (drop (16 * atom) c)) within refl (is ∙ blocks_next c atom (tile_at (drop (16 * atom) c)) within refl)
  | inr past ↦ let none : u ∷ us ≡ [] = is ∙ blocks_end c atom past in absurd (cc)
]

pub tile_there : (ts : List Tile) (c : List ℕ) (atom q : ℕ) (t : Tile) → ts ≡ blocks_from c atom → tile_from atom ts q ≡ Some t → Stands c q t
tile_there [] c atom q t is at = absurd (cc)
tile_there (u ∷ us) c atom q t is at =
    let f = first_of c atom u us is in
    elim (cases_Bool (nat_eq q atom)) [
      | inl here ↦
          let one : Some u ≡ Some t = sym (ap (λ (b : Bool). cond b (Some u) (tile_from (atom + size u.extent) us q)) here) ∙ at in
          let same : u ≡ t = cc in
          let place : q ≡ atom = eqb-true q atom here in
          subst (λ (k : ℕ). Stands c k t) (sym place) (subst (λ (x : Tile). Stands c atom x) same f.stands)
      | inr other ↦ tile_there us c (atom + size u.extent) q t f.rest (sym (ap (λ (b : Bool). cond b (Some u) (tile_from (atom + size u.extent) us q)) other) ∙ at)
    ]

-- a used block is one
used_some : (c : List ℕ) (q : ℕ) → is_used (extent_at 8 (row_of (blocks_from c 8)) q) ≡ true → is_some (tile_from 8 (blocks_from c 8) q) ≡ true
used_some c q used = by_tile (tile_from 8 (blocks_from c 8) q) (sym (ap is_used (extent_there 8 (blocks_from c 8) q)) ∙ used)
  where
    by_tile : (o : Option Tile) → is_used (option_map (λ tile. tile.extent) o) ≡ true → is_some o ≡ true
    by_tile None is = absurd (false≢true is)
    by_tile (Some t) is = refl

-- what an unset bit says of an atom, and a set one
unset : (s u n : Bool) → (u ≡ true → s ≡ true) → (s && not (u && n)) ≡ false → ((u && not n) ≡ false) × ((s && not u) ≡ false)
unset false true n so is = absurd (false≢true (so refl))
unset false false n so is = (refl, refl)
unset true true true so is = (refl, refl)
unset true true false so is = absurd (false≢true (sym is))
unset true false n so is = absurd (false≢true (sym is))

set_bit : (s u n : Bool) → (s && not (u && n)) ≡ true → (s ≡ true) × ((u && not n) ≡ u)
set_bit false u n is = absurd (false≢true is)
set_bit true true true is = absurd (false≢true is)
set_bit true true false is = (refl, refl)
set_bit true false n is = (refl, refl)

all_named : (s u n : Bool) → (s && not u) ≡ (s && not (u && (true || n)))
all_named s true n = refl
all_named s false n = refl

-- the bits with a target as named: its own is that of a block that is not used, the others stay
named_more : (c named : List ℕ) (target : ℕ) (bits marks : Marks) (v : Bool) → Marked c named bits → ((q : ℕ) → is_set marks q ≡ with_mark (is_set bits) target v q) → v ≡ (is_some (tile_from 8 (blocks_from c 8) target) && not (is_used (extent_at 8 (row_of (blocks_from c 8)) target))) → Marked c (target ∷ named) marks
named_more c named target bits marks v m marked is = λ q. marked q ∙ at q
  where
    some : ℕ → Bool
    some q = is_some (tile_from 8 (blocks_from c 8) q)

    used : ℕ → Bool
    used q = is_used (extent_at 8 (row_of (blocks_from c 8)) q)

    at : (q : ℕ) → cond (nat_eq q target) v (is_set bits q) ≡ (some q && not (used q && (nat_eq q target || contains named q)))
    at q = elim (cases_Bool (nat_eq q target)) [
      | inl here ↦
          let same : target ≡ q = sym (eqb-true q target here) in
          ap (λ (b : Bool). cond b v (is_set bits q)) here ∙ is ∙ ap (λ (k : ℕ). some k && not (used k)) same ∙ all_named (some q) (used q) (contains named q) ∙ sym (ap (λ (b : Bool). some q && not (used q && (b || contains named q))) here)
      | inr other ↦ ap (λ (b : Bool). cond b v (is_set bits q)) other ∙ m q ∙ sym (ap (λ (b : Bool). some q && not (used q && (b || contains named q))) other)
    ]

-- the same where the bit stays
pub kept_mark : (bits : ℕ → Bool) (target : ℕ) (v : Bool) → bits target ≡ v → (q : ℕ) → bits q ≡ with_mark bits target v q
kept_mark bits target v is q = elim (cases_Bool (nat_eq q target)) [
  | inl here ↦ ap bits (eqb-true q target here) ∙ is ∙ sym (ap (λ (b : Bool). cond b v (bits q)) here)
  | inr other ↦ sym (ap (λ (b : Bool). cond b v (bits q)) other)
]

-- a target whose bit is not set is none
pub not_taken : (c named : List ℕ) (target : ℕ) (bits : Marks) → Marked c named bits → is_set bits target ≡ false → IsTaken c named target bits false
not_taken c named target bits m clear =
    let u = unset (is_some (tile_from 8 (blocks_from c 8) target)) (is_used (extent_at 8 (row_of (blocks_from c 8)) target)) (contains named target) (used_some c target) (sym (m target) ∙ clear) in
    record { right = sym u.0; marked = named_more c named target bits bits false m (kept_mark (is_set bits) target false clear) (sym u.1) }

-- no block begins behind the last atom
pub tile_past : (c : List ℕ) (target : ℕ) → length c / 16 ≤ target → tile_from 8 (blocks_from c 8) target ≡ None
tile_past c target past = none (tile_from 8 (blocks_from c 8) target) refl
  where
    none : (o : Option Tile) → tile_from 8 (blocks_from c 8) target ≡ o → tile_from 8 (blocks_from c 8) target ≡ None
    none None is = is
    none (Some t) is =
        let s = tile_there (blocks_from c 8) c 8 target t refl is in
        let f = measured t (drop (16 * target) c) s.at in
        let some = f.some in
        let within = f.within in
        let left = length-drop (16 * target) c in
        let low = s.within in
        absurd (omega (arith, past, some, within, left, low))

pub past_clear : (c named : List ℕ) (target : ℕ) (bits : Marks) → length c / 16 ≤ target → Marked c named bits → is_set bits target ≡ false
past_clear c named target bits past m = m target ∙ ap (λ (o : Option Tile). is_some o && not (is_used (extent_at 8 (row_of (blocks_from c 8)) target) && contains named target)) (tile_past c target past)

-- a target whose bit is set, by the block that is seen there
pub taken_by : (c named : List ℕ) (target : ℕ) (bits marks : Marks) (s : Seen) (r : Bool) → Marked c named bits → is_set bits target ≡ true → Some s ≡ option_map seen_of (tile_at (drop (16 * target) c)) → r ≡ nat_eq (one_used s) 1 → ((q : ℕ) → is_set marks q ≡ with_mark (is_set bits) target (not r) q) → IsTaken c named target marks r
taken_by c named target bits marks s r m set is used marked =
    let b = set_bit (is_some (tile_from 8 (blocks_from c 8) target)) (is_used (extent_at 8 (row_of (blocks_from c 8)) target)) (contains named target) (sym (m target) ∙ set) in
    let same : r ≡ is_used (extent_at 8 (row_of (blocks_from c 8)) target) = used ∙ by_tile (tile_from 8 (blocks_from c 8) target) refl b.0 in
    record {
      right = same ∙ sym b.1;
      marked = named_more c named target bits marks (not r) m marked (ap not same ∙ sym (ap (λ (x : Bool). x && not (is_used (extent_at 8 (row_of (blocks_from c 8)) target))) b.0));
    }
  where
    by_seen : (p n : ℕ) (e : Extent) → nat_eq (one_used (seen_as p n e)) 1 ≡ is_used (Some e)
    by_seen p n (Used content) = refl
    by_seen p n (Compressed content) = refl
    by_seen p n (Moved t) = refl
    by_seen p n (Free count) = refl
    by_seen p n (Hole count) = refl

    seen_same : (t : Tile) → Some s ≡ Some (seen_of t) → s ≡ seen_of t
    seen_same t is = cc

    by_tile : (o : Option Tile) → tile_from 8 (blocks_from c 8) target ≡ o → is_some o ≡ true → nat_eq (one_used s) 1 ≡ is_used (extent_at 8 (row_of (blocks_from c 8)) target)
    by_tile None at some = absurd (false≢true some)
    by_tile (Some t) at some =
        let st = tile_there (blocks_from c 8) c 8 target t refl at in
        let one : s ≡ seen_of t = seen_same t (is ∙ ap (option_map seen_of) st.at) in
        ap (λ (x : Seen). nat_eq (one_used x) 1) one ∙ by_seen t.previous t.next t.extent ∙ sym (ap is_used (extent_there 8 (blocks_from c 8) target ∙ ap (option_map (λ (x : Tile). x.extent)) at))

-- a bit that is set where no block is seen
pub taken_none : (c named : List ℕ) (target : ℕ) (bits : Marks) → Marked c named bits → is_set bits target ≡ true → None ≡ option_map seen_of (tile_at (drop (16 * target) c)) → ⊥
taken_none c named target bits m set is =
    let b = set_bit (is_some (tile_from 8 (blocks_from c 8) target)) (is_used (extent_at 8 (row_of (blocks_from c 8)) target)) (contains named target) (sym (m target) ∙ set) in
    by_tile (tile_from 8 (blocks_from c 8) target) refl b.0
  where
    by_tile : (o : Option Tile) → tile_from 8 (blocks_from c 8) target ≡ o → is_some o ≡ true → ⊥
    by_tile None at some = false≢true some
    by_tile (Some t) at some =
        let st = tile_there (blocks_from c 8) c 8 target t refl at in
        let no : None ≡ Some (seen_of t) = is ∙ ap (option_map seen_of) st.at in
        absurd (cc)

-- the same, where a content is told
pub taken_past : (told : Option (List ℕ)) (size target : ℕ) (bits : Marks) → IfSome told (λ c. length c ≡ size) → size / 16 ≤ target → IfSome told (λ c. (named : List ℕ) → Marked c named bits → IsTaken c named target bits false)
taken_past None size target bits long past = tt
taken_past (Some c) size target bits long past = λ named m. not_taken c named target bits m (past_clear c named target bits (omega (arith, long, past)) m)

pub taken_unset : (told : Option (List ℕ)) (target : ℕ) (bits : Marks) → is_set bits target ≡ false → IfSome told (λ c. (named : List ℕ) → Marked c named bits → IsTaken c named target bits false)
taken_unset None target bits clear = tt
taken_unset (Some c) target bits clear = λ named m. not_taken c named target bits m clear

pub taken_seen : (told : Option (List ℕ)) (target : ℕ) (bits marks : Marks) (s : Seen) (r : Bool) → is_set bits target ≡ true → IfSome told (λ c. Some s ≡ option_map seen_of (tile_at (drop (16 * target) c))) → r ≡ nat_eq (one_used s) 1 → ((q : ℕ) → is_set marks q ≡ with_mark (is_set bits) target (not r) q)
    → IfSome told (λ c. (named : List ℕ) → Marked c named bits → IsTaken c named target marks r)
taken_seen None target bits marks s r set is used marked = tt
taken_seen (Some c) target bits marks s r set is used marked = λ named m. taken_by c named target bits marks s r m set is used marked

pub taken_not : (told : Option (List ℕ)) (target : ℕ) (bits : Marks) → is_set bits target ≡ true → IfSome told (λ c. None ≡ option_map seen_of (tile_at (drop (16 * target) c))) → IfSome told (λ c. (named : List ℕ) → Marked c named bits → IsTaken c named target bits false)
taken_not None target bits set is = tt
taken_not (Some c) target bits set is = λ named m. absurd (taken_none c named target bits m set is)

-- a device's refusal is one
pub of_device : (t : Trouble) → OfDevice {T = Unit {0}} (Err (fault_of t))
of_device trouble.Failed = tt
of_device trouble.NoMemory = tt
of_device (trouble.Full a b) = tt
of_device trouble.Damaged = tt

pub device_more : (T U : Type 0) (e : VerifyFault) → OfDevice {T = T} (Err e) → OfDevice {T = U} (Err e)
device_more T U (fault.Found count) h = h
device_more T U (fault.Stopped last) h = h
device_more T U fault.Failed h = tt
device_more T U fault.NoMemory h = tt

-- what is found at a relocated block, by whether it may name its target
pub found_right : (told : Option (List ℕ)) (atom target : ℕ) (bits marks : Marks) (r : Bool) → r ≡ true → IfSome told (λ c. (named : List ℕ) → Marked c named bits → IsTaken c named target marks r) → IfSome told (λ c. (named : List ℕ) → Marked c named bits → IsFound c named atom (Moved target) marks None)
found_right None atom target bits marks r good taken = tt
found_right (Some c) atom target bits marks r good taken = λ named m.
    let t = taken named m in
    record { told = sym (ap (λ (b : Bool). unless b (finding.BadTarget atom target)) (sym t.right ∙ good)); marked = t.marked }

pub found_wrong : (told : Option (List ℕ)) (atom target : ℕ) (bits marks : Marks) (r : Bool) → r ≡ false → IfSome told (λ c. (named : List ℕ) → Marked c named bits → IsTaken c named target marks r) → IfSome told (λ c. (named : List ℕ) → Marked c named bits → IsFound c named atom (Moved target) marks (Some (finding.BadTarget atom target)))
found_wrong None atom target bits marks r bad taken = tt
found_wrong (Some c) atom target bits marks r bad taken = λ named m.
    let t = taken named m in
    record { told = sym (ap (λ (b : Bool). unless b (finding.BadTarget atom target)) (sym t.right ∙ bad)); marked = t.marked }

-- the same of the block that is seen there
moved_by : (c named : List ℕ) (atom target p n : ℕ) (e : Extent) (marks : Marks) (found : Option Finding) → seen.Relocated target ≡ seen_as p n e → IsFound c named atom (Moved target) marks found → IsFound c named atom e marks found
moved_by c named atom target p n (Used content) marks found is f = absurd (cc)
moved_by c named atom target p n (Compressed content) marks found is f = absurd (cc)
moved_by c named atom target p n (Moved t) marks found is f = let same : target ≡ t = cc in subst (λ (k : ℕ). IsFound c named atom (Moved k) marks found) same f
moved_by c named atom target p n (Free count) marks found is f = absurd (cc)
moved_by c named atom target p n (Hole count) marks found is f = absurd (cc)

pub found_moved : (told : Option (List ℕ)) (atom target : ℕ) (bits marks : Marks) (found : Option Finding) (s : Seen) → s ≡ seen.Relocated target → IfSome told (λ c. (named : List ℕ) → Marked c named bits → IsFound c named atom (Moved target) marks found)
    → IfSome told (λ c. (named : List ℕ) (p n : ℕ) (e : Extent) → s ≡ seen_as p n e → Marked c named bits → IsFound c named atom e marks found)
found_moved None atom target bits marks found s is f = tt
found_moved (Some c) atom target bits marks found s is f = λ named p n e seen m. moved_by c named atom target p n e marks found (sym is ∙ seen) (f named m)

other_by : (c named : List ℕ) (atom p n : ℕ) (e : Extent) (bits : Marks) → one_moved (seen_as p n e) ≡ 0 → Marked c named bits → IsFound c named atom e bits None
other_by c named atom p n (Used content) bits not m = record { told = refl; marked = m }
other_by c named atom p n (Compressed content) bits not m = record { told = refl; marked = m }
other_by c named atom p n (Moved t) bits not m = absurd (cc)
other_by c named atom p n (Free count) bits not m = record { told = refl; marked = m }
other_by c named atom p n (Hole count) bits not m = record { told = refl; marked = m }

pub found_other : (told : Option (List ℕ)) (atom : ℕ) (bits : Marks) (s : Seen) → one_moved s ≡ 0 → IfSome told (λ c. (named : List ℕ) (p n : ℕ) (e : Extent) → s ≡ seen_as p n e → Marked c named bits → IsFound c named atom e bits None)
found_other None atom bits s not = tt
found_other (Some c) atom bits s not = λ named p n e seen m. other_by c named atom p n e bits (sym (ap one_moved seen) ∙ not) m

-- behind a block the pass stands at the next one
aim_next : (c : List ℕ) (all now later : List Finding) (atom : ℕ) (bits marks : Marks) (tile : Tile) (found : Option Finding) → blocks_from c atom ≡ tile ∷ blocks_from c (atom + size tile.extent) → (a : Aiming c all atom bits now) → IsFound c a.named atom tile.extent marks found → later ≡ now ++ kept_one found → Aiming c all (atom + size tile.extent) marks later
aim_next c all now later atom bits marks tile found more a f is =
    let row : List Extent = row_of (blocks_from c 8) in
    let rest : List Extent = row_of (blocks_from c (atom + size tile.extent)) in
    let e : Extent = tile.extent in
    record {
      named = target_of e ++ a.named;
      told = a.told ∙ ap (λ (ts : List Tile). now ++ of_targets row a.named atom (row_of ts)) more
          ∙ ap (λ (fs : List Finding). now ++ (fs ++ of_targets row (target_of e ++ a.named) (atom + size e) rest)) (sym f.told)
          ∙ sym (append_assoc now (kept_one found) (of_targets row (target_of e ++ a.named) (atom + size e) rest))
          ∙ ap (λ (fs : List Finding). fs ++ of_targets row (target_of e ++ a.named) (atom + size e) rest) (sym is);
      marked = f.marked;
      names = λ q. moved_over e a.named (targets rest) q ∙ sym (ap (λ (ts : List Tile). contains a.named q || contains (targets (row_of ts)) q) more) ∙ a.names q;
    }
  where
    or_over : (x n t : Bool) → ((x || n) || t) ≡ (n || (x || t))
    or_over true true t = refl
    or_over true false t = refl
    or_over false n t = refl

    moved_over : (e : Extent) (named ts : List ℕ) (q : ℕ) → (contains (target_of e ++ named) q || contains ts q) ≡ (contains named q || contains (target_of e ++ ts) q)
    moved_over (Used content) named ts q = refl
    moved_over (Compressed content) named ts q = refl
    moved_over (Moved t) named ts q = or_over (nat_eq q t) (contains named q) (contains ts q)
    moved_over (Free count) named ts q = refl
    moved_over (Hole count) named ts q = refl

pub aim_went : (told : Option (List ℕ)) (total atom next : ℕ) (bits marks : Marks) (now later : List Finding) (s : Seen) (found : Option Finding) → IfSome told (λ c. length c ≡ total) → atom < total / 16 → IfSome told (λ c. Some s ≡ option_map seen_of (tile_at (drop (16 * atom) c)))
    → IfSome told (λ c. (named : List ℕ) (p n : ℕ) (e : Extent) → s ≡ seen_as p n e → Marked c named bits → IsFound c named atom e marks found) → later ≡ now ++ kept_one found → next ≡ atom + seen_atoms s
    → IfSome told (λ c. (all : List Finding) → Aiming c all atom bits now → Aiming c all next marks later)
aim_went None total atom next bits marks now later s found long within is f more to = tt
aim_went (Some c) total atom next bits marks now later s found long within is f more to = λ all a.
    let t = seen_there c atom s (tile_at (drop (16 * atom) c)) refl is in
    let there : blocks_from c atom ≡ t.tile ∷ blocks_from c (atom + size t.tile.extent) = blocks_next c atom (Some t.tile) (omega (arith, within, long)) t.at in
    let place : atom + size t.tile.extent ≡ next = ap (λ (k : ℕ). atom + k) (sym (ap seen_atoms t.seen_is ∙ atoms_seen t.tile.previous t.tile.next t.tile.extent)) ∙ sym to in
    subst (λ (k : ℕ). Aiming c all k marks later) place (aim_next c all now later atom bits marks t.tile found there a (f a.named t.tile.previous t.tile.next t.tile.extent t.seen_is a.marked) more)

pub aim_stopped : (told : Option (List ℕ)) (total atom : ℕ) (bits marks : Marks) (now later : List Finding) (s : Seen) (found : Option Finding) (bound : Option ℕ) (e : VerifyFault) → IfSome told (λ c. length c ≡ total) → atom < total / 16 → IfSome told (λ c. Some s ≡ option_map seen_of (tile_at (drop (16 * atom) c)))
    → IfSome told (λ c. (named : List ℕ) (p n : ℕ) (e : Extent) → s ≡ seen_as p n e → Marked c named bits → IsFound c named atom e marks found) → Tells {T = Unit {0}} (now ++ kept_one found) bound later (Err e)
    → IfSome told (λ c. (all : List Finding) → Aiming c all atom bits now → Tells {T = Unit {0}} all bound later (Err e))
aim_stopped None total atom bits marks now later s found bound e long within is f t = tt
aim_stopped (Some c) total atom bits marks now later s found bound e long within is f t = λ all a.
    let u = seen_there c atom s (tile_at (drop (16 * atom) c)) refl is in
    let there : blocks_from c atom ≡ u.tile ∷ blocks_from c (atom + size u.tile.extent) = blocks_next c atom (Some u.tile) (omega (arith, within, long)) u.at in
    let next = aim_next c all now (now ++ kept_one found) atom bits marks u.tile found there a (f a.named u.tile.previous u.tile.next u.tile.extent u.seen_is a.marked) refl in
    stopped_more (now ++ kept_one found) (of_targets (row_of (blocks_from c 8)) next.named (atom + size u.tile.extent) (row_of (blocks_from c (atom + size u.tile.extent)))) all later bound e next.told t

-- a refusal before anything is told
pub front_refused : (all now rest : List Finding) (bound : Option ℕ) (e : VerifyFault) → all ≡ now ++ rest → OfDevice {T = Unit {0}} (Err e) → Tells {T = Unit {0}} all bound now (Err e)
front_refused all now rest bound (fault.Found count) is h = h
front_refused all now rest bound (fault.Stopped last) is h = absurd h
front_refused all now rest bound fault.Failed is h = record { rest = rest; whole = is }
front_refused all now rest bound fault.NoMemory is h = record { rest = rest; whole = is }

pub aim_refused : (told : Option (List ℕ)) (atom : ℕ) (bits : Marks) (now : List Finding) (bound : Option ℕ) (e : VerifyFault) → OfDevice {T = Unit {0}} (Err e) → IfSome told (λ c. (all : List Finding) → Aiming c all atom bits now → Tells {T = Unit {0}} all bound now (Err e))
aim_refused None atom bits now bound e h = tt
aim_refused (Some c) atom bits now bound e h = λ all a. front_refused all now _ bound e a.told h

-- no block begins there: the pass is at its end
pub aim_end : (told : Option (List ℕ)) (total atom end : ℕ) (bits : Marks) (now : List Finding) → IfSome told (λ c. length c ≡ total) → total % 16 ≡ 0 → atom < total / 16 → end ≡ total / 16 → IfSome told (λ c. None ≡ option_map seen_of (tile_at (drop (16 * atom) c)))
    → IfSome told (λ c. (all : List Finding) → Aiming c all atom bits now → Aiming c all end bits now)
aim_end None total atom end bits now long even within to is = tt
aim_end (Some c) total atom end bits now long even within to is = λ all a.
    let parts = mod-add-div' total 16 in
    let here : blocks_from c atom ≡ [] = blocks_next c atom None (omega (arith, within, long)) (none_there c atom (tile_at (drop (16 * atom) c)) refl is) in
    let there : blocks_from c end ≡ [] = blocks_end c end (omega (arith, even, to, parts, long)) in
    record {
      named = a.named;
      told = a.told ∙ ap (λ (ts : List Tile). now ++ of_targets (row_of (blocks_from c 8)) a.named atom (row_of ts)) here ∙ sym (ap (λ (ts : List Tile). now ++ of_targets (row_of (blocks_from c 8)) a.named end (row_of ts)) there);
      marked = a.marked;
      names = λ q. ap (λ (ts : List Tile). contains a.named q || contains (targets (row_of ts)) q) there ∙ sym (ap (λ (ts : List Tile). contains a.named q || contains (targets (row_of ts)) q) here) ∙ a.names q;
    }

-- the second pass at its start, behind a step, and at its end
pub aim_first : (told : Option (List ℕ)) (bits : Marks) (now : List Finding) → IfSome told (λ c. (q : ℕ) → is_set bits q ≡ is_some (tile_from 8 (blocks_from c 8) q)) → IfSome told (λ c. Aiming c (now ++ of_targets (row_of (blocks_from c 8)) [] 8 (row_of (blocks_from c 8))) 8 bits now)
aim_first None bits now m = tt
aim_first (Some c) bits now m = record { named = []; told = refl; marked = λ q. m q ∙ none_named (is_some (tile_from 8 (blocks_from c 8) q)) (is_used (extent_at 8 (row_of (blocks_from c 8)) q)); names = λ q. refl }
  where
    none_named : (s u : Bool) → s ≡ (s && not (u && false))
    none_named true true = refl
    none_named true false = refl
    none_named false u = refl

pub aim_on : (goal : List ℕ → List Finding) (told here : Option (List ℕ)) (atom next : ℕ) (bits marks : Marks) (now later : List Finding) (bound : Option ℕ) → here ≡ told → IfSome here (λ c. (all : List Finding) → Aiming c all atom bits now → Aims c all bound marks later (Ok next)) → IfSome told (λ c. Aiming c (goal c) atom bits now) → IfSome told (λ c. Aiming c (goal c) next marks later)
aim_on goal None here atom next bits marks now later bound same went a = tt
aim_on goal (Some c) here atom next bits marks now later bound same went a =
    let there : IfSome (Some c) (λ c. (all : List Finding) → Aiming c all atom bits now → Aims c all bound marks later (Ok next)) = subst (λ (o : Option (List ℕ)). IfSome o (λ c. (all : List Finding) → Aiming c all atom bits now → Aims c all bound marks later (Ok next))) same went in
    there (goal c) a

pub aim_wrong : (goal : List ℕ → List Finding) (told here : Option (List ℕ)) (atom : ℕ) (bits marks : Marks) (now later : List Finding) (bound most : Option ℕ) (e : VerifyFault) → here ≡ told → bound ≡ most → IfSome here (λ c. (all : List Finding) → Aiming c all atom bits now → Aims c all bound marks later (Err e)) → IfSome told (λ c. Aiming c (goal c) atom bits now) → IfSome told (λ c. Tells {T = Unit {0}} (goal c) most later (Err e))
aim_wrong goal None here atom bits marks now later bound most e same is went a = tt
aim_wrong goal (Some c) here atom bits marks now later bound most e same is went a =
    let there : IfSome (Some c) (λ c. (all : List Finding) → Aiming c all atom bits now → Aims c all bound marks later (Err e)) = subst (λ (o : Option (List ℕ)). IfSome o (λ c. (all : List Finding) → Aiming c all atom bits now → Aims c all bound marks later (Err e))) same went in
    subst (λ (o : Option ℕ). Tells {T = Unit {0}} (goal c) o later (Err e)) is (there (goal c) a)

pub all_aimed : (goal : List ℕ → List Finding) (told : Option (List ℕ)) (total atom : ℕ) (bits : Marks) (now : List Finding) (bound : Option ℕ) (u : Unit {0}) → IfSome told (λ c. length c ≡ total) → total % 16 ≡ 0 → atom ≡ total / 16 → IfSome told (λ c. Aiming c (goal c) atom bits now) → IfSome told (λ c. AllAimed c (goal c) bound bits now (Ok u))
all_aimed goal None total atom bits now bound u long even at a = tt
all_aimed goal (Some c) total atom bits now bound u long even at a =
    let parts = mod-add-div' total 16 in
    let there : blocks_from c atom ≡ [] = blocks_end c atom (omega (arith, even, at, parts, long)) in
    let names : (q : ℕ) → contains a.named q ≡ contains (targets (row_of (blocks_from c 8))) q =
    λ q. sym (or_false (contains a.named q)) ∙ sym (ap (λ (ts : List Tile). contains a.named q || contains (targets (row_of ts)) q) there) ∙ a.names q in (
      sym (a.told ∙ ap (λ (ts : List Tile). now ++ of_targets (row_of (blocks_from c 8)) a.named atom (row_of ts)) there ∙ append-nil now),
      λ q. a.marked q ∙ ap (λ (b : Bool). is_some (tile_from 8 (blocks_from c 8) q) && not (is_used (extent_at 8 (row_of (blocks_from c 8)) q) && b)) (names q),
    )
  where
    or_false : (b : Bool) → (b || false) ≡ b
    or_false true = refl
    or_false false = refl
