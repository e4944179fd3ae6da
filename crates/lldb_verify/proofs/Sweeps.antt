-- How the last pass goes from block to block.
use Rattle.std.proofs.Common.{◌≡◌, ℕ, ◌+◌, ◌*◌, ◌/◌, ◌%◌, ◌<◌, Bool, true, false, not, cond, ◌&&◌, ◌||◌, List, [], ◌∷◌, ◌++◌, length, drop, Option, Some, None, IfSome, Ok, Err, is_some, option_map, refl, sym, ◌∙◌, ap, subst, append_assoc, arith, nat_eq}
use Rattle.std.proofs.Math.Nat.{mod-add-div'}
use Rattle.std.proofs.lemmas.List.{append-nil}
use Rattle.std.proofs.lemmas.Bool.{eq-eqb, false≢true}
use Rattle.lldb_atoms.specs.Blocks.{Extent, Used, Compressed, Moved, Free, Hole, Tile, size, is_free, tile_at}
use Rattle.lldb_atoms.specs.Laws.{is_block}
use Rattle.lldb_atoms.specs.Rows.{contains, targets}
use Rattle.lldb_atoms.specs.Lists.{row_of, tile_from}
use Rattle.lldb_verify.specs.declared.finding.Finding.{Finding}
use Rattle.lldb_verify.specs.declared.finding.Finding.TheVariants as finding
use Rattle.lldb_verify.specs.declared.finding.VerifyFault.{VerifyFault}
use Rattle.lldb_verify.specs.declared.seen.Seen.{Seen}
use Rattle.lldb_verify.specs.Findings.{unless, is_used, of_free, of_unlisted}
use Rattle.lldb_verify.specs.Logs.{has_room}
use Rattle.lldb_verify.specs.Marks.{Marks, is_set}
use Rattle.lldb_verify.specs.Met.{Unmet, left_over, Sweeping, Sweeps}
use Rattle.lldb_verify.specs.Passes.{blocks_from}
use Rattle.lldb_verify.specs.Reads.{seen_as, seen_of, seen_atoms}
use Rattle.lldb_verify.specs.Told.{Tells, OfDevice}
use Rattle.lldb_verify.proofs.Walks.{extent_there}
use Rattle.lldb_verify.proofs.Ahead.{blocks_next, blocks_end, atoms_seen, seen_there, none_there, stopped_more}
use Rattle.lldb_verify.proofs.Aims.{tile_there, front_refused}

-- what is found at a block, by its bit
by_extent : (atom p n : ℕ) (e : Extent) (named m b : Bool) → is_block e ≡ true → b ≡ (not (is_used (Some e) && named) && not m) → left_over b atom (seen_as p n e) ≡ unless (not (is_free e) || m) (finding.Unlisted atom)
by_extent atom p n (Used content) named m b stands is = refl
by_extent atom p n (Compressed content) named m b stands is = refl
by_extent atom p n (Moved target) named m b stands is = refl
by_extent atom p n (Free s) named m b stands is = ap (λ (x : Bool). cond x (finding.Unlisted atom ∷ []) []) is ∙ turned m
  where
    turned : (m : Bool) → cond (not m) (finding.Unlisted atom ∷ []) [] ≡ cond m [] (finding.Unlisted atom ∷ [])
    turned true = refl
    turned false = refl
by_extent atom p n (Hole s) named m b stands is = absurd (cc)

by_bit : (c met : List ℕ) (atom : ℕ) (bits : Marks) (t : Tile) → Unmet c met bits → tile_from 8 (blocks_from c 8) atom ≡ Some t → is_block t.extent ≡ true → left_over (is_set bits atom) atom (seen_of t) ≡ of_free met atom t.extent
by_bit c met atom bits t m there stands =
    let named : Bool = contains (targets (row_of (blocks_from c 8))) atom in
    by_extent atom t.previous t.next t.extent named (contains met atom) (is_set bits atom) stands
    (m atom ∙ ap (λ (o : Option Extent). (is_some (tile_from 8 (blocks_from c 8) atom) && not (is_used o && named)) && not (contains met atom)) (extent_there 8 (blocks_from c 8) atom)
    ∙ ap (λ (o : Option Tile). (is_some o && not (is_used (option_map (λ tile. tile.extent) o) && named)) && not (contains met atom)) there)

-- the block at which the pass stands is one of those from the front
there_too : (c : List ℕ) (atom : ℕ) (t : Tile) (o : Option Tile) → tile_at (drop (16 * atom) c) ≡ Some t → tile_from 8 (blocks_from c 8) atom ≡ o → is_some o ≡ true → tile_from 8 (blocks_from c 8) atom ≡ Some t
there_too c atom t None at is some = absurd (false≢true some)
there_too c atom t (Some u) at is some = is ∙ sym (tile_there (blocks_from c 8) c 8 atom u refl is).at ∙ at

sweep_next : (c met : List ℕ) (all now later : List Finding) (atom : ℕ) (bits : Marks) (t : Tile) → Unmet c met bits → is_block t.extent ≡ true → tile_at (drop (16 * atom) c) ≡ Some t → blocks_from c atom ≡ t ∷ blocks_from c (atom + size t.extent) → later ≡ now ++ left_over (is_set bits atom) atom (seen_of t)
    → Sweeping c met all atom now → Sweeping c met all (atom + size t.extent) later
sweep_next c met all now later atom bits t m stands at more is a =
    let rest : List Tile = blocks_from c (atom + size t.extent) in
    let behind : List Finding = of_unlisted met (atom + size t.extent) (row_of rest) in
    let own : is_some (tile_from atom (blocks_from c atom) atom) ≡ true = ap (λ (ts : List Tile). is_some (tile_from atom ts atom)) more ∙ ap (λ (b : Bool). is_some (cond b (Some t) (tile_from (atom + size t.extent) rest atom))) (eq-eqb atom atom refl) in
    let there : tile_from 8 (blocks_from c 8) atom ≡ Some t = there_too c atom t (tile_from 8 (blocks_from c 8) atom) at refl (a.inner atom own) in
    record {
      told = a.told ∙ ap (λ (ts : List Tile). now ++ of_unlisted met atom (row_of ts)) more
          ∙ ap (λ (fs : List Finding). now ++ (fs ++ behind)) (sym (by_bit c met atom bits t m there stands))
          ∙ sym (append_assoc now (left_over (is_set bits atom) atom (seen_of t)) behind)
          ∙ ap (λ (fs : List Finding). fs ++ behind) (sym is);
      inner = λ q some. a.inner q (ap (λ (ts : List Tile). is_some (tile_from atom ts q)) more ∙ kept (nat_eq q atom) (tile_from (atom + size t.extent) rest q) some);
    }
  where
    kept : (b : Bool) (o : Option Tile) → is_some o ≡ true → is_some (cond b (Some t) o) ≡ true
    kept true o some = refl
    kept false o some = some

pub sweep_went : (told : Option (List ℕ)) (total atom next : ℕ) (bits : Marks) (now later : List Finding) (s : Seen) → IfSome told (λ c. length c ≡ total) → atom < total / 16 → IfSome told (λ c. Some s ≡ option_map seen_of (tile_at (drop (16 * atom) c))) → later ≡ now ++ left_over (is_set bits atom) atom s → next ≡ atom + seen_atoms s
    → IfSome told (λ c. (met : List ℕ) (all : List Finding) → Unmet c met bits → Sweeping c met all atom now → Sweeping c met all next later)
sweep_went None total atom next bits now later s long within is more to = tt
sweep_went (Some c) total atom next bits now later s long within is more to = λ met all m a.
    let t = seen_there c atom s (tile_at (drop (16 * atom) c)) refl is in
    let there : blocks_from c atom ≡ t.tile ∷ blocks_from c (atom + size t.tile.extent) = blocks_next c atom (Some t.tile) (omega (arith, within, long)) t.at in
    let place : atom + size t.tile.extent ≡ next = ap (λ (k : ℕ). atom + k) (sym (ap seen_atoms t.seen_is ∙ atoms_seen t.tile.previous t.tile.next t.tile.extent)) ∙ sym to in
    subst (λ (k : ℕ). Sweeping c met all k later) place (sweep_next c met all now later atom bits t.tile m t.stands t.at there (more ∙ ap (λ (x : Seen). now ++ left_over (is_set bits atom) atom x) t.seen_is) a)

pub sweep_stopped : (told : Option (List ℕ)) (total atom : ℕ) (bits : Marks) (now found later : List Finding) (s : Seen) (bound : Option ℕ) (e : VerifyFault) → IfSome told (λ c. length c ≡ total) → atom < total / 16 → IfSome told (λ c. Some s ≡ option_map seen_of (tile_at (drop (16 * atom) c))) → found ≡ left_over (is_set bits atom) atom s
    → Tells {T = Unit {0}} (now ++ found) bound later (Err e) → IfSome told (λ c. (met : List ℕ) (all : List Finding) → Unmet c met bits → Sweeping c met all atom now → Tells {T = Unit {0}} all bound later (Err e))
sweep_stopped None total atom bits now found later s bound e long within is here t = tt
sweep_stopped (Some c) total atom bits now found later s bound e long within is here t = λ met all m a.
    let u = seen_there c atom s (tile_at (drop (16 * atom) c)) refl is in
    let there : blocks_from c atom ≡ u.tile ∷ blocks_from c (atom + size u.tile.extent) = blocks_next c atom (Some u.tile) (omega (arith, within, long)) u.at in
    let next = sweep_next c met all now (now ++ found) atom bits u.tile m u.stands u.at there (ap (λ (fs : List Finding). now ++ fs) (here ∙ ap (left_over (is_set bits atom) atom) u.seen_is)) a in
    stopped_more (now ++ found) (of_unlisted met (atom + size u.tile.extent) (row_of (blocks_from c (atom + size u.tile.extent)))) all later bound e next.told t

pub sweep_refused : (told : Option (List ℕ)) (atom : ℕ) (bits : Marks) (now : List Finding) (bound : Option ℕ) (e : VerifyFault) → OfDevice {T = Unit {0}} (Err e) → IfSome told (λ c. (met : List ℕ) (all : List Finding) → Unmet c met bits → Sweeping c met all atom now → Tells {T = Unit {0}} all bound now (Err e))
sweep_refused None atom bits now bound e h = tt
sweep_refused (Some c) atom bits now bound e h = λ met all m a. front_refused all now _ bound e a.told h

-- no block begins there: the pass is at its end
pub sweep_end : (told : Option (List ℕ)) (total atom end : ℕ) (bits : Marks) (now : List Finding) → IfSome told (λ c. length c ≡ total) → total % 16 ≡ 0 → atom < total / 16 → end ≡ total / 16 → IfSome told (λ c. None ≡ option_map seen_of (tile_at (drop (16 * atom) c)))
    → IfSome told (λ c. (met : List ℕ) (all : List Finding) → Unmet c met bits → Sweeping c met all atom now → Sweeping c met all end now)
sweep_end None total atom end bits now long even within to is = tt
sweep_end (Some c) total atom end bits now long even within to is = λ met all m a.
    let parts = mod-add-div' total 16 in
    let here : blocks_from c atom ≡ [] = blocks_next c atom None (omega (arith, within, long)) (none_there c atom (tile_at (drop (16 * atom) c)) refl is) in
    let there : blocks_from c end ≡ [] = blocks_end c end (omega (arith, even, to, parts, long)) in
    record {
      told = a.told ∙ ap (λ (ts : List Tile). now ++ of_unlisted met atom (row_of ts)) here ∙ sym (ap (λ (ts : List Tile). now ++ of_unlisted met end (row_of ts)) there);
      inner = λ q some. let none : is_some (tile_from end (blocks_from c end) q) ≡ false = ap (λ (ts : List Tile). is_some (tile_from end ts q)) there in absurd (false≢true (sym none ∙ some));
    }

-- the last pass at its start, behind a step, and at its end
abbrev pub Swept : Option (List ℕ) → Marks → List Finding → ℕ → List Finding → Type 0
Swept told bits before atom now = IfSome told (λ c. (met : List ℕ) → Unmet c met bits → Sweeping c met (before ++ of_unlisted met 8 (row_of (blocks_from c 8))) atom now)

pub sweep_first : (told : Option (List ℕ)) (bits : Marks) (now : List Finding) → Swept told bits now 8 now
sweep_first None bits now = tt
sweep_first (Some c) bits now = λ met m. record { told = refl; inner = λ q some. some }

pub sweep_on : (told here : Option (List ℕ)) (atom next : ℕ) (bits : Marks) (before now later : List Finding) (bound : Option ℕ) → here ≡ told → IfSome here (λ c. (met : List ℕ) (all : List Finding) → Unmet c met bits → Sweeping c met all atom now → Sweeps c met all bound later (Ok next)) → Swept told bits before atom now → Swept told bits before next later
sweep_on None here atom next bits before now later bound same went a = tt
sweep_on (Some c) here atom next bits before now later bound same went a = λ met m.
    let there : IfSome (Some c) (λ c. (met : List ℕ) (all : List Finding) → Unmet c met bits → Sweeping c met all atom now → Sweeps c met all bound later (Ok next)) = subst (λ (o : Option (List ℕ)). IfSome o (λ c. (met : List ℕ) (all : List Finding) → Unmet c met bits → Sweeping c met all atom now → Sweeps c met all bound later (Ok next))) same went in
    there met (before ++ of_unlisted met 8 (row_of (blocks_from c 8))) m (a met m)

abbrev pub SweptTo : Option (List ℕ) → Marks → List Finding → Option ℕ → List Finding → VerifyFault → Type 0
SweptTo told bits before bound now e = IfSome told (λ c. (met : List ℕ) → Unmet c met bits → Tells {T = Unit {0}} (before ++ of_unlisted met 8 (row_of (blocks_from c 8))) bound now (Err e))

pub sweep_wrong : (told here : Option (List ℕ)) (atom : ℕ) (bits : Marks) (before now later : List Finding) (bound most : Option ℕ) (e : VerifyFault) → here ≡ told → bound ≡ most → IfSome here (λ c. (met : List ℕ) (all : List Finding) → Unmet c met bits → Sweeping c met all atom now → Sweeps c met all bound later (Err e)) → Swept told bits before atom now → SweptTo told bits before most later e
sweep_wrong None here atom bits before now later bound most e same is went a = tt
sweep_wrong (Some c) here atom bits before now later bound most e same is went a = λ met m.
    let there : IfSome (Some c) (λ c. (met : List ℕ) (all : List Finding) → Unmet c met bits → Sweeping c met all atom now → Sweeps c met all bound later (Err e)) = subst (λ (o : Option (List ℕ)). IfSome o (λ c. (met : List ℕ) (all : List Finding) → Unmet c met bits → Sweeping c met all atom now → Sweeps c met all bound later (Err e))) same went in
    subst (λ (o : Option ℕ). Tells {T = Unit {0}} (before ++ of_unlisted met 8 (row_of (blocks_from c 8))) o later (Err e)) is (there met (before ++ of_unlisted met 8 (row_of (blocks_from c 8))) m (a met m))

pub all_swept : (told : Option (List ℕ)) (total atom : ℕ) (bits : Marks) (before now : List Finding) (bound : Option ℕ) (u : Unit {0}) → IfSome told (λ c. length c ≡ total) → total % 16 ≡ 0 → atom ≡ total / 16 → has_room bound (length now) ≡ true → Swept told bits before atom now
    → IfSome told (λ c. (met : List ℕ) → Unmet c met bits → Tells (before ++ of_unlisted met 8 (row_of (blocks_from c 8))) bound now (Ok u))
all_swept None total atom bits before now bound u long even at room a = tt
all_swept (Some c) total atom bits before now bound u long even at room a = λ met m.
    let parts = mod-add-div' total 16 in
    let there : blocks_from c atom ≡ [] = blocks_end c atom (omega (arith, even, at, parts, long)) in
    let s = a met m in
    (sym (s.told ∙ ap (λ (ts : List Tile). now ++ of_unlisted met atom (row_of ts)) there ∙ append-nil now), room)
