-- How the third pass follows the lists.
use Rattle.std.proofs.Common.{◌≡◌, ℕ, zero, suc, ◌+◌, ◌*◌, ◌/◌, ◌≤◌, inl, inr, Bool, true, false, not, cond, ◌&&◌, ◌||◌, List, [], ◌∷◌, ◌++◌, length, drop, take, Option, Some, None, IfSome, Ok, Err, is_some, is_none, option_map, refl, sym, ◌∙◌, ap, subst, append_assoc, get_or, arith, nat_eq}
use Rattle.std.proofs.lemmas.List.{append-nil, get_or-take}
use Rattle.std.proofs.lemmas.Bool.{cases_Bool, and_parts, false≢true}
use Rattle.byteorder.specs.Endian.{big_number}
use Rattle.lldb_atoms.specs.Numbers.{number_in}
use Rattle.lldb_atoms.specs.Blocks.{Extent, Used, Compressed, Moved, Free, Hole, Tile, tile_at}
use Rattle.lldb_atoms.specs.Laws.{is_block}
use Rattle.lldb_atoms.specs.Rows.{extent_at, contains, targets}
use Rattle.lldb_atoms.specs.Lists.{in_class, row_of, tile_from, list_head}
use Rattle.lldb_blocks.proofs.Places.{same_number}
use Rattle.lldb_verify.specs.declared.finding.Finding.{Finding}
use Rattle.lldb_verify.specs.declared.finding.Finding.TheVariants as finding
use Rattle.lldb_verify.specs.declared.finding.VerifyFault.{VerifyFault}
use Rattle.lldb_verify.specs.declared.seen.Seen.{Seen}
use Rattle.lldb_verify.specs.Findings.{is_used, links_back, goes_on, next_of, Walk, walk, of_lists}
use Rattle.lldb_verify.specs.Logs.{kept_one}
use Rattle.lldb_verify.specs.Marks.{Marks, is_set, with_mark}
use Rattle.lldb_verify.specs.Met.{Unmet, link_of, Follows, cut_short, Walking, IsWalked, Lists}
use Rattle.lldb_verify.specs.Passes.{blocks_from, Marked}
use Rattle.lldb_verify.specs.Reads.{seen_as, seen_of}
use Rattle.lldb_verify.specs.Told.{Tells, IsFront, OfDevice}
use Rattle.lldb_verify.proofs.Walks.{extent_there}
use Rattle.lldb_verify.proofs.Ahead.{seen_there, none_there, stopped_more}
use Rattle.lldb_verify.proofs.Aims.{tile_there, kept_mark, front_refused, tile_past}

and_false : (b : Bool) → (b && false) ≡ false
and_false true = refl
and_false false = refl

-- a list cannot go on to an atom behind the last one
none_past : (c met : List ℕ) (class before atom : ℕ) → length c / 16 ≤ atom → goes_on (blocks_from c 8) class met before atom ≡ false
none_past c met class before atom past = ap (λ (o : Option Tile). links_back class before o && not (contains met atom)) (tile_past c atom past)

pub follow_past : (told : Option (List ℕ)) (total class before atom : ℕ) (bits : Marks) → IfSome told (λ c. length c ≡ total) → total / 16 ≤ atom → IfSome told (λ c. (met : List ℕ) → Unmet c met bits → Follows c class met before atom bits None)
follow_past None total class before atom bits long past = tt
follow_past (Some c) total class before atom bits long past = λ met m. (none_past c met class before atom (omega (arith, long, past)), m)

-- nor to one whose bit is not set
clear_link : (class : ℕ) (e : Extent) (b n m : Bool) → (not (is_used (Some e) && n) && not m) ≡ false → ((in_class class (Some e) && b) && not m) ≡ false
clear_link class (Used content) b n m is = refl
clear_link class (Compressed content) b n m is = refl
clear_link class (Moved target) b n m is = refl
clear_link class (Free s) b n m is = ap (λ (x : Bool). (in_class class (Some (Free s)) && b) && x) is ∙ and_false (in_class class (Some (Free s)) && b)
clear_link class (Hole s) b n m is = refl

clear_by : (c met : List ℕ) (class before atom : ℕ) (n : Bool) (o : Option Tile) → tile_from 8 (blocks_from c 8) atom ≡ o → ((is_some o && not (is_used (option_map (λ tile. tile.extent) o) && n)) && not (contains met atom)) ≡ false → (links_back class before o && not (contains met atom)) ≡ false
clear_by c met class before atom n None at is = refl
clear_by c met class before atom n (Some t) at is = clear_link class t.extent (nat_eq t.previous before) n (contains met atom) is

none_clear : (c met : List ℕ) (class before atom : ℕ) (bits : Marks) → Unmet c met bits → is_set bits atom ≡ false → goes_on (blocks_from c 8) class met before atom ≡ false
none_clear c met class before atom bits m clear =
    let n : Bool = contains (targets (row_of (blocks_from c 8))) atom in
    let there : ((is_some (tile_from 8 (blocks_from c 8) atom) && not (is_used (option_map (λ tile. tile.extent) (tile_from 8 (blocks_from c 8) atom)) && n)) && not (contains met atom)) ≡ false =
    ap (λ (o : Option Extent). (is_some (tile_from 8 (blocks_from c 8) atom) && not (is_used o && n)) && not (contains met atom)) (sym (extent_there 8 (blocks_from c 8) atom)) ∙ sym (m atom) ∙ clear in
    clear_by c met class before atom n (tile_from 8 (blocks_from c 8) atom) refl there

pub follow_clear : (told : Option (List ℕ)) (class before atom : ℕ) (bits : Marks) → is_set bits atom ≡ false → IfSome told (λ c. (met : List ℕ) → Unmet c met bits → Follows c class met before atom bits None)
follow_clear None class before atom bits clear = tt
follow_clear (Some c) class before atom bits clear = λ met m. (none_clear c met class before atom bits m clear, m)

-- a block whose bit is set begins there, and no list has met it
record IsFresh (c met : List ℕ) (atom : ℕ) : Type 0 where
  tile : Tile
  there : tile_from 8 (blocks_from c 8) atom ≡ Some tile
  at : tile_at (drop (16 * atom) c) ≡ Some tile
  new : contains met atom ≡ false

lacks : (b : Bool) → not b ≡ true → b ≡ false
lacks true is = absurd (false≢true is)
lacks false is = refl

fresh_by : (c met : List ℕ) (atom : ℕ) (o : Option Tile) → tile_from 8 (blocks_from c 8) atom ≡ o → is_some o ≡ true → contains met atom ≡ false → IsFresh c met atom
fresh_by c met atom None at some new = absurd (false≢true some)
fresh_by c met atom (Some t) at some new = record { tile = t; there = at; at = (tile_there (blocks_from c 8) c 8 atom t refl at).at; new = new }

fresh_of : (c met : List ℕ) (atom : ℕ) (bits : Marks) → Unmet c met bits → is_set bits atom ≡ true → IsFresh c met atom
fresh_of c met atom bits m set =
    let u : Bool = not (is_used (extent_at 8 (row_of (blocks_from c 8)) atom) && contains (targets (row_of (blocks_from c 8))) atom) in
    let two = and_parts (is_some (tile_from 8 (blocks_from c 8) atom) && u) (not (contains met atom)) (sym (m atom) ∙ set) in
    let one = and_parts (is_some (tile_from 8 (blocks_from c 8) atom)) u two.0 in
    fresh_by c met atom (tile_from 8 (blocks_from c 8) atom) refl one.0 (lacks (contains met atom) two.1)

-- the link that is seen is that of a block to which a list may go on
link_same : (class before p n : ℕ) (e : Extent) → is_block e ≡ true → link_of class before (seen_as p n e) ≡ cond (in_class class (Some e) && nat_eq p before) (Some n) None
link_same class before p n (Used content) stands = refl
link_same class before p n (Compressed content) stands = refl
link_same class before p n (Moved target) stands = refl
link_same class before p n (Free s) stands = refl
link_same class before p n (Hole s) stands = absurd (cc)

met_more : (c met : List ℕ) (atom : ℕ) (bits marks : Marks) → Unmet c met bits → ((q : ℕ) → is_set marks q ≡ with_mark (is_set bits) atom false q) → Unmet c (atom ∷ met) marks
met_more c met atom bits marks m marked = λ q. marked q ∙ at q
  where
    other : ℕ → Bool
    other q = is_some (tile_from 8 (blocks_from c 8) q) && not (is_used (extent_at 8 (row_of (blocks_from c 8)) q) && contains (targets (row_of (blocks_from c 8))) q)

    at : (q : ℕ) → cond (nat_eq q atom) false (is_set bits q) ≡ (other q && not (nat_eq q atom || contains met q))
    at q = elim (cases_Bool (nat_eq q atom)) [
      | inl here ↦ ap (λ (b : Bool). cond b false (is_set bits q)) here ∙ sym (and_false (other q)) ∙ sym (ap (λ (b : Bool). other q && not (b || contains met q)) here)
      | inr away ↦ ap (λ (b : Bool). cond b false (is_set bits q)) away ∙ m q ∙ sym (ap (λ (b : Bool). other q && not (b || contains met q)) away)
    ]

followed : (c met : List ℕ) (class before atom : ℕ) (bits marks : Marks) (t : Tile) (b : Bool) → Unmet c met bits → is_set bits atom ≡ true → tile_from 8 (blocks_from c 8) atom ≡ Some t → contains met atom ≡ false → links_back class before (Some t) ≡ b
    → ((q : ℕ) → is_set marks q ≡ with_mark (is_set bits) atom (is_none (cond b (Some t.next) None)) q) → Follows c class met before atom marks (cond b (Some t.next) None)
followed c met class before atom bits marks t true m set there new links marked = (
  ap (λ (o : Option Tile). links_back class before o && not (contains met atom)) there ∙ ap (λ (x : Bool). x && not (contains met atom)) links ∙ ap not new,
  sym (ap next_of there),
  met_more c met atom bits marks m marked,
)
followed c met class before atom bits marks t false m set there new links marked = (
  ap (λ (o : Option Tile). links_back class before o && not (contains met atom)) there ∙ ap (λ (x : Bool). x && not (contains met atom)) links,
  λ q. marked q ∙ sym (kept_mark (is_set bits) atom true set q) ∙ m q,
)

none_by : (o : Option ℕ) (v : Bool) → is_some o ≡ not v → v ≡ is_none o
none_by None true is = refl
none_by None false is = absurd (false≢true is)
none_by (Some n) true is = absurd (false≢true (sym is))
none_by (Some n) false is = refl

pub follow_seen : (told : Option (List ℕ)) (class before atom : ℕ) (bits marks : Marks) (s : Seen) (next : Option ℕ) (v : Bool) → is_set bits atom ≡ true → IfSome told (λ c. Some s ≡ option_map seen_of (tile_at (drop (16 * atom) c))) → next ≡ link_of class before s
    → is_some next ≡ not v → ((q : ℕ) → is_set marks q ≡ with_mark (is_set bits) atom v q) → IfSome told (λ c. (met : List ℕ) → Unmet c met bits → Follows c class met before atom marks next)
follow_seen None class before atom bits marks s next v set is link last marked = tt
follow_seen (Some c) class before atom bits marks s next v set is link last marked = λ met m.
    let f = fresh_of c met atom bits m set in
    let u = seen_there c atom s (tile_at (drop (16 * atom) c)) refl is in
    let one : Some u.tile ≡ Some f.tile = sym u.at ∙ f.at in
    let tile : u.tile ≡ f.tile = cc in
    let there : tile_from 8 (blocks_from c 8) atom ≡ Some u.tile = f.there ∙ ap (λ (t : Tile). Some t) (sym tile) in
    let b : Bool = links_back class before (Some u.tile) in
    let chosen : next ≡ cond b (Some u.tile.next) None = link ∙ ap (link_of class before) u.seen_is ∙ link_same class before u.tile.previous u.tile.next u.tile.extent u.stands in
    subst (λ (o : Option ℕ). Follows c class met before atom marks o) (sym chosen) (followed c met class before atom bits marks u.tile b m set there f.new refl (λ q. marked q ∙ ap (λ (x : Bool). with_mark (is_set bits) atom x q) (none_by next v last) ∙ ap (λ (o : Option ℕ). with_mark (is_set bits) atom (is_none o) q) chosen))

pub follow_none : (told : Option (List ℕ)) (class before atom : ℕ) (bits : Marks) → is_set bits atom ≡ true → IfSome told (λ c. None ≡ option_map seen_of (tile_at (drop (16 * atom) c))) → IfSome told (λ c. (met : List ℕ) → Unmet c met bits → Follows c class met before atom bits None)
follow_none None class before atom bits set is = tt
follow_none (Some c) class before atom bits set is = λ met m.
    let f = fresh_of c met atom bits m set in
    let none = none_there c atom (tile_at (drop (16 * atom) c)) refl is in
    let no : None ≡ Some f.tile = sym none ∙ f.at in
    absurd (cc)

-- a walk step by step
abbrev ended : List ℕ → List Finding → Walk
ended met found = record { met = met; found = found }

walk_step : (tiles : List Tile) (class most later : ℕ) (met : List ℕ) (before atom : ℕ) → suc later ≡ most → (atom ≡ 0 → ⊥) → goes_on tiles class met before atom ≡ true → walk tiles class most met before atom ≡ walk tiles class later (atom ∷ met) atom (next_of (tile_from 8 tiles atom))
unfolding walk
walk_step tiles class zero later met before atom less some goes = absurd (cc)
walk_step tiles class (suc most) later met before zero less some goes = absurd (some refl)
walk_step tiles class (suc most) later met before (suc atom) less some goes =
    let same : most ≡ later = cc in
    ap (λ (b : Bool). cond b (walk tiles class most (suc atom ∷ met) (suc atom) (next_of (tile_from 8 tiles (suc atom)))) (ended met (finding.BadLink class (suc atom) ∷ []))) goes
    ∙ ap (λ (k : ℕ). walk tiles class k (suc atom ∷ met) (suc atom) (next_of (tile_from 8 tiles (suc atom)))) same

walk_stop : (tiles : List Tile) (class most later : ℕ) (met : List ℕ) (before atom : ℕ) → suc later ≡ most → (atom ≡ 0 → ⊥) → goes_on tiles class met before atom ≡ false → walk tiles class most met before atom ≡ ended met (finding.BadLink class atom ∷ [])
unfolding walk
walk_stop tiles class zero later met before atom less some goes = absurd (cc)
walk_stop tiles class (suc most) later met before zero less some goes = absurd (some refl)
walk_stop tiles class (suc most) later met before (suc atom) less some goes =
    ap (λ (b : Bool). cond b (walk tiles class most (suc atom ∷ met) (suc atom) (next_of (tile_from 8 tiles (suc atom)))) (ended met (finding.BadLink class (suc atom) ∷ []))) goes

walk_zero : (tiles : List Tile) (class most : ℕ) (met : List ℕ) (before atom : ℕ) → atom ≡ 0 → walk tiles class most met before atom ≡ ended met []
unfolding walk
walk_zero tiles class most met before zero is = refl
walk_zero tiles class most met before (suc atom) is = absurd (cc)

walk_out : (tiles : List Tile) (class most : ℕ) (met : List ℕ) (before atom : ℕ) → most ≡ 0 → walk tiles class most met before atom ≡ ended met (cut_short class atom)
unfolding walk
walk_out tiles class most met before zero is = refl
walk_out tiles class zero met before (suc atom) is = refl
walk_out tiles class (suc most) met before (suc atom) is = absurd (cc)

-- the walk that the code makes: at its start, behind a step, and at its ends
abbrev pub Walks : Option (List ℕ) → ℕ → ℕ → ℕ → Marks → ℕ → ℕ → ℕ → Marks → Type 0
Walks told class total first bits most before atom marks = IfSome told (λ c. (met : List ℕ) → Unmet c met bits → Walking c class (walk (blocks_from c 8) class total met 0 first) most before atom marks)

abbrev pub Walked : Option (List ℕ) → ℕ → ℕ → ℕ → Marks → Marks → Option Finding → Type 0
Walked told class total first bits marks found = IfSome told (λ c. (met : List ℕ) → Unmet c met bits → IsWalked c (walk (blocks_from c 8) class total met 0 first) marks found)

pub walk_first : (told : Option (List ℕ)) (class total first most : ℕ) (bits : Marks) → most ≡ total → Walks told class total first bits most 0 first bits
walk_first None class total first most bits same = tt
walk_first (Some c) class total first most bits same = λ met m. record { met = met; same = ap (λ (k : ℕ). walk (blocks_from c 8) class k met 0 first) same; marked = m }

pub walk_on : (told here : Option (List ℕ)) (class total first most later before atom next : ℕ) (bits marks more : Marks) → here ≡ told → suc later ≡ most → (atom ≡ 0 → ⊥) → IfSome here (λ c. (met : List ℕ) → Unmet c met marks → Follows c class met before atom more (Some next))
    → Walks told class total first bits most before atom marks → Walks told class total first bits later atom next more
walk_on None here class total first most later before atom next bits marks more same less some f w = tt
walk_on (Some c) here class total first most later before atom next bits marks more same less some f w = λ met m.
    let there : IfSome (Some c) (λ c. (met : List ℕ) → Unmet c met marks → Follows c class met before atom more (Some next)) = subst (λ (o : Option (List ℕ)). IfSome o (λ c. (met : List ℕ) → Unmet c met marks → Follows c class met before atom more (Some next))) same f in
    let k = w met m in
    let g = there k.met k.marked in
    record {
      met = atom ∷ k.met;
      same = ap (walk (blocks_from c 8) class later (atom ∷ k.met) atom) g.1 ∙ sym (walk_step (blocks_from c 8) class most later k.met before atom less some g.0) ∙ k.same;
      marked = g.2;
    }

walked_by : (c : List ℕ) (w : Walk) (met : List ℕ) (fs : List Finding) (marks : Marks) (found : Option Finding) → w ≡ ended met fs → kept_one found ≡ fs → Unmet c met marks → IsWalked c w marks found
walked_by c w met fs marks found is told m = record { told = told ∙ sym (ap (λ (v : Walk). v.found) is); marked = subst (λ (ns : List ℕ). Unmet c ns marks) (sym (ap (λ (v : Walk). v.met) is)) m }

pub walk_stopped : (told here : Option (List ℕ)) (class total first most later before atom : ℕ) (bits marks more : Marks) → here ≡ told → suc later ≡ most → (atom ≡ 0 → ⊥) → IfSome here (λ c. (met : List ℕ) → Unmet c met marks → Follows c class met before atom more None)
    → Walks told class total first bits most before atom marks → Walked told class total first bits more (Some (finding.BadLink class atom))
walk_stopped None here class total first most later before atom bits marks more same less some f w = tt
walk_stopped (Some c) here class total first most later before atom bits marks more same less some f w = λ met m.
    let there : IfSome (Some c) (λ c. (met : List ℕ) → Unmet c met marks → Follows c class met before atom more None) = subst (λ (o : Option (List ℕ)). IfSome o (λ c. (met : List ℕ) → Unmet c met marks → Follows c class met before atom more None)) same f in
    let k = w met m in
    let g = there k.met k.marked in
    walked_by c (walk (blocks_from c 8) class total met 0 first) k.met (finding.BadLink class atom ∷ []) more (Some (finding.BadLink class atom)) (sym k.same ∙ walk_stop (blocks_from c 8) class most later k.met before atom less some g.0) refl g.1

pub walk_ended : (told : Option (List ℕ)) (class total first most before atom : ℕ) (bits marks : Marks) → atom ≡ 0 → Walks told class total first bits most before atom marks → Walked told class total first bits marks None
walk_ended None class total first most before atom bits marks is w = tt
walk_ended (Some c) class total first most before atom bits marks is w = λ met m.
    let k = w met m in
    walked_by c (walk (blocks_from c 8) class total met 0 first) k.met [] marks None (sym k.same ∙ walk_zero (blocks_from c 8) class most k.met before atom is) refl k.marked

pub walk_short : (told : Option (List ℕ)) (class total first most before atom : ℕ) (bits marks : Marks) (found : Option Finding) → most ≡ 0 → kept_one found ≡ cut_short class atom → Walks told class total first bits most before atom marks → Walked told class total first bits marks found
walk_short None class total first most before atom bits marks found is cut w = tt
walk_short (Some c) class total first most before atom bits marks found is cut w = λ met m.
    let k = w met m in
    walked_by c (walk (blocks_from c 8) class total met 0 first) k.met (cut_short class atom) marks found (sym k.same ∙ walk_out (blocks_from c 8) class most k.met before atom is) cut k.marked

-- the head of a list as it is read
pub list_read : (told : Option (List ℕ)) (bytes : List ℕ) (n class : ℕ) → IfSome told (λ c. bytes ≡ take 8 (drop (8 * class) c)) → n ≡ big_number 8 bytes → IfSome told (λ c. list_head c class ≡ n)
unfolding list_head number_in
list_read None bytes n class read is = tt
list_read (Some c) bytes n class read is =
    same_number 8 (drop (8 * class) c) bytes (λ k below. sym (get_or-take 8 (drop (8 * class) c) k 0 below) ∙ ap (λ (u : List ℕ). get_or u k 0) (sym read)) ∙ sym is

-- a list is told
pub list_refused : (told : Option (List ℕ)) (w : List ℕ → List ℕ → Walk) (bits marks : Marks) (now : List Finding) (bound : Option ℕ) (e : VerifyFault) → OfDevice {T = Unit {0}} (Err e) → IfSome told (λ c. (met : List ℕ) → Unmet c met bits → Lists c (w c met) now bound marks now (Err e))
list_refused None w bits marks now bound e h = tt
list_refused (Some c) w bits marks now bound e h = λ met m. front_refused (now ++ (w c met).found) now (w c met).found bound e refl h

-- the walk of a whole list
abbrev pub list_walk : ℕ → List ℕ → List ℕ → Walk
list_walk class c met = walk (blocks_from c 8) class (length c) met 0 (list_head c class)

walk_same : (c met : List ℕ) (class total first : ℕ) → length c ≡ total → list_head c class ≡ first → walk (blocks_from c 8) class total met 0 first ≡ list_walk class c met
walk_same c met class total first long head = ap (λ (k : ℕ). walk (blocks_from c 8) class k met 0 first) (sym long) ∙ ap (walk (blocks_from c 8) class (length c) met 0) (sym head)

-- what was told along a list, by what was found
told_of : (c : List ℕ) (w : Walk) (before now : List Finding) (bound : Option ℕ) (marks : Marks) (found : Option Finding) (u : Unit {0}) → IsWalked c w marks found → now ≡ before ++ kept_one found → Lists c w before bound marks now (Ok u)
told_of c w before now bound marks found u k is = (is ∙ ap (λ (fs : List Finding). before ++ fs) k.told, k.marked)

pub list_told : (told here : Option (List ℕ)) (class total first : ℕ) (bits marks : Marks) (before now : List Finding) (bound : Option ℕ) (found : Option Finding) (u : Unit {0}) → here ≡ told → IfSome told (λ c. length c ≡ total) → IfSome told (λ c. list_head c class ≡ first) → Walked here class total first bits marks found → now ≡ before ++ kept_one found
    → IfSome told (λ c. (met : List ℕ) → Unmet c met bits → Lists c (list_walk class c met) before bound marks now (Ok u))
list_told None here class total first bits marks before now bound found u same long head k is = tt
list_told (Some c) here class total first bits marks before now bound found u same long head k is = λ met m.
    let there : Walked (Some c) class total first bits marks found = subst (λ (o : Option (List ℕ)). Walked o class total first bits marks found) same k in
    told_of c (list_walk class c met) before now bound marks found u (subst (λ (w : Walk). IsWalked c w marks found) (walk_same c met class total first long head) (there met m)) is

pub list_stopped : (told here : Option (List ℕ)) (class total first : ℕ) (bits marks : Marks) (before now : List Finding) (bound : Option ℕ) (found : Option Finding) (e : VerifyFault) → here ≡ told → IfSome told (λ c. length c ≡ total) → IfSome told (λ c. list_head c class ≡ first) → Walked here class total first bits marks found → Tells {T = Unit {0}} (before ++ kept_one found) bound now (Err e)
    → IfSome told (λ c. (met : List ℕ) → Unmet c met bits → Lists c (list_walk class c met) before bound marks now (Err e))
list_stopped None here class total first bits marks before now bound found e same long head k is = tt
list_stopped (Some c) here class total first bits marks before now bound found e same long head k is = λ met m.
    let there : Walked (Some c) class total first bits marks found = subst (λ (o : Option (List ℕ)). Walked o class total first bits marks found) same k in
    let whole : IsWalked c (list_walk class c met) marks found = subst (λ (w : Walk). IsWalked c w marks found) (walk_same c met class total first long head) (there met m) in
    subst (λ (fs : List Finding). Tells {T = Unit {0}} (before ++ fs) bound now (Err e)) whole.told is

-- the lists that were told so far
abbrev pub ListsTold : Option (List ℕ) → ℕ → List Finding → Option ℕ → Marks → List Finding → Type 0
ListsTold told class before bound marks now = IfSome told (λ c. Lists c (of_lists c (blocks_from c 8) class) before bound marks now (Ok tt))

pub lists_first : (told : Option (List ℕ)) (bits : Marks) (now : List Finding) (bound : Option ℕ) → IfSome told (λ c. Marked c (targets (row_of (blocks_from c 8))) bits) → ListsTold told 0 now bound bits now
unfolding of_lists
lists_first None bits now bound m = tt
lists_first (Some c) bits now bound m = (sym (append-nil now), λ q. m q ∙ and_true (is_some (tile_from 8 (blocks_from c 8) q) && not (is_used (extent_at 8 (row_of (blocks_from c 8)) q) && contains (targets (row_of (blocks_from c 8))) q)))
  where
    and_true : (b : Bool) → b ≡ (b && true)
    and_true true = refl
    and_true false = refl

pub lists_on : (told here : Option (List ℕ)) (class behind : ℕ) (bits marks : Marks) (before now later : List Finding) (bound most : Option ℕ) (u : Unit {0}) → here ≡ told → behind ≡ suc class → IfSome here (λ c. (met : List ℕ) → Unmet c met bits → Lists c (list_walk class c met) now bound marks later (Ok u))
    → ListsTold told class before most bits now → ListsTold told behind before most marks later
unfolding of_lists
lists_on None here class behind bits marks before now later bound most u same up went l = tt
lists_on (Some c) here class behind bits marks before now later bound most u same up went l =
    let lists = of_lists c (blocks_from c 8) class in
    let there : IfSome (Some c) (λ c. (met : List ℕ) → Unmet c met bits → Lists c (list_walk class c met) now bound marks later (Ok u)) = subst (λ (o : Option (List ℕ)). IfSome o (λ c. (met : List ℕ) → Unmet c met bits → Lists c (list_walk class c met) now bound marks later (Ok u))) same went in
    let t = there lists.met l.1 in
    subst (λ (k : ℕ). ListsTold (Some c) k before most marks later) (sym up) (t.0 ∙ ap (λ (fs : List Finding). fs ++ (list_walk class c lists.met).found) l.0 ∙ append_assoc before lists.found (list_walk class c lists.met).found, t.1)

none_more : (n : ℕ) → 0 + n ≡ n
none_more n = omega arith

one_more : (more n : ℕ) → suc more + n ≡ suc (more + n)
one_more more n = omega arith

-- what is found along the first lists comes first
lists_front : (c : List ℕ) (class more : ℕ) → IsFront (of_lists c (blocks_from c 8) class).found (of_lists c (blocks_from c 8) (more + class)).found
unfolding of_lists
lists_front c class zero = record { rest = []; whole = ap (λ (k : ℕ). (of_lists c (blocks_from c 8) k).found) (none_more class) ∙ sym (append-nil (of_lists c (blocks_from c 8) class).found) }
lists_front c class (suc more) =
    let f = lists_front c class more in
    let lists = of_lists c (blocks_from c 8) (more + class) in
    let last : List Finding = (list_walk (more + class) c lists.met).found in
    record { rest = f.rest ++ last; whole = ap (λ (k : ℕ). (of_lists c (blocks_from c 8) k).found) (one_more more class) ∙ ap (λ (fs : List Finding). fs ++ last) f.whole ∙ append_assoc (of_lists c (blocks_from c 8) class).found f.rest last }

pub lists_wrong : (told here : Option (List ℕ)) (class more : ℕ) (bits marks : Marks) (before now later : List Finding) (bound most : Option ℕ) (e : VerifyFault) → here ≡ told → bound ≡ most → more + suc class ≡ 16 → IfSome here (λ c. (met : List ℕ) → Unmet c met bits → Lists c (list_walk class c met) now bound marks later (Err e))
    → ListsTold told class before most bits now → IfSome told (λ c. Lists c (of_lists c (blocks_from c 8) 16) before most marks later (Err e))
unfolding of_lists
lists_wrong None here class more bits marks before now later bound most e same is rest went l = tt
lists_wrong (Some c) here class more bits marks before now later bound most e same is rest went l =
    let lists = of_lists c (blocks_from c 8) class in
    let there : IfSome (Some c) (λ c. (met : List ℕ) → Unmet c met bits → Lists c (list_walk class c met) now bound marks later (Err e)) = subst (λ (o : Option (List ℕ)). IfSome o (λ c. (met : List ℕ) → Unmet c met bits → Lists c (list_walk class c met) now bound marks later (Err e))) same went in
    let last : List Finding = (list_walk class c lists.met).found in
    let here_told : Tells {T = Unit {0}} (now ++ last) most later (Err e) = subst (λ (o : Option ℕ). Tells {T = Unit {0}} (now ++ last) o later (Err e)) is (there lists.met l.1) in
    let joined : now ++ last ≡ before ++ (lists.found ++ last) = ap (λ (fs : List Finding). fs ++ last) l.0 ∙ append_assoc before lists.found last in
    let f = lists_front c (suc class) more in
    let whole : (of_lists c (blocks_from c 8) 16).found ≡ (lists.found ++ last) ++ f.rest = ap (λ (k : ℕ). (of_lists c (blocks_from c 8) k).found) (sym rest) ∙ f.whole in
    stopped_more (before ++ (lists.found ++ last)) f.rest (before ++ (of_lists c (blocks_from c 8) 16).found) later most e
    (ap (λ (fs : List Finding). before ++ fs) whole ∙ sym (append_assoc before (lists.found ++ last) f.rest))
    (subst (λ (fs : List Finding). Tells {T = Unit {0}} fs most later (Err e)) joined here_told)
