-- Where nothing is found, the bits are those at the handles.
use Rattle.std.proofs.Common.{◌≡◌, ℕ, ◌+◌, ◌*◌, ◌≤◌, inl, inr, Bool, true, false, not, cond, ◌&&◌, ◌||◌, List, [], ◌∷◌, ◌++◌, length, drop, Option, Some, None, is_some, option_and_then, option_map, refl, sym, ◌∙◌, ap, subst, arith, nat_eq}
use Rattle.std.proofs.lemmas.Bool.{cases_Bool, and_parts, eq-eqb, eqb-true, false≢true, or_right}
use Rattle.lldb_base.specs.Contents.{content_of}
use Rattle.lldb_atoms.specs.Blocks.{Extent, Used, Compressed, Moved, Free, Hole, Tile, size}
use Rattle.lldb_atoms.specs.Laws.{is_block}
use Rattle.lldb_atoms.specs.Rows.{extent_at, contains, target_of, targets, used_content, are_distinct, are_used, are_spaced, ends_free, heap}
use Rattle.lldb_atoms.specs.Lists.{in_class, row_of, tile_from, are_listed}
use Rattle.lldb_atoms.specs.Sound.{is_sound_tiling, sound_tiling, heap_in}
use Rattle.lldb_atoms.proofs.Says.{tile_says}
use Rattle.lldb_blocks.proofs.Heaps.{meant, heap_at}
use Rattle.lldb_verify.specs.Findings.{is_used, of_lists, of_free, of_unlisted, findings}
use Rattle.lldb_verify.specs.declared.finding.Finding.TheVariants as finding
use Rattle.lldb_verify.specs.Marks.{Marks, is_set}
use Rattle.lldb_verify.specs.Met.{Unmet, is_handle}
use Rattle.lldb_verify.specs.Passes.{blocks_from}
use Rattle.lldb_verify.proofs.Aims.{tile_there}
use Rattle.lldb_verify.proofs.Clean.{at_member, lists_none, unlisted_none, findings_tiling}
use Rattle.lldb_verify.proofs.Rows.{both_empty, test_of, used_same}
use Rattle.lldb_verify.proofs.Walks.{extent_there}
use Rattle.lldb_verify.proofs.Wholes.{blocks_solid}

-- what a relocated block names is a target
in_rest : (e : Extent) (ts : List ℕ) (t : ℕ) → contains ts t ≡ true → contains (target_of e ++ ts) t ≡ true
in_rest (Used content) ts t is = is
in_rest (Compressed content) ts t is = is
in_rest (Moved target) ts t is = or_right (nat_eq t target) (contains ts t) is
in_rest (Free s) ts t is = is
in_rest (Hole s) ts t is = is

named_there : (from : ℕ) (row : List Extent) (q t : ℕ) → extent_at from row q ≡ Some (Moved t) → contains (targets row) t ≡ true
named_there from [] q t is = absurd (cc)
named_there from (e ∷ row) q t is = elim (cases_Bool (nat_eq q from)) [
  | inl here ↦
      let one : Some e ≡ Some (Moved t) = sym (ap (λ (b : Bool). cond b (Some e) (extent_at (from + size e) row q)) here) ∙ is in
      let same : e ≡ Moved t = cc in
      ap (λ (x : Extent). contains (target_of x ++ targets row) t) same ∙ ap (λ (b : Bool). b || contains (targets row) t) (eq-eqb t t refl)
  | inr other ↦ in_rest e (targets row) t (named_there (from + size e) row q t (sym (ap (λ (b : Bool). cond b (Some e) (extent_at (from + size e) row q)) other) ∙ is))
]

-- where no free block is unlisted, each was met
listed_there : (met : List ℕ) (from : ℕ) (row : List Extent) (q : ℕ) (e : Extent) → of_unlisted met from row ≡ [] → extent_at from row q ≡ Some e → of_free met q e ≡ []
listed_there met from [] q e none is = absurd (cc)
listed_there met from (x ∷ row) q e none is =
    let two = both_empty (of_free met from x) (of_unlisted met (from + size x) row) none in
    elim (cases_Bool (nat_eq q from)) [
      | inl here ↦
          let one : Some x ≡ Some e = sym (ap (λ (b : Bool). cond b (Some x) (extent_at (from + size x) row q)) here) ∙ is in
          let same : x ≡ e = cc in
          subst (λ (k : ℕ). of_free met k e ≡ []) (sym (eqb-true q from here)) (subst (λ (y : Extent). of_free met from y ≡ []) same two.0)
      | inr other ↦ listed_there met (from + size x) row q e two.1 (sym (ap (λ (b : Bool). cond b (Some x) (extent_at (from + size x) row q)) other) ∙ is)
    ]

-- a row that makes a content sound, and what its lists have met
record AtRest (row : List Extent) (met : List ℕ) : Type 0 where
  used : (q : ℕ) → is_used (extent_at 8 row q) ≡ is_some (used_content (extent_at 8 row q))
  right : (t : ℕ) → contains (targets row) t ≡ true → is_some (used_content (extent_at 8 row t)) ≡ true
  low : (q : ℕ) → contains met q ≡ true → (class : ℕ) × (in_class class (extent_at 8 row q) ≡ true)
  listed : (q : ℕ) (e : Extent) → extent_at 8 row q ≡ Some e → of_free met q e ≡ []
  blocked : (q : ℕ) (e : Extent) → extent_at 8 row q ≡ Some e → is_block e ≡ true

-- the bit at an atom, by what begins there
abbrev bit_of : Bool → Bool → Option Extent → Bool
bit_of named met o = (is_some o && not (is_used o && named)) && not met

lacks : (row : List Extent) (met : List ℕ) (q : ℕ) → AtRest row met → ((class : ℕ) → in_class class (extent_at 8 row q) ≡ false) → contains met q ≡ false
lacks row met q a never = elim (cases_Bool (contains met q)) [
  | inl member ↦ let l = a.low q member in absurd (false≢true (sym (never l.0) ∙ l.1))
  | inr not ↦ not
]

by_named : (content : List ℕ) (n m : Bool) → m ≡ false → (not n && not m) ≡ is_some (cond n None (Some content))
by_named content true m new = refl
by_named content false m new = ap not new

handle_bit : (row : List Extent) (met : List ℕ) (q : ℕ) (o : Option Extent) → AtRest row met → extent_at 8 row q ≡ o → bit_of (contains (targets row) q) (contains met q) o ≡ is_some (meant (contains (targets row)) (extent_at 8 row) q o)
handle_bit row met q None a at = refl
handle_bit row met q (Some (Used content)) a at = by_named content (contains (targets row) q) (contains met q) (lacks row met q a (λ class. ap (in_class class) at))
handle_bit row met q (Some (Compressed content)) a at =
    let no : true ≡ false = sym (ap is_used at) ∙ a.used q ∙ ap (λ (o : Option Extent). is_some (used_content o)) at in
    absurd (false≢true (sym no))
handle_bit row met q (Some (Moved target)) a at =
    ap not (lacks row met q a (λ class. ap (in_class class) at)) ∙ sym (a.right target (named_there 8 row q target at))
handle_bit row met q (Some (Free s)) a at = ap not (test_of (contains met q) [] (finding.Unlisted q) (a.listed q (Free s) at)).0
handle_bit row met q (Some (Hole s)) a at = absurd (false≢true (a.blocked q (Hole s) at))

-- what begins at an atom of a content is a block
block_there : (c : List ℕ) (q : ℕ) (e : Extent) → extent_at 8 (row_of (blocks_from c 8)) q ≡ Some e → is_block e ≡ true
block_there c q e is = by_tile (tile_from 8 (blocks_from c 8) q) refl (sym (extent_there 8 (blocks_from c 8) q) ∙ is)
  where
    by_tile : (o : Option Tile) → tile_from 8 (blocks_from c 8) q ≡ o → option_map (λ tile. tile.extent) o ≡ Some e → is_block e ≡ true
    by_tile None at there = absurd (cc)
    by_tile (Some t) at there =
        let same : t.extent ≡ e = cc in
        subst (λ (x : Extent). is_block x ≡ true) same (tile_says t (drop (16 * q) c) (tile_there (blocks_from c 8) c 8 q t refl at).at).tile_is.stands

at_rest : (c : List ℕ) → is_sound_tiling c (blocks_from c 8) ≡ true → AtRest (row_of (blocks_from c 8)) (of_lists c (blocks_from c 8) 16).met
at_rest c is =
    let row = row_of (blocks_from c 8) in
    let one = and_parts (are_spaced false row) _ is in
    let two = and_parts (not (ends_free false row)) _ one.1 in
    let three = and_parts (are_distinct (targets row)) _ two.1 in
    let four = and_parts (are_used row (targets row)) (are_listed c (blocks_from c 8) 16) three.1 in
    let d = lists_none c (blocks_from c 8) 16 four.1 in
    record {
      used = λ q. used_same false 8 row q one.0;
      right = λ t member. at_member (λ atom. is_some (used_content (extent_at 8 row atom))) (targets row) t four.0 member;
      low = λ q member. let l = d.low q member in (l.0, l.2);
      listed = λ q e at. listed_there (of_lists c (blocks_from c 8) 16).met 8 row q e (unlisted_none (of_lists c (blocks_from c 8) 16).met 8 row d.all) at;
      blocked = λ q e at. block_there c q e at;
    }

-- a handle of a content, by its blocks
handle_of : (c : List ℕ) (q : ℕ) → sound_tiling c ≡ Some (blocks_from c 8) → 1 ≤ length c → is_handle c q ≡ is_some (content_of q (heap (row_of (blocks_from c 8))))
unfolding heap_in
handle_of [] q tiling some = absurd (omega (arith, some))
handle_of (b ∷ bs) q tiling some = ap (λ (o : Option (List Tile)). is_some (option_and_then (content_of q) (option_map (λ tiles. heap (row_of tiles)) o))) tiling

pub handles_marked : (c : List ℕ) (bits : Marks) → 1 ≤ length c → Unmet c (of_lists c (blocks_from c 8) 16).met bits → findings c ≡ [] → (q : ℕ) → is_set bits q ≡ is_handle c q
handles_marked c bits some m none = λ q.
    let row = row_of (blocks_from c 8) in
    let met = (of_lists c (blocks_from c 8) 16).met in
    let f = findings_tiling c some none in
    m q
    ∙ ap (λ (b : Bool). (b && not (is_used (extent_at 8 row q) && contains (targets row) q)) && not (contains met q)) (same_some (tile_from 8 (blocks_from c 8) q) ∙ sym (ap is_some (extent_there 8 (blocks_from c 8) q)))
    ∙ handle_bit row met q (extent_at 8 row q) (at_rest c f.1) refl
    ∙ sym (ap is_some (heap_at row q (blocks_solid (length c) (drop 128 c)).0))
    ∙ sym (handle_of c q f.0 some)
  where
    same_some : (o : Option Tile) → is_some o ≡ is_some (option_map (λ tile. tile.extent) o)
    same_some None = refl
    same_some (Some t) = refl
