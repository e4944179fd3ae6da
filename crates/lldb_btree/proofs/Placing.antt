-- A pair put among the entries of a leaf, and the way on in an inner node, as bytes.
use Rattle.std.proofs.Common.{◌≡◌, ℕ, ◌+◌, ◌^◌, ◌<◌, Bool, true, false, cond, not, ◌&&◌, ◌||◌, List, [], ◌∷◌, ◌++◌, length, map, refl, sym, ap, ◌∙◌, arith, append_assoc, length-append}
use Rattle.std.specs.Int.{to_be_bytes, w64}
use Rattle.std.specs.List.{AllByRecursion}
use Rattle.lldb_btree.specs.declared.bound.Bound.TheVariants.{From}
use Rattle.lldb_btree.specs.declared.node.Child.{Child}
use Rattle.lldb_btree.specs.declared.node.Node.TheVariants.{Leaf}
use Rattle.lldb_btree.specs.declared.node.Pair.{Pair}
use Rattle.lldb_btree.specs.Bounds.{is_ahead, is_empty, from_first}
use Rattle.lldb_btree.specs.Nodes.{Entry, IsEntry, entry_bytes, body, spelling, pair_entry, child_entry, FitsChild}
use Rattle.lldb_btree.specs.Pairs.{FitsPair, insert}
use Rattle.lldb_btree.specs.Reading.{IsSought}
use Rattle.lldb_btree.specs.Splicing.{IsWay, past_key}
use Rattle.lldb_btree.proofs.Leaves.{sought, new_entry, splits}
use Rattle.lldb_btree.proofs.Lengths.{many_of}
use Rattle.lldb_btree.proofs.Looking.{in_inner}
use Rattle.lldb_btree.proofs.Spelling.{pairs_fit, child_fits}
use Rattle.lldb_btree.proofs.Splices.{body_both}
use Rattle.lldb_btree.proofs.Standing.{all_right}

-- what a search in a leaf finds are entries
pub sought_fits : (k : List ℕ) (pairs : List Pair) → AllByRecursion FitsPair pairs → AllByRecursion (IsEntry true) (sought k pairs)
sought_fits k pairs fits =
    let s = splits k [] pairs in
    let all : AllByRecursion (IsEntry true) (map pair_entry pairs) = pairs_fit pairs fits in
    all_right (IsEntry true) s.before (sought k pairs) (rw s.whole at all)

-- bytes before a rest of the same length
abbrev pub FrontOf : List ℕ → ℕ → List ℕ → Type 0
FrontOf bytes last front = (f b : List ℕ) → bytes ≡ f ++ b → length b ≡ last → front ≡ f

pub leaf_placed : (k v : List ℕ) (pairs : List Pair) (n left more total : ℕ) (bytes rest front back entry all : List ℕ) → length pairs ≡ n → bytes ≡ body (map pair_entry pairs) → IsSought true (is_ahead (From k)) (map pair_entry pairs) rest left → (back ≡ body (past_key k (sought k pairs))) × (left + more ≡ length (past_key k (sought k pairs)) + 1) → FrontOf bytes (length rest) front → entry ≡ entry_bytes (new_entry k v) → total ≡ n + more → all ≡ 0 ∷ total ∷ ((front ++ entry) ++ back) → all ≡ spelling (Leaf (insert k v pairs))
leaf_placed k v pairs n left more total bytes rest front back entry all len is found past front_of entry_is total_is all_is =
    let s = splits k v pairs in
    let tail : List Entry = past_key k (sought k pairs) in
    let cut : bytes ≡ body s.before ++ body (sought k pairs) = is ∙ ap body s.whole ∙ body_both s.before (sought k pairs) in
    let f : front ≡ body s.before = front_of (body s.before) (body (sought k pairs)) cut (ap length (sym found.0)) in
    let set_body : body (map pair_entry (insert k v pairs)) ≡ body s.before ++ (entry_bytes (new_entry k v) ++ body tail) = ap body s.set ∙ body_both s.before (new_entry k v ∷ tail) in
    let runs : (front ++ entry) ++ back ≡ body s.before ++ (entry_bytes (new_entry k v) ++ body tail) =
    append_assoc front entry back ∙ ap (λ (x : List ℕ). x ++ (entry ++ back)) f ∙ ap (λ (x : List ℕ). body s.before ++ (x ++ back)) entry_is ∙ ap (λ (x : List ℕ). body s.before ++ (entry_bytes (new_entry k v) ++ x)) past.0 in
    let had : length (map pair_entry pairs) ≡ length s.before + length (sought k pairs) = ap length s.whole ∙ length-append s.before (sought k pairs) in
    let has : length (map pair_entry (insert k v pairs)) ≡ length s.before + length (new_entry k v ∷ tail) = ap length s.set ∙ length-append s.before (new_entry k v ∷ tail) in
    let many : total ≡ length (insert k v pairs) = omega (arith, len, found.1, past.1, total_is, had, has, many_of pair_entry pairs, many_of pair_entry (insert k v pairs)) in
    all_is ∙ ap (λ (c : ℕ). 0 ∷ c ∷ ((front ++ entry) ++ back)) many ∙ ap (λ (x : List ℕ). 0 ∷ length (insert k v pairs) ∷ x) (runs ∙ sym set_body)

-- the entries before the one that is found
record Before (leaf : Bool) (test : List ℕ → Bool) (es : List Entry) : Type 0 where
  before : List Entry
  whole : es ≡ before ++ from_first leaf test es

before_step : (leaf : Bool) (test : List ℕ → Bool) (e : Entry) (es : List Entry) → Before leaf test es → (b : Bool) → (test e.key || (not leaf && is_empty es)) ≡ b → Before leaf test (e ∷ es)
before_step leaf test e es on true is = record { before = []; whole = sym (ap (λ (b : Bool). cond b (e ∷ es) (from_first leaf test es)) is) }
before_step leaf test e es on false is = record { before = e ∷ on.before; whole = ap (λ (r : List Entry). e ∷ r) on.whole ∙ sym (ap (λ (b : Bool). e ∷ (on.before ++ cond b (e ∷ es) (from_first leaf test es))) is) }

before_first : (leaf : Bool) (test : List ℕ → Bool) (es : List Entry) → Before leaf test es
before_first leaf test [] = record { before = []; whole = refl }
before_first leaf test (e ∷ es) = before_step leaf test e es (before_first leaf test es) (test e.key || (not leaf && is_empty es)) refl

pub way_found : (test : List ℕ → Bool) (children : List Child) (left handle : ℕ) (bytes rest key tail back front : List ℕ) → AllByRecursion FitsChild children → 0 < length children → bytes ≡ body (map child_entry children) → IsSought false test (map child_entry children) rest left → ((e : Entry) (more : List ℕ) → IsEntry false e → rest ≡ entry_bytes e ++ more → (key ≡ e.key) × (tail ≡ e.tail) × (back ≡ more)) → ((h : ℕ) → h < 2 ^ 64 → tail ≡ to_be_bytes w64 h → handle ≡ h) → FrontOf bytes (length rest) front → IsWay test children front handle back
way_found test children left handle bytes rest key tail back front fits some is found split handle_is front_of =
    let f = in_inner test children fits some in
    let b = before_first false test (map child_entry children) in
    let w = split (child_entry f.child) (body f.rest) (child_fits f.child f.fits) (found.0 ∙ ap body f.entries) in
    let cut : bytes ≡ body b.before ++ body (from_first false test (map child_entry children)) = is ∙ ap body b.whole ∙ body_both b.before (from_first false test (map child_entry children)) in
    record {
      before = b.before;
      child = f.child;
      rest = f.rest;
      whole = b.whole ∙ ap (λ (x : List Entry). b.before ++ x) f.entries;
      sought = f.entries;
      front_is = front_of (body b.before) (body (from_first false test (map child_entry children))) cut (ap length (sym found.0));
      back_is = w.2;
      handle_is = handle_is f.child.handle f.fits.1 w.1;
      low = f.fits.1;
    }

-- without a place to stop, or an entry, there are no such children
pub wayless_seek : (n : ℕ) (bytes : List ℕ) → ((es : List Entry) → AllByRecursion (IsEntry false) es → length es ≡ n → bytes ≡ body es → ⊥) → (children : List Child) → AllByRecursion (IsEntry false) (map child_entry children) → length children ≡ n → bytes ≡ body (map child_entry children) → ⊥
wayless_seek n bytes none children fits len is = none (map child_entry children) fits (many_of child_entry children ∙ len) is
