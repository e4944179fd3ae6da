-- What a search in a node's bytes finds, put together of its steps.
use Rattle.std.proofs.Common.{◌≡◌, ⊎_elim, ℕ, suc, ◌<◌, Bool, true, false, List, [], ◌∷◌, ◌++◌, length, map, Option, Some, None, Result, Ok, refl, sym, ap, ◌∙◌, arith}
use Rattle.std.specs.List.{AllByRecursion}
use Rattle.lldb_btree.specs.declared.look.Found.{Found}
use Rattle.lldb_btree.specs.declared.look.Found.TheVariants.{Down, Here}
use Rattle.lldb_btree.specs.declared.node.Child.{Child}
use Rattle.lldb_btree.specs.declared.node.NodeFault.{NodeFault}
use Rattle.lldb_btree.specs.declared.node.Pair.{Pair}
use Rattle.lldb_btree.specs.Nodes.{Entry, entry_bytes, body, pair_entry, child_entry, FitsChild, IsEntry}
use Rattle.lldb_btree.specs.Pairs.{FitsPair, first}
use Rattle.lldb_btree.specs.Reading.{IsSought, Reads, LeadsTo}
use Rattle.lldb_btree.proofs.Looking.{NoPair, FirstPair, in_leaf, in_inner}
use Rattle.lldb_btree.proofs.Spelling.{pairs_fit, children_fit}

pub map_length : {X : Type 0} (f : X → Entry) (xs : List X) → length (map f xs) ≡ length xs
map_length f [] = refl
map_length f (x ∷ xs) = ap (λ (n : ℕ). suc n) (map_length f xs)

-- what the head of a node says
abbrev pub Head : Bool → ℕ → List Entry → Bool → ℕ → List ℕ → Type 0
Head is_leaf count es leaf n rest = (leaf ≡ is_leaf) × (n ≡ count) × (rest ≡ body es)

-- what a search among all entries finds
abbrev pub Seeks : Bool → (List ℕ → Bool) → ℕ → List ℕ → List ℕ → ℕ → Type 0
Seeks leaf test n rest sought left = (es : List Entry) → AllByRecursion (IsEntry leaf) es → length es ≡ n → rest ≡ body es → IsSought leaf test es sought left

pub sought_leaf : (leaf : Bool) (test : List ℕ → Bool) (n left : ℕ) (rest sought : List ℕ) (pairs : List Pair) → AllByRecursion FitsPair pairs → Head true (length pairs) (map pair_entry pairs) leaf n rest → Seeks leaf test n rest sought left → IsSought true test (map pair_entry pairs) sought left
sought_leaf leaf test n left rest sought pairs fits h seeks =
    let each : AllByRecursion (IsEntry leaf) (map pair_entry pairs) = rw h.0 (pairs_fit pairs fits) in
    let s : IsSought leaf test (map pair_entry pairs) sought left = seeks (map pair_entry pairs) each (map_length pair_entry pairs ∙ sym h.1) h.2 in
    rw h.0 at s

pub sought_inner : (leaf : Bool) (test : List ℕ → Bool) (n left : ℕ) (rest sought : List ℕ) (children : List Child) → AllByRecursion FitsChild children → Head false (length children) (map child_entry children) leaf n rest → Seeks leaf test n rest sought left → IsSought false test (map child_entry children) sought left
sought_inner leaf test n left rest sought children fits h seeks =
    let each : AllByRecursion (IsEntry leaf) (map child_entry children) = rw h.0 (children_fit children fits) in
    let s : IsSought leaf test (map child_entry children) sought left = seeks (map child_entry children) each (map_length child_entry children ∙ sym h.1) h.2 in
    rw h.0 at s

answer_none : (result : Result Found NodeFault) (o : Option Pair) → o ≡ None → result ≡ Ok (Here None) → Reads (λ found. found ≡ Here o) result
answer_none result o e r = rw (r, e) refl

answer_pair : (result : Result Found NodeFault) (o : Option Pair) (p : Pair) → o ≡ Some p → Reads (λ found. found ≡ Here (Some p)) result → Reads (λ found. found ≡ Here o) result
answer_pair result o p e r = rw e r

pub looked_leaf : (leaf : Bool) (test : List ℕ → Bool) (n left : ℕ) (rest sought : List ℕ) (pairs : List Pair) (result : Result Found NodeFault) → AllByRecursion FitsPair pairs → Head true (length pairs) (map pair_entry pairs) leaf n rest → Seeks leaf test n rest sought left → (leaf ≡ true → left ≡ 0 → result ≡ Ok (Here None)) → ((p : Pair) (more : List ℕ) → leaf ≡ true → 0 < left → FitsPair p → sought ≡ entry_bytes (pair_entry p) ++ more → Reads (λ found. found ≡ Here (Some p)) result) → Reads (λ found. found ≡ Here (first test pairs)) result
looked_leaf leaf test n left rest sought pairs result fits h seeks none pair =
    let s : IsSought true test (map pair_entry pairs) sought left = sought_leaf leaf test n left rest sought pairs fits h seeks in
    ⊎_elim
    (λ (z : NoPair test pairs). answer_none result (first test pairs) z.first_is (none h.0 (s.1 ∙ ap length z.entries)))
    (λ (f : FirstPair test pairs). answer_pair result (first test pairs) f.pair f.first_is (pair f.pair (body f.rest) h.0 (omega (arith, s.1, ap length f.entries)) f.fits (s.0 ∙ ap body f.entries)))
    (in_leaf test pairs fits)

pub looked_inner : (leaf : Bool) (test : List ℕ → Bool) (n left : ℕ) (rest sought : List ℕ) (children : List Child) (result : Result Found NodeFault) → AllByRecursion FitsChild children → 0 < length children → Head false (length children) (map child_entry children) leaf n rest → Seeks leaf test n rest sought left → ((c : Child) (more : List ℕ) → leaf ≡ false → 0 < left → FitsChild c → sought ≡ entry_bytes (child_entry c) ++ more → result ≡ Ok (Down c.handle)) → Reads (LeadsTo test children) result
looked_inner leaf test n left rest sought children result fits some h seeks child =
    let s : IsSought false test (map child_entry children) sought left = sought_inner leaf test n left rest sought children fits h seeks in
    let f = in_inner test children fits some in
    let r : result ≡ Ok (Down f.child.handle) = child f.child (body f.rest) h.0 (omega (arith, s.1, ap length f.entries)) f.fits (s.0 ∙ ap body f.entries) in
    rw r (f.child, f.rest, f.entries, f.fits.1, refl)

pub unsought_leaf : (leaf : Bool) (n : ℕ) (rest : List ℕ) (pairs : List Pair) → AllByRecursion FitsPair pairs → Head true (length pairs) (map pair_entry pairs) leaf n rest → ((es : List Entry) → AllByRecursion (IsEntry leaf) es → length es ≡ n → rest ≡ body es → ⊥) → ⊥
unsought_leaf leaf n rest pairs fits h none =
    let each : AllByRecursion (IsEntry leaf) (map pair_entry pairs) = rw h.0 (pairs_fit pairs fits) in
    none (map pair_entry pairs) each (map_length pair_entry pairs ∙ sym h.1) h.2

pub unsought_inner : (leaf : Bool) (n : ℕ) (rest : List ℕ) (children : List Child) → AllByRecursion FitsChild children → Head false (length children) (map child_entry children) leaf n rest → ((es : List Entry) → AllByRecursion (IsEntry leaf) es → length es ≡ n → rest ≡ body es → ⊥) → ⊥
unsought_inner leaf n rest children fits h none =
    let each : AllByRecursion (IsEntry leaf) (map child_entry children) = rw h.0 (children_fit children fits) in
    none (map child_entry children) each (map_length child_entry children ∙ sym h.1) h.2
