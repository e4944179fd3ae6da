-- The child beside another one, by the bytes of their parent's entries.
use Rattle.std.proofs.Common.{◌≡◌, ℕ, ◌+◌, ◌-◌, ◌<◌, ◌≤◌, true, false, List, [], ◌∷◌, ◌++◌, length, map, drop, refl, sym, ap, ◌∙◌, arith, length-append, drop_at}
use Rattle.std.specs.List.{AllByRecursion}
use Rattle.std.proofs.lemmas.List.{map-append}
use Rattle.lldb_btree.specs.declared.node.Child.{Child}
use Rattle.lldb_btree.specs.Nodes.{Entry, IsEntry, entry_bytes, body, child_entry, FitsChild}
use Rattle.lldb_btree.specs.Removal.{IsBeside}
use Rattle.lldb_btree.specs.Trees.{Part, child_of}
use Rattle.lldb_btree.proofs.Ends.{parts_nil}
use Rattle.lldb_btree.proofs.Lengths.{many_of}
use Rattle.lldb_btree.proofs.Parents.{children_both}
use Rattle.lldb_btree.proofs.Placing.{FrontOf}
use Rattle.lldb_btree.proofs.Spelling.{children_fit}
use Rattle.lldb_btree.proofs.Splices.{body_both}
use Rattle.lldb_btree.proofs.Standing.{all_left, all_right, all_both, parts_count}

-- the entries of all children but the last one, and that one's
abbrev pub last_of : List Child → Child → List Entry
last_of cs c = map child_entry (cs ++ (c ∷ []))

entries_cut : (cs : List Child) (c : Child) → last_of cs c ≡ map child_entry cs ++ (child_entry c ∷ [])
entries_cut cs c = map-append child_entry cs (c ∷ [])

pub last_fits : (cs : List Child) (c : Child) → AllByRecursion FitsChild cs → FitsChild c → AllByRecursion (IsEntry false) (last_of cs c)
last_fits cs c a f = children_fit (cs ++ (c ∷ [])) (all_both FitsChild cs (c ∷ []) a (f, tt))

pub last_many : (cs : List Child) (c : Child) (count many : ℕ) → count ≡ length cs + 1 → many ≡ count - 1 → many ≤ length (last_of cs c)
last_many cs c count many n m = omega (arith, n, m, many_of child_entry (cs ++ (c ∷ [])), length-append cs (c ∷ []))

-- what is left behind all but the last one
pub last_left : (cs : List Child) (c : Child) (count many : ℕ) (last : List ℕ) → count ≡ length cs + 1 → many ≡ count - 1 → last ≡ body (drop many (last_of cs c)) → last ≡ entry_bytes (child_entry c) ++ []
last_left cs c count many last n m is =
    let k : length (map child_entry cs) ≡ many = omega (arith, n, m, many_of child_entry cs) in
    is ∙ ap (λ (x : List Entry). body (drop many x)) (entries_cut cs c) ∙ ap body (drop_at (map child_entry cs) (child_entry c ∷ []) many k)

pub last_front : (cs : List Child) (c : Child) (bytes last front : List ℕ) → bytes ≡ body (last_of cs c) → last ≡ entry_bytes (child_entry c) ++ [] → FrontOf bytes (length last) front → front ≡ body (map child_entry cs)
last_front cs c bytes last front is last_is front_of =
    front_of (body (map child_entry cs)) (entry_bytes (child_entry c) ++ []) (is ∙ ap body (entries_cut cs c) ∙ body_both (map child_entry cs) (child_entry c ∷ [])) (ap length (sym last_is))

-- the last of some parts
record LastPart (l : List Part) : Type 0 where
  front : List Part
  one : Part
  is : l ≡ front ++ (one ∷ [])

last_part : (l : List Part) → 0 < length l → LastPart l
last_part [] some = absurd (omega (arith, some))
last_part (p ∷ []) some = record { front = []; one = p; is = refl }
last_part (p ∷ q ∷ l) some =
    let on : LastPart (q ∷ l) = last_part (q ∷ l) (omega arith) in
    record { front = p ∷ on.front; one = on.one; is = ap (λ (x : List Part). p ∷ x) on.is }

-- what was read of the last child
abbrev pub LastRead : List ℕ → ℕ → List ℕ → ℕ → Type 0
LastRead front before rest other = (cs : List Child) (c : Child) → AllByRecursion FitsChild cs → FitsChild c → before ≡ length cs + 1 → front ≡ body (last_of cs c) → (rest ≡ body (map child_entry cs)) × (other ≡ c.handle)

abbrev pub NoLast : List ℕ → ℕ → Type 0
NoLast front before = (cs : List Child) (c : Child) → AllByRecursion FitsChild cs → FitsChild c → before ≡ length cs + 1 → front ≡ body (last_of cs c) → ⊥

-- what was read of the first child
abbrev pub NextRead : List ℕ → ℕ → List ℕ → Type 0
NextRead back other rest = (c : Child) (more : List ℕ) → FitsChild c → back ≡ entry_bytes (child_entry c) ++ more → (other ≡ c.handle) × (rest ≡ more)

abbrev pub NoNext : List ℕ → Type 0
NoNext back = (c : Child) (more : List ℕ) → FitsChild c → back ≡ entry_bytes (child_entry c) ++ more → ⊥

-- the parts beside a child and their bytes
abbrev pub Sides : List Part → List Part → List ℕ → ℕ → List ℕ → Type 0
Sides l r front before back = AllByRecursion FitsChild (map child_of l) × AllByRecursion FitsChild (map child_of r) × (1 ≤ length l + length r) × (before ≡ length l + length r) × (front ≡ body (map child_entry (map child_of l))) × (back ≡ body (map child_entry (map child_of r)))

-- the last part before a child behind which there is none
record LastBefore (l r : List Part) (front : List ℕ) (before : ℕ) (back : List ℕ) : Type 0 where
  none : r ≡ []
  none_left : back ≡ []
  last : LastPart l
  fits : AllByRecursion FitsChild (map child_of last.front)
  fits_one : FitsChild (child_of last.one)
  many : before ≡ length (map child_of last.front) + 1
  is : front ≡ body (last_of (map child_of last.front) (child_of last.one))

last_before : (l r : List Part) (front : List ℕ) (before : ℕ) (back : List ℕ) → back ≡ [] → Sides l r front before back → LastBefore l r front before back
last_before l r front before back nil s =
    let none : r ≡ [] = parts_nil r (sym s.5 ∙ nil) in
    let p : LastPart l = last_part l (omega (arith, s.2, ap length none)) in
    let both : map child_of l ≡ map child_of p.front ++ (child_of p.one ∷ []) = ap (λ (x : List Part). map child_of x) p.is ∙ children_both p.front (p.one ∷ []) in
    let all : AllByRecursion FitsChild (map child_of p.front ++ (child_of p.one ∷ [])) = rw both at s.0 in
    record {
      none = none;
      none_left = nil;
      last = p;
      fits = all_left FitsChild (map child_of p.front) (child_of p.one ∷ []) all;
      fits_one = (all_right FitsChild (map child_of p.front) (child_of p.one ∷ []) all).0;
      many = omega (arith, s.3, ap length none, ap length p.is, length-append p.front (p.one ∷ []), parts_count p.front);
      is = s.4 ∙ ap (λ (x : List Child). body (map child_entry x)) both;
    }

pub beside_last : (l r : List Part) (front : List ℕ) (before : ℕ) (back rest : List ℕ) (other : ℕ) → back ≡ [] → LastRead front before rest other → Sides l r front before back → IsBeside l r rest other back false
beside_last l r front before back rest other nil read s =
    let b = last_before l r front before back nil s in
    let f = read (map child_of b.last.front) (child_of b.last.one) b.fits b.fits_one b.many b.is in
    (b.last.one, b.last.front, b.last.is, f.1, f.0, b.none, nil)

pub lastless : (l r : List Part) (front : List ℕ) (before : ℕ) (back : List ℕ) → back ≡ [] → NoLast front before → Sides l r front before back → ⊥
lastless l r front before back nil none s =
    let b = last_before l r front before back nil s in
    none (map child_of b.last.front) (child_of b.last.one) b.fits b.fits_one b.many b.is

pub beside_next : (l r : List Part) (front : List ℕ) (before : ℕ) (back rest : List ℕ) (other : ℕ) → (back ≡ [] → ⊥) → NextRead back other rest → Sides l r front before back → IsBeside l r front other rest true
beside_next l [] front before back rest other some read s = absurd (some s.5)
beside_next l (q ∷ qs) front before back rest other some read s =
    let f = read (child_of q) (body (map child_entry (map child_of qs))) s.1.0 s.5 in
    (q, qs, refl, f.0, s.4, f.1)

pub nextless : (l r : List Part) (front : List ℕ) (before : ℕ) (back : List ℕ) → (back ≡ [] → ⊥) → NoNext back → Sides l r front before back → ⊥
nextless l [] front before back some none s = some s.5
nextless l (q ∷ qs) front before back some none s = none (child_of q) (body (map child_entry (map child_of qs))) s.1.0 s.5
