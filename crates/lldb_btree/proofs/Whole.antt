-- A whole node, read from its bytes.
use Rattle.std.proofs.Common.{◌≡◌, ℕ, ◌<◌, ◌≤◌, Bool, true, false, List, [], ◌∷◌, length, take, get_or, map, None, Result, Ok, Err, IfOk, refl, sym, ap, ◌∙◌, arith, take_all, w64}
use Rattle.std.specs.Int.{to_be_bytes, from_be_bytes}
use Rattle.std.proofs.lemmas.Nat.{be_bytes_8}
use Rattle.lldb_btree.specs.declared.node.Child.{Child}
use Rattle.lldb_btree.specs.declared.node.Node.{Node}
use Rattle.lldb_btree.specs.declared.node.Node.TheVariants.{Leaf, Inner}
use Rattle.lldb_btree.specs.declared.node.NodeFault.{NodeFault}
use Rattle.lldb_btree.specs.declared.node.Pair.{Pair}
use Rattle.lldb_btree.specs.Decoding.{ArePairs, AreChildren, BadOnly, child_keys}
use Rattle.lldb_btree.specs.Nodes.{Entry, body, pair_entry, child_entry, spelling, IsProper}
use Rattle.lldb_btree.specs.Pairs.{keys_of}
use Rattle.lldb_btree.specs.Reading.{mark}
use Rattle.lldb_btree.proofs.Decodes.{bad_on}

pub handle_made : (tail eight : List ℕ) (n : ℕ) → ((i : ℕ) → get_or tail i 0 < 256) → eight ≡ take 8 tail → n ≡ from_be_bytes w64 eight → length tail ≡ 8 → to_be_bytes w64 n ≡ tail
handle_made tail eight n small front is len =
    let all : take 8 tail ≡ tail = take_all 8 tail (omega (arith, len)) in
    be_bytes_8 tail n len small (is ∙ ap (from_be_bytes w64) (front ∙ all))

pair_keys : (ps : List Pair) → map (λ (e : Entry). e.key) (map pair_entry ps) ≡ keys_of ps
pair_keys [] = refl
pair_keys (p ∷ ps) = ap (λ (l : List (List ℕ)). p.key ∷ l) (pair_keys ps)

children_keys : (cs : List Child) → map (λ (e : Entry). e.key) (map child_entry cs) ≡ child_keys cs
children_keys [] = refl
children_keys (c ∷ cs) = ap (λ (l : List (List ℕ)). c.key ∷ l) (children_keys cs)

pub no_head : (n : Node) (bytes : List ℕ) → bytes ≡ spelling n → ((leaf : Bool) (count : ℕ) (rest : List ℕ) → bytes ≡ mark leaf ∷ count ∷ rest → ⊥) → ⊥
no_head (Leaf ps) bytes is none = none true (length ps) (body (map pair_entry ps)) is
no_head (Inner cs) bytes is none = none false (length cs) (body (map child_entry cs)) is

-- a node that bytes spell
abbrev pub IsReadAs : List ℕ → Node → Type 0
IsReadAs bytes n = IsProper n × (bytes ≡ spelling n)

leaf_is : (bytes rest : List ℕ) (leaf : Bool) (count : ℕ) (ps : List Pair) → bytes ≡ mark leaf ∷ count ∷ rest → leaf ≡ true → count ≤ 32 → ArePairs None count rest ps → IsReadAs bytes (Leaf ps)
leaf_is bytes rest leaf count ps h on low a = (
  record { few = omega (arith, a.many, low); fits = a.fits; rises = rw (pair_keys ps) a.rises },
  h ∙ ap (λ (b : Bool). mark b ∷ count ∷ rest) on ∙ ap (λ (n : ℕ). 0 ∷ n ∷ rest) (sym a.many) ∙ ap (λ (l : List ℕ). 0 ∷ length ps ∷ l) a.spelled,
)

inner_is : (bytes rest : List ℕ) (leaf : Bool) (count : ℕ) (cs : List Child) → bytes ≡ mark leaf ∷ count ∷ rest → leaf ≡ false → count ≤ 32 → AreChildren None count rest cs → IsReadAs bytes (Inner cs)
inner_is bytes rest leaf count cs h on low a = (
  record { few = omega (arith, a.many, low); fits = a.fits; rises = rw (children_keys cs) a.rises },
  h ∙ ap (λ (b : Bool). mark b ∷ count ∷ rest) on ∙ ap (λ (n : ℕ). 1 ∷ n ∷ rest) (sym a.many) ∙ ap (λ (l : List ℕ). 1 ∷ length cs ∷ l) a.spelled,
)

pub leaf_ok : (bytes rest : List ℕ) (leaf : Bool) (count : ℕ) (r : Result Node NodeFault) → bytes ≡ mark leaf ∷ count ∷ rest → leaf ≡ true → count ≤ 32 → IfOk r (λ n. (ps : List Pair) × (n ≡ Leaf ps) × ArePairs None count rest ps) → IfOk r (λ n. IsReadAs bytes n)
leaf_ok bytes rest leaf count (Ok n) h on low p = rw p.1 (leaf_is bytes rest leaf count p.0 h on low p.2)
leaf_ok bytes rest leaf count (Err e) h on low p = tt

pub inner_ok : (bytes rest : List ℕ) (leaf : Bool) (count : ℕ) (r : Result Node NodeFault) → bytes ≡ mark leaf ∷ count ∷ rest → leaf ≡ false → count ≤ 32 → IfOk r (λ n. (cs : List Child) × (n ≡ Inner cs) × AreChildren None count rest cs) → IfOk r (λ n. IsReadAs bytes n)
inner_ok bytes rest leaf count (Ok n) h on low p = rw p.1 (inner_is bytes rest leaf count p.0 h on low p.2)
inner_ok bytes rest leaf count (Err e) h on low p = tt

as_leaf : (bytes rest : List ℕ) (leaf : Bool) (count : ℕ) → bytes ≡ mark leaf ∷ count ∷ rest → leaf ≡ true → (n : Node) → IsReadAs bytes n → (ps : List Pair) × ArePairs None count rest ps
as_leaf bytes rest leaf count h on (Leaf ps) p =
    let same : 0 ∷ count ∷ rest ≡ 0 ∷ length ps ∷ body (map pair_entry ps) = sym (h ∙ ap (λ (b : Bool). mark b ∷ count ∷ rest) on) ∙ p.1 in
    let many : count ≡ length ps = cc (same) in
    let spelled : rest ≡ body (map pair_entry ps) = cc (same) in
    (ps, record { many = sym many; fits = p.0.fits; rises = rw (pair_keys ps) at p.0.rises; spelled = spelled })
as_leaf bytes rest leaf count h on (Inner cs) p =
    let same : 0 ∷ count ∷ rest ≡ 1 ∷ length cs ∷ body (map child_entry cs) = sym (h ∙ ap (λ (b : Bool). mark b ∷ count ∷ rest) on) ∙ p.1 in
    absurd (cc (same))

as_inner : (bytes rest : List ℕ) (leaf : Bool) (count : ℕ) → bytes ≡ mark leaf ∷ count ∷ rest → leaf ≡ false → (n : Node) → IsReadAs bytes n → (cs : List Child) × AreChildren None count rest cs
as_inner bytes rest leaf count h on (Inner cs) p =
    let same : 1 ∷ count ∷ rest ≡ 1 ∷ length cs ∷ body (map child_entry cs) = sym (h ∙ ap (λ (b : Bool). mark b ∷ count ∷ rest) on) ∙ p.1 in
    let many : count ≡ length cs = cc (same) in
    let spelled : rest ≡ body (map child_entry cs) = cc (same) in
    (cs, record { many = sym many; fits = p.0.fits; rises = rw (children_keys cs) at p.0.rises; spelled = spelled })
as_inner bytes rest leaf count h on (Leaf ps) p =
    let same : 1 ∷ count ∷ rest ≡ 0 ∷ length ps ∷ body (map pair_entry ps) = sym (h ∙ ap (λ (b : Bool). mark b ∷ count ∷ rest) on) ∙ p.1 in
    absurd (cc (same))

pub leaf_bad : (bytes rest : List ℕ) (leaf : Bool) (count : ℕ) (r : Result Node NodeFault) → bytes ≡ mark leaf ∷ count ∷ rest → leaf ≡ true → BadOnly (ArePairs None count rest) r → BadOnly (λ n. IsReadAs bytes n) r
leaf_bad bytes rest leaf count r h on b = bad_on (ArePairs None count rest) (λ n. IsReadAs bytes n) r (as_leaf bytes rest leaf count h on) b

pub inner_bad : (bytes rest : List ℕ) (leaf : Bool) (count : ℕ) (r : Result Node NodeFault) → bytes ≡ mark leaf ∷ count ∷ rest → leaf ≡ false → BadOnly (AreChildren None count rest) r → BadOnly (λ n. IsReadAs bytes n) r
inner_bad bytes rest leaf count r h on b = bad_on (AreChildren None count rest) (λ n. IsReadAs bytes n) r (as_inner bytes rest leaf count h on) b
