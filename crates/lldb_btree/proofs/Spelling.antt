-- A node has one spelling.
use Rattle.std.proofs.Common.{◌≡◌, ℕ, suc, ◌^◌, ◌<◌, Bool, true, false, List, [], ◌∷◌, ◌++◌, length, map, sym, ap, ◌∙◌, refl, arith, append_assoc, w16, w64}
use Rattle.std.specs.List.{AllByRecursion}
use Rattle.std.specs.Int.{to_be_bytes, from_be_bytes}
use Rattle.std.proofs.lemmas.Nat.{from_be_bytes-to_be_bytes_2, from_be_bytes-to_be_bytes_8}
use Rattle.lldb_btree.specs.declared.node.Child.{Child}
use Rattle.lldb_btree.specs.declared.node.Node.TheVariants.{Leaf, Inner}
use Rattle.lldb_btree.specs.declared.node.Pair.{Pair}
use Rattle.lldb_btree.specs.Laws.{OneSpelling}
use Rattle.lldb_btree.specs.Nodes.{Entry, entry_bytes, body, pair_entry, child_entry, FitsChild, IsTail, IsEntry}
use Rattle.lldb_btree.specs.Pairs.{FitsPair}

-- two lists that begin with fronts of one length are equal front by front
pub parted : (xs bs ys ds : List ℕ) → length xs ≡ length ys → xs ++ bs ≡ ys ++ ds → (xs ≡ ys) × (bs ≡ ds)
parted [] bs [] ds l e = (refl, e)
parted [] bs (y ∷ ys) ds l e = absurd (omega arith)
parted (x ∷ xs) bs [] ds l e = absurd (omega arith)
parted (x ∷ xs) bs (y ∷ ys) ds l e =
    let r : (xs ≡ ys) × (bs ≡ ds) = parted xs bs ys ds (omega arith) (cc) in
    let h : x ≡ y = cc in
    (cc (h, r.0), r.1)

-- the bytes of two lengths tell the lengths apart
pub length_told : (m n : ℕ) → m < 2 ^ 16 → n < 2 ^ 16 → to_be_bytes w16 m ≡ to_be_bytes w16 n → m ≡ n
length_told m n a b e = sym (from_be_bytes-to_be_bytes_2 m a) ∙ ap (from_be_bytes w16) e ∙ from_be_bytes-to_be_bytes_2 n b

pub handle_told : (m n : ℕ) → m < 2 ^ 64 → n < 2 ^ 64 → to_be_bytes w64 m ≡ to_be_bytes w64 n → m ≡ n
handle_told m n a b e = sym (from_be_bytes-to_be_bytes_8 m a) ∙ ap (from_be_bytes w64) e ∙ from_be_bytes-to_be_bytes_8 n b

-- what stands behind a key has an end of its own
pub tail_parted : (leaf : Bool) (t s xs ys : List ℕ) → IsTail leaf t → IsTail leaf s → t ++ xs ≡ s ++ ys → (t ≡ s) × (xs ≡ ys)
tail_parted false t s xs ys a b e = parted t xs s ys (a ∙ sym b) e
tail_parted true t s xs ys a b e =
    let ft : t ++ xs ≡ length a.0 ∷ (a.0 ++ xs) = ap (λ (z : List ℕ). z ++ xs) a.2 in
    let fs : s ++ ys ≡ length b.0 ∷ (b.0 ++ ys) = ap (λ (z : List ℕ). z ++ ys) b.2 in
    let whole : length a.0 ∷ (a.0 ++ xs) ≡ length b.0 ∷ (b.0 ++ ys) = sym ft ∙ e ∙ fs in
    let lens : length a.0 ≡ length b.0 = cc (whole) in
    let rest : a.0 ++ xs ≡ b.0 ++ ys = cc (whole) in
    let r : (a.0 ≡ b.0) × (xs ≡ ys) = parted a.0 xs b.0 ys lens rest in
    (a.2 ∙ ap (λ (v : List ℕ). length v ∷ v) r.0 ∙ sym b.2, r.1)

same_entry : (e f : Entry) → e.key ≡ f.key → e.tail ≡ f.tail → e ≡ f
same_entry e f k t = λ i. record { key = k i; tail = t i }

-- an entry's bytes before others: the length, the key, what stands behind it, and the others
pub entry_front : (e : Entry) (xs : List ℕ) → entry_bytes e ++ xs ≡ to_be_bytes w16 (length e.key) ++ (e.key ++ (e.tail ++ xs))
unfolding entry_bytes
entry_front e xs = append_assoc (to_be_bytes w16 (length e.key)) (e.key ++ e.tail) xs ∙ ap (λ (z : List ℕ). to_be_bytes w16 (length e.key) ++ z) (append_assoc e.key e.tail xs)

pub entry_parted : (leaf : Bool) (e f : Entry) (xs ys : List ℕ) → IsEntry leaf e → IsEntry leaf f → entry_bytes e ++ xs ≡ entry_bytes f ++ ys → (e ≡ f) × (xs ≡ ys)
entry_parted leaf e f xs ys a b same =
    let whole : to_be_bytes w16 (length e.key) ++ (e.key ++ (e.tail ++ xs)) ≡ to_be_bytes w16 (length f.key) ++ (f.key ++ (f.tail ++ ys)) = sym (entry_front e xs) ∙ same ∙ entry_front f ys in
    let r : (to_be_bytes w16 (length e.key) ≡ to_be_bytes w16 (length f.key)) × (e.key ++ (e.tail ++ xs) ≡ f.key ++ (f.tail ++ ys)) = parted (to_be_bytes w16 (length e.key)) _ (to_be_bytes w16 (length f.key)) _ refl whole in
    let lens : length e.key ≡ length f.key = length_told (length e.key) (length f.key) (omega (arith, a.key)) (omega (arith, b.key)) r.0 in
    let k : (e.key ≡ f.key) × (e.tail ++ xs ≡ f.tail ++ ys) = parted e.key _ f.key _ lens r.1 in
    let t : (e.tail ≡ f.tail) × (xs ≡ ys) = tail_parted leaf e.tail f.tail xs ys a.tail b.tail k.1 in
    (same_entry e f k.0 t.0, t.1)

-- as many entries with the same bytes are the same
pub entries_told : (leaf : Bool) (es fs : List Entry) → AllByRecursion (IsEntry leaf) es → AllByRecursion (IsEntry leaf) fs → length es ≡ length fs → body es ≡ body fs → es ≡ fs
entries_told leaf [] [] a b l e = refl
entries_told leaf [] (f ∷ fs) a b l e = absurd (omega arith)
entries_told leaf (x ∷ es) [] a b l e = absurd (omega arith)
entries_told leaf (x ∷ es) (f ∷ fs) a b l e =
    let r : (x ≡ f) × (body es ≡ body fs) = entry_parted leaf x f (body es) (body fs) a.0 b.0 e in
    let t : es ≡ fs = entries_told leaf es fs a.1 b.1 (omega arith) r.1 in
    cc (r.0, t)

-- pairs and children that fit are entries
pub pair_fits : (p : Pair) → FitsPair p → IsEntry true (pair_entry p)
pair_fits p f = record { key = f.0; tail = (p.value, f.1, refl) }

pub pairs_fit : (ps : List Pair) → AllByRecursion FitsPair ps → AllByRecursion (IsEntry true) (map pair_entry ps)
pairs_fit [] a = tt
pairs_fit (p ∷ ps) a = (pair_fits p a.0, pairs_fit ps a.1)

pub child_fits : (c : Child) → FitsChild c → IsEntry false (child_entry c)
child_fits c f = record { key = f.0; tail = refl }

pub children_fit : (cs : List Child) → AllByRecursion FitsChild cs → AllByRecursion (IsEntry false) (map child_entry cs)
children_fit [] a = tt
children_fit (c ∷ cs) a = (child_fits c a.0, children_fit cs a.1)

same_pair : (p q : Pair) → p.key ≡ q.key → p.value ≡ q.value → p ≡ q
same_pair p q k v = λ i. record { key = k i; value = v i }

same_child : (c d : Child) → c.key ≡ d.key → c.handle ≡ d.handle → c ≡ d
same_child c d k h = λ i. record { key = k i; handle = h i }

pub pairs_told : (ps qs : List Pair) → map pair_entry ps ≡ map pair_entry qs → ps ≡ qs
pairs_told [] [] e = refl
pairs_told [] (q ∷ qs) e = absurd (cc)
pairs_told (p ∷ ps) [] e = absurd (cc)
pairs_told (p ∷ ps) (q ∷ qs) e =
    let one : pair_entry p ≡ pair_entry q = cc in
    let rest : map pair_entry ps ≡ map pair_entry qs = cc in
    let k : p.key ≡ q.key = ap (λ (x : Entry). x.key) one in
    let t : length p.value ∷ p.value ≡ length q.value ∷ q.value = ap (λ (x : Entry). x.tail) one in
    let v : p.value ≡ q.value = cc (t) in
    cc (same_pair p q k v, pairs_told ps qs rest)

pub children_told : (cs ds : List Child) → AllByRecursion FitsChild cs → AllByRecursion FitsChild ds → map child_entry cs ≡ map child_entry ds → cs ≡ ds
children_told [] [] a b e = refl
children_told [] (d ∷ ds) a b e = absurd (cc)
children_told (c ∷ cs) [] a b e = absurd (cc)
children_told (c ∷ cs) (d ∷ ds) a b e =
    let one : child_entry c ≡ child_entry d = cc in
    let rest : map child_entry cs ≡ map child_entry ds = cc in
    let k : c.key ≡ d.key = ap (λ (x : Entry). x.key) one in
    let h : c.handle ≡ d.handle = handle_told c.handle d.handle a.0.1 b.0.1 (ap (λ (x : Entry). x.tail) one) in
    cc (same_child c d k h, children_told cs ds a.1 b.1 rest)

length_of_map : {X : Type 0} (f : X → Entry) (xs : List X) → length (map f xs) ≡ length xs
length_of_map f [] = refl
length_of_map f (x ∷ xs) = ap (λ (n : ℕ). suc n) (length_of_map f xs)

pub one_spelling : OneSpelling
one_spelling (Leaf ps) (Leaf qs) a b e =
    let len : length ps ≡ length qs = cc in
    let bytes : body (map pair_entry ps) ≡ body (map pair_entry qs) = cc in
    ap Leaf (pairs_told ps qs (entries_told true (map pair_entry ps) (map pair_entry qs) (pairs_fit ps a) (pairs_fit qs b) (length_of_map pair_entry ps ∙ len ∙ sym (length_of_map pair_entry qs)) bytes))
one_spelling (Inner cs) (Inner ds) a b e =
    let len : length cs ≡ length ds = cc in
    let bytes : body (map child_entry cs) ≡ body (map child_entry ds) = cc in
    ap Inner (children_told cs ds a b (entries_told false (map child_entry cs) (map child_entry ds) (children_fit cs a) (children_fit ds b) (length_of_map child_entry cs ∙ len ∙ sym (length_of_map child_entry ds)) bytes))
one_spelling (Leaf ps) (Inner ds) a b e = absurd (cc)
one_spelling (Inner cs) (Leaf qs) a b e = absurd (cc)
