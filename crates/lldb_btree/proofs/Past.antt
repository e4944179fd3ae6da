-- What stands behind a key among entries, by how the first of them compares.
use Rattle.std.proofs.Common.{◌≡◌, ℕ, suc, ◌+◌, true, List, [], ◌∷◌, length, sym, ap, ◌∙◌, arith}
use Rattle.std.specs.List.{AllByRecursion}
use Rattle.std.specs.Ordering.{match_ordering}
use Rattle.std.specs.declared.cmp.Ordering.{Ordering}
use Rattle.std.specs.declared.cmp.Ordering.TheVariants.{Less, Equal, Greater}
use Rattle.lldb_btree.specs.Nodes.{Entry, IsEntry, body}
use Rattle.lldb_btree.specs.Pairs.{order}
use Rattle.lldb_btree.specs.Splicing.{past_key}
use Rattle.lldb_btree.proofs.Splitting.{Whole}

-- the bytes are those of the entries without one of the key, which adds so many
abbrev pub IsPast : List ℕ → List Entry → List ℕ → ℕ → ℕ → Type 0
IsPast k es out left more = (out ≡ body (past_key k es)) × (left + more ≡ length (past_key k es) + 1)

pub past_none : (k : List ℕ) (left : ℕ) (bytes : List ℕ) → left ≡ 0 → (es : List Entry) → length es ≡ left → bytes ≡ body es → IsPast k es bytes left 1
past_none k left bytes none [] len is = (is, omega (arith, none))
past_none k left bytes none (e ∷ es) len is = absurd (omega (arith, none, len))

past_kept : (k : List ℕ) (left : ℕ) (bytes : List ℕ) (e : Entry) (es : List Entry) → past_key k (e ∷ es) ≡ e ∷ es → suc (length es) ≡ left → bytes ≡ body (e ∷ es) → IsPast k (e ∷ es) bytes left 1
past_kept k left bytes e es p len is = (is ∙ ap body (sym p), omega (arith, len, ap length p))

past_over : (k : List ℕ) (left : ℕ) (rest : List ℕ) (e : Entry) (es : List Entry) → past_key k (e ∷ es) ≡ es → suc (length es) ≡ left → rest ≡ body es → IsPast k (e ∷ es) rest left 0
past_over k left rest e es p len is = (is ∙ ap body (sym p), omega (arith, len, ap length p))

past_by : (k : List ℕ) (e : Entry) (es : List Entry) (first : List ℕ) (o : Ordering) → first ≡ e.key → order k first ≡ o → past_key k (e ∷ es) ≡ match_ordering o (e ∷ es) es (e ∷ es)
past_by k e es first o same is = ap (λ (x : Ordering). match_ordering x (e ∷ es) es (e ∷ es)) (ap (λ (x : List ℕ). order k x) (sym same) ∙ is)

pub past_less : (k : List ℕ) (left : ℕ) (bytes first tail rest : List ℕ) → (left ≡ 0 → ⊥) → Whole true bytes first tail rest → order k first ≡ Less → (es : List Entry) → AllByRecursion (IsEntry true) es → length es ≡ left → bytes ≡ body es → IsPast k es bytes left 1
past_less k left bytes first tail rest some whole at [] fits len is = absurd (some (sym len))
past_less k left bytes first tail rest some whole at (e ∷ es) fits len is = past_kept k left bytes e es (past_by k e es first Less (whole e (body es) fits.0 is).0 at) len is

pub past_greater : (k : List ℕ) (left : ℕ) (bytes first tail rest : List ℕ) → (left ≡ 0 → ⊥) → Whole true bytes first tail rest → order k first ≡ Greater → (es : List Entry) → AllByRecursion (IsEntry true) es → length es ≡ left → bytes ≡ body es → IsPast k es bytes left 1
past_greater k left bytes first tail rest some whole at [] fits len is = absurd (some (sym len))
past_greater k left bytes first tail rest some whole at (e ∷ es) fits len is = past_kept k left bytes e es (past_by k e es first Greater (whole e (body es) fits.0 is).0 at) len is

pub past_equal : (k : List ℕ) (left : ℕ) (bytes first tail rest : List ℕ) → (left ≡ 0 → ⊥) → Whole true bytes first tail rest → order k first ≡ Equal → (es : List Entry) → AllByRecursion (IsEntry true) es → length es ≡ left → bytes ≡ body es → IsPast k es rest left 0
past_equal k left bytes first tail rest some whole at [] fits len is = absurd (some (sym len))
past_equal k left bytes first tail rest some whole at (e ∷ es) fits len is =
    let w = whole e (body es) fits.0 is in
    past_over k left rest e es (past_by k e es first Equal w.0 at) len w.2
