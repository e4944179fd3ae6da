-- What it means that nothing is found in blocks by themselves, and in what relocated blocks name.
use Rattle.std.proofs.Common.{◌≡◌, ℕ, ◌+◌, inl, inr, Bool, true, false, not, cond, ◌&&◌, ◌||◌, List, [], ◌∷◌, ◌++◌, Option, Some, None, is_some, refl, sym, ◌∙◌, ap, ap₂, subst, arith, nat_eq}
use Rattle.std.specs.List.{list_all}
use Rattle.std.proofs.lemmas.Bool.{cases_Bool, and_parts, and_from, false≢true, cond_both, or_cases, or_right, eqb-true, eq-eqb, not_from_false}
use Rattle.lldb_atoms.specs.Blocks.{Extent, Used, Compressed, Moved, Free, Hole, size}
use Rattle.lldb_atoms.specs.Rows.{atoms_in, extent_at, contains, are_distinct, targets, used_content, are_spaced, ends_free}
use Rattle.lldb_verify.specs.Findings.{unless, of_blocks, is_used, of_target, of_targets}
use Rattle.lldb_verify.specs.declared.finding.Finding.TheVariants as finding

-- lists without members
pub both_empty : {A : Type 0} → (xs ys : List A) → xs ++ ys ≡ [] → (xs ≡ []) × (ys ≡ [])
both_empty [] ys is = (refl, is)
both_empty (x ∷ xs) ys is = absurd (cc)

pub none_of : {A : Type 0} → (xs ys : List A) → xs ≡ [] → ys ≡ [] → xs ++ ys ≡ []
none_of {A = A} xs ys x y = ap₂ (λ (a b : List A). a ++ b) x y

-- a test that found nothing
pub test_of : {A : Type 0} → (b : Bool) (xs : List A) (x : A) → cond b xs (x ∷ []) ≡ [] → (b ≡ true) × (xs ≡ [])
test_of true xs x is = (refl, is)
test_of false xs x is = absurd (cc)

pub false_of_not : (b : Bool) → not b ≡ true → b ≡ false
false_of_not true is = absurd (false≢true is)
false_of_not false is = refl

pub later_lacks : (a b : Bool) → (a || b) ≡ false → (a ≡ false) × (b ≡ false)
later_lacks true b is = absurd (false≢true (sym is))
later_lacks false b is = (refl, is)

-- blocks in which nothing is found
pub record Spaced (atoms from : ℕ) (before : Bool) (row : List Extent) : Type 0 where
  pub whole : from + atoms_in row ≡ atoms
  pub spread : are_spaced before row ≡ true
  pub closed : ends_free before row ≡ false

pub blocks_clean : (atoms : ℕ) (before : Option ℕ) (from : ℕ) (row : List Extent) → of_blocks atoms before from row ≡ [] → Spaced atoms from (is_some before) row
blocks_clean atoms None from [] is =
    let test = test_of (nat_eq from atoms) [] _ is in
    let same = eqb-true from atoms test.0 in
    record { whole = omega (arith, same); spread = refl; closed = refl }
blocks_clean atoms (Some b) from [] is = absurd (let test = test_of (nat_eq from atoms) _ _ is in let none = test.1 in cc)
blocks_clean atoms before from (Used content ∷ row) is =
    let rest = blocks_clean atoms None (from + size (Used content)) row is in
    let whole = rest.whole in
    record { whole = omega (arith, whole); spread = rest.spread; closed = rest.closed }
blocks_clean atoms before from (Compressed content ∷ row) is = absurd (cc)
blocks_clean atoms before from (Moved target ∷ row) is =
    let rest = blocks_clean atoms None (from + 1) row is in
    let whole = rest.whole in
    record { whole = omega (arith, whole); spread = rest.spread; closed = rest.closed }
blocks_clean atoms None from (Free count ∷ row) is =
    let rest = blocks_clean atoms (Some from) (from + count) row is in
    let whole = rest.whole in
    record { whole = omega (arith, whole); spread = rest.spread; closed = rest.closed }
blocks_clean atoms (Some b) from (Free count ∷ row) is = absurd (cc)
blocks_clean atoms before from (Hole count ∷ row) is = absurd (cc)

pub blocks_none : (atoms : ℕ) (before : Option ℕ) (from : ℕ) (row : List Extent) → Spaced atoms from (is_some before) row → of_blocks atoms before from row ≡ []
blocks_none atoms None from [] s =
    let whole = s.whole in
    ap (λ (b : Bool). unless b (finding.BadBlock from)) (eq-eqb from atoms (omega (arith, whole)))
blocks_none atoms (Some b) from [] s = absurd (false≢true (sym s.closed))
blocks_none atoms before from (Used content ∷ row) s =
    let whole = s.whole in
    blocks_none atoms None (from + size (Used content)) row (record { whole = omega (arith, whole); spread = s.spread; closed = s.closed })
blocks_none atoms before from (Compressed content ∷ row) s = absurd (false≢true s.spread)
blocks_none atoms before from (Moved target ∷ row) s =
    let whole = s.whole in
    blocks_none atoms None (from + 1) row (record { whole = omega (arith, whole); spread = s.spread; closed = s.closed })
blocks_none atoms None from (Free count ∷ row) s =
    let whole = s.whole in
    blocks_none atoms (Some from) (from + count) row (record { whole = omega (arith, whole); spread = s.spread; closed = s.closed })
blocks_none atoms (Some b) from (Free count ∷ row) s = absurd (false≢true s.spread)
blocks_none atoms before from (Hole count ∷ row) s = absurd (false≢true s.spread)

-- where no block is compressed, a used block is one whose content is read
pub used_same : (before : Bool) (from : ℕ) (row : List Extent) (q : ℕ) → are_spaced before row ≡ true → is_used (extent_at from row q) ≡ is_some (used_content (extent_at from row q))
used_same before from [] q spread = refl
used_same before from (Used content ∷ row) q spread =
    cond_both (nat_eq q from) (Some (Used content)) (extent_at (from + size (Used content)) row q) (λ o. is_used o ≡ is_some (used_content o)) (λ here. refl) (λ other. used_same false (from + size (Used content)) row q spread)
used_same before from (Compressed content ∷ row) q spread = absurd (false≢true spread)
used_same before from (Moved target ∷ row) q spread =
    cond_both (nat_eq q from) (Some (Moved target)) (extent_at (from + 1) row q) (λ o. is_used o ≡ is_some (used_content o)) (λ here. refl) (λ other. used_same false (from + 1) row q spread)
used_same before from (Free count ∷ row) q spread =
    let behind : are_spaced true row ≡ true = (and_parts (not before) (are_spaced true row) spread).1 in
    cond_both (nat_eq q from) (Some (Free count)) (extent_at (from + count) row q) (λ o. is_used o ≡ is_some (used_content o)) (λ here. refl) (λ other. used_same true (from + count) row q behind)
used_same before from (Hole count ∷ row) q spread = absurd (false≢true spread)

-- what blocks name is used, and named once
pub record Aims (all : List Extent) (named ts : List ℕ) : Type 0 where
  pub once : are_distinct ts ≡ true
  pub apart : (t : ℕ) → contains ts t ≡ true → contains named t ≡ false
  pub used : list_all (λ t. is_used (extent_at 8 all t)) ts ≡ true

lacked : (ts named : List ℕ) (t : ℕ) → ((u : ℕ) → contains ts u ≡ true → contains (t ∷ named) u ≡ false) → contains ts t ≡ false
lacked ts named t apart = elim (cases_Bool (contains ts t)) [
  | inl member ↦ absurd (false≢true (sym (later_lacks (nat_eq t t) (contains named t) (apart t member)).0 ∙ eq-eqb t t refl))
  | inr lacks ↦ lacks
]

pub targets_clean : (all : List Extent) (named : List ℕ) (from : ℕ) (row : List Extent) → of_targets all named from row ≡ [] → Aims all named (targets row)
targets_clean all named from [] is = record { once = refl; apart = λ t member. absurd (false≢true member); used = refl }
targets_clean all named from (Used content ∷ row) is = targets_clean all named (from + size (Used content)) row is
targets_clean all named from (Compressed content ∷ row) is = targets_clean all named (from + size (Compressed content)) row is
targets_clean all named from (Moved t ∷ row) is =
    let two = both_empty (of_target all named from (Moved t)) (of_targets all (t ∷ named) (from + 1) row) is in
    let test = (test_of (is_used (extent_at 8 all t) && not (contains named t)) [] _ two.0).0 in
    let parts = and_parts (is_used (extent_at 8 all t)) (not (contains named t)) test in
    let rest = targets_clean all (t ∷ named) (from + 1) row two.1 in
    record {
      once = and_from (not (contains (targets row) t)) (are_distinct (targets row)) (not_from_false (contains (targets row) t) (lacked (targets row) named t rest.apart)) rest.once;
      apart = λ u member. elim (or_cases (nat_eq u t) (contains (targets row) u) member) [
        | inl same ↦ subst (λ (v : ℕ). contains named v ≡ false) (sym (eqb-true u t same)) (false_of_not (contains named t) parts.1)
        | inr later ↦ (later_lacks (nat_eq u t) (contains named u) (rest.apart u later)).1
      ];
      used = and_from (is_used (extent_at 8 all t)) (list_all (λ u. is_used (extent_at 8 all u)) (targets row)) parts.0 rest.used;
    }
targets_clean all named from (Free count ∷ row) is = targets_clean all named (from + count) row is
targets_clean all named from (Hole count ∷ row) is = targets_clean all named (from + count) row is

other_member : (ts : List ℕ) (t u : ℕ) → contains ts t ≡ false → contains ts u ≡ true → nat_eq u t ≡ false
other_member ts t u lacks member = elim (cases_Bool (nat_eq u t)) [
  | inl same ↦ absurd (false≢true (sym lacks ∙ subst (λ (v : ℕ). contains ts v ≡ true) (eqb-true u t same) member))
  | inr other ↦ other
]

neither : (a b : Bool) → a ≡ false → b ≡ false → (a || b) ≡ false
neither a b x y = ap₂ (λ (c d : Bool). c || d) x y

pub targets_none : (all : List Extent) (named : List ℕ) (from : ℕ) (row : List Extent) → Aims all named (targets row) → of_targets all named from row ≡ []
targets_none all named from [] aims = refl
targets_none all named from (Used content ∷ row) aims = targets_none all named (from + size (Used content)) row aims
targets_none all named from (Compressed content ∷ row) aims = targets_none all named (from + size (Compressed content)) row aims
targets_none all named from (Moved t ∷ row) aims =
    let ones = and_parts (not (contains (targets row) t)) (are_distinct (targets row)) aims.once in
    let lacks = false_of_not (contains (targets row) t) ones.0 in
    let used = and_parts (is_used (extent_at 8 all t)) (list_all (λ u. is_used (extent_at 8 all u)) (targets row)) aims.used in
    let first : contains (t ∷ targets row) t ≡ true = ap (λ (b : Bool). b || contains (targets row) t) (eq-eqb t t refl) in
    let test : (is_used (extent_at 8 all t) && not (contains named t)) ≡ true = and_from (is_used (extent_at 8 all t)) (not (contains named t)) used.0 (not_from_false (contains named t) (aims.apart t first)) in
    let rest : Aims all (t ∷ named) (targets row) = record {
      once = ones.1;
      apart = λ u member. neither (nat_eq u t) (contains named u) (other_member (targets row) t u lacks member) (aims.apart u (or_right (nat_eq u t) (contains (targets row) u) member));
      used = used.1;
    } in
    none_of (of_target all named from (Moved t)) (of_targets all (t ∷ named) (from + 1) row) (ap (λ (b : Bool). unless b (finding.BadTarget from t)) test) (targets_none all (t ∷ named) (from + 1) row rest)
targets_none all named from (Free count ∷ row) aims = targets_none all named (from + count) row aims
targets_none all named from (Hole count ∷ row) aims = targets_none all named (from + count) row aims
