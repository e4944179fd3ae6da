-- Each column that values are for is a column of the table, and has its kind.
use Rattle.std.proofs.Common.{◌≡◌, ℕ, suc, ◌+◌, Bool, true, false, if◌then◌else◌, List, [], ◌∷◌, ◌++◌, Option, Some, None, Ok, refl, ap, subst, ◌∙◌, arith}
use Rattle.std.specs.Prelude.{slice_get}
use Rattle.std.specs.Str.{bytes_eq}
use Rattle.ql_syntax.specs.declared.statement.ColumnDef.{ColumnDef}
use Rattle.ql_syntax.specs.Answers.{then_with}
use Rattle.ql_rel.specs.declared.change.Target.{Target}
use Rattle.ql_rel.specs.Targets.{target_named, target_there, named_once, new_target, all_targets, named_targets, targets_of}
use Rattle.ql_rel.proofs.Fits.{then_ok, same_ok}

same_some : {A : Type 0} (x y : A) → ◌≡◌ {A = Option A} (Some x) (Some y) → x ≡ y
same_some x y h = cc

-- a column that was found by its name stands at its number
pub record Found (at : ℕ) (columns : List ColumnDef) (t : Target) : Type 0 where
  pub number : ℕ
  pub column : ColumnDef
  pub is : t.at ≡ at + number
  pub there : slice_get columns number ≡ Some column
  pub kind : column.kind ≡ t.kind

-- one column before
behind_one : (at : ℕ) (c : ColumnDef) (columns : List ColumnDef) (t : Target) → Found (suc at) columns t → Found at (c ∷ columns) t
behind_one at c columns t m =
    let is : t.at ≡ suc at + m.number = m.is in
    record { number = suc m.number; column = m.column; is = omega (arith, is); there = m.there; kind = m.kind }

first_one : (at : ℕ) (c : ColumnDef) (columns : List ColumnDef) → Found at (c ∷ columns) (record { at = at; kind = c.kind })
first_one at c columns = record { number = 0; column = c; is = omega arith; there = refl; kind = refl }

found_if : (b : Bool) (name : List ℕ) (at : ℕ) (c : ColumnDef) (columns : List ColumnDef) (t : Target) → ((u : Target) → target_named name (suc at) columns ≡ Some u → Found (suc at) columns u)
    → ◌≡◌ {A = Option Target} (if b then Some (record { at = at; kind = c.kind }) else target_named name (suc at) columns) (Some t) → Found at (c ∷ columns) t
found_if true name at c columns t more e = subst (Found at (c ∷ columns)) (same_some (record { at = at; kind = c.kind }) t e) (first_one at c columns)
found_if false name at c columns t more e = behind_one at c columns t (more t e)

found : (name : List ℕ) (at : ℕ) (columns : List ColumnDef) (t : Target) → target_named name at columns ≡ Some t → Found at columns t
found name at [] t e = absurd (cc)
found name at (c ∷ columns) t e = found_if (bytes_eq c.name name) name at c columns t (λ u. found name (suc at) columns u) e

target_is : (name : List ℕ) (o : Option Target) (t : Target) → target_there name o ≡ Ok t → o ≡ Some t
target_is name None t e = absurd (cc)
target_is name (Some u) t e = ap Some (same_ok u t e)

new_is : (columns : List ColumnDef) (before : List (List ℕ)) (name : List ℕ) (t : Target) → new_target columns before name ≡ Ok t → target_named name 0 columns ≡ Some t
new_is columns before name t e =
    let n = then_ok (target_there name (target_named name 0 columns)) (λ target. then_with (named_once name before) (λ _. Ok target)) t e in
    let m = then_ok (named_once name before) (λ _. Ok n.0) t n.2 in
    target_is name (target_named name 0 columns) n.0 n.1 ∙ ap Some (same_ok n.0 t m.2)

pub new_found : (columns : List ColumnDef) (before : List (List ℕ)) (name : List ℕ) (t : Target) → new_target columns before name ≡ Ok t → Found 0 columns t
new_found columns before name t e = found name 0 columns t (new_is columns before name t e)

-- each of some columns is there
abbrev pub AreFound : ℕ → List ColumnDef → List Target → Type 0
AreFound at columns [] = Unit {0}
AreFound at columns (t ∷ targets) = Found at columns t × AreFound at columns targets

all_behind : (at : ℕ) (c : ColumnDef) (columns : List ColumnDef) (targets : List Target) → AreFound (suc at) columns targets → AreFound at (c ∷ columns) targets
all_behind at c columns [] h = tt
all_behind at c columns (t ∷ targets) h = (behind_one at c columns t h.0, all_behind at c columns targets h.1)

all_found : (at : ℕ) (columns : List ColumnDef) → AreFound at columns (all_targets at columns)
all_found at [] = tt
all_found at (c ∷ columns) = (first_one at c columns, all_behind at c columns (all_targets (suc at) columns) (all_found (suc at) columns))

named_found : (columns : List ColumnDef) (before names : List (List ℕ)) (targets : List Target) → named_targets columns before names ≡ Ok targets → AreFound 0 columns targets
named_found columns before [] targets e = subst (AreFound 0 columns) (same_ok [] targets e) tt
named_found columns before (name ∷ names) targets e =
    let t = then_ok (new_target columns before name) (λ target. then_with (named_targets columns (before ++ name ∷ []) names) (λ more. Ok (target ∷ more))) targets e in
    let more = then_ok (named_targets columns (before ++ name ∷ []) names) (λ ts. Ok (t.0 ∷ ts)) targets t.2 in
    subst (AreFound 0 columns) (same_ok (t.0 ∷ more.0) targets more.2) (new_found columns before name t.0 t.1, named_found columns (before ++ name ∷ []) names more.0 more.1)

pub targets_found : (columns : List ColumnDef) (names : List (List ℕ)) (targets : List Target) → targets_of columns names ≡ Ok targets → AreFound 0 columns targets
targets_found columns [] targets e = subst (AreFound 0 columns) (same_ok (all_targets 0 columns) targets e) (all_found 0 columns)
targets_found columns (name ∷ names) targets e = named_found columns [] (name ∷ names) targets e
