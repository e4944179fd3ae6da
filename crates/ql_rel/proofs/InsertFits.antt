-- The values of an INSERT have the kinds of their columns.
use Rattle.std.proofs.Common.{◌≡◌, ℕ, Bool, true, false, ◌==◌, List, [], ◌∷◌, length, map, Option, Some, Ok, refl, sym, ap, subst, ◌∙◌, arith}
use Rattle.std.proofs.lemmas.Bool.Decides.{nat_tests}
use Rattle.std.specs.List.{AllByRecursion}
use Rattle.std.specs.Prelude.{slice_get}
use Rattle.ql_value.specs.Kinds.{same_kind}
use Rattle.ql_value.specs.declared.value.Kind.{Kind}
use Rattle.ql_syntax.specs.declared.statement.ColumnDef.{ColumnDef}
use Rattle.ql_syntax.specs.declared.syntax.Expr.{Expr}
use Rattle.ql_syntax.specs.declared.typed.Typed.{Typed}
use Rattle.ql_syntax.specs.declared.typing.Typing.{Typing}
use Rattle.ql_syntax.specs.declared.typing.Typing.TheVariants.{OfKind}
use Rattle.ql_syntax.specs.GroupTyping.{type_by}
use Rattle.ql_syntax.specs.Typing.{IsTyped, among, type_of}
use Rattle.ql_syntax.specs.declared.checked.Checked.{Checked}
use Rattle.ql_syntax.specs.Answers.{then_with, all_of}
use Rattle.ql_syntax.specs.Checked.{meet_type, require_type}
use Rattle.ql_syntax.specs.Resolving.{check_expr}
use Rattle.ql_rel.specs.declared.change.Target.{Target}
use Rattle.ql_rel.specs.InsertPlans.{value_row, rows_plan}
use Rattle.ql_rel.specs.Plans.{row_scope}
use Rattle.ql_rel.specs.PlanTypes.{IsValueFor, AreValuesFor, ValuesTyped}
use Rattle.ql_rel.specs.Targets.{numbers_of, for_kind, for_targets, counted_for}
use Rattle.ql_rel.proofs.Fits.{Fits, then_ok, same_ok, ruled_ok, meet_fits}
use Rattle.ql_rel.proofs.Judged.{is_so}
use Rattle.ql_syntax.proofs.NoAggregates.{row_type}
use Rattle.ql_rel.proofs.Places.{Stands}
use Rattle.ql_rel.proofs.TargetFits.{Found, AreFound}

no_slots : Stands [] (row_scope [])
no_slots = record { seen = tt; fields = tt }

-- a value for a column of a kind is what it met, and of that kind
pub for_parts : (may : Bool) (row : List Typing) (kind : Kind) (c : Checked) (tree : Typed) → Fits may row c → for_kind kind c ≡ Ok tree
    → (met : Checked) × (meet_type (OfKind kind) c ≡ Ok met) × Fits may row met × (met.tree ≡ tree) × IsTyped (among (same_kind kind) met.typing)
for_parts may row kind c tree f a =
    let m = then_ok (meet_type (OfKind kind) c) (λ met. then_with (require_type (among (same_kind kind) met.typing)) (λ _. Ok met.tree)) tree a in
    let r = then_ok (require_type (among (same_kind kind) m.0.typing)) (λ _. Ok m.0.tree) tree m.2 in
    (m.0, m.1, meet_fits may row (OfKind kind) c m.0 f m.1, same_ok m.0.tree tree r.2, (ruled_ok (among (same_kind kind) m.0.typing) r.0 r.1).0)

pub kind_typed_by : (may : Bool) (row : List Typing) (kind : Kind) (c : Checked) (tree : Typed) → Fits may row c → for_kind kind c ≡ Ok tree → IsTyped (among (same_kind kind) (type_by may row tree))
kind_typed_by may row kind c tree f a =
    let m = for_parts may row kind c tree f a in
    subst (λ (e : Typed). IsTyped (among (same_kind kind) (type_by may row e))) m.3
    (subst (λ (u : Typing). IsTyped (among (same_kind kind) u)) (sym m.2.is) m.4)

pub kind_typed : (row : List Typing) (kind : Kind) (c : Checked) (tree : Typed) → Fits false row c → for_kind kind c ≡ Ok tree → IsTyped (among (same_kind kind) (type_of row tree))
kind_typed row kind c tree f a = subst (λ (u : Typing). IsTyped (among (same_kind kind) u)) (row_type row tree) (kind_typed_by false row kind c tree f a)

-- a value of the column's kind is a value for the column
pub value_found : (type : Typed → Typing) (columns : List ColumnDef) (t : Target) (tree : Typed) → Found 0 columns t → IsTyped (among (same_kind t.kind) (type tree)) → IsValueFor type (slice_get columns t.at) tree
value_found type columns t tree f typed =
    let same : t.at ≡ f.number = omega (arith, f.is) in
    let there : slice_get columns t.at ≡ Some f.column = ap (slice_get columns) same ∙ f.there in
    let here : IsValueFor type (Some f.column) tree = subst (λ (kind : Kind). IsTyped (among (same_kind kind) (type tree))) (sym f.kind) typed in
    subst (λ (o : Option ColumnDef). IsValueFor type o tree) (sym there) here

abbrev pub Sound : (Typed → Typing) → (Checked → Type 0) → Type 0
Sound type Seen = (kind : Kind) (c : Checked) (tree : Typed) → Seen c → for_kind kind c ≡ Ok tree → IsTyped (among (same_kind kind) (type tree))

same_length : (m n : ℕ) → (m == n) ≡ true → m ≡ n
same_length m n h = grind (arith, nat_tests)

-- as many values as columns are values for them
pub counted_ok : (targets : List Target) (parts : List Checked) (row : List Typed) (b : Bool) → (length parts == length targets) ≡ b → counted_for targets parts ≡ Ok row → (length parts ≡ length targets) × (for_targets targets parts ≡ Ok row)
counted_ok targets parts row true e a = (same_length (length parts) (length targets) e, rw e at a)
counted_ok targets parts row false e a = absurd (let no = rw e at a in cc)

module _ (type : Typed → Typing) (Seen : Checked → Type 0) (sound : Sound type Seen) (columns : List ColumnDef) where
  pub values_for : (targets : List Target) (parts : List Checked) (row : List Typed) → AreFound 0 columns targets → length parts ≡ length targets → AllByRecursion Seen parts → for_targets targets parts ≡ Ok row
      → AreValuesFor type columns (numbers_of targets) row
  values_for [] [] row f n h a = subst (AreValuesFor type columns []) (same_ok [] row a) tt
  values_for [] (c ∷ parts) row f n h a = absurd (omega (arith, n))
  values_for (t ∷ targets) [] row f n h a = absurd (omega (arith, n))
  values_for (t ∷ targets) (c ∷ parts) row f n h a =
      let tree = then_ok (for_kind t.kind c) (λ x. then_with (for_targets targets parts) (λ trees. Ok (x ∷ trees))) row a in
      let more = then_ok (for_targets targets parts) (λ trees. Ok (tree.0 ∷ trees)) row tree.2 in
      subst (AreValuesFor type columns (numbers_of (t ∷ targets))) (same_ok (tree.0 ∷ more.0) row more.2)
      (value_found type columns t tree.0 f.0 (sound t.kind c tree.0 h.0 tree.1), values_for targets parts more.0 f.1 (omega (arith, n)) h.1 more.1)

-- values that see nothing
abbrev Seen : Checked → Type 0
Seen c = Fits false [] c

seen_all : (exprs : List Expr) (parts : List Checked) → all_of (map (check_expr (row_scope []) false) exprs) ≡ Ok parts → AllByRecursion Seen parts
seen_all [] parts a = subst (AllByRecursion Seen) (same_ok [] parts a) tt
seen_all (e ∷ exprs) parts a =
    let c = then_ok (check_expr (row_scope []) false e) (λ x. then_with (all_of (map (check_expr (row_scope []) false) exprs)) (λ xs. Ok (x ∷ xs))) parts a in
    let more = then_ok (all_of (map (check_expr (row_scope []) false) exprs)) (λ xs. Ok (c.0 ∷ xs)) parts c.2 in
    subst (AllByRecursion Seen) (same_ok (c.0 ∷ more.0) parts more.2) (is_so [] (row_scope []) no_slots e false c.0 c.1, seen_all exprs more.0 more.1)

-- what holds of each row of values that fit and are for some columns holds of the rows of VALUES
module _ (targets : List Target) (Good : List Typed → Type 0) (good : (parts : List Checked) (row : List Typed) → AllByRecursion Seen parts → length parts ≡ length targets → for_targets targets parts ≡ Ok row → Good row) where
  one_row : (exprs : List Expr) (row : List Typed) → value_row targets exprs ≡ Ok row → Good row
  one_row exprs row a =
      let p = then_ok (all_of (map (check_expr (row_scope []) false) exprs)) (counted_for targets) row a in
      let n = counted_ok targets p.0 row (length p.0 == length targets) refl p.2 in
      good p.0 row (seen_all exprs p.0 p.1) n.0 n.1

  each_row : (exprs : List (List Expr)) (rows : List (List Typed)) → all_of (map (value_row targets) exprs) ≡ Ok rows → AllByRecursion Good rows
  each_row [] rows a = subst (AllByRecursion Good) (same_ok [] rows a) tt
  each_row (e ∷ exprs) rows a =
      let r = then_ok (value_row targets e) (λ x. then_with (all_of (map (value_row targets) exprs)) (λ xs. Ok (x ∷ xs))) rows a in
      let more = then_ok (all_of (map (value_row targets) exprs)) (λ xs. Ok (r.0 ∷ xs)) rows r.2 in
      subst (AllByRecursion Good) (same_ok (r.0 ∷ more.0) rows more.2) (one_row e r.0 r.1, each_row exprs more.0 more.1)

-- rows for columns that are there
pub rows_typed : (columns : List ColumnDef) (targets : List Target) (exprs : List (List Expr)) (rows : List (List Typed)) → AreFound 0 columns targets → all_of (map (value_row targets) exprs) ≡ Ok rows
    → ValuesTyped columns (rows_plan targets rows)
rows_typed columns targets exprs rows f a =
    each_row targets (AreValuesFor (type_of []) columns (numbers_of targets))
    (λ parts row seen n r. values_for (type_of []) Seen (kind_typed []) columns targets parts row f n seen r) exprs rows a
