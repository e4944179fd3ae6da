-- Rows more leave a database lawful, where the columns take every value and no index is unique.
use Rattle.std.proofs.Common.{◌≡◌, ℕ, zero, suc, ◌<◌, Bool, true, false, not, ◌&&◌, is_none, List, [], ◌∷◌, ◌++◌, length, map, find, slice_get, Option, Some, None, option_map, Ok, refl, sym, ap, subst}
use Rattle.std.specs.List.{list_any, list_all, AllByRecursion}
use Rattle.ql_value.specs.declared.value.Value.{Value}
use Rattle.ql_syntax.specs.declared.statement.ColumnDef.{ColumnDef}
use Rattle.ql_syntax.specs.declared.syntax.Expr.{Expr}
use Rattle.ql_rel.specs.declared.db.Db.{Db}
use Rattle.ql_rel.specs.declared.db.Row.{Row}
use Rattle.ql_rel.specs.declared.db.Table.{Table}
use Rattle.ql_rel.specs.declared.fault.RelFault.{RelFault}
use Rattle.ql_rel.specs.declared.fault.RelFault.TheVariants as fault
use Rattle.ql_rel.specs.declared.schema.Index.{Index}
use Rattle.ql_rel.specs.declared.schema.Schema.{Schema}
use Rattle.ql_syntax.specs.declared.scope.Scope.{Scope}
use Rattle.ql_rel.specs.Accepted.{rule_scope}
use Rattle.ql_rel.specs.Changes.{changed_at, with_rows, with_row, row_of, inserted}
use Rattle.ql_rel.specs.CreatePlans.{takes_all}
use Rattle.ql_rel.specs.Databases.{table_schema, schema_of, columns_if, columns_at, name_at}
use Rattle.ql_rel.specs.InsertPlans.{takes_rows}
use Rattle.ql_rel.specs.Lawful.{is_broken, AllMayStand, IsTrueOf, MeetsColumns, IsLawful}
use Rattle.ql_rel.specs.Limits.{row_too_long, first_long_key}
use Rattle.ql_rel.specs.Refusals.{refused_if, or_next, key_refusal, are_ids_spent, insert_refusal}
use Rattle.ql_rel.specs.Refused.{unless}
use Rattle.ql_rel.specs.InsertEffects.{row_added, rows_added}
use Rattle.ql_rel.specs.FormLaws.{FormLaws}
use Rattle.ql_rel.specs.WellFormed.{Fits}
use Rattle.ql_rel.proofs.Fits.{then_ok, same_ok}
use Rattle.ql_rel.proofs.MadeLemmas.{two_parts}
use Rattle.ql_exec.proofs.Kept.{or_parts, schema_kept}

never_null : (b : Bool) (x : Bool) → not b ≡ true → b ≡ true → x ≡ false
never_null true x h e = absurd (cc)
never_null false x h e = absurd (cc)

pub all_stand : (columns : List ColumnDef) (values : List Value) → list_all takes_all columns ≡ true → AllMayStand columns values
all_stand [] values h = tt
all_stand (c ∷ columns) [] h = tt
all_stand (c ∷ columns) (x ∷ values) h =
    let both = two_parts (takes_all c) (list_all takes_all columns) h in
    let plain = two_parts (not c.not_null) (is_none c.rule && is_none c.default) both.0 in
    (λ e. never_null c.not_null _ plain.0 e, all_stand columns values both.1)

no_rule : (scope : Scope) (values : List Value) (o : Option Expr) → is_none o ≡ true → IsTrueOf scope values o
no_rule scope values None e = tt
no_rule scope values (Some rule) e = absurd (cc)

pub no_rules : (scope : Scope) (values : List Value) (columns : List ColumnDef) → list_all takes_all columns ≡ true → AllByRecursion (λ (c : ColumnDef). IsTrueOf scope values c.rule) columns
no_rules scope values [] h = tt
no_rules scope values (c ∷ columns) h =
    let both = two_parts (takes_all c) (list_all takes_all columns) h in
    let plain = two_parts (not c.not_null) (is_none c.rule && is_none c.default) both.0 in
    let bare = two_parts (is_none c.rule) (is_none c.default) plain.1 in
    (no_rule scope values c.rule bare.0, no_rules scope values columns both.1)

-- a table with a row more
rows_meet : (t : Table) (row : Row) (rows : List Row) → list_all takes_all t.columns ≡ true → AllByRecursion (MeetsColumns t) rows → AllByRecursion (MeetsColumns (with_rows (with_row row) t)) (rows ++ row ∷ [])
rows_meet t row [] h m = (record { not_null = all_stand t.columns row.values h; rules = no_rules (rule_scope t.name t.columns) row.values t.columns h }, tt)
rows_meet t row (x ∷ rows) h m = (record { not_null = m.0.not_null; rules = m.0.rules }, rows_meet t row rows h m.1)

tables_meet : (n : ℕ) (row : Row) (tables : List Table) → list_all takes_all (columns_if (slice_get (map table_schema tables) n)) ≡ true → AllByRecursion (λ (t : Table). AllByRecursion (MeetsColumns t) t.rows) tables
    → AllByRecursion (λ (t : Table). AllByRecursion (MeetsColumns t) t.rows) (changed_at n (with_rows (with_row row)) tables)
tables_meet n row [] h m = tt
tables_meet zero row (t ∷ tables) h m = (rows_meet t row t.rows h m.0, m.1)
tables_meet (suc n) row (t ∷ tables) h m = (m.0, tables_meet n row tables h m.1)

-- no unique index is broken where there is none
pub none_broken : (tables : List Table) (is : List Index) → list_any (λ (i : Index). i.unique) is ≡ false → option_map (λ (i : Index). i.name) (find (is_broken tables) is) ≡ None
none_broken tables [] h = refl
none_broken tables (i ∷ is) h = let p = or_parts i.unique (list_any (λ (i : Index). i.unique) is) h in rw p.0 (none_broken tables is p.1)

pub length_same : (tables : List Table) → length (map table_schema tables) ≡ length tables
length_same [] = refl
length_same (t ∷ tables) = ap suc (length_same tables)

row_lawful : (laws : FormLaws) (n : ℕ) (values : List Value) (db : Db) → IsLawful db → n < length (schema_of db).tables → list_all takes_all (columns_at n (schema_of db)) ≡ true → list_any (λ (i : Index). i.unique) db.indexes ≡ false
    → Fits (columns_at n (schema_of db)) values → ◌≡◌ {A = Option RelFault} (insert_refusal n values db) None → IsLawful (inserted n values db)
row_lawful laws n values db l there takes loose fits none = record {
  formed = laws.insert n values db l.formed (subst (λ (k : ℕ). n < k) (length_same db.tables) there) fits none;
  columns = tables_meet n (row_of db.next_id values) db.tables takes l.columns;
  unique = none_broken (changed_at n (with_rows (with_row (row_of db.next_id values))) db.tables) db.indexes loose;
}

added_if : (b c : Bool) (o : Option (List ℕ)) (x y : Db) → unless (or_next (or_next (refused_if b fault.RowTooLong) (key_refusal o)) (refused_if c fault.IdsSpent)) x ≡ Ok y
    → (◌≡◌ {A = Option RelFault} (or_next (or_next (refused_if b fault.RowTooLong) (key_refusal o)) (refused_if c fault.IdsSpent)) None) × (x ≡ y)
added_if true c o x y e = absurd (cc)
added_if false c (Some name) x y e = absurd (cc)
added_if false true None x y e = absurd (cc)
added_if false false None x y e = (refl, same_ok x y e)

-- what an INSERT asks of its table
pub record TakesRows (n : ℕ) (schema : Schema) : Type 0 where
  pub there : n < length schema.tables
  pub takes : list_all takes_all (columns_at n schema) ≡ true
  pub loose : list_any (λ (i : Index). i.unique) schema.indexes ≡ false

pub rows_lawful : (laws : FormLaws) (n : ℕ) (rows : List (List Value)) (db after : Db) → IsLawful db → TakesRows n (schema_of db) → AllByRecursion (Fits (columns_at n (schema_of db))) rows → rows_added n rows db ≡ Ok after → IsLawful after
rows_lawful laws n [] db after l t f e = subst IsLawful (same_ok db after e) l
rows_lawful laws n (values ∷ rows) db after l t f e =
    let first = then_ok (row_added n values db) (rows_added n rows) after e in
    let row = row_of db.next_id values in
    let done = added_if (row_too_long values) (are_ids_spent db) (first_long_key (name_at n (schema_of db)) (columns_at n (schema_of db)) db.indexes row) (inserted n values db) first.0 first.1 in
    let lawful = row_lawful laws n values db l t.there t.takes t.loose f.0 done.0 in
    let kept : schema_of (inserted n values db) ≡ schema_of db = schema_kept n (with_row row) db in
    rows_lawful laws n rows (inserted n values db) after lawful (subst (TakesRows n) (sym kept) t) (subst (λ (z : Schema). AllByRecursion (Fits (columns_at n z)) rows) (sym kept) f.1)
    (subst (λ (z : Db). rows_added n rows z ≡ Ok after) (sym done.1) first.2)

two_tests : (b c : Bool) → (not b && c) ≡ true → (b ≡ false) × (c ≡ true)
two_tests true c e = absurd (cc)
two_tests false c e = (refl, e)

-- the test of a plan
pub takes_these : (schema : Schema) (columns : List ColumnDef) → takes_rows schema columns ≡ true → (list_any (λ (i : Index). i.unique) schema.indexes ≡ false) × (list_all takes_all columns ≡ true)
takes_these schema columns e = two_tests (list_any (λ (i : Index). i.unique) schema.indexes) (list_all takes_all columns) e
