-- A column more or less leaves a database lawful, where the columns take every value and no index is unique.
use Rattle.std.proofs.Common.{◌≡◌, ℕ, ◌<◌, Bool, true, false, cond, List, [], ◌∷◌, length, map, filter, slice_get, Option, Some, None, refl, subst}
use Rattle.std.specs.List.{list_any, list_all, AllByRecursion}
use Rattle.ql_syntax.specs.declared.statement.ColumnDef.{ColumnDef}
use Rattle.ql_rel.specs.declared.db.Db.{Db}
use Rattle.ql_rel.specs.declared.db.Row.{Row}
use Rattle.ql_rel.specs.declared.db.Table.{Table}
use Rattle.ql_rel.specs.declared.fault.RelFault.{RelFault}
use Rattle.ql_rel.specs.declared.schema.Index.{Index}
use Rattle.ql_rel.specs.declared.schema.TableSchema.{TableSchema}
use Rattle.ql_rel.specs.Accepted.{rule_scope}
use Rattle.ql_rel.specs.Changes.{changed_at, with_null, with_column, column_added, without_value, without_column, is_not_by, column_dropped}
use Rattle.ql_rel.specs.CreatePlans.{takes_all}
use Rattle.ql_rel.specs.Databases.{schema_of, columns_if, columns_at, name_at, column_name_at}
use Rattle.ql_rel.specs.FormLaws.{FormLaws}
use Rattle.ql_rel.specs.Lawful.{MeetsColumns, IsLawful}
use Rattle.ql_rel.specs.Refusals.{column_refusal}
use Rattle.ql_rel.specs.WellFormed.{IsMade}
use Rattle.ql_rel.proofs.AlteredColumns.{all_more, all_less}
use Rattle.ql_rel.proofs.ColumnForms.{all_changed}
use Rattle.ql_rel.proofs.NarrowForms.{schema_there}
use Rattle.ql_exec.proofs.Kept.{or_parts}
use Rattle.ql_exec.proofs.LawfulRows.{all_stand, no_rules, none_broken}

-- columns that take every value take any rows
plain_meet : (t : Table) (rows : List Row) → list_all takes_all t.columns ≡ true → AllByRecursion (MeetsColumns t) rows
plain_meet t [] h = tt
plain_meet t (r ∷ rows) h = (record { not_null = all_stand t.columns r.values h; rules = no_rules (rule_scope t.name t.columns) r.values t.columns h }, plain_meet t rows h)

plain_at : (n : ℕ) (db : Db) (t : Table) → slice_get db.tables n ≡ Some t → list_all takes_all (columns_at n (schema_of db)) ≡ true → list_all takes_all t.columns ≡ true
plain_at n db t there h = subst (λ (o : Option TableSchema). list_all takes_all (columns_if o) ≡ true) (schema_there n db.tables t there) h

pub added_lawful : (laws : FormLaws) (n : ℕ) (c : ColumnDef) (db : Db) → IsLawful db → list_all takes_all (columns_at n (schema_of db)) ≡ true → list_any (λ (i : Index). i.unique) db.indexes ≡ false → takes_all c ≡ true
    → ◌≡◌ {A = Option RelFault} (column_refusal n c db) None → IsMade (schema_of (column_added n c db)) → IsLawful (column_added n c db)
added_lawful laws n c db l plains loose plain none made = record {
  formed = laws.add_column n c db l.formed none made;
  columns = all_changed (λ (t : Table). AllByRecursion (MeetsColumns t) t.rows) (with_column c) n db.tables
      (λ t there h. plain_meet (with_column c t) (map with_null t.rows) (all_more takes_all t.columns c (plain_at n db t there plains) plain)) l.columns;
  unique = none_broken (changed_at n (with_column c) db.tables) db.indexes loose;
}

still_loose : (q : Index → Bool) (is : List Index) → list_any (λ (i : Index). i.unique) is ≡ false → list_any (λ (i : Index). i.unique) (filter q is) ≡ false
still_loose q [] h = refl
still_loose q (i ∷ is) h =
    let parts = or_parts i.unique (list_any (λ (i : Index). i.unique) is) h in
    let rest = still_loose q is parts.1 in
    elim (q i) as (λ b. list_any (λ (i : Index). i.unique) (cond b (i ∷ filter q is) (filter q is)) ≡ false) [ true ↦ rw parts.0 rest | false ↦ rest ]

pub narrowed_lawful : (laws : FormLaws) (n k : ℕ) (db : Db) → IsLawful db → list_all takes_all (columns_at n (schema_of db)) ≡ true → list_any (λ (i : Index). i.unique) db.indexes ≡ false
    → k < length (columns_at n (schema_of db)) → 1 < length (columns_at n (schema_of db)) → IsMade (schema_of (column_dropped n k db)) → IsLawful (column_dropped n k db)
narrowed_lawful laws n k db l plains loose within several made =
    let q = is_not_by (name_at n (schema_of db)) (column_name_at n k (schema_of db)) in
    record {
      formed = laws.drop_column n k db l.formed within several made;
      columns = all_changed (λ (t : Table). AllByRecursion (MeetsColumns t) t.rows) (without_column k) n db.tables
          (λ t there h. plain_meet (without_column k t) (map (without_value k) t.rows) (all_less takes_all k t.columns (plain_at n db t there plains))) l.columns;
      unique = none_broken (changed_at n (without_column k) db.tables) (filter q db.indexes) (still_loose q db.indexes loose);
    }
