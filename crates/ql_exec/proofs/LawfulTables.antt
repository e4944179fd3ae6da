-- A table more leaves a database lawful.
use Rattle.std.proofs.Common.{◌≡◌, ℕ, Bool, true, false, cond, ◌&&◌, if◌then◌else◌, List, [], ◌∷◌, map, find, Some, option_map, refl, sym, ap, subst, ◌∙◌}
use Rattle.std.proofs.lemmas.Slice.Eq.{bytes_eq-Decides}
use Rattle.std.specs.List.{AllByRecursion}
use Rattle.std.specs.Str.{bytes_eq}
use Rattle.ql_value.specs.declared.value.Value.{Value}
use Rattle.ql_rel.specs.declared.db.Db.{Db}
use Rattle.ql_rel.specs.declared.db.Table.{Table}
use Rattle.ql_rel.specs.declared.schema.Index.{Index}
use Rattle.ql_rel.specs.declared.schema.TableSchema.{TableSchema}
use Rattle.ql_rel.specs.Changes.{new_table, table_created}
use Rattle.ql_rel.specs.Creates.{create_table}
use Rattle.ql_rel.specs.Databases.{table_schema, schema_of}
use Rattle.ql_rel.specs.FormLaws.{FormLaws}
use Rattle.ql_rel.specs.Lawful.{has_shared, keys_in, is_broken, MeetsColumns, IsLawful}
use Rattle.ql_rel.specs.Limits.{key_of, is_past_table}
use Rattle.ql_rel.specs.Names.{comes_before, placed, has_name, table_names, index_names}
use Rattle.ql_rel.specs.WellFormed.{IsReadAsItself}
use Rattle.ql_rel.proofs.CreateLemmas.{HasPlan, created_made}
use Rattle.ql_exec.proofs.Kept.{or_parts, placed_all}

abbrev NameOf : Table → List ℕ
NameOf t = t.name

-- an index of no table has no keys
keys_none : (i : Index) (tables : List Table) → has_name i.table (table_names (map table_schema tables)) ≡ false → keys_in i tables ≡ []
keys_none i [] h = refl
keys_none i (u ∷ us) h = let p = or_parts (bytes_eq u.name i.table) (has_name i.table (table_names (map table_schema us))) h in rw p.0 (keys_none i us p.1)

keys_first : (b : Bool) (t : TableSchema) (i : Index) (tables : List Table) → bytes_eq t.name i.table ≡ b → has_name t.name (table_names (map table_schema tables)) ≡ false
    → ◌≡◌ {A = List Value} (if b then [] else keys_in i tables) (keys_in i tables)
keys_first true t i tables e h =
    let same : t.name ≡ i.table = (bytes_eq-Decides t.name i.table).0 e in
    sym (keys_none i tables (subst (λ (n : List ℕ). has_name n (table_names (map table_schema tables)) ≡ false) same h))
keys_first false t i tables e h = refl

-- a table without rows under a new name adds no key
keys_placed : (t : TableSchema) (i : Index) (tables : List Table) → has_name t.name (table_names (map table_schema tables)) ≡ false → keys_in i (placed NameOf (new_table t) tables) ≡ keys_in i tables
keys_placed t i [] h = keys_first (bytes_eq t.name i.table) t i [] refl h
keys_placed t i (u ∷ us) h =
    let p = or_parts (bytes_eq u.name t.name) (has_name t.name (table_names (map table_schema us))) h in
    let first = keys_first (bytes_eq t.name i.table) t i (u ∷ us) refl h in
    let rest = ap (λ (ks : List Value). if bytes_eq u.name i.table then map (key_of u.columns i.item) u.rows else ks) (keys_placed t i us p.1) in
    elim (comes_before t.name u.name) as (λ b. keys_in i (cond b (new_table t ∷ u ∷ us) (u ∷ placed NameOf (new_table t) us)) ≡ keys_in i (u ∷ us)) [ true ↦ first | false ↦ rest ]

-- the first index that is broken, by two tests that are the same
found_same : (p q : Index → Bool) (is : List Index) → ((i : Index) → p i ≡ q i) → option_map (λ (i : Index). i.name) (find p is) ≡ option_map (λ (i : Index). i.name) (find q is)
found_same p q [] h = refl
found_same p q (i ∷ is) h =
    let rest = found_same p q is h in
    let by : (b : Bool) → option_map (λ (i : Index). i.name) (cond b (Some i) (find p is)) ≡ option_map (λ (i : Index). i.name) (cond b (Some i) (find q is)) = elim [ true ↦ refl | false ↦ rest ] in
    rw (h i) (by (q i))

pub create_lawful : (laws : FormLaws) (t : TableSchema) (db : Db) → IsLawful db → HasPlan t (schema_of db) → IsReadAsItself (create_table t) → is_past_table t (schema_of db) ≡ false → IsLawful (table_created t db)
create_lawful laws t db l h r past =
    let names = or_parts (has_name t.name (table_names (schema_of db).tables)) (has_name t.name (index_names db.indexes)) h.new in
    let same : (i : Index) → is_broken (placed NameOf (new_table t) db.tables) i ≡ is_broken db.tables i = λ i. ap (λ (ks : List Value). i.unique && has_shared ks) (keys_placed t i db.tables names.0) in
    record {
      formed = laws.create_table t db l.formed h.some h.new past (created_made t db l.formed.made r h past);
      columns = placed_all (λ (u : Table). AllByRecursion (MeetsColumns u) u.rows) NameOf (new_table t) db.tables tt l.columns;
      unique = found_same (is_broken (placed NameOf (new_table t) db.tables)) (is_broken db.tables) db.indexes same ∙ l.unique;
    }
