-- What a change keeps: the schema where rows change, and what holds of each member of a list by name.
use Rattle.std.proofs.Common.{◌≡◌, ℕ, zero, suc, Bool, true, false, cond, ◌||◌, List, [], ◌∷◌, map, refl, ap}
use Rattle.std.specs.List.{AllByRecursion}
use Rattle.ql_rel.specs.declared.db.Db.{Db}
use Rattle.ql_rel.specs.declared.db.Row.{Row}
use Rattle.ql_rel.specs.declared.db.Table.{Table}
use Rattle.ql_rel.specs.declared.schema.TableSchema.{TableSchema}
use Rattle.ql_rel.specs.Changes.{changed_at, with_rows, rows_changed}
use Rattle.ql_rel.specs.Databases.{table_schema, schema_of}
use Rattle.ql_rel.specs.Names.{comes_before, placed}

pub or_parts : (x y : Bool) → (x || y) ≡ false → (x ≡ false) × (y ≡ false)
or_parts true y e = absurd (cc)
or_parts false y e = (refl, e)

schemas_kept : (n : ℕ) (f : List Row → List Row) (tables : List Table) → map table_schema (changed_at n (with_rows f) tables) ≡ map table_schema tables
schemas_kept n f [] = refl
schemas_kept zero f (t ∷ tables) = refl
schemas_kept (suc n) f (t ∷ tables) = ap (λ (ts : List TableSchema). table_schema t ∷ ts) (schemas_kept n f tables)

pub schema_kept : (n : ℕ) (f : List Row → List Row) (db : Db) → schema_of (rows_changed n f db) ≡ schema_of db
schema_kept n f db = ap (λ (ts : List TableSchema). record { tables = ts; indexes = db.indexes }) (schemas_kept n f db.tables)

pub placed_all : {A : Type 0} (P : A → Type 0) (name : A → List ℕ) (x : A) (ys : List A) → P x → AllByRecursion P ys → AllByRecursion P (placed name x ys)
placed_all P name x [] p h = (p, tt)
placed_all P name x (y ∷ ys) p h =
    let rest = placed_all P name x ys p h.1 in
    elim (comes_before (name x) (name y)) as (λ b. AllByRecursion P (cond b (x ∷ y ∷ ys) (y ∷ placed name x ys))) [ true ↦ (p, h) | false ↦ (h.0, rest) ]
