-- Why a relation in memory keeps the laws of one.
use Rattle.std.specs.Prelude.{◌≡◌, ℕ, Bool, List, [], ◌∷◌, map, Option, refl}
use Rattle.std.proofs.Common.{ap, ◌∙◌}
use Rattle.ql_rel.specs.declared.db.Db.{Db}
use Rattle.ql_rel.specs.declared.db.Row.{Row}
use Rattle.ql_mem_rel.specs.declared.plain_db.PlainDb.{PlainDb}
use Rattle.ql_rel.specs.declared.schema.Schema.{Schema}
use Rattle.ql_rel.specs.declared.schema.TableSchema.{TableSchema}
use Rattle.ql_rel.specs.Databases.{schema_of, table_schema}
use Rattle.ql_mem_rel.specs.Kept.{db_of}
use Rattle.ql_mem_rel.specs.PlainDbs.{Hold, tables_with}
use Rattle.ql_rel.specs.Rels.{IsSameRel}

-- tables that hold rows keep their schemas
pub kept_schemas : (next : ℕ) (tables : List TableSchema) (rows : List (List Row)) → Hold next tables rows → tables ≡ map table_schema (tables_with tables rows)
kept_schemas next [] [] h = refl
kept_schemas next [] (r ∷ rows) h = absurd h
kept_schemas next (t ∷ tables) [] h = absurd h
kept_schemas next (t ∷ tables) (r ∷ rows) h = ap (λ (ts : List TableSchema). t ∷ ts) (kept_schemas next tables rows h.3)

pub same_schema : (kept : PlainDb) → kept.schema ≡ schema_of (db_of kept)
same_schema kept = ap (λ (ts : List TableSchema). record { tables = ts; indexes = kept.schema.indexes }) (kept_schemas kept.next_id kept.schema.tables kept.rows.items kept.held)

pub same_first : (db : Option Db) (saved : List (Option Db)) (schema : Schema) (given : ℕ) (ready sound : Bool) (limit : Option ℕ) (size : ℕ) → IsSameRel db db saved saved schema schema given given ready ready sound sound limit limit size size
same_first db saved schema given ready sound limit size = record { db = refl; saved = refl; schema = refl; given = refl; ready = refl; sound = refl; limit = refl; size = refl }

pub same_then : {d e f : Option Db} {s t u : List (Option Db)} {a b c : Schema} {g h i : ℕ} {p q r v w x : Bool} {l m n : Option ℕ} {j k o : ℕ} → IsSameRel d e s t a b g h p q v w l m j k → IsSameRel e f t u b c h i q r w x m n k o → IsSameRel d f s u a c g i p r v x l n j o
same_then y z = record { db = z.db ∙ y.db; saved = z.saved ∙ y.saved; schema = z.schema ∙ y.schema; given = z.given ∙ y.given; ready = z.ready ∙ y.ready; sound = z.sound ∙ y.sound; limit = z.limit ∙ y.limit; size = z.size ∙ y.size }
