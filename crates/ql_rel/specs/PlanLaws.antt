-- What the plan of CREATE TABLE promises.
use Rattle.std.specs.Prelude.{◌≡◌, false, Ok}
use Rattle.ql_rel.specs.declared.db.Db.{Db}
use Rattle.ql_rel.specs.declared.plan.Plan.{Plan}
use Rattle.ql_rel.specs.declared.schema.TableSchema.{TableSchema}
use Rattle.ql_rel.specs.Changes.{table_created}
use Rattle.ql_rel.specs.CreatePlans.{create_table_plan}
use Rattle.ql_rel.specs.Creates.{create_table}
use Rattle.ql_rel.specs.Databases.{schema_of}
use Rattle.ql_rel.specs.Limits.{is_past_table}
use Rattle.ql_rel.specs.WellFormed.{IsReadAsItself, IsMade}

-- a table that has a plan, whose statement is read as itself, leaves a schema that its CREATE statements make
pub record PlanLaws : Type 0 where
  pub create : (t : TableSchema) (db : Db) (p : Plan) → IsMade (schema_of db) → IsReadAsItself (create_table t) → create_table_plan (schema_of db) t.name t.columns ≡ Ok p
      → is_past_table t (schema_of db) ≡ false → IsMade (schema_of (table_created t db))
