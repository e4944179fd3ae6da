-- Databases in memory that are well formed. A database is so in one way.
use Rattle.std.specs.Prelude.{ℕ, List, [], ◌∷◌}
use Rattle.std.specs.Coded.{Unit-prop}
use Rattle.std.specs.List.{AllByRecursion, AllByRecursion-prop}
use Rattle.std.proofs.Props.{props}
use Rattle.std.proofs.Math.Logic.{∥∥₁_prop, ∥∥₁_elim}
use Rattle.ql_syntax.specs.declared.statement.Statement.{Statement}
use Rattle.ql_rel.specs.declared.db.Db.{Db}
use Rattle.ql_rel.specs.declared.db.Row.{Row}
use Rattle.ql_rel.specs.declared.db.Table.{Table}
use Rattle.ql_rel.specs.declared.schema.Index.{Index}
use Rattle.ql_rel.specs.declared.schema.Schema.{Schema}
use Rattle.ql_rel.specs.Creates.{create_statements}
use Rattle.ql_rel.specs.Databases.{schema_of}
use Rattle.ql_rel.specs.Names.{IsByName, table_names, index_names}
use Rattle.ql_rel.specs.WellFormed.{IsReadAsItself, IsMade, IsShort, HoldsRows, IsWellFormed}
use Rattle.ql_mem_rel.specs.declared.plain_db.PlainDb.{PlainDb}
use Rattle.ql_mem_rel.specs.Kept.{db_of}
use Rattle.ql_mem_rel.specs.PlainDbs.{IsWithin-prop, Rise-prop, AllBelow-prop, AllFit-prop}

-- the database is well formed
abbrev pub IsFormed : PlainDb → Type 0
IsFormed kept = ∥ IsWellFormed (db_of kept) ∥₁

-- all of them are
abbrev pub AllFormed : List PlainDb → Type 0
AllFormed all = AllByRecursion IsFormed all

pub AllFormed-prop : (all : List PlainDb) → IsProp (AllFormed all)
AllFormed-prop all = AllByRecursion-prop IsFormed (λ (kept : PlainDb). ∥∥₁_prop) all

IsMade-prop : (schema : Schema) → IsProp (IsMade schema)
IsMade-prop schema = hlevel (props, AllByRecursion-prop IsReadAsItself (λ (s : Statement). ∥∥₁_prop) (create_statements schema))

IsByName-prop : (names : List (List ℕ)) → IsProp (IsByName names)
IsByName-prop [] = Unit-prop
IsByName-prop (a ∷ []) = Unit-prop
IsByName-prop (a ∷ b ∷ names) = hlevel (props, IsByName-prop (b ∷ names))

IsShort-prop : (table : Table) (indexes : List Index) (row : Row) → IsProp (IsShort table indexes row)
IsShort-prop table indexes row = hlevel props

HoldsRows-prop : (db : Db) (table : Table) → IsProp (HoldsRows db table)
HoldsRows-prop db table =
    hlevel (props, AllFit-prop table.columns table.rows, Rise-prop 1 table.rows, AllBelow-prop db.next_id table.rows, AllByRecursion-prop (IsShort table db.indexes) (IsShort-prop table db.indexes) table.rows)

IsWellFormed-prop : (db : Db) → IsProp (IsWellFormed db)
IsWellFormed-prop db =
    hlevel (props, IsMade-prop (schema_of db), IsWithin-prop (schema_of db), IsByName-prop (table_names (schema_of db).tables), IsByName-prop (index_names db.indexes), AllByRecursion-prop (HoldsRows db) (HoldsRows-prop db) db.tables)

-- what a database that is kept so is
pub well_formed : (kept : PlainDb) → IsFormed kept → IsWellFormed (db_of kept)
well_formed kept formed = ∥∥₁_elim formed (IsWellFormed-prop (db_of kept)) (λ w. w)
