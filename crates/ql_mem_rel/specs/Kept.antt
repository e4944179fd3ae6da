-- The database that is kept in memory.
use Rattle.std.specs.Prelude.{◌≡◌, List, [], ◌∷◌, ◌++◌, Option, Some, Result, Ok, Err}
use Rattle.lldb_base.specs.declared.trouble.Trouble.TheVariants as trouble
use Rattle.ql_rel.specs.declared.db.Db.{Db}
use Rattle.ql_rel.specs.declared.fault.RelFault.{RelFault}
use Rattle.ql_rel.specs.declared.fault.RelFault.TheVariants as fault
use Rattle.ql_mem_rel.specs.declared.plain_db.PlainDb.{PlainDb}
use Rattle.ql_mem_rel.specs.PlainDbs.{db_with}

-- the database
abbrev pub db_of : PlainDb → Db
db_of kept = db_with kept.next_id kept.schema kept.rows.items

-- the only trouble is want of memory
abbrev pub WantsMemory : {T : Type 0} → Result T RelFault → Type 0
WantsMemory (Ok _) = Unit {0}
WantsMemory (Err fault.RowTooLong) = Unit {0}
WantsMemory (Err (fault.KeyTooLong _)) = Unit {0}
WantsMemory (Err fault.IdsSpent) = Unit {0}
WantsMemory (Err fault.TableLimit) = Unit {0}
WantsMemory (Err (fault.Trouble t)) = t ≡ trouble.NoMemory

-- the databases that are kept for levels, the last one first; they stand in the order in which they were saved
abbrev pub saved_of : List PlainDb → List (Option Db)
saved_of [] = []
saved_of (kept ∷ more) = saved_of more ++ Some (db_of kept) ∷ []
