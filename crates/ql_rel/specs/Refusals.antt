-- What a relation refuses: the first refusal of each change, and when an answer may come.
use Rattle.std.specs.Prelude.{◌≡◌, ℕ, ◌+◌, ◌<◌, ◌≤◌, max, Bool, true, false, nat_lt, List, Option, Some, None, Result, Ok, Err}
use Rattle.std.specs.List.{list_any}
use Rattle.ql_edge.specs.Cause.{Rose}
use Rattle.lldb_base.specs.declared.trouble.Trouble.{Trouble}
use Rattle.lldb_base.specs.declared.trouble.Trouble.TheVariants as trouble
use Rattle.ql_value.specs.declared.value.Value.{Value}
use Rattle.ql_syntax.specs.declared.statement.ColumnDef.{ColumnDef}
use Rattle.ql_rel.specs.Limits.{last_id}
use Rattle.ql_rel.specs.declared.db.Db.{Db}
use Rattle.ql_rel.specs.declared.db.Row.{Row}
use Rattle.ql_rel.specs.declared.fault.RelFault.{RelFault}
use Rattle.ql_rel.specs.declared.fault.RelFault.TheVariants as fault
use Rattle.ql_rel.specs.declared.schema.Schema.{Schema}
use Rattle.ql_rel.specs.declared.schema.TableSchema.{TableSchema}
use Rattle.ql_rel.specs.Changes.{row_of, with_null}
use Rattle.ql_rel.specs.Databases.{schema_of, columns_at, name_at, rows_at}
use Rattle.ql_rel.specs.Limits.{row_too_long, first_long_key, is_past_table, is_past_added}

-- a refusal, where a test says so
abbrev pub refused_if : Bool → RelFault → Option RelFault
refused_if true refusal = Some refusal
refused_if false refusal = None

-- the first refusal, or else the next one
abbrev pub or_next : Option RelFault → Option RelFault → Option RelFault
or_next None next = next
or_next (Some refusal) next = Some refusal

-- the refusal of a key in the index with a name
abbrev pub key_refusal : Option (List ℕ) → Option RelFault
key_refusal None = None
key_refusal (Some name) = Some (fault.KeyTooLong name)

-- a row of the table at a place is too long, or one of its keys is
abbrev pub row_refusal : ℕ → Row → Schema → Option RelFault
row_refusal table row schema =
    or_next (refused_if (row_too_long row.values) fault.RowTooLong)
    (key_refusal (first_long_key (name_at table schema) (columns_at table schema) schema.indexes row))

-- the ids are spent
abbrev pub are_ids_spent : Db → Bool
are_ids_spent db = nat_lt last_id db.next_id

-- the first refusal of a new row
abbrev pub insert_refusal : ℕ → List Value → Db → Option RelFault
insert_refusal table values db =
    or_next (row_refusal table (row_of db.next_id values) (schema_of db)) (refused_if (are_ids_spent db) fault.IdsSpent)

-- the first refusal of other values for a row
abbrev pub change_refusal : ℕ → ℕ → List Value → Schema → Option RelFault
change_refusal table id values schema = row_refusal table (row_of id values) schema

-- the refusal of a new table
abbrev pub table_refusal : TableSchema → Schema → Option RelFault
table_refusal table schema = refused_if (is_past_table table schema) fault.TableLimit

-- a row with one more value is too long
abbrev pub is_long_with_null : Row → Bool
is_long_with_null row = row_too_long (with_null row).values

-- the first refusal of a new column
abbrev pub column_refusal : ℕ → ColumnDef → Db → Option RelFault
column_refusal table column db =
    or_next (refused_if (is_past_added column (columns_at table (schema_of db))) fault.TableLimit)
    (refused_if (list_any is_long_with_null (rows_at table db)) fault.RowTooLong)

-- a change is refused exactly where it has a refusal, and with that one, unless what lies under the tables refuses before
abbrev pub IsRefusedBy : {T : Type 0} → Option RelFault → Result T RelFault → Type 0
IsRefusedBy refusal (Ok _) = refusal ≡ None
IsRefusedBy refusal (Err fault.RowTooLong) = refusal ≡ Some fault.RowTooLong
IsRefusedBy refusal (Err (fault.KeyTooLong name)) = refusal ≡ Some (fault.KeyTooLong name)
IsRefusedBy refusal (Err fault.IdsSpent) = refusal ≡ Some fault.IdsSpent
IsRefusedBy refusal (Err fault.TableLimit) = refusal ≡ Some fault.TableLimit
IsRefusedBy refusal (Err (fault.Trouble _)) = Unit {0}

-- `Failed` comes only where the count of faults rose, and every other trouble leaves the count; `Full` names a limit and more than it; `Damaged` comes only where the database is not told
abbrev pub IsTroubleCaused : (limit : Option ℕ) (told : Option Db) → Trouble → (before now : ℕ) → Type 0
IsTroubleCaused limit told trouble.Failed before now = Rose before now
IsTroubleCaused limit told trouble.NoMemory before now = now ≡ before
IsTroubleCaused limit told (trouble.Full need most) before now = (now ≡ before) × (limit ≡ Some most) × (most < need)
IsTroubleCaused limit told trouble.Damaged before now = (now ≡ before) × (told ≡ None)

-- when a call may answer what it does: a trouble has its cause, and every other answer leaves the count of faults
abbrev pub IsCausedRel : {T : Type 0} → Option ℕ → Option Db → Result T RelFault → ℕ → ℕ → Type 0
IsCausedRel limit told (Ok _) before now = now ≡ before
IsCausedRel limit told (Err fault.RowTooLong) before now = now ≡ before
IsCausedRel limit told (Err (fault.KeyTooLong _)) before now = now ≡ before
IsCausedRel limit told (Err fault.IdsSpent) before now = now ≡ before
IsCausedRel limit told (Err fault.TableLimit) before now = now ≡ before
IsCausedRel limit told (Err (fault.Trouble t)) before now = IsTroubleCaused limit told t before now

-- the same of a call that answers troubles alone
abbrev pub IsCausedOnly : {T : Type 0} → Option ℕ → Option Db → Result T Trouble → ℕ → ℕ → Type 0
IsCausedOnly limit told (Ok _) before now = now ≡ before
IsCausedOnly limit told (Err t) before now = IsTroubleCaused limit told t before now

-- by how much `Full` asks for more than there is, at most: the bytes of the longest content as a block, and what stands before the first one
abbrev pub longest_growth : ℕ
longest_growth = 65920

-- what `Full` of a change asks for is at most so much over the size that the call leaves
abbrev pub NeedsAtMost : {T : Type 0} → ℕ → Result T RelFault → Type 0
NeedsAtMost size (Ok _) = Unit {0}
NeedsAtMost size (Err fault.RowTooLong) = Unit {0}
NeedsAtMost size (Err (fault.KeyTooLong _)) = Unit {0}
NeedsAtMost size (Err fault.IdsSpent) = Unit {0}
NeedsAtMost size (Err fault.TableLimit) = Unit {0}
NeedsAtMost size (Err (fault.Trouble trouble.Failed)) = Unit {0}
NeedsAtMost size (Err (fault.Trouble trouble.NoMemory)) = Unit {0}
NeedsAtMost size (Err (fault.Trouble (trouble.Full need most))) = need ≤ size + longest_growth
NeedsAtMost size (Err (fault.Trouble trouble.Damaged)) = Unit {0}

-- what `Full` of the end of a level asks for is at most so much over the size that the call leaves, or over the limit where that is more
abbrev pub NeedsAtEnd : {T : Type 0} → ℕ → Result T Trouble → Type 0
NeedsAtEnd size (Ok _) = Unit {0}
NeedsAtEnd size (Err trouble.Failed) = Unit {0}
NeedsAtEnd size (Err trouble.NoMemory) = Unit {0}
NeedsAtEnd size (Err (trouble.Full need most)) = need ≤ max size most + longest_growth
NeedsAtEnd size (Err trouble.Damaged) = Unit {0}

-- whether a relation is sound after the end of a level: a device that refused may end it, and nothing else
abbrev pub StaysSound : {T : Type 0} → Result T Trouble → (before now : Bool) → Type 0
StaysSound (Ok _) before now = now ≡ before
StaysSound (Err trouble.Failed) before now = Unit {0}
StaysSound (Err trouble.NoMemory) before now = Unit {0}
StaysSound (Err (trouble.Full _ _)) before now = now ≡ before
StaysSound (Err trouble.Damaged) before now = now ≡ before
