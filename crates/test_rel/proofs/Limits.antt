-- Limits that no call on tables in memory reaches yet: keys of indexes, indexes, and ids.
use Rattle.std.proofs.Common.{◌≡◌, ℕ, true, false, List, [], ◌∷◌, length, Option, Some, None, refl}
use Rattle.std.specs.Prelude.{codes}
use Rattle.ql_value.specs.declared.value.Kind.TheVariants as k
use Rattle.ql_value.specs.declared.value.Value.{Value}
use Rattle.ql_value.specs.Length.{length_of_key}
use Rattle.ql_syntax.specs.declared.statement.ColumnDef.{ColumnDef}
use Rattle.ql_syntax.specs.declared.statement.Item.TheVariants as item
use Rattle.ql_rel.specs.declared.db.Db.{Db}
use Rattle.ql_rel.specs.declared.fault.RelFault.{RelFault}
use Rattle.ql_rel.specs.declared.fault.RelFault.TheVariants as fault
use Rattle.ql_rel.specs.declared.schema.Index.{Index}
use Rattle.ql_rel.specs.declared.schema.Schema.{Schema}
use Rattle.ql_rel.specs.Changes.{row_of}
use Rattle.ql_rel.specs.Limits.{first_long_key, is_past_index}
use Rattle.ql_rel.specs.Refusals.{insert_refusal}

-- `t (a string)`, and an index by its column
abbrev columns : List ColumnDef
columns = record { name = codes "a"; kind = k.Text; not_null = false; rule = None; default = None } ∷ []

abbrev indexes : List Index
indexes = record { name = codes "i"; table = codes "t"; item = item.Column (codes "a"); unique = false } ∷ []

-- a key has at most 1,092 bytes
longest_key : (x : Value) → length_of_key x ≡ 1092 → first_long_key (codes "t") columns indexes (row_of 1 (x ∷ [])) ≡ None
longest_key x e = rw e refl

one_byte_more : (x : Value) → length_of_key x ≡ 1093 → first_long_key (codes "t") columns indexes (row_of 1 (x ∷ [])) ≡ Some (codes "i")
one_byte_more x e = rw e refl

-- of another table's rows no key is too long
other_table : (x : Value) → first_long_key (codes "s") columns indexes (row_of 1 (x ∷ [])) ≡ None
other_table x = refl

-- the greatest id is given, and then the ids are spent
abbrev next_is : ℕ → Db
next_is id = record { next_id = id; tables = record { name = codes "t"; columns = []; rows = [] } ∷ []; indexes = [] }

greatest_id : ◌≡◌ {A = Option RelFault} (insert_refusal 0 [] (next_is 9223372036854775807)) None
greatest_id = refl

ids_spent : ◌≡◌ {A = Option RelFault} (insert_refusal 0 [] (next_is 9223372036854775808)) (Some fault.IdsSpent)
ids_spent = refl

-- there are at most 4,096 indexes
last_index : (schema : Schema) → length schema.indexes ≡ 4095 → is_past_index schema ≡ false
last_index schema e = rw e refl

one_index_more : (schema : Schema) → length schema.indexes ≡ 4096 → is_past_index schema ≡ true
one_index_more schema e = rw e refl
