-- The plan of a statement over the tables of a schema, or its first refusal.
use Rattle.std.specs.Prelude.{ℕ, suc, Bool, true, false, ◌&&◌, ◌||◌, if◌then◌else◌, nat_lt, List, [], ◌∷◌, ◌++◌, map, codes, Option, Some, None, Ok}
use Rattle.std.specs.Str.{bytes_eq}
use Rattle.ql_value.specs.declared.refusal.TheConstants.{NO_TABLE}
use Rattle.ql_value.specs.declared.refusal.TheConstants.{AMBIGUOUS, COUNT, LATER}
use Rattle.ql_value.specs.declared.value.Kind.{Kind}
use Rattle.ql_value.specs.declared.value.Kind.TheVariants as k
use Rattle.ql_syntax.specs.declared.statement.ColumnDef.{ColumnDef}
use Rattle.ql_syntax.specs.declared.syntax.Expr.{Expr}
use Rattle.ql_syntax.specs.declared.syntax.Expr.TheOpen.{SetSource-F}
use Rattle.ql_syntax.specs.declared.syntax.Field.{Field, out-Field}
use Rattle.ql_syntax.specs.declared.syntax.FromSet.{FromSet, out-FromSet}
use Rattle.ql_syntax.specs.declared.syntax.Join.{Join}
use Rattle.ql_syntax.specs.declared.syntax.Link.{Link}
use Rattle.ql_syntax.specs.declared.syntax.Select.{Select, out-Select}
use Rattle.ql_syntax.specs.declared.syntax.SetSource.{SetSource, out-SetSource}
use Rattle.ql_syntax.specs.declared.typed.Typed.{Typed}
use Rattle.ql_syntax.specs.declared.typed.Typed.TheVariants as t
use Rattle.ql_value.specs.Kinds.{is_integer, is_truth}
use Rattle.ql_syntax.specs.declared.typing.Typing.TheVariants.{OfKind}
use Rattle.ql_syntax.specs.Aggregates.{any_aggregate}
use Rattle.ql_syntax.specs.Typing.{among}
use Rattle.ql_syntax.specs.declared.scope.Slot.{Slot}
use Rattle.ql_syntax.specs.declared.scope.Scope.{Scope}
use Rattle.ql_rel.specs.declared.select.ResultField.{ResultField}
use Rattle.ql_rel.specs.declared.select.Source.{Source}
use Rattle.ql_rel.specs.declared.select.Output.{Output}
use Rattle.ql_rel.specs.declared.select.Limits.{Limits}
use Rattle.ql_rel.specs.declared.select.Selected.{Selected}
use Rattle.ql_rel.specs.declared.plan.Plan.{Plan}
use Rattle.ql_rel.specs.declared.schema.Schema.{Schema}
use Rattle.ql_rel.specs.declared.schema.TableSchema.{TableSchema}
use Rattle.ql_syntax.specs.Answers.{Answer, refused, refused_at, then_with, all_of}
use Rattle.ql_syntax.specs.Scopes.{is_called, written}
use Rattle.ql_syntax.specs.Checked.{of_type, require_type}
use Rattle.ql_syntax.specs.Resolving.{Ref, plain_name, check_expr}

-- the table with a name
abbrev pub table_named : List ℕ → List TableSchema → Option TableSchema
table_named name [] = None
table_named name (table ∷ tables) = if bytes_eq table.name name then Some table else table_named name tables

-- the sets that describe the database itself
abbrev pub is_metadata : List ℕ → Bool
is_metadata name = bytes_eq name (codes "__Table") || bytes_eq name (codes "__Column") || bytes_eq name (codes "__Index")

-- a place for each column of a record set
abbrev pub column_slots : List ℕ → List ColumnDef → List Slot
column_slots set columns = map (λ c. record { set = Some set; column = Some c.name; typing = OfKind c.kind }) columns

-- the places of a record set: its id, then its columns
abbrev pub set_slots : List ℕ → List ColumnDef → List Slot
set_slots set columns = record { set = Some set; column = None; typing = OfKind k.Int64 } ∷ column_slots set columns

-- some record set has the name
abbrev pub is_taken : List ℕ → List Slot → Bool
is_taken name [] = false
is_taken name (slot ∷ slots) = is_called slot.set name || is_taken name slots

-- a record set is called by its alias, else by its table's name
abbrev pub set_name : Option (List ℕ) → List ℕ → List ℕ
set_name (Some alias) table = alias
set_name None table = table

-- a table as a further record set with a name: 1 where there is no such table, 3 where a set before has the name
abbrev pub add_table : List Slot → List ℕ → List ℕ → Option TableSchema → Answer (List Slot)
add_table slots set name None = refused_at NO_TABLE name
add_table slots set name (Some table) = if is_taken set slots then refused_at AMBIGUOUS set else Ok (slots ++ set_slots set table.columns)

-- a table or a set that describes the database itself as a further record set; the latter are not built yet
abbrev pub add_named : Schema → List Slot → Option (List ℕ) → List ℕ → Answer (List Slot)
add_named schema slots alias name =
    if is_metadata name then refused LATER else add_table slots (set_name alias name) name (table_named name schema.tables)

-- a further record set; subselects are not built yet
abbrev pub add_source : Schema → List Slot → Option (List ℕ) → SetSource-F Expr SetSource Field FromSet Join Link Select → Answer (List Slot)
add_source schema slots alias (SetSource-F.Query q) = refused LATER
add_source schema slots alias (SetSource-F.Table name) = add_named schema slots alias name

abbrev pub add_set : Schema → List Slot → FromSet → Answer (List Slot)
add_set schema slots set = add_source schema slots (out-FromSet set).alias (out-SetSource (out-FromSet set).source)

-- the record sets of a FROM, from left to right
abbrev pub add_sets : Schema → List Slot → List FromSet → Answer (List Slot)
add_sets schema slots [] = Ok slots
add_sets schema slots (set ∷ sets) = then_with (add_set schema slots set) (λ more. add_sets schema more sets)

-- a join is not built yet
abbrev pub without_join : Option Join → Answer (Unit {0})
without_join None = Ok tt
without_join (Some join) = refused LATER

-- a row, and no field
abbrev pub row_scope : List Slot → Scope
row_scope slots = record { row = slots; fields = []; hides = false }

-- an expression without aggregate, whose kind passes a test
abbrev pub resolve_among : (Kind → Bool) → Scope → Expr → Answer Typed
resolve_among test scope e = then_with (check_expr scope false e) (λ c. then_with (require_type (among test c.typing)) (λ _. Ok c.tree))

-- the same, where it stands
abbrev pub resolve_if : (Kind → Bool) → Scope → Option Expr → Answer (Option Typed)
resolve_if test scope None = Ok None
resolve_if test scope (Some e) = then_with (resolve_among test scope e) (λ tree. Ok (Some tree))

-- an expression without aggregate, of any type
abbrev pub resolve : Scope → Expr → Answer Typed
resolve scope e = then_with (check_expr scope false e) (λ c. Ok c.tree)

abbrev pub resolve_each : Scope → List Expr → Answer (List Typed)
resolve_each scope exprs = all_of (map (resolve scope) exprs)

-- the name of a field: that behind AS, else that of the column which it is, else none
abbrev pub field_name : Option (List ℕ) → Option Ref → List ℕ
field_name (Some alias) ref = alias
field_name None (Some r) = r.column
field_name None None = []

-- a field
abbrev pub result_field : Scope → Option (List ℕ) → Expr → Answer ResultField
result_field scope alias e = then_with (check_expr scope true e) (λ c. Ok (record { name = field_name alias (plain_name e); expr = c }))

-- the name of a column of `*`: with that of its set, where several sets have one
abbrev pub star_name : Bool → Option (List ℕ) → List ℕ → List ℕ
star_name true set column = written set column
star_name false set column = column

-- a field of `*`, for a place that is a column
abbrev pub star_field : Bool → ℕ → Slot → Option (List ℕ) → List ResultField
star_field several at slot None = []
star_field several at slot (Some column) = record { name = star_name several slot.set column; expr = of_type slot.typing (t.Place at) } ∷ []

-- the fields of `*`; the first slot has this number
abbrev pub star_fields : Bool → ℕ → List Slot → List ResultField
star_fields several at [] = []
star_fields several at (slot ∷ slots) = star_field several at slot slot.column ++ star_fields several (suc at) slots

-- how many record sets have a name
abbrev pub is_named_set : Option (List ℕ) → Option (List ℕ) → Bool
is_named_set (Some set) None = true
is_named_set _ _ = false

abbrev pub named_sets : List Slot → ℕ
named_sets [] = 0
named_sets (slot ∷ slots) = if is_named_set slot.set slot.column then suc (named_sets slots) else named_sets slots

-- two record sets or more have a name
abbrev pub are_several : List Slot → Bool
are_several slots = nat_lt 1 (named_sets slots)

-- `*`: 6 without a record set
abbrev pub star : List Slot → Answer (List ResultField)
star [] = refused COUNT
star (slot ∷ slots) = Ok (star_fields (are_several (slot ∷ slots)) 0 (slot ∷ slots))

-- fields that are written
abbrev pub written_fields : Scope → List Field → Answer (List ResultField)
written_fields scope fields = all_of (map (λ x. result_field scope (out-Field x).alias (out-Field x).expr) fields)

-- what a SELECT shows; no fields stand for `*`
abbrev pub result_fields : Scope → List Field → Answer (List ResultField)
result_fields scope [] = star scope.row
result_fields scope (field ∷ fields) = written_fields scope (field ∷ fields)

-- an aggregate stands in a field
abbrev pub any_field_aggregate : List ResultField → Bool
any_field_aggregate fields = any_aggregate (map (λ x. x.expr.tree) fields)

-- a field as a place behind the row
abbrev pub place_name : List ℕ → Option (List ℕ)
place_name [] = None
place_name (b ∷ name) = Some (b ∷ name)

abbrev pub field_slot : ResultField → Slot
field_slot x = record { set = None; column = place_name x.name; typing = x.expr.typing }

-- the same for a column of a kind, which an untyped field takes
abbrev pub met_slot : Kind → ResultField → Slot
met_slot kind x = record { set = None; column = place_name x.name; typing = if x.expr.untyped && is_integer kind then OfKind kind else x.expr.typing }

-- the fields as places: the first of them are for columns of these kinds, the others for none
abbrev pub field_slots : List Kind → List ResultField → List Slot
field_slots [] fields = map field_slot fields
field_slots (kind ∷ kinds) [] = []
field_slots (kind ∷ kinds) (x ∷ fields) = met_slot kind x ∷ field_slots kinds fields

-- what ORDER BY sees: the fields, and the row where neither DISTINCT nor grouping hides it
abbrev pub key_scope : List Kind → Bool → Scope → List ResultField → Scope
key_scope kinds hides scope fields = record { row = scope.row; fields = field_slots kinds fields; hides = hides }

-- the list has a member
abbrev pub is_some_list : {A : Type 0} → List A → Bool
is_some_list [] = false
is_some_list (x ∷ xs) = true

-- WHERE and GROUP BY, over the row of a FROM
abbrev pub row_conditions : Scope → Select → Answer Source
row_conditions row select =
    then_with (resolve_if is_truth row (out-Select select).filter) (λ filter.
    then_with (resolve_each row (out-Select select).groups) (λ groups. Ok (record { row = row; filter = filter; groups = groups })))

-- FROM and a join, then WHERE and GROUP BY
abbrev pub source_of : Schema → Select → Answer Source
source_of schema select =
    then_with (add_sets schema [] (out-Select select).sets) (λ slots.
    then_with (without_join (out-Select select).join) (λ _. row_conditions (row_scope slots) select))

-- ORDER BY behind the fields; there is grouping where GROUP BY stands or a field has an aggregate
abbrev pub keyed_output : List Kind → Scope → Bool → Select → List ResultField → Answer Output
keyed_output kinds row grouped_by select fields =
    let grouped = grouped_by || any_field_aggregate fields in
    then_with (resolve_each (key_scope kinds ((out-Select select).distinct || grouped) row fields) (out-Select select).keys) (λ keys.
    Ok (record { fields = fields; grouped = grouped; keys = keys }))

-- the fields, then ORDER BY
abbrev pub output_of : List Kind → Scope → Bool → Select → Answer Output
output_of kinds row grouped_by select = then_with (result_fields row (out-Select select).fields) (keyed_output kinds row grouped_by select)

-- LIMIT, then OFFSET
abbrev pub limits_of : Select → Answer Limits
limits_of select =
    then_with (resolve_if is_integer (row_scope []) (out-Select select).limit) (λ limit.
    then_with (resolve_if is_integer (row_scope []) (out-Select select).offset) (λ offset.
    Ok (record { limit = limit; offset = offset })))

-- the parts of a plan together
abbrev pub plan_of : Option Typed → List Typed → Output → Limits → Plan
plan_of filter groups output limits = record {
  fields = map (λ x. x.expr.tree) output.fields;
  names = map (λ x. x.name) output.fields;
  filter = filter;
  join_on = None;
  groups = groups;
  grouped = output.grouped;
  keys = output.keys;
  limit = limits.limit;
  offset = limits.offset;
  rows = [];
  targets = [];
  rules = [];
  defaults = [];
}

-- the parts of a SELECT in order: FROM, join, WHERE, GROUP BY, fields, ORDER BY, LIMIT, OFFSET; its fields are for columns of these kinds, in an INSERT, or for none
abbrev pub selected : Schema → List Kind → Select → Answer Selected
selected schema kinds select =
    then_with (source_of schema select) (λ source.
    then_with (output_of kinds source.row (is_some_list source.groups) select) (λ output.
    then_with (limits_of select) (λ limits. Ok (record { filter = source.filter; groups = source.groups; output = output; limits = limits }))))

-- the parts of a SELECT as a plan
abbrev pub whole_plan_of : Selected → Plan
whole_plan_of x = plan_of x.filter x.groups x.output x.limits

-- the plan of a SELECT by itself
abbrev pub select_plan : Schema → Select → Answer Plan
select_plan schema select = then_with (selected schema [] select) (λ x. Ok (whole_plan_of x))
