-- A few parts of plans, computed by the definitions.
use Rattle.std.proofs.Common.{◌≡◌, ℕ, Bool, true, false, ◌||◌, List, [], ◌∷◌, ◌++◌, Option, Some, None, Ok, refl, sym, ap, ◌∙◌}
use Rattle.std.specs.Prelude.{codes}
use Rattle.ql_value.specs.declared.value.Kind.{Kind}
use Rattle.ql_value.specs.declared.value.Kind.TheVariants as k
use Rattle.ql_value.specs.declared.value.Value.TheVariants as v
use Rattle.ql_syntax.specs.declared.statement.ColumnDef.{ColumnDef}
use Rattle.ql_syntax.specs.declared.syntax.Expr.TheOpen.{SetSource-F}
use Rattle.ql_syntax.specs.declared.syntax.Expr.TheVariants as e
use Rattle.ql_syntax.specs.declared.syntax.FromSet.{roll-FromSet}
use Rattle.ql_syntax.specs.declared.syntax.Function.{Function}
use Rattle.ql_syntax.specs.declared.syntax.Function.TheVariants as f
use Rattle.ql_syntax.specs.declared.syntax.Join.{Join}
use Rattle.ql_syntax.specs.declared.syntax.Select.{Select, out-Select}
use Rattle.ql_syntax.specs.declared.syntax.SetSource.TheVariants as source
use Rattle.ql_syntax.specs.declared.typed.Typed.{Typed}
use Rattle.ql_syntax.specs.declared.typed.Typed.TheOpen.{Typed-F}
use Rattle.ql_syntax.specs.declared.typed.Typed.TheFolds.{fold-roll-Typed}
use Rattle.ql_syntax.specs.declared.typed.Typed.TheVariants as t
use Rattle.ql_value.specs.Kinds.{is_integer, is_truth}
use Rattle.ql_syntax.specs.declared.typing.Typing.{Typing}
use Rattle.ql_syntax.specs.declared.typing.Typing.TheVariants.{OfKind, Ill}
use Rattle.ql_syntax.specs.Typing.{among, meet, place_type}
use Rattle.ql_syntax.specs.declared.scope.Slot.{Slot}
use Rattle.ql_rel.specs.declared.select.ResultField.{ResultField}
use Rattle.ql_rel.specs.declared.select.Source.{Source}
use Rattle.ql_rel.specs.declared.select.Limits.{Limits}
use Rattle.ql_rel.specs.declared.select.Selected.{Selected}
use Rattle.ql_rel.specs.declared.plan.Plan.{Plan}
use Rattle.ql_rel.specs.declared.schema.Schema.{Schema}
use Rattle.ql_syntax.specs.Aggregates.{has_aggregate, aggregate_step, aggregate_link}
use Rattle.ql_syntax.specs.Answers.{Answer, refused, refused_at, then_with}
use Rattle.ql_syntax.specs.Checked.{of_type, literal_of, require_type}
use Rattle.ql_syntax.specs.Scopes.{column_place}
use Rattle.ql_syntax.specs.Resolving.{Judged, ref_of, plain_name}
use Rattle.ql_rel.specs.Plans.{add_table, add_source, add_set, add_sets, set_slots, without_join, field_name, star, any_field_aggregate, key_scope, row_scope, table_named, resolve_among, resolve_if, resolve_each, is_some_list, output_of, limits_of, whole_plan_of, select_plan}
use Rattle.ql_syntax.specs.GroupTyping.{aggregate_type, type_by, type_in_group}
use Rattle.ql_syntax.proofs.TypedBy.{by_roll, by_constant, by_place, by_rows, by_aggregate}
use Rattle.ql_rel.proofs.Equations.{judge_of_column, judge_of_number, judge_of_truth, judge_of_null}

abbrev column : List ℕ → Kind → ColumnDef
column name kind = record { name = name; kind = kind; not_null = false; rule = None; default = None }

-- `t (a int8)` and `u (a int64)`
abbrev tables : Schema
tables = record {
  tables = record { name = codes "t"; columns = column (codes "a") k.Int8 ∷ [] } ∷ record { name = codes "u"; columns = column (codes "a") k.Int64 ∷ [] } ∷ [];
  indexes = [];
}

abbrev t_slots : List Slot
t_slots = set_slots (codes "t") (column (codes "a") k.Int8 ∷ [])

abbrev u_slots : List Slot
u_slots = set_slots (codes "u") (column (codes "a") k.Int64 ∷ [])

-- `FROM t`, `FROM t, t`, `FROM t, nosuch`, `FROM nosuch AS t` behind `t`
first_set : add_table [] (codes "t") (codes "t") (table_named (codes "t") tables.tables) ≡ Ok t_slots
first_set = refl

same_name : add_table t_slots (codes "t") (codes "t") (table_named (codes "t") tables.tables) ≡ refused_at 3 (codes "t")
same_name = refl

no_table : add_table t_slots (codes "t") (codes "nosuch") (table_named (codes "nosuch") tables.tables) ≡ refused_at 1 (codes "nosuch")
no_table = refl

-- the fields of `*`: none without FROM, `a` over one record set, `t.a` and `u.a` over two
no_star : star [] ≡ refused 6
no_star = refl

one_star : star t_slots ≡ Ok (record { name = codes "a"; expr = of_type (OfKind k.Int8) (t.Place 1) } ∷ [])
one_star = refl

two_stars : star (t_slots ++ u_slots) ≡ Ok (record { name = codes "t.a"; expr = of_type (OfKind k.Int8) (t.Place 1) } ∷ record { name = codes "u.a"; expr = of_type (OfKind k.Int64) (t.Place 3) } ∷ [])
two_stars = refl

abbrev field : List ℕ → ResultField
field name = record { name = name; expr = of_type (OfKind k.Text) (t.Place 1) }

-- ORDER BY: two fields of one name are ambiguous, a field stands before a column, and with DISTINCT or grouping no column is seen
two_fields : column_place (key_scope [] false (row_scope t_slots) (field (codes "a") ∷ field (codes "a") ∷ [])) None (codes "a") ≡ refused_at 3 (codes "a")
two_fields = refl

field_first : column_place (key_scope [] false (row_scope t_slots) (field (codes "a") ∷ [])) None (codes "a") ≡ Ok (record { at = 2; typing = OfKind k.Text })
field_first = refl

row_next : column_place (key_scope [] false (row_scope t_slots) (field (codes "b") ∷ [])) None (codes "a") ≡ Ok (record { at = 1; typing = OfKind k.Int8 })
row_next = refl

row_hidden : column_place (key_scope [] true (row_scope t_slots) (field (codes "b") ∷ [])) None (codes "a") ≡ refused_at 2 (codes "a")
row_hidden = refl

-- in the SELECT of an INSERT, ORDER BY sees an untyped field as one of its column's kind, and every other field as it is
abbrev untyped : ResultField
untyped = record { name = codes "a"; expr = literal_of (record { minus = false; size = 300 }) }

field_meets : column_place (key_scope (k.Int8 ∷ []) false (row_scope t_slots) (untyped ∷ [])) None (codes "a") ≡ Ok (record { at = 2; typing = OfKind k.Int8 })
field_meets = refl

field_alone : column_place (key_scope [] false (row_scope t_slots) (untyped ∷ [])) None (codes "a") ≡ Ok (record { at = 2; typing = OfKind k.Int64 })
field_alone = refl

field_is : column_place (key_scope (k.Int8 ∷ []) false (row_scope t_slots) (field (codes "a") ∷ [])) None (codes "a") ≡ Ok (record { at = 2; typing = OfKind k.Text })
field_is = refl

-- `ORDER BY t.a` means a field that is named `t.a`, and not one that is named `a`
as_written : column_place (key_scope [] true (row_scope t_slots) (field (codes "a") ∷ field (codes "t.a") ∷ [])) (Some (codes "t")) (codes "a") ≡ Ok (record { at = 3; typing = OfKind k.Text })
as_written = refl

-- the name of a field: that behind AS, else that of the column which it is, else none; a column in brackets is none
alias_name : field_name (Some (codes "x")) (Some (record { set = Some (codes "t"); column = codes "a" })) ≡ codes "x"
alias_name = refl

column_name : field_name None (Some (record { set = Some (codes "t"); column = codes "a" })) ≡ codes "a"
column_name = refl

no_name : field_name None (plain_name (e.Paren (e.Column None (codes "a")))) ≡ []
no_name = ap (λ x. field_name None (ref_of x)) (e.outs-Paren (e.Column None (codes "a")))

-- an aggregate in a field makes a group
one_group : any_field_aggregate (record { name = []; expr = of_type (OfKind k.Int64) (t.Aggregate f.Count k.Int64 None) } ∷ []) ≡ true
one_group =
    ap (λ b. b || false)
    (ap has_aggregate (sym (t.rolls-Aggregate f.Count k.Int64 None)) ∙ fold-roll-Typed Bool Bool aggregate_step aggregate_link (Typed-F.Aggregate f.Count k.Int64 None))

-- the types of `t (a int8, s string)`, with its id; and of an aggregate of a place
abbrev row : List Typing
row = OfKind k.Int64 ∷ OfKind k.Int8 ∷ OfKind k.Text ∷ []

of_place : (function : Function) (kind : Kind) (at : ℕ) → type_in_group row (t.Aggregate function kind (Some (t.Place at))) ≡ meet (OfKind kind) (aggregate_type function (Some (place_type row at)))
of_place function kind at = by_aggregate row function kind (t.Place at) ∙ ap (λ type. meet (OfKind kind) (aggregate_type function (Some type))) (by_place false row at)

-- `sum(a)` is int8 and nothing else, `min(s)` a string, `count(s)` int64; there is no `avg(s)`, and no place 3
sum_of_int8 : type_in_group row (t.Aggregate f.Sum k.Int8 (Some (t.Place 1))) ≡ OfKind k.Int8
sum_of_int8 = of_place f.Sum k.Int8 1

sum_of_another_kind : type_in_group row (t.Aggregate f.Sum k.Int64 (Some (t.Place 1))) ≡ Ill
sum_of_another_kind = of_place f.Sum k.Int64 1

least_string : type_in_group row (t.Aggregate f.Min k.Text (Some (t.Place 2))) ≡ OfKind k.Text
least_string = of_place f.Min k.Text 2

count_of_strings : type_in_group row (t.Aggregate f.Count k.Int64 (Some (t.Place 2))) ≡ OfKind k.Int64
count_of_strings = of_place f.Count k.Int64 2

average_of_strings : type_in_group row (t.Aggregate f.Avg k.Text (Some (t.Place 2))) ≡ Ill
average_of_strings = of_place f.Avg k.Text 2

count_of_no_place : type_in_group row (t.Aggregate f.Count k.Int64 (Some (t.Place 3))) ≡ Ill
count_of_no_place = of_place f.Count k.Int64 3

-- `max(NULL)` is int64
greatest_null : type_in_group row (t.Aggregate f.Max k.Int64 (Some (t.Constant v.Null))) ≡ OfKind k.Int64
greatest_null = by_aggregate row f.Max k.Int64 (t.Constant v.Null) ∙ ap (λ type. meet (OfKind k.Int64) (aggregate_type f.Max (Some type))) (by_constant false row v.Null)

-- `sum(count())` has no type, though `count()` has one
rows_counted : type_in_group row (t.Aggregate f.Count k.Int64 None) ≡ OfKind k.Int64
rows_counted = by_rows row f.Count k.Int64

one_inside : type_in_group row (t.Aggregate f.Sum k.Int64 (Some (t.Aggregate f.Count k.Int64 None))) ≡ Ill
one_inside =
    by_aggregate row f.Sum k.Int64 (t.Aggregate f.Count k.Int64 None)
    ∙ ap (λ e. meet (OfKind k.Int64) (aggregate_type f.Sum (Some (type_by false row e)))) (sym (t.rolls-Aggregate f.Count k.Int64 None))
    ∙ ap (λ type. meet (OfKind k.Int64) (aggregate_type f.Sum (Some type))) (by_roll false row (Typed-F.Aggregate f.Count k.Int64 None))

-- `FROM t AS x`, over which `t.a` is no column, and a set that describes the database itself
an_alias : add_set tables [] (roll-FromSet (record { source = source.Table (codes "t"); alias = Some (codes "x") })) ≡ Ok (set_slots (codes "x") (column (codes "a") k.Int8 ∷ []))
an_alias = ap (add_source tables [] (Some (codes "x"))) (source.outs-Table (codes "t"))

alias_hides : column_place (row_scope (set_slots (codes "x") (column (codes "a") k.Int8 ∷ []))) (Some (codes "t")) (codes "a") ≡ refused_at 2 (codes "t.a")
alias_hides = refl

metadata : add_set tables [] (roll-FromSet (record { source = source.Table (codes "__Table"); alias = None })) ≡ refused 10
metadata = ap (add_source tables [] None) (source.outs-Table (codes "__Table"))

-- a subselect and a join
subselect : (q : Select) → add_source tables [] None (SetSource-F.Query q) ≡ refused 10
subselect q = refl

a_join : (join : Join) → without_join (Some join) ≡ refused 10
a_join join = refl

-- what a test makes of what is said of an expression
abbrev test_of : (Kind → Bool) → Judged → Answer Typed
test_of test j = then_with (j.answer false) (λ c. then_with (require_type (among test c.typing)) (λ _. Ok c.tree))

-- `WHERE 1` and `LIMIT true` are 5, `WHERE NULL` is fine, and LIMIT sees no column
number_where : resolve_among is_truth (row_scope t_slots) (e.Number 1) ≡ refused 5
number_where = ap (test_of is_truth) (judge_of_number (row_scope t_slots) 1)

null_where : resolve_among is_truth (row_scope t_slots) e.Null ≡ Ok (t.Constant v.Null)
null_where = ap (test_of is_truth) (judge_of_null (row_scope t_slots))

truth_limit : resolve_among is_integer (row_scope []) (e.Truth true) ≡ refused 5
truth_limit = ap (test_of is_integer) (judge_of_truth (row_scope []) true)

-- what LIMIT refuses comes before all of OFFSET, and it sees no column: `LIMIT a`
module _ (q : Select) where
  abbrev limits_from : Answer (Option Typed) → Answer Limits
  limits_from limit = then_with limit (λ l. then_with (resolve_if is_integer (row_scope []) (out-Select q).offset) (λ o. Ok (record { limit = l; offset = o })))

  limit_first : (out-Select q).limit ≡ Some (e.Column None (codes "a")) → limits_of q ≡ refused_at 2 (codes "a")
  limit_first h =
      ap (λ x. limits_from (resolve_if is_integer (row_scope []) x)) h
      ∙ ap (λ j. limits_from (then_with (test_of is_integer j) (λ x. Ok (Some x)))) (judge_of_column (row_scope []) None (codes "a"))

  -- what WHERE refuses comes before all of the fields: `WHERE a` without FROM
  abbrev source_from : List Slot → Answer (Option Typed) → Answer Source
  source_from slots filter = then_with filter (λ x. then_with (resolve_each (row_scope slots) (out-Select q).groups) (λ groups. Ok (record { row = row_scope slots; filter = x; groups = groups })))

  abbrev parts_from : Answer Source → Answer Selected
  parts_from from = then_with from (λ m. then_with (output_of [] m.row (is_some_list m.groups) q) (λ output. then_with (limits_of q) (λ limits. Ok (record { filter = m.filter; groups = m.groups; output = output; limits = limits }))))

  abbrev plan_from : Answer Source → Answer Plan
  plan_from from = then_with (parts_from from) (λ x. Ok (whole_plan_of x))

  where_first : (out-Select q).sets ≡ [] → (out-Select q).join ≡ None → (out-Select q).filter ≡ Some (e.Column None (codes "a")) → select_plan tables q ≡ refused_at 2 (codes "a")
  where_first no_sets no_join h =
      ap (λ x. plan_from (then_with (add_sets tables [] x) (λ slots. then_with (without_join (out-Select q).join) (λ _. source_from slots (resolve_if is_truth (row_scope slots) (out-Select q).filter))))) no_sets
      ∙ ap (λ x. plan_from (then_with (without_join x) (λ _. source_from [] (resolve_if is_truth (row_scope []) (out-Select q).filter)))) no_join
      ∙ ap (λ x. plan_from (source_from [] (resolve_if is_truth (row_scope []) x))) h
      ∙ ap (λ j. plan_from (source_from [] (then_with (test_of is_truth j) (λ x. Ok (Some x))))) (judge_of_column (row_scope []) None (codes "a"))
