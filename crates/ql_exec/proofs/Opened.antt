-- The rows of a FROM before the first is given.
use Rattle.std.proofs.Common.{◌≡◌, ℕ, ◌<◌, ◌≤◌, List, [], ◌∷◌, length, map, Option, Some, None, IfSome, Ok, Err, refl, sym, ap, subst, ◌∙◌, arith}
use Rattle.std.specs.Prelude.{IsOk}
use Rattle.ql_value.specs.declared.value.Value.{Value}
use Rattle.ql_syntax.specs.declared.syntax.Expr.TheOpen.{SetSource-F}
use Rattle.ql_syntax.specs.declared.syntax.FromSet.{FromSet, out-FromSet}
use Rattle.ql_syntax.specs.declared.syntax.Select.{Select}
use Rattle.ql_syntax.specs.declared.syntax.SetSource.{out-SetSource}
use Rattle.ql_syntax.specs.declared.scope.Slot.{Slot}
use Rattle.ql_syntax.specs.Answers.{Answer}
use Rattle.ql_rel.specs.declared.db.Db.{Db}
use Rattle.ql_rel.specs.declared.schema.Schema.{Schema}
use Rattle.ql_rel.specs.Databases.{schema_of, rows_at}
use Rattle.ql_rel.specs.NewNames.{place_named}
use Rattle.ql_rel.specs.PlanTypes as types
use Rattle.ql_rel.specs.Plans.{add_set, add_sets}
use Rattle.ql_rel.specs.SelectRows.{set_row, set_rows, rows_of_source, from_rows}
use Rattle.ql_rel.specs.WellFormed.{IsWellFormed}
use Rattle.ql_exec.specs.declared.source.RowsLeft.{RowsLeft}
use Rattle.ql_exec.specs.Turns.{rows_if, types_if, Opens}
use Rattle.ql_exec.proofs.Lined.{rise_at}
use Rattle.ql_exec.proofs.Planned.{one_set, Stood}
use Rattle.ql_exec.proofs.Scanned.{all_after}

all_left : (name : List ℕ) (d : Db) → IsWellFormed d → set_rows name d ≡ rows_if (Some (place_named name (schema_of d).tables)) 0 d
all_left name d w =
    let place = place_named name (schema_of d).tables in
    ap (map set_row) (sym (all_after 0 1 (rows_at place d) (rise_at d place d.tables w.rows) (omega arith)))

-- those of a table
pub table_opens : (table : ℕ) (schema : Schema) (set : FromSet) (name : List ℕ) (o : Option Db) → out-SetSource (out-FromSet set).source ≡ SetSource-F.Table name → table ≡ place_named name schema.tables → IfSome o (λ d. schema ≡ schema_of d) → IfSome o IsWellFormed
    → IfSome o (λ d. ◌≡◌ {A = Answer (List (List Value))} (from_rows d (set ∷ [])) (Ok (rows_if (Some table) 0 d)))
table_opens table schema set name None k e s w = tt
table_opens table schema set name (Some d) k e s w =
    let there : table ≡ place_named name (schema_of d).tables = subst (λ (z : Schema). table ≡ place_named name z.tables) s e in
    ap (rows_of_source d) k ∙ ap Ok (all_left name d w ∙ ap (λ (p : ℕ). rows_if (Some p) 0 d) (sym there))

-- a subselect comes later
pub query_later : (set : FromSet) (select : Select) (o : Option Db) → out-SetSource (out-FromSet set).source ≡ SetSource-F.Query select
    → IfSome o (λ d. ◌≡◌ {A = Answer (List (List Value))} (from_rows d (set ∷ [])) (Err (record { number = 10; name = [] })))
query_later set select None k = tt
query_later set select (Some d) k = ap (rows_of_source d) k

-- the types of its rows
pub table_types_are : (table : ℕ) (schema : Schema) (name : List ℕ) (slots : Answer (List Slot)) → table ≡ place_named name schema.tables → Stood schema name slots → (table < length schema.tables) × (types_if (Some table) schema ≡ types.types_if slots)
table_types_are table schema name slots e h =
    (subst (λ (p : ℕ). p < length schema.tables) (sym e) h.there, ap (λ (p : ℕ). types_if (Some p) schema) e ∙ h.typed)

-- without a record set
pub none_opens : (sets : List FromSet) (o : Option Db) → sets ≡ [] → IfSome o (λ d. ◌≡◌ {A = Answer (List (List Value))} (from_rows d sets) (Ok (rows_if None 0 d)))
none_opens sets None n = tt
none_opens sets (Some d) n = ap (from_rows d) n

pub none_types : (schema : Schema) (sets : List FromSet) → sets ≡ [] → types_if None schema ≡ types.types_if (add_sets schema [] sets)
none_types schema sets n = sym (ap (λ (z : List FromSet). types.types_if (add_sets schema [] z)) n)

-- with one
pub sole_opens : (sets : List FromSet) (set : FromSet) (x : Option RowsLeft) (o : Option Db) → sets ≡ set ∷ [] → IfSome o (λ d. Opens (from_rows d (set ∷ [])) x d) → IfSome o (λ d. Opens (from_rows d sets) x d)
sole_opens sets set x o n h = subst (λ (z : List FromSet). IfSome o (λ d. Opens (from_rows d z) x d)) (sym n) h

pub sole_types : (schema : Schema) (sets : List FromSet) (set : FromSet) (x : Option RowsLeft) → sets ≡ set ∷ [] → IfSome x (λ left. types_if left.table schema ≡ types.types_if (add_set schema [] set)) → IfSome x (λ left. types_if left.table schema ≡ types.types_if (add_sets schema [] sets))
sole_types schema sets set None n h = tt
sole_types schema sets set (Some left) n h = h ∙ ap types.types_if (sym (one_set schema sets set n))

pub sole_there : (schema : Schema) (sets : List FromSet) (set : FromSet) → sets ≡ set ∷ [] → IsOk (add_sets schema [] sets) → IsOk (add_set schema [] set)
sole_there schema sets set n h = subst (λ (a : Answer (List Slot)). IsOk a) (one_set schema sets set n) h

-- with several
pub several_later : (sets : List FromSet) (o : Option Db) → 2 ≤ length sets → IfSome o (λ d. ◌≡◌ {A = Answer (List (List Value))} (from_rows d sets) (Err (record { number = 10; name = [] })))
several_later sets None h = tt
several_later [] (Some d) h = absurd (omega arith)
several_later (x ∷ []) (Some d) h = absurd (omega arith)
several_later (x ∷ y ∷ sets) (Some d) h = refl
