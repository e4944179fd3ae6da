-- The schema of one table after a column came or went.
use Rattle.std.proofs.Common.{◌≡◌, ℕ, Bool, false, List, [], ◌∷◌, ◌++◌, map, remove, Option, Some, None, ap, sym, subst, ◌∙◌}
use Rattle.std.specs.Prelude.{IfSome}
use Rattle.std.specs.List.{filter}
use Rattle.ql_syntax.specs.declared.statement.ColumnDef.{ColumnDef}
use Rattle.ql_rel.specs.declared.db.Db.{Db}
use Rattle.ql_rel.specs.declared.db.Table.{Table}
use Rattle.ql_rel.specs.declared.schema.Index.{Index}
use Rattle.ql_rel.specs.declared.schema.Schema.{Schema}
use Rattle.ql_rel.specs.declared.schema.TableSchema.{TableSchema}
use Rattle.ql_rel.specs.Changes.{changed_at, column_added, column_dropped, with_column, without_column, is_not_by}
use Rattle.ql_rel.specs.Databases.{table_schema, schema_of, columns_at, name_at, column_name_at}
use Rattle.ql_rel.specs.Limits.{is_past_added}
use Rattle.ql_rel.specs.WellFormed.{IsMade}
use Rattle.test_rel.specs.Only.{only}

wider_made : (tables : List Table) (indexes : List Index) (name : List ℕ) (columns : List ColumnDef) (column : ColumnDef)
    → only name columns ≡ record { tables = map table_schema tables; indexes = indexes } → IsMade (only name (columns ++ column ∷ []))
    → IsMade (record { tables = map table_schema (changed_at 0 (with_column column) tables); indexes = indexes })
wider_made [] indexes name columns column e made = let short = ap (λ (s : Schema). s.tables) e in absurd cc
wider_made (t ∷ u ∷ tables) indexes name columns column e made = let long = ap (λ (s : Schema). s.tables) e in absurd cc
wider_made (t ∷ []) indexes name columns column e made =
    let one = ap (λ (s : Schema). s.tables) e in
    let is : ◌≡◌ {A = TableSchema} (record { name = name; columns = columns }) (table_schema t) = cc in
    let none : [] ≡ indexes = ap (λ (s : Schema). s.indexes) e in
    let named : name ≡ t.name = ap (λ (s : TableSchema). s.name) is in
    let held : columns ≡ t.columns = ap (λ (s : TableSchema). s.columns) is in
    subst (λ (xs : List Index). IsMade (record { tables = table_schema (with_column column t) ∷ []; indexes = xs })) none
    (subst (λ (n : List ℕ). IsMade (only n (t.columns ++ column ∷ []))) named
    (subst (λ (cs : List ColumnDef). IsMade (only name (cs ++ column ∷ []))) held made))

narrower_made : (tables : List Table) (indexes : List Index) (p : Index → Bool) (name : List ℕ) (columns : List ColumnDef) (place : ℕ)
    → only name columns ≡ record { tables = map table_schema tables; indexes = indexes } → IsMade (only name (remove columns place))
    → IsMade (record { tables = map table_schema (changed_at 0 (without_column place) tables); indexes = filter p indexes })
narrower_made [] indexes p name columns place e made = let short = ap (λ (s : Schema). s.tables) e in absurd cc
narrower_made (t ∷ u ∷ tables) indexes p name columns place e made = let long = ap (λ (s : Schema). s.tables) e in absurd cc
narrower_made (t ∷ []) indexes p name columns place e made =
    let one = ap (λ (s : Schema). s.tables) e in
    let is : ◌≡◌ {A = TableSchema} (record { name = name; columns = columns }) (table_schema t) = cc in
    let none : [] ≡ indexes = ap (λ (s : Schema). s.indexes) e in
    let named : name ≡ t.name = ap (λ (s : TableSchema). s.name) is in
    let held : columns ≡ t.columns = ap (λ (s : TableSchema). s.columns) is in
    subst (λ (xs : List Index). IsMade (record { tables = table_schema (without_column place t) ∷ []; indexes = filter p xs })) none
    (subst (λ (n : List ℕ). IsMade (only n (remove t.columns place))) named
    (subst (λ (cs : List ColumnDef). IsMade (only name (remove cs place))) held made))

-- a column more
pub made_wider : (told : Option Db) (schema seen : Schema) (name : List ℕ) (columns xs wide : List ColumnDef) (column : ColumnDef)
    → IfSome told (λ d. schema ≡ schema_of d) → seen ≡ schema → seen ≡ only name columns → xs ≡ columns → wide ≡ xs ++ column ∷ [] → IsMade (only name wide)
    → IfSome told (λ d. is_past_added column (columns_at 0 (schema_of d)) ≡ false → IsMade (schema_of (column_added 0 column d)))
made_wider None schema seen name columns xs wide column told same is x w made = tt
made_wider (Some d) schema seen name columns xs wide column told same is x w made = λ _.
    wider_made d.tables d.indexes name columns column (sym is ∙ same ∙ told) (subst (λ (cs : List ColumnDef). IsMade (only name cs)) (w ∙ ap (λ (cs : List ColumnDef). cs ++ column ∷ []) x) made)

-- a column less
pub made_narrower : (told : Option Db) (schema seen : Schema) (name : List ℕ) (columns xs narrow : List ColumnDef) (place : ℕ)
    → IfSome told (λ d. schema ≡ schema_of d) → seen ≡ schema → seen ≡ only name columns → xs ≡ columns → narrow ≡ remove xs place → IsMade (only name narrow)
    → IfSome told (λ d. IsMade (schema_of (column_dropped 0 place d)))
made_narrower None schema seen name columns xs narrow place told same is x w made = tt
made_narrower (Some d) schema seen name columns xs narrow place told same is x w made =
    narrower_made d.tables d.indexes (is_not_by (name_at 0 (schema_of d)) (column_name_at 0 place (schema_of d))) name columns place
    (sym is ∙ same ∙ told) (subst (λ (cs : List ColumnDef). IsMade (only name cs)) (w ∙ ap (λ (cs : List ColumnDef). remove cs place) x) made)
