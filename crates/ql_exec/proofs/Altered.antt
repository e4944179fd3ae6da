-- A table that gets or loses a column on a relation.
use Rattle.std.proofs.Common.{◌≡◌, ℕ, suc, ◌<◌, Bool, true, false, ◌||◌, nat_lt, if◌then◌else◌, List, [], ◌∷◌, length, slice_get, Option, Some, None, option_map, IfSome, Result, Ok, Err, refl, sym, ap, subst, ◌∙◌, arith}
use Rattle.std.proofs.lemmas.Bool.Decides.{nat_tests}
use Rattle.std.specs.Prelude.{IsOk}
use Rattle.std.specs.List.{list_any, list_all}
use Rattle.std.specs.Str.{bytes_eq}
use Rattle.ql_syntax.specs.declared.statement.ColumnDef.{ColumnDef}
use Rattle.ql_syntax.specs.declared.statement.Statement.{Statement}
use Rattle.ql_syntax.specs.declared.statement.Statement.TheVariants as s
use Rattle.ql_syntax.specs.Answers.{Answer, then_with}
use Rattle.ql_syntax.specs.ReadsBack.{IsReadBack}
use Rattle.ql_syntax.specs.StoredParts.{MadeReadBack, PartsReadBack}
use Rattle.ql_rel.specs.declared.db.Db.{Db}
use Rattle.ql_rel.specs.declared.plan.Plan.{Plan}
use Rattle.ql_rel.specs.declared.schema.Index.{Index}
use Rattle.ql_rel.specs.declared.schema.Schema.{Schema}
use Rattle.ql_rel.specs.declared.schema.TableSchema.{TableSchema}
use Rattle.ql_rel.specs.Accepted.{is_reserved}
use Rattle.ql_rel.specs.Changes.{column_added, column_dropped}
use Rattle.ql_rel.specs.CreatePlans.{no_parts, takes_all, without_conditions}
use Rattle.ql_rel.specs.Databases.{schema_of, columns_if, columns_at, name_if, name_at}
use Rattle.ql_rel.specs.InsertPlans.{takes_rows, without_checks}
use Rattle.ql_rel.specs.Limits.{is_past_added}
use Rattle.ql_rel.specs.Names.{has_name, column_names, is_column_taken}
use Rattle.ql_rel.specs.NewNames.{new_name, known_table, place_named, column_place}
use Rattle.ql_rel.specs.Refusals.{column_refusal}
use Rattle.ql_rel.specs.Refused.{unless}
use Rattle.ql_rel.specs.StatementEffects.{adds_column, drops_column, carried}
use Rattle.ql_rel.specs.StatementPlans.{statement_plan}
use Rattle.ql_rel.specs.TablePlans.{free_added, added_column, add_column_plan, column_there, several_columns, dropped_column, drop_column_plan}
use Rattle.ql_rel.specs.WellFormed.{IsMade, IsWellFormed}
use Rattle.ql_rel.proofs.AlteredColumns.{IsAdded, added_made, dropped_made}
use Rattle.ql_rel.proofs.CreateLemmas.{not_refused, is_allowed}
use Rattle.ql_rel.proofs.Fits.{then_ok}
use Rattle.ql_exec.specs.Carries.{Changes, Does}
use Rattle.ql_exec.specs.Depths.{IsDeepEnough}
use Rattle.ql_exec.specs.declared.fault.ExecFault.{ExecFault}
use Rattle.ql_exec.proofs.AlteredRead.{wider_read, narrower_read}
use Rattle.ql_exec.proofs.Carried.{changes_do}
use Rattle.ql_exec.proofs.LawfulRows.{takes_these}
use Rattle.ql_exec.proofs.Planned.{stands_at, known_is, checked_if}

-- the table of a statement that is there, which takes every value, and of whose database no index is unique
pub record Altering (schema : Schema) (name : List ℕ) (t : TableSchema) : Type 0 where
  pub there : place_named name schema.tables < length schema.tables
  pub found : slice_get schema.tables (place_named name schema.tables) ≡ Some t
  pub plains : list_all takes_all t.columns ≡ true
  pub loose : list_any (λ (i : Index). i.unique) schema.indexes ≡ false

altering : (schema : Schema) (name : List ℕ) (t : TableSchema) (u : Unit {0}) → known_table name schema ≡ Ok t → without_checks schema t.columns ≡ Ok u → Altering schema name t
altering schema name t u e h =
    let here = stands_at name schema.tables t (known_is name schema t e) in
    let test = takes_these schema t.columns (checked_if (takes_rows schema t.columns) (record { number = 10; name = [] }) u h) in
    record { there = here.0; found = here.1; plains = test.1; loose = test.0 }

-- what the plan of an ALTER TABLE ADD says
pub record Adds (schema : Schema) (name : List ℕ) (c : ColumnDef) : Type 0 where
  pub table : TableSchema
  pub at : Altering schema name table
  pub added : IsAdded c table schema.indexes

pub add_says : (schema : Schema) (name : List ℕ) (c : ColumnDef) (p : Plan) → add_column_plan schema name c ≡ Ok p → Adds schema name c
add_says schema name c p e =
    let t = then_ok (known_table name schema) (λ table. then_with (added_column table schema.indexes c) (λ _. then_with (without_checks schema table.columns) (λ _. Ok no_parts))) p e in
    let a = then_ok (added_column t.0 schema.indexes c) (λ _. then_with (without_checks schema t.0.columns) (λ _. Ok no_parts)) p t.2 in
    let w = then_ok (without_checks schema t.0.columns) (λ _. Ok no_parts) p a.2 in
    let f = then_ok (new_name c.name) (λ _. then_with (free_added t.0 schema.indexes c.name) (λ _. without_conditions c)) a.0 a.1 in
    let g = then_ok (free_added t.0 schema.indexes c.name) (λ _. without_conditions c) a.0 f.2 in
    let here = altering schema name t.0 w.0 t.1 w.1 in
    record {
      table = t.0;
      at = here;
      added = record {
        free = not_refused (is_reserved c.name) (record { number = 9; name = c.name }) f.0 f.1;
        new = not_refused (is_column_taken t.0.name c.name t.0.columns schema.indexes) (record { number = 4; name = c.name }) g.0 g.1;
        plain = is_allowed (takes_all c) (record { number = 10; name = [] }) a.0 g.2;
        plains = here.plains;
      };
    }

-- what the plan of an ALTER TABLE DROP COLUMN says
pub record Drops (schema : Schema) (name column : List ℕ) : Type 0 where
  pub table : TableSchema
  pub at : Altering schema name table
  pub within : column_place column table.columns < length table.columns
  pub several : 1 < length table.columns

place_if : (b : Bool) (place : ℕ) (c : ColumnDef) (cs : List ColumnDef) (x : Bool) → (b || x) ≡ true → (x ≡ true → place < length cs) → (if b then 0 else suc place) < length (c ∷ cs)
place_if true place c cs x e h = omega arith
place_if false place c cs x e h = let rest = h e in omega (arith, rest)

place_within : (name : List ℕ) (cs : List ColumnDef) → has_name name (column_names cs) ≡ true → column_place name cs < length cs
place_within name [] e = absurd (cc)
place_within name (c ∷ cs) e = place_if (bytes_eq c.name name) (column_place name cs) c cs (has_name name (column_names cs)) e (place_within name cs)

more_than_one : (n : ℕ) → nat_lt 1 n ≡ true → 1 < n
more_than_one n e = grind (arith, nat_tests)

pub drop_says : (schema : Schema) (name column : List ℕ) (p : Plan) → drop_column_plan schema name column ≡ Ok p → Drops schema name column
drop_says schema name column p e =
    let t = then_ok (known_table name schema) (λ table. then_with (dropped_column column table.columns) (λ _. then_with (without_checks schema table.columns) (λ _. Ok no_parts))) p e in
    let d = then_ok (dropped_column column t.0.columns) (λ _. then_with (without_checks schema t.0.columns) (λ _. Ok no_parts)) p t.2 in
    let w = then_ok (without_checks schema t.0.columns) (λ _. Ok no_parts) p d.2 in
    let f = then_ok (column_there column t.0.columns) (λ _. several_columns t.0.columns) d.0 d.1 in
    record {
      table = t.0;
      at = altering schema name t.0 w.0 t.1 w.1;
      within = place_within column t.0.columns (is_allowed (has_name column (column_names t.0.columns)) (record { number = 2; name = column }) f.0 f.1);
      several = more_than_one (length t.0.columns) (is_allowed (nat_lt 1 (length t.0.columns)) (record { number = 6; name = [] }) d.0 f.2);
    }

add_if : (schema : Schema) (name : List ℕ) (c : ColumnDef) (a : Answer Plan) → add_column_plan schema name c ≡ a → IsOk a → Adds schema name c
add_if schema name c (Ok p) e h = add_says schema name c p e
add_if schema name c (Err r) e h = absurd (cc)

pub add_planned : (schema : Schema) (name : List ℕ) (c : ColumnDef) → IsOk (add_column_plan schema name c) → Adds schema name c
add_planned schema name c h = add_if schema name c (add_column_plan schema name c) refl h

drop_if : (schema : Schema) (name column : List ℕ) (a : Answer Plan) → drop_column_plan schema name column ≡ a → IsOk a → Drops schema name column
drop_if schema name column (Ok p) e h = drop_says schema name column p e
drop_if schema name column (Err r) e h = absurd (cc)

pub drop_planned : (schema : Schema) (name column : List ℕ) → IsOk (drop_column_plan schema name column) → Drops schema name column
drop_planned schema name column h = drop_if schema name column (drop_column_plan schema name column) refl h

-- the same at the place that was found

pub there_at : (n : ℕ) (schema : Schema) (name : List ℕ) (t : TableSchema) → n ≡ place_named name schema.tables → Altering schema name t → n < length schema.tables
there_at n schema name t e a = subst (λ (k : ℕ). k < length schema.tables) (sym e) a.there

found_at : (n : ℕ) (schema : Schema) (name : List ℕ) (t : TableSchema) → n ≡ place_named name schema.tables → Altering schema name t → slice_get schema.tables n ≡ Some t
found_at n schema name t e a = subst (λ (k : ℕ). slice_get schema.tables k ≡ Some t) (sym e) a.found

columns_found : (n : ℕ) (schema : Schema) (name : List ℕ) (t : TableSchema) → n ≡ place_named name schema.tables → Altering schema name t → columns_at n schema ≡ t.columns
columns_found n schema name t e a = ap columns_if (found_at n schema name t e a)

pub free_at : (n : ℕ) (schema : Schema) (name : List ℕ) (c : ColumnDef) → n ≡ place_named name schema.tables → Adds schema name c → is_column_taken (name_at n schema) c.name (columns_at n schema) schema.indexes ≡ false
free_at n schema name c e a =
    subst (λ (o : Option TableSchema). is_column_taken (name_if o) c.name (columns_if o) schema.indexes ≡ false) (sym (found_at n schema name a.table e a.at)) a.added.new

pub within_at : (n : ℕ) (schema : Schema) (name column : List ℕ) → n ≡ place_named name schema.tables → Drops schema name column → column_place column (columns_at n schema) < length (columns_at n schema)
within_at n schema name column e d =
    subst (λ (cs : List ColumnDef). column_place column cs < length cs) (sym (columns_found n schema name d.table e d.at)) d.within

pub placed_within : (k n : ℕ) (schema : Schema) (name column : List ℕ) → k ≡ column_place column (columns_at n schema) → n ≡ place_named name schema.tables → Drops schema name column → k < length (columns_at n schema)
placed_within k n schema name column p e d = subst (λ (x : ℕ). x < length (columns_at n schema)) (sym p) (within_at n schema name column e d)

pub several_at : (n : ℕ) (schema : Schema) (name column : List ℕ) → n ≡ place_named name schema.tables → Drops schema name column → 1 < length (columns_at n schema)
several_at n schema name column e d = subst (λ (cs : List ColumnDef). 1 < length cs) (sym (columns_found n schema name d.table e d.at)) d.several

-- the CREATE statements make the schema after the change

pub add_made : PartsReadBack → MadeReadBack → (schema : Schema) (name : List ℕ) (c : ColumnDef) (n : ℕ) (o : Option Db) → n ≡ place_named name schema.tables → Adds schema name c → IsReadBack (s.AddColumn name c) → IfSome o IsWellFormed → IfSome o (λ d. schema ≡ schema_of d)
    → IfSome o (λ d. is_past_added c (columns_at n (schema_of d)) ≡ false → IsMade (schema_of (column_added n c d)))
add_made parts made schema name c n None e a r w k = tt
add_made parts made schema name c n (Some d) e a r w k =
    let here : Adds (schema_of d) name c = subst (λ (z : Schema). Adds z name c) k a in
    let at : n ≡ place_named name (schema_of d).tables = subst (λ (z : Schema). n ≡ place_named name z.tables) k e in
    let found = found_at n (schema_of d) name here.table at here.at in
    λ past. added_made n c here.table d found here.added (subst (λ (cs : List ColumnDef). is_past_added c cs ≡ false) (columns_found n (schema_of d) name here.table at here.at) past)
    (wider_read parts made name c here.table here.added.plain here.added.plains r) w.made

pub drop_made : PartsReadBack → MadeReadBack → (schema : Schema) (name column : List ℕ) (n k : ℕ) (o : Option Db) → n ≡ place_named name schema.tables → k ≡ column_place column (columns_at n schema) → Drops schema name column → IfSome o IsWellFormed → IfSome o (λ d. schema ≡ schema_of d)
    → IfSome o (λ d. IsMade (schema_of (column_dropped n k d)))
drop_made parts made schema name column n k None e p a w s = tt
drop_made parts made schema name column n k (Some d) e p a w s =
    let here : Drops (schema_of d) name column = subst (λ (z : Schema). Drops z name column) s a in
    let at : n ≡ place_named name (schema_of d).tables = subst (λ (z : Schema). n ≡ place_named name z.tables) s e in
    let place : k ≡ column_place column (columns_at n (schema_of d)) = subst (λ (z : Schema). k ≡ column_place column (columns_at n z)) s p in
    let there : k ≡ column_place column here.table.columns = place ∙ ap (column_place column) (columns_found n (schema_of d) name here.table at here.at) in
    let l : k < length here.table.columns = subst (λ (x : ℕ). x < length here.table.columns) (sym there) here.within in
    dropped_made n k here.table d (found_at n (schema_of d) name here.table at here.at) l here.several here.at.plains (narrower_read parts made k here.table l here.several here.at.plains) w.made

-- what was done at a place was done to the table with the name

pub adds_at : {T : Type 0} (name : List ℕ) (c : ColumnDef) (n : ℕ) (schema : Schema) (r : Result T ExecFault) (o now : Option Db) → n ≡ place_named name schema.tables → IfSome o (λ d. schema ≡ schema_of d)
    → IfSome o (λ d. Changes (unless (column_refusal n c d) (column_added n c d)) r now) → IfSome o (λ d. Changes (adds_column name c d) r now)
adds_at name c n schema r None now e k h = tt
adds_at name c n schema r (Some d) now e k h =
    let at : n ≡ place_named name (schema_of d).tables = subst (λ (z : Schema). n ≡ place_named name z.tables) k e in
    subst (λ (x : ℕ). Changes (unless (column_refusal x c d) (column_added x c d)) r now) at h

pub drop_done : (name column : List ℕ) (n k : ℕ) (schema : Schema) (o now : Option Db) → n ≡ place_named name schema.tables → k ≡ column_place column (columns_at n schema) → IfSome o (λ d. schema ≡ schema_of d) → now ≡ option_map (column_dropped n k) o
    → IfSome o (λ d. Changes {T = Unit {0}} (Ok (drops_column name column d)) (Ok tt) now)
drop_done name column n k schema None now e p s h = tt
drop_done name column n k schema (Some d) now e p s h =
    let at : n ≡ place_named name (schema_of d).tables = subst (λ (z : Schema). n ≡ place_named name z.tables) s e in
    let place : k ≡ column_place column (columns_at n (schema_of d)) = subst (λ (z : Schema). k ≡ column_place column (columns_at n z)) s p in
    let by : column_dropped n k d ≡ drops_column name column d =
    ap (λ (x : ℕ). column_dropped n x d) place ∙ ap (λ (x : ℕ). column_dropped x (column_place column (columns_at x (schema_of d))) d) at in
    record { after = column_dropped n k d; is = ap Ok (sym by); holds = h }

-- what the parts of the statements need

pub add_level : (statement : Statement) (name : List ℕ) (c : ColumnDef) (levels : ℕ) → statement ≡ s.AddColumn name c → IsDeepEnough statement levels → 0 < levels
add_level statement name c levels i h = subst (λ (z : Statement). IsDeepEnough z levels) i h

pub drop_level : (statement : Statement) (name column : List ℕ) (levels : ℕ) → statement ≡ s.DropColumn name column → IsDeepEnough statement levels → 0 < levels
drop_level statement name column levels i h = subst (λ (z : Statement). IsDeepEnough z levels) i h

ok_is : (a : Answer Plan) (p : Plan) → a ≡ Ok p → IsOk a
ok_is a p e = rw e refl

pub add_has : (schema : Schema) (statement : Statement) (name : List ℕ) (c x : ColumnDef) (p : Plan) → statement ≡ s.AddColumn name c → x ≡ c → statement_plan schema statement ≡ Ok p → IsOk (add_column_plan schema name x)
add_has schema statement name c x p i e h =
    subst (λ (y : ColumnDef). IsOk (add_column_plan schema name y)) (sym e) (ok_is (add_column_plan schema name c) p (subst (λ (z : Statement). statement_plan schema z ≡ Ok p) i h))

pub add_read : (statement : Statement) (name : List ℕ) (c x : ColumnDef) → statement ≡ s.AddColumn name c → x ≡ c → IsReadBack statement → IsReadBack (s.AddColumn name x)
add_read statement name c x i e r = subst (λ (y : ColumnDef). IsReadBack (s.AddColumn name y)) (sym e) (subst IsReadBack i r)

pub drop_has : (schema : Schema) (statement : Statement) (name column : List ℕ) (p : Plan) → statement ≡ s.DropColumn name column → statement_plan schema statement ≡ Ok p → IsOk (drop_column_plan schema name column)
drop_has schema statement name column p i h = ok_is (drop_column_plan schema name column) p (subst (λ (z : Statement). statement_plan schema z ≡ Ok p) i h)

-- what each does is what the statement does

pub add_does : {T : Type 0} (with_names : Bool) (statement : Statement) (name : List ℕ) (c x : ColumnDef) (p : Plan) (r : Result T ExecFault) (o now : Option Db) (out : List ℕ) → statement ≡ s.AddColumn name c → x ≡ c
    → IfSome o (λ d. Changes (adds_column name x d) r now) → IfSome o (λ d. Does (carried with_names statement p d) r out out now)
add_does with_names statement name c x p r o now out i e h =
    subst (λ (z : Statement). IfSome o (λ d. Does (carried with_names z p d) r out out now)) (sym (i ∙ ap (s.AddColumn name) (sym e))) (changes_do (adds_column name x) r o now out h)

pub drop_does : {T : Type 0} (with_names : Bool) (statement : Statement) (name column : List ℕ) (p : Plan) (r : Result T ExecFault) (o now : Option Db) (out : List ℕ) → statement ≡ s.DropColumn name column
    → IfSome o (λ d. Changes (Ok (drops_column name column d)) r now) → IfSome o (λ d. Does (carried with_names statement p d) r out out now)
drop_does with_names statement name column p r o now out i h =
    subst (λ (z : Statement). IfSome o (λ d. Does (carried with_names z p d) r out out now)) (sym i) (changes_do (λ d. Ok (drops_column name column d)) r o now out h)
