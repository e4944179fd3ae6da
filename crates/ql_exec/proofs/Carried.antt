-- What a statement does, by the change that it made or by the text that it added.
use Rattle.std.proofs.Common.{◌≡◌, ℕ, Bool, true, false, ◌<◌, List, [], ◌∷◌, Option, Some, None, IfSome, Result, Ok, Err, refl, sym, ap, subst, ◌∙◌, append-nil}
use Rattle.std.specs.Prelude.{IsOk}
use Rattle.ql_syntax.specs.declared.statement.Assign.{Assign}
use Rattle.ql_syntax.specs.declared.statement.ColumnDef.{ColumnDef}
use Rattle.ql_syntax.specs.declared.statement.RowSource.{RowSource}
use Rattle.ql_syntax.specs.declared.statement.RowSource.TheVariants as source
use Rattle.ql_syntax.specs.declared.statement.Statement.{Statement}
use Rattle.ql_syntax.specs.declared.statement.Statement.TheVariants as s
use Rattle.ql_syntax.specs.declared.syntax.Expr.{Expr}
use Rattle.ql_syntax.specs.declared.syntax.Select.{Select}
use Rattle.ql_rel.specs.declared.db.Db.{Db}
use Rattle.ql_rel.specs.declared.plan.Plan.{Plan}
use Rattle.ql_rel.specs.declared.schema.Schema.{Schema}
use Rattle.ql_syntax.specs.Answers.{Answer, refused, then_with}
use Rattle.ql_rel.specs.InsertEffects.{inserts, inserts_shown}
use Rattle.ql_rel.specs.Plans.{select_plan}
use Rattle.ql_rel.specs.SelectRows.{select_text}
use Rattle.ql_rel.specs.StatementEffects.{creates, silent, carried}
use Rattle.ql_rel.specs.StatementPlans.{statement_plan}
use Rattle.ql_rel.specs.TablePlans.{create_plan}
use Rattle.ql_syntax.specs.ReadsBack.{IsReadBack}
use Rattle.ql_exec.specs.Carries.{Changes, Does}
use Rattle.ql_exec.specs.Depths.{IsDeepEnough}
use Rattle.ql_exec.specs.Scans.{AddsText}
use Rattle.ql_exec.specs.declared.fault.ExecFault.{ExecFault}
use Rattle.ql_exec.specs.declared.fault.ExecFault.TheVariants as fault
use Rattle.ql_exec.proofs.Planned.{Inserts, insert_says, Selects, select_says}

change_does : {T : Type 0} (effect : Answer Db) (r : Result T ExecFault) (now : Option Db) (out : List ℕ) → Changes effect r now → Does (then_with effect silent) r out out now
change_does effect (Ok x) now out c = record { text = []; after = c.after; is = ap (λ (a : Answer Db). then_with a silent) c.is; out = sym (append-nil out); holds = c.holds }
change_does effect (Err (fault.Refused q)) now out c = ap (λ (a : Answer Db). then_with a silent) c
change_does effect (Err (fault.Trouble t)) now out c = tt

-- a change shows nothing
pub changes_do : {T : Type 0} (effect : Db → Answer Db) (r : Result T ExecFault) (o now : Option Db) (out : List ℕ) → IfSome o (λ d. Changes (effect d) r now) → IfSome o (λ d. Does (then_with (effect d) silent) r out out now)
changes_do effect r None now out c = tt
changes_do effect r (Some d) now out c = change_does (effect d) r now out c

text_does : {T : Type 0} (text : Answer (List ℕ)) (d : Db) (r : Result T ExecFault) (before new : List ℕ) → AddsText text r before new → Does (then_with text (λ t. Ok (t, d))) r before new (Some d)
text_does text d (Ok x) before new c = record { text = c.text; after = d; is = ap (λ (a : Answer (List ℕ)). then_with a (λ t. Ok (t, d))) c.is; out = c.grown; holds = refl }
text_does text d (Err (fault.Refused q)) before new c = ap (λ (a : Answer (List ℕ)). then_with a (λ t. Ok (t, d))) c
text_does text d (Err (fault.Trouble t)) before new c = tt

-- a text leaves the database
pub texts_do : {T : Type 0} (text : Db → Answer (List ℕ)) (r : Result T ExecFault) (o now : Option Db) (before new : List ℕ) → now ≡ o → IfSome o (λ d. AddsText (text d) r before new)
    → IfSome o (λ d. Does (then_with (text d) (λ t. Ok (t, d))) r before new now)
texts_do text r None now before new e c = tt
texts_do text r (Some d) now before new e c = subst (λ (z : Option Db). Does (then_with (text d) (λ t. Ok (t, d))) r before new z) (sym e) (text_does (text d) d r before new c)

ok_is : (a : Answer Plan) (p : Plan) → a ≡ Ok p → IsOk a
ok_is a p e = rw e refl

-- what the parts of a statement with a plan need: a SELECT its plan
pub query_planned : (schema : Schema) (statement : Statement) (q select : Select) (p : Plan) → statement ≡ s.Query q → select ≡ q → statement_plan schema statement ≡ Ok p → select_plan schema select ≡ Ok p
query_planned schema statement q select p i e h =
    let here : statement_plan schema (s.Query q) ≡ Ok p = subst (λ (z : Statement). statement_plan schema z ≡ Ok p) i h in
    subst (λ (z : Select). select_plan schema z ≡ Ok p) (sym e) here

-- a CREATE TABLE a level, its plan, and that it is read back
pub create_level : (statement : Statement) (quiet : Bool) (name : List ℕ) (columns : List ColumnDef) (levels : ℕ) → statement ≡ s.CreateTable quiet name columns → IsDeepEnough statement levels → 0 < levels
create_level statement quiet name columns levels i h = subst (λ (z : Statement). IsDeepEnough z levels) i h

pub create_planned : (schema : Schema) (statement : Statement) (quiet : Bool) (name : List ℕ) (columns : List ColumnDef) (p : Plan) → statement ≡ s.CreateTable quiet name columns → statement_plan schema statement ≡ Ok p → IsOk (create_plan schema quiet name columns)
create_planned schema statement quiet name columns p i h = ok_is (create_plan schema quiet name columns) p (subst (λ (z : Statement). statement_plan schema z ≡ Ok p) i h)

pub create_read : (statement : Statement) (quiet : Bool) (name : List ℕ) (columns : List ColumnDef) → statement ≡ s.CreateTable quiet name columns → IsReadBack statement → IsReadBack (s.CreateTable quiet name columns)
create_read statement quiet name columns i r = subst IsReadBack i r

-- an INSERT a level, and what its plan says
pub insert_level : (statement : Statement) (name : List ℕ) (names : List (List ℕ)) (rows_of : RowSource) (levels : ℕ) → statement ≡ s.Insert name names rows_of → IsDeepEnough statement levels → 0 < levels
insert_level statement name names rows_of levels i h = subst (λ (z : Statement). IsDeepEnough z levels) i h

-- an INSERT of rows, by the source that is boxed in it
pub insert_planned : (schema : Schema) (statement : Statement) (name : List ℕ) (names : List (List ℕ)) (rows_of boxed : RowSource) (exprs : List (List Expr)) (p : Plan) → statement ≡ s.Insert name names rows_of → boxed ≡ rows_of → boxed ≡ source.Rows exprs
    → statement_plan schema statement ≡ Ok p → Inserts schema name p
insert_planned schema statement name names rows_of boxed exprs p i b w h =
    let is : statement ≡ s.Insert name names (source.Rows exprs) = i ∙ ap (λ (r : RowSource). s.Insert name names r) (sym b ∙ w) in
    insert_says schema name names exprs p (subst (λ (z : Statement). statement_plan schema z ≡ Ok p) is h)

pub selecting_planned : (schema : Schema) (statement : Statement) (name : List ℕ) (names : List (List ℕ)) (rows_of boxed : RowSource) (q select : Select) (p : Plan) → statement ≡ s.Insert name names rows_of → boxed ≡ rows_of → boxed ≡ source.Query q → select ≡ q
    → statement_plan schema statement ≡ Ok p → Selects schema name select p
selecting_planned schema statement name names rows_of boxed q select p i b w e h =
    let is : statement ≡ s.Insert name names (source.Query select) = i ∙ ap (λ (r : RowSource). s.Insert name names r) (sym b ∙ w ∙ ap source.Query (sym e)) in
    select_says schema name names select p (subst (λ (z : Statement). statement_plan schema z ≡ Ok p) is h)

-- what each part does is what the statement does
pub query_does : {T : Type 0} (with_names : Bool) (statement : Statement) (q select : Select) (p : Plan) (r : Result T ExecFault) (o now : Option Db) (before new : List ℕ) → statement ≡ s.Query q → select ≡ q → now ≡ o
    → IfSome o (λ d. AddsText (select_text with_names d select p) r before new) → IfSome o (λ d. Does (carried with_names statement p d) r before new now)
query_does with_names statement q select p r o now before new i e n h =
    subst (λ (z : Statement). IfSome o (λ d. Does (carried with_names z p d) r before new now)) (sym (i ∙ ap s.Query (sym e)))
    (texts_do (λ d. select_text with_names d select p) r o now before new n h)

pub create_does : {T : Type 0} (with_names : Bool) (statement : Statement) (quiet : Bool) (name : List ℕ) (columns : List ColumnDef) (p : Plan) (r : Result T ExecFault) (o now : Option Db) (out : List ℕ) → statement ≡ s.CreateTable quiet name columns
    → IfSome o (λ d. Changes (creates quiet (record { name = name; columns = columns }) d) r now) → IfSome o (λ d. Does (carried with_names statement p d) r out out now)
create_does with_names statement quiet name columns p r o now out i h =
    subst (λ (z : Statement). IfSome o (λ d. Does (carried with_names z p d) r out out now)) (sym i)
    (changes_do (λ d. creates quiet (record { name = name; columns = columns }) d) r o now out h)

pub insert_does : {T : Type 0} (with_names : Bool) (statement : Statement) (name : List ℕ) (names : List (List ℕ)) (rows_of boxed : RowSource) (exprs : List (List Expr)) (p : Plan) (r : Result T ExecFault) (o now : Option Db) (out : List ℕ) → statement ≡ s.Insert name names rows_of
    → boxed ≡ rows_of → boxed ≡ source.Rows exprs → IfSome o (λ d. Changes (inserts name p.targets p.rows d) r now) → IfSome o (λ d. Does (carried with_names statement p d) r out out now)
insert_does with_names statement name names rows_of boxed exprs p r o now out i b w h =
    let is : statement ≡ s.Insert name names (source.Rows exprs) = i ∙ ap (λ (r : RowSource). s.Insert name names r) (sym b ∙ w) in
    subst (λ (z : Statement). IfSome o (λ d. Does (carried with_names z p d) r out out now)) (sym is) (changes_do (inserts name p.targets p.rows) r o now out h)

-- the same of a SELECT
pub selecting_does : {T : Type 0} (with_names : Bool) (statement : Statement) (name : List ℕ) (names : List (List ℕ)) (rows_of boxed : RowSource) (q select : Select) (p : Plan) (r : Result T ExecFault) (o now : Option Db) (out : List ℕ) → statement ≡ s.Insert name names rows_of
    → boxed ≡ rows_of → boxed ≡ source.Query q → select ≡ q → IfSome o (λ d. Changes (inserts_shown name select p d) r now) → IfSome o (λ d. Does (carried with_names statement p d) r out out now)
selecting_does with_names statement name names rows_of boxed q select p r o now out i b w e h =
    let is : statement ≡ s.Insert name names (source.Query select) = i ∙ ap (λ (r : RowSource). s.Insert name names r) (sym b ∙ w ∙ ap source.Query (sym e)) in
    subst (λ (z : Statement). IfSome o (λ d. Does (carried with_names z p d) r out out now)) (sym is) (changes_do (inserts_shown name select p) r o now out h)

-- every other statement with a plan is not built yet
abbrev IsOther : Statement → Type 0
IsOther (s.Query q) = ⊥
IsOther (s.CreateTable quiet name columns) = ⊥
IsOther (s.DropTable quiet name) = ⊥
IsOther (s.AddColumn name column) = ⊥
IsOther (s.DropColumn name column) = ⊥
IsOther (s.Insert name names rows_of) = ⊥
IsOther (s.Update name sets filter) = ⊥
IsOther (s.Delete name filter) = ⊥
IsOther (s.Truncate name) = ⊥
IsOther _ = Unit {0}

later : (with_names : Bool) (statement : Statement) (p : Plan) (d : Db) → IsOther statement → carried with_names statement p d ≡ refused 10
later with_names (s.Query q) p d h = absurd h
later with_names (s.CreateTable quiet name columns) p d h = absurd h
later with_names (s.DropTable quiet name) p d h = absurd h
later with_names (s.AddColumn name column) p d h = absurd h
later with_names (s.DropColumn name column) p d h = absurd h
later with_names (s.Insert name names rows_of) p d h = absurd h
later with_names (s.Update name sets filter) p d h = absurd h
later with_names (s.Delete name filter) p d h = absurd h
later with_names (s.Truncate name) p d h = absurd h
later with_names _ p d h = refl

pub is_other : (statement : Statement) → ((q : Select) → statement ≡ s.Query q → ⊥) → ((quiet : Bool) (name : List ℕ) (columns : List ColumnDef) → statement ≡ s.CreateTable quiet name columns → ⊥)
    → ((quiet : Bool) (name : List ℕ) → statement ≡ s.DropTable quiet name → ⊥)
    → ((name : List ℕ) (column : ColumnDef) → statement ≡ s.AddColumn name column → ⊥) → ((name column : List ℕ) → statement ≡ s.DropColumn name column → ⊥) → ((name : List ℕ) (names : List (List ℕ)) (rows_of : RowSource) → statement ≡ s.Insert name names rows_of → ⊥)
    → ((name : List ℕ) (sets : List Assign) (filter : Option Expr) → statement ≡ s.Update name sets filter → ⊥) → ((name : List ℕ) (filter : Option Expr) → statement ≡ s.Delete name filter → ⊥) → ((name : List ℕ) → statement ≡ s.Truncate name → ⊥) → IsOther statement
is_other (s.Query q) no_query no_create no_drop no_add no_less no_insert no_update no_delete no_truncate = absurd (no_query q refl)
is_other (s.CreateTable quiet name columns) no_query no_create no_drop no_add no_less no_insert no_update no_delete no_truncate = absurd (no_create quiet name columns refl)
is_other (s.DropTable quiet name) no_query no_create no_drop no_add no_less no_insert no_update no_delete no_truncate = absurd (no_drop quiet name refl)
is_other (s.AddColumn name column) no_query no_create no_drop no_add no_less no_insert no_update no_delete no_truncate = absurd (no_add name column refl)
is_other (s.DropColumn name column) no_query no_create no_drop no_add no_less no_insert no_update no_delete no_truncate = absurd (no_less name column refl)
is_other (s.Insert name names rows_of) no_query no_create no_drop no_add no_less no_insert no_update no_delete no_truncate = absurd (no_insert name names rows_of refl)
is_other (s.Update name sets filter) no_query no_create no_drop no_add no_less no_insert no_update no_delete no_truncate = absurd (no_update name sets filter refl)
is_other (s.Delete name filter) no_query no_create no_drop no_add no_less no_insert no_update no_delete no_truncate = absurd (no_delete name filter refl)
is_other (s.Truncate name) no_query no_create no_drop no_add no_less no_insert no_update no_delete no_truncate = absurd (no_truncate name refl)
is_other _ no_query no_create no_drop no_add no_less no_insert no_update no_delete no_truncate = tt

pub others_do : (T : Type 0) (with_names : Bool) (statement : Statement) (p : Plan) (f : ExecFault) (o now : Option Db) (before new : List ℕ) → f ≡ fault.Refused (record { number = 10; name = [] }) → IsOther statement
    → IfSome o (λ d. Does {T = T} (carried with_names statement p d) (Err f) before new now)
others_do T with_names statement p f None now before new i h = tt
others_do T with_names statement p f (Some d) now before new i h =
    subst (λ (z : ExecFault). Does {T = T} (carried with_names statement p d) (Err z) before new now) (sym i) (later with_names statement p d h)
