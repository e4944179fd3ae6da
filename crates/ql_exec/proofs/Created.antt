-- A table that is made on a relation.
use Rattle.std.proofs.Common.{◌≡◌, ℕ, Bool, true, false, if◌then◌else◌, List, Option, Some, None, option_map, IfSome, Result, Ok, Err, refl, sym, ap, subst}
use Rattle.std.specs.Prelude.{IsOk}
use Rattle.ql_syntax.specs.declared.statement.ColumnDef.{ColumnDef}
use Rattle.ql_syntax.specs.declared.statement.Statement.TheVariants as s
use Rattle.ql_rel.specs.declared.db.Db.{Db}
use Rattle.ql_rel.specs.declared.fault.RelFault.{RelFault}
use Rattle.ql_rel.specs.declared.plan.Plan.{Plan}
use Rattle.ql_rel.specs.declared.schema.Schema.{Schema}
use Rattle.ql_rel.specs.declared.schema.TableSchema.{TableSchema}
use Rattle.ql_syntax.specs.Answers.{Answer}
use Rattle.ql_rel.specs.Changes.{table_created}
use Rattle.ql_rel.specs.CreatePlans.{create_table_plan}
use Rattle.ql_rel.specs.Creates.{create_table}
use Rattle.ql_rel.specs.Databases.{schema_of}
use Rattle.ql_rel.specs.Limits.{is_past_table}
use Rattle.ql_rel.specs.Refusals.{table_refusal, IsRefusedBy}
use Rattle.ql_rel.specs.Refused.{unless}
use Rattle.ql_rel.specs.StatementEffects.{table_added, creates}
use Rattle.ql_rel.specs.TablePlans.{is_idle, create_plan}
use Rattle.ql_rel.specs.WellFormed.{IsMade, IsReadAsItself, IsWellFormed}
use Rattle.ql_syntax.specs.ReadsBack.{IsReadBack}
use Rattle.ql_syntax.specs.StoredParts.{MadeReadBack, PartsReadBack}
use Rattle.ql_rel.proofs.CreateLemmas.{HasPlan, has_plan, created_made}
use Rattle.ql_exec.specs.Answers.{fault_of_rel}
use Rattle.ql_exec.specs.Carries.{Changed, Changes}
use Rattle.ql_exec.specs.declared.fault.ExecFault.{ExecFault}
use Rattle.ql_exec.proofs.Added.{refused_change}
use Rattle.ql_exec.proofs.ReadBack.{reads_planned}

plan_has : (t : TableSchema) (schema : Schema) (a : Answer Plan) → create_table_plan schema t.name t.columns ≡ a → IsOk a → HasPlan t schema
plan_has t schema (Ok p) e h = has_plan t schema p e
plan_has t schema (Err r) e h = absurd (cc)

-- what the plan of a table says of it
pub planned : (t u : TableSchema) (schema : Schema) → t ≡ u → IsOk (create_table_plan schema u.name u.columns) → HasPlan t schema
planned t u schema e h = subst (λ (z : TableSchema). HasPlan z schema) (sym e) (plan_has u schema (create_table_plan schema u.name u.columns) refl h)

-- a CREATE TABLE that has something to do is planned as a new table
loud_plan : (b : Bool) (x y : Answer Plan) → b ≡ false → IsOk (if b then x else y) → IsOk y
loud_plan true x y e h = absurd (cc)
loud_plan false x y e h = h

pub planned_loud : (schema : Schema) (quiet : Bool) (name : List ℕ) (columns : List ColumnDef) → is_idle schema (s.CreateTable quiet name columns) ≡ false → IsOk (create_plan schema quiet name columns) → IsOk (create_table_plan schema name columns)
planned_loud schema quiet name columns e h = loud_plan (is_idle schema (s.CreateTable quiet name columns)) _ (create_table_plan schema name columns) e h

-- its CREATE statements make the schema after it
pub made_after : PartsReadBack → MadeReadBack → (quiet : Bool) (t u : TableSchema) (schema : Schema) (o : Option Db) → t ≡ u → IfSome o IsWellFormed → IfSome o (λ d. schema ≡ schema_of d) → IsOk (create_table_plan schema u.name u.columns) → IsReadBack (s.CreateTable quiet u.name u.columns)
    → IfSome o (λ d. is_past_table t (schema_of d) ≡ false → IsMade (schema_of (table_created t d)))
made_after parts made quiet t u schema None e w k p r = tt
made_after parts made quiet t u schema (Some d) e w k p r =
    λ past. created_made t d w.made (subst (λ (z : TableSchema). IsReadAsItself (create_table z)) (sym e) (reads_planned parts made schema quiet u.name u.columns p r)) (subst (HasPlan t) k (planned t u schema e p)) past

-- a table that is there
pub idle_done : (quiet : Bool) (u : TableSchema) (schema : Schema) (o : Option Db) → is_idle schema (s.CreateTable quiet u.name u.columns) ≡ true → IfSome o (λ d. schema ≡ schema_of d) → IfSome o (λ d. Changes {T = Unit {0}} (creates quiet u d) (Ok tt) o)
idle_done quiet u schema None h k = tt
idle_done quiet u schema (Some d) h k =
    let here : is_idle (schema_of d) (s.CreateTable quiet u.name u.columns) ≡ true = subst (λ (z : Schema). is_idle z (s.CreateTable quiet u.name u.columns) ≡ true) k h in
    record { after = d; is = rw here refl; holds = refl }

-- what a CREATE TABLE does that has something to do
pub loud_done : {T : Type 0} (quiet : Bool) (u : TableSchema) (schema : Schema) (r : Result T ExecFault) (o now : Option Db) → is_idle schema (s.CreateTable quiet u.name u.columns) ≡ false → IfSome o (λ d. schema ≡ schema_of d)
    → IfSome o (λ d. Changes (table_added u d) r now) → IfSome o (λ d. Changes (creates quiet u d) r now)
loud_done quiet u schema r None now h k c = tt
loud_done quiet u schema r (Some d) now h k c =
    let here : is_idle (schema_of d) (s.CreateTable quiet u.name u.columns) ≡ false = subst (λ (z : Schema). is_idle z (s.CreateTable quiet u.name u.columns) ≡ false) k h in
    rw here c

-- a table that was made, and one that was refused
pub table_done : {T : Type 0} (t u : TableSchema) (schema : Schema) (x : T) (o now : Option Db) → t ≡ u → IfSome o (λ d. schema ≡ schema_of d) → now ≡ option_map (table_created t) o
    → IsRefusedBy (table_refusal t schema) (Ok x) → IfSome o (λ d. Changed (table_added u d) now)
table_done t u schema x None now e k h r = tt
table_done t u schema x (Some d) now e k h r =
    let none : ◌≡◌ {A = Option RelFault} (table_refusal t (schema_of d)) None = subst (λ (z : Schema). table_refusal t z ≡ None) k r in
    subst (λ (z : TableSchema). Changed (table_added z d) now) e (record { after = table_created t d; is = ap (λ r. unless r (table_created t d)) none; holds = h })

pub table_refused : (T U : Type 0) (t u : TableSchema) (schema : Schema) (f : RelFault) (o now : Option Db) → t ≡ u → IfSome o (λ d. schema ≡ schema_of d)
    → IsRefusedBy {T = T} (table_refusal t schema) (Err f) → IfSome o (λ d. Changes {T = U} (table_added u d) (Err (fault_of_rel f)) now)
table_refused T U t u schema f None now e k h = tt
table_refused T U t u schema f (Some d) now e k h =
    let here = subst (λ (z : Schema). IsRefusedBy {T = T} (table_refusal t z) (Err f)) k h in
    subst (λ (z : TableSchema). Changes {T = U} (table_added z d) (Err (fault_of_rel f)) now) e (refused_change T U f (table_refusal t (schema_of d)) (table_created t d) now here)
