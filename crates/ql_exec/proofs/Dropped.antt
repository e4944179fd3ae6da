-- A table that is dropped or loses its rows.
use Rattle.std.proofs.Common.{◌≡◌, ℕ, suc, Bool, true, false, not, ◌||◌, ◌==◌, if◌then◌else◌, List, [], ◌∷◌, length, Option, Some, None, option_map, IfSome, Ok, Err, refl, sym, ap, subst, ◌∙◌, arith}
use Rattle.std.proofs.lemmas.Bool.Decides.{nat_tests}
use Rattle.std.specs.Str.{bytes_eq}
use Rattle.ql_syntax.specs.declared.statement.Statement.TheVariants as s
use Rattle.ql_rel.specs.declared.db.Db.{Db}
use Rattle.ql_rel.specs.declared.fault.RelFault.{RelFault}
use Rattle.ql_rel.specs.declared.schema.Schema.{Schema}
use Rattle.ql_rel.specs.declared.schema.TableSchema.{TableSchema}
use Rattle.ql_rel.specs.Changes.{truncated, table_dropped}
use Rattle.ql_rel.specs.Databases.{schema_of}
use Rattle.ql_rel.specs.Names.{has_name, table_names}
use Rattle.ql_rel.specs.NewNames.{place_named}
use Rattle.ql_rel.specs.Refusals.{IsRefusedBy}
use Rattle.ql_rel.specs.StatementEffects.{drops, empties}
use Rattle.ql_rel.specs.TablePlans.{is_idle}
use Rattle.ql_exec.specs.Answers.{fault_of_rel}
use Rattle.ql_exec.specs.Carries.{Changes}
use Rattle.ql_exec.proofs.Added.{refused_change}

same_suc : (n m : ℕ) → (suc n == suc m) ≡ (n == m)
same_suc n m = grind (arith, nat_tests)

not_zero : (m : ℕ) → (0 == suc m) ≡ false
not_zero m = grind (arith, nat_tests)

-- a name that no table has stands behind the last one
pub place_last : (name : List ℕ) (tables : List TableSchema) → (place_named name tables == length tables) ≡ not (has_name name (table_names tables))
place_last name [] = refl
place_last name (t ∷ tables) =
    let rest = place_last name tables in
    elim (bytes_eq t.name name) as (λ b. ((if b then 0 else suc (place_named name tables)) == suc (length tables)) ≡ not (b || has_name name (table_names tables))) [
      | true ↦ not_zero (length tables)
      | false ↦ same_suc (place_named name tables) (length tables) ∙ rest
    ]

-- the test of the code is that of the statement
pub last_is : (name : List ℕ) (place : ℕ) (tables : List TableSchema) (schema : Schema) → place ≡ place_named name tables → tables ≡ schema.tables → (place == length tables) ≡ not (has_name name (table_names schema.tables))
last_is name place tables schema p e = rw (p, e) (place_last name schema.tables)

not_not : (b : Bool) → not (not b) ≡ b
not_not true = refl
not_not false = refl

pub there_is : (name : List ℕ) (place : ℕ) (tables : List TableSchema) (schema : Schema) → place ≡ place_named name tables → tables ≡ schema.tables → not (place == length tables) ≡ has_name name (table_names schema.tables)
there_is name place tables schema p e = ap not (last_is name place tables schema p e) ∙ not_not (has_name name (table_names schema.tables))

-- nothing to drop
pub idle_done : (quiet : Bool) (name : List ℕ) (schema : Schema) (o : Option Db) → is_idle schema (s.DropTable quiet name) ≡ true → IfSome o (λ d. schema ≡ schema_of d) → IfSome o (λ d. Changes {T = Unit {0}} (Ok (drops quiet name d)) (Ok tt) o)
idle_done quiet name schema None h k = tt
idle_done quiet name schema (Some d) h k =
    let here : is_idle (schema_of d) (s.DropTable quiet name) ≡ true = subst (λ (z : Schema). is_idle z (s.DropTable quiet name) ≡ true) k h in
    record { after = d; is = rw here refl; holds = refl }

dropped_is : (quiet : Bool) (name : List ℕ) (place : ℕ) (schema : Schema) (d : Db) → place ≡ place_named name schema.tables → is_idle schema (s.DropTable quiet name) ≡ false → schema ≡ schema_of d → drops quiet name d ≡ table_dropped place d
dropped_is quiet name place schema d p h k =
    let here : is_idle (schema_of d) (s.DropTable quiet name) ≡ false = subst (λ (z : Schema). is_idle z (s.DropTable quiet name) ≡ false) k h in
    let there : place ≡ place_named name (schema_of d).tables = subst (λ (z : Schema). place ≡ place_named name z.tables) k p in
    rw here (ap (λ (n : ℕ). table_dropped n d) (sym there))

-- a table that goes
pub drop_done : (quiet : Bool) (name : List ℕ) (place : ℕ) (schema : Schema) (o now : Option Db) → place ≡ place_named name schema.tables → is_idle schema (s.DropTable quiet name) ≡ false → IfSome o (λ d. schema ≡ schema_of d)
    → now ≡ option_map (table_dropped place) o → IfSome o (λ d. Changes {T = Unit {0}} (Ok (drops quiet name d)) (Ok tt) now)
drop_done quiet name place schema None now p h k e = tt
drop_done quiet name place schema (Some d) now p h k e = record { after = table_dropped place d; is = ap Ok (dropped_is quiet name place schema d p h k); holds = e }

-- a change without refusals of its own, where what lies under the tables refuses
pub only_trouble : (T U : Type 0) (effect : Db → Db) (f : RelFault) (o now : Option Db) → IsRefusedBy {T = T} None (Err f) → IfSome o (λ d. Changes {T = U} (Ok (effect d)) (Err (fault_of_rel f)) now)
only_trouble T U effect f None now h = tt
only_trouble T U effect f (Some d) now h = refused_change T U f None (effect d) now h

-- a table that loses its rows
pub empty_done : (name : List ℕ) (place : ℕ) (schema : Schema) (o now : Option Db) → place ≡ place_named name schema.tables → IfSome o (λ d. schema ≡ schema_of d) → now ≡ option_map (truncated place) o
    → IfSome o (λ d. Changes {T = Unit {0}} (Ok (empties name d)) (Ok tt) now)
empty_done name place schema None now p s e = tt
empty_done name place schema (Some d) now p s e =
    let there : place ≡ place_named name (schema_of d).tables = subst (λ (z : Schema). place ≡ place_named name z.tables) s p in
    record { after = truncated place d; is = ap (λ (n : ℕ). Ok (truncated n d)) (sym there); holds = e }
