-- What a statement does, from its plan and from what was done by the plan.
use Rattle.std.proofs.Common.{◌≡◌, ℕ, Bool, List, Option, Some, None, IfSome, Result, Ok, Err, sym, ap, subst}
use Rattle.ql_syntax.specs.declared.statement.Statement.{Statement}
use Rattle.ql_syntax.specs.ReadsBack.{IsReadBack}
use Rattle.ql_rel.specs.declared.db.Db.{Db}
use Rattle.ql_rel.specs.declared.plan.Plan.{Plan}
use Rattle.ql_rel.specs.declared.schema.Schema.{Schema}
use Rattle.ql_syntax.specs.Answers.{Answer, then_with}
use Rattle.ql_rel.specs.Databases.{schema_of}
use Rattle.ql_rel.specs.Lawful.{IsLawful}
use Rattle.ql_rel.specs.StatementEffects.{carried, statement_effect}
use Rattle.ql_rel.specs.StatementPlans.{statement_plan}
use Rattle.ql_exec.specs.Carries.{Does, StaysLawful}
use Rattle.ql_exec.specs.EffectLaws.{EffectLaws}
use Rattle.ql_exec.specs.declared.fault.ExecFault.{ExecFault}

-- the effect of a statement whose plan is known
effect_is : (with_names : Bool) (statement : Statement) (schema : Schema) (d : Db) (a : Answer Plan) → schema ≡ schema_of d → statement_plan schema statement ≡ a
    → statement_effect with_names statement d ≡ then_with a (λ p. carried with_names statement p d)
effect_is with_names statement schema d a s e = ap (λ (z : Answer Plan). then_with z (λ p. carried with_names statement p d)) (subst (λ (z : Schema). statement_plan z statement ≡ a) s e)

pub planned_does : {T : Type 0} (with_names : Bool) (statement : Statement) (schema : Schema) (p : Plan) (r : Result T ExecFault) (o now : Option Db) (before new : List ℕ) → IfSome o (λ d. schema ≡ schema_of d)
    → statement_plan schema statement ≡ Ok p → IfSome o (λ d. Does (carried with_names statement p d) r before new now) → IfSome o (λ d. Does (statement_effect with_names statement d) r before new now)
planned_does with_names statement schema p r None now before new s e h = tt
planned_does with_names statement schema p r (Some d) now before new s e h =
    subst (λ (z : Answer (List ℕ × Db)). Does z r before new now) (sym (effect_is with_names statement schema d (Ok p) s e)) h

lawful_if : (o : Option Db) (d : Db) → o ≡ Some d → IsLawful d → IfSome o IsLawful
lawful_if o d e h = subst (λ (z : Option Db). IfSome z IsLawful) (sym e) h

-- what was done to a lawful database is lawful again
pub stays_lawful : {T : Type 0} → EffectLaws → (with_names : Bool) (statement : Statement) (r : Result T ExecFault) (o now : Option Db) (before new : List ℕ) → IsReadBack statement
    → IfSome o (λ d. Does (statement_effect with_names statement d) r before new now) → StaysLawful o r now
stays_lawful laws with_names statement r None now before new b h = tt
stays_lawful laws with_names statement (Ok x) (Some d) now before new b h =
    λ l. lawful_if now h.after h.holds (laws.lawful with_names statement d h.after h.text l b h.is)
stays_lawful laws with_names statement (Err f) (Some d) now before new b h = λ l. tt
