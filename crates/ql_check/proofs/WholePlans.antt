-- The fields of a SELECT with the other parts of its plan are the plan.
use Rattle.std.proofs.Common.{◌≡◌, ℕ, List, [], ◌∷◌, map, Ok, refl, sym, ap, ◌∙◌}
use Rattle.ql_syntax.specs.declared.typed.Typed.{Typed}
use Rattle.ql_syntax.specs.Answers.{Answer}
use Rattle.ql_rel.specs.declared.plan.Plan.{Plan}
use Rattle.ql_rel.specs.declared.select.ResultField.{ResultField}
use Rattle.ql_rel.specs.declared.select.Selected.{Selected}
use Rattle.ql_rel.specs.Plans.{whole_plan_of}
use Rattle.ql_check.specs.declared.plan.Columns.{Columns}
use Rattle.ql_check.specs.Outputs.{AreColumns, trees, bare}

same_trees : (fields : List ResultField) → trees (map (λ (f : ResultField). f.expr) fields) ≡ map (λ (f : ResultField). f.expr.tree) fields
same_trees [] = refl
same_trees (x ∷ fields) = ap (λ (z : List Typed). x.expr.tree ∷ z) (same_trees fields)

abbrev bare_of : Selected → Plan
bare_of x = bare x.filter x.groups x.output.grouped x.output.keys x.limits

abbrev answered : Plan → List Typed → List (List ℕ) → Answer Plan
answered rest fields names = Ok (record rest { fields = fields; names = names })

pub whole_is : (x : Selected) (columns : Columns) (fields : List Typed) (rest : Plan) → rest ≡ bare_of x → AreColumns columns x.output.fields → fields ≡ trees columns.parts
    → ◌≡◌ {A = Answer Plan} (Ok (whole_plan_of x)) (Ok (record rest { fields = fields; names = columns.names }))
whole_is x columns fields rest r c f =
    sym (
    ap (λ (p : Plan). answered p fields columns.names) r
    ∙ ap (λ (z : List Typed). answered (bare_of x) z columns.names) (f ∙ ap trees c.0 ∙ same_trees x.output.fields)
    ∙ ap (λ (z : List (List ℕ)). answered (bare_of x) (map (λ (y : ResultField). y.expr.tree) x.output.fields) z) c.1)
