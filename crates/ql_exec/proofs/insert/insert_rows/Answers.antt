-- The rows fit, and do what the INSERT does.
use Rattle.std.proofs.Common.{◌≡◌, ℕ, List, [], Ok, Err, sym, subst}
use Rattle.std.specs.List.{AllByRecursion}
use Rattle.ql_value.specs.declared.value.Value.{Value}
use Rattle.ql_syntax.specs.Typing.{type_of}
use Rattle.ql_rel.specs.InsertEffects.{new_rows}
use Rattle.ql_rel.specs.PlanTypes.{AreValuesFor}
use Rattle.ql_exec.specs.Answers.{Answers}
use Rattle.ql_exec.proofs.Rowed.{for_columns, fit_at, insert_done, insert_stops}
use Rattle.ql_exec.proofs.insert.insert_rows.Goals as goal

pub new_rows-requires : goal.new_rows-requires
new_rows-requires g c =
    subst (λ (ts : List ℕ). AllByRecursion (AreValuesFor (type_of []) c.columns_of.result.now ts) c.args.plan.now.rows) (sym c.as_slice.ensures)
    (for_columns c.table_named-table.result _ (g.R.Rel.schema c.args.rel.now) _ c.args.plan.now c.columns_of.ensures c.table_named-table.ensures c.requires.typed)

pub add_rows-requires-clause-fits : goal.add_rows-requires-clause-fits
add_rows-requires-clause-fits g c =
    fit_at c.table_named-table.result _ (g.R.Rel.schema c.args.rel.now) c.columns_of.result.now c.args.plan.now c.in_ok-rows.rows c.columns_of.ensures c.table_named-table.ensures c.requires.typed
    (subst (λ (ts : List ℕ). new_rows ts c.columns_of.result.now c.args.plan.now.rows ≡ Ok c.in_ok-rows.rows) c.as_slice.ensures c.in_ok-rows.ensures)

pub returns-in_err-rows-clause-done : goal.returns-in_err-rows-clause-done
returns-in_err-rows-clause-done g c =
    insert_stops (Unit {0}) c.args.name.now c.args.plan.now.targets c.args.plan.now.rows c.table_named-table.result (g.R.Rel.schema c.args.rel.now) c.columns_of.result.now c.in_err-rows.field-0.0 c.from_residual.result _ _
    c.from_residual.ensures.1 c.table_named-table.ensures c.columns_of.ensures (g.met.R.Rel.told_schema c.args.rel.now)
    (subst (λ (ts : List ℕ). Answers {A = List (List Value)} (new_rows ts c.columns_of.result.now c.args.plan.now.rows) (Err c.in_err-rows.field-0.0)) c.as_slice.ensures c.in_err-rows.ensures)

pub returns-clause-done : goal.returns-clause-done
returns-clause-done g c =
    insert_done c.args.name.now c.args.plan.now.targets c.args.plan.now.rows c.in_ok-rows.rows c.table_named-table.result (g.R.Rel.schema c.args.rel.now) c.columns_of.result.now _ _ _ c.table_named-table.ensures c.columns_of.ensures
    (subst (λ (ts : List ℕ). new_rows ts c.columns_of.result.now c.args.plan.now.rows ≡ Ok c.in_ok-rows.rows) c.as_slice.ensures c.in_ok-rows.ensures) (g.met.R.Rel.told_schema c.args.rel.now) c.add_rows.ensures.done
