-- One row more, and the last one.
use Rattle.std.proofs.Common.{◌≡◌, Option, IfSome, refl, sym, ◌∙◌, subst}
use Rattle.ql_rel.specs.declared.db.Db.{Db}
use Rattle.ql_rel.specs.Rels.{row_after}
use Rattle.ql_exec.proofs.Onward.{Goes}
use Rattle.ql_exec.proofs.Rounds.{first_goes, next_goes, next_stops, last_goes, found_there}
use Rattle.ql_exec.proofs.change.change_rows.Goals as goal

pub rows-init : goal.rows-init
rows-init g c = record {
  goes = first_goes c.args.removes c.args.table c.args.plan.now _ (g.met.R.Rel.formed c.args.rel.now c.requires.ready);
  schema = refl;
  ready = refl;
  leaves = (refl, refl, refl, refl, refl);
  faults = refl;
}

pub rows-preserved : goal.rows-preserved
rows-preserved g c =
    let more = c.in_ok-change_row.ensures.leaves in
    let read = c.in_ok-row.ensures.leaves in
    let kept = c.rows.invariant.leaves in
    record {
      goes =
          let db = sym c.in_ok-row.ensures.db in
          next_goes {T = Unit {0}} c.args.removes c.args.table c.args.plan.now (g.R.Rel.schema c.args.rel.now) c.rows.after c.in_ok-row.field-0 c.in-Some.row (tt {0}) _ (g.R.Rel.db c.next_row.new.rel) _ c.requires.table (g.met.R.Rel.told_schema c.args.rel.now) (g.met.R.Rel.formed c.args.rel.now c.requires.ready) c.in-Some.is c.in_ok-row.ensures.over
          (subst (λ (z : Option Db). IfSome (g.R.Rel.db c.args.rel.now) (λ d. Goes c.args.removes c.args.table c.args.plan.now c.rows.after d z)) db c.rows.invariant.goes)
          (subst (λ (z : Option Db). IfSome z (λ d. c.in_ok-row.field-0 ≡ row_after c.args.table c.rows.after d)) db c.in_ok-row.ensures.row)
          c.in_ok-change_row.ensures.done;
      schema = c.in_ok-change_row.ensures.schema ∙ c.in_ok-row.ensures.schema ∙ c.rows.invariant.schema;
      ready = c.in_ok-change_row.ensures.ready ∙ c.in_ok-row.ensures.ready ∙ c.rows.invariant.ready;
      leaves = (more.0 ∙ read.0 ∙ kept.0, more.1 ∙ read.1 ∙ kept.1, more.2 ∙ read.2 ∙ kept.2, more.3 ∙ read.3 ∙ kept.3, more.4 ∙ read.4 ∙ kept.4);
      faults = c.in_ok-change_row.ensures.cause ∙ c.in_ok-row.ensures.cause ∙ c.rows.invariant.faults;
    }

pub change_row-requires-clause-row : goal.change_row-requires-clause-row
change_row-requires-clause-row g c =
    found_there c.args.table c.rows.after c.in_ok-row.field-0 c.in-Some.row _ c.in-Some.is
    (subst (λ (z : Option Db). IfSome z (λ d. c.in_ok-row.field-0 ≡ row_after c.args.table c.rows.after d)) (sym c.in_ok-row.ensures.db) c.in_ok-row.ensures.row)

pub returns-in_err-change_row-clause-done : goal.returns-in_err-change_row-clause-done
returns-in_err-change_row-clause-done g c =
    let db = sym c.in_ok-row.ensures.db in
    next_stops (Unit {0}) (Unit {0}) c.args.removes c.args.table c.args.plan.now (g.R.Rel.schema c.args.rel.now) c.rows.after c.in_ok-row.field-0 c.in-Some.row c.in_err-change_row.field-0.0 c.from_residual-in_err-change_row.result _ (g.R.Rel.db c.next_row.new.rel) _
    c.from_residual-in_err-change_row.ensures.1 c.requires.table (g.met.R.Rel.told_schema c.args.rel.now) (g.met.R.Rel.formed c.args.rel.now c.requires.ready) c.in-Some.is c.in_ok-row.ensures.over
    (subst (λ (z : Option Db). IfSome (g.R.Rel.db c.args.rel.now) (λ d. Goes c.args.removes c.args.table c.args.plan.now c.rows.after d z)) db c.rows.invariant.goes)
    (subst (λ (z : Option Db). IfSome z (λ d. c.in_ok-row.field-0 ≡ row_after c.args.table c.rows.after d)) db c.in_ok-row.ensures.row)
    c.in_err-change_row.ensures.done

pub returns-clause-done : goal.returns-clause-done
returns-clause-done g c =
    let db = sym c.in_ok-row.ensures.db in
    last_goes c.args.removes c.args.table c.args.plan.now (g.R.Rel.schema c.args.rel.now) c.rows.after c.in_ok-row.field-0 _ (g.R.Rel.db c.next_row.new.rel) c.requires.table (g.met.R.Rel.told_schema c.args.rel.now) c.in_default.not-Some
    (subst (λ (z : Option Db). IfSome (g.R.Rel.db c.args.rel.now) (λ d. Goes c.args.removes c.args.table c.args.plan.now c.rows.after d z)) db c.rows.invariant.goes)
    (subst (λ (z : Option Db). IfSome z (λ d. c.in_ok-row.field-0 ≡ row_after c.args.table c.rows.after d)) db c.in_ok-row.ensures.row)
