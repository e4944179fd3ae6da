use Rattle.std.proofs.Common.{◌≡◌, drop, IfSome}
use Rattle.std.specs.List.{AllByRecursion}
use Rattle.ql_rel.specs.Databases.{columns_at}
use Rattle.ql_rel.specs.InsertEffects.{rows_added}
use Rattle.ql_rel.specs.WellFormed.{Fits}
use Rattle.ql_exec.specs.Carries.{Leaves}
use Rattle.ql_exec.proofs.Added.{Onto}
use Rattle.ql_exec.proofs.insert.add_rows.Given as goal

-- the rows that are left do to the database what all did to the one before
abbrev pub invariant-rows : goal.invariant-rows
invariant-rows g l = record {
  onto : IfSome (g.R.Rel.db l.fn.rel) (λ d. Onto l.table (drop l.values-index l.rows) (rows_added l.table l.rows d) (g.R.Rel.db l.rel));
  fits : AllByRecursion (Fits (columns_at l.table (g.R.Rel.schema l.fn.rel))) (drop l.values-index l.rows);
  schema : g.R.Rel.schema l.rel ≡ g.R.Rel.schema l.fn.rel;
  ready : g.R.Rel.is_ready l.rel ≡ g.R.Rel.is_ready l.fn.rel;
  leaves : Leaves g.R.Rel.saved g.R.Rel.limit g.R.Shows.told g.R.Shows.left g.R.Shows.fixed l.fn.rel l.rel;
  faults : g.R.Shows.faults l.rel ≡ g.R.Shows.faults l.fn.rel;
}
