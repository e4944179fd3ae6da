use Rattle.std.proofs.Common.{◌≡◌, ◌^◌, ◌-◌, ◌≤◌, IfSome}
use Rattle.ql_rel.specs.SelectRows.{filtered}
use Rattle.ql_exec.specs.Carries.{Leaves}
use Rattle.ql_exec.specs.Turns.{rows_of}
use Rattle.ql_exec.proofs.source.next_meant.Given as goal

-- WHERE means none of the rows that were given
abbrev pub invariant-rows : goal.invariant-rows
invariant-rows g l = record {
  goes : IfSome (g.R.Rel.db l.fn.rel) (λ d. filtered l.filter (rows_of l.fn.left d) ≡ filtered l.filter (rows_of l.left d));
  over : l.fn.left.after ≤ l.left.after;
  table : l.left.table ≡ l.fn.left.table;
  db : g.R.Rel.db l.rel ≡ g.R.Rel.db l.fn.rel;
  schema : g.R.Rel.schema l.rel ≡ g.R.Rel.schema l.fn.rel;
  ready : g.R.Rel.is_ready l.rel ≡ g.R.Rel.is_ready l.fn.rel;
  leaves : Leaves g.R.Rel.saved g.R.Rel.limit g.R.Shows.told g.R.Shows.left g.R.Shows.fixed l.fn.rel l.rel;
  faults : g.R.Shows.faults l.rel ≡ g.R.Shows.faults l.fn.rel;
}

abbrev pub decreases-rows : goal.decreases-rows
decreases-rows g l = 2 ^ 64 - l.left.after
