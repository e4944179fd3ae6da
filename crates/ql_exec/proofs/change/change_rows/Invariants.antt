use Rattle.std.proofs.Common.{◌≡◌, ◌^◌, ◌-◌, IfSome}
use Rattle.ql_exec.specs.Carries.{Leaves}
use Rattle.ql_exec.proofs.Onward.{Goes}
use Rattle.ql_exec.proofs.change.change_rows.Given as goal

-- the rows behind an id are left, and what became of those before stands before them
abbrev pub invariant-rows : goal.invariant-rows
invariant-rows g l = record {
  goes : IfSome (g.R.Rel.db l.fn.rel) (λ d. Goes l.removes l.table l.plan l.after d (g.R.Rel.db l.rel));
  schema : g.R.Rel.schema l.rel ≡ g.R.Rel.schema l.fn.rel;
  ready : g.R.Rel.is_ready l.rel ≡ g.R.Rel.is_ready l.fn.rel;
  leaves : Leaves g.R.Rel.saved g.R.Rel.limit g.R.Shows.told g.R.Shows.left g.R.Shows.fixed l.fn.rel l.rel;
  faults : g.R.Shows.faults l.rel ≡ g.R.Shows.faults l.fn.rel;
}

abbrev pub decreases-rows : goal.decreases-rows
decreases-rows g l = 2 ^ 64 - l.after
