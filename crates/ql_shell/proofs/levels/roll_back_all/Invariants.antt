use Rattle.std.proofs.Common.{◌≡◌, length}
use Rattle.ql_rel.specs.declared.db.Db.{Db}
use Rattle.ql_shell.specs.Goings.{KeepsBelow, LeavesRest}
use Rattle.ql_shell.proofs.levels.roll_back_all.Given as goal

-- the outermost database that is saved stays the same
abbrev pub invariant-levels : goal.invariant-levels
invariant-levels g l = record {
  outer : (kept : Db) → KeepsBelow kept (g.R.Rel.db l.fn.rel) (g.R.Rel.saved l.fn.rel) → KeepsBelow kept (g.R.Rel.db l.rel) (g.R.Rel.saved l.rel);
  told : g.R.Shows.told l.rel ≡ g.R.Shows.told l.fn.rel;
  leaves : LeavesRest g.R.Rel.limit g.R.Shows.left g.R.Shows.fixed l.fn.rel l.rel;
  faults : g.R.Shows.faults l.rel ≡ g.R.Shows.faults l.fn.rel;
}

abbrev pub decreases-levels : goal.decreases-levels
decreases-levels g l = length (g.R.Rel.saved l.rel)
