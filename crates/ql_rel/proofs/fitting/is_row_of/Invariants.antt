use Rattle.std.proofs.Common.{drop}
use Rattle.ql_rel.specs.WellFormed.{Fits}
use Rattle.ql_rel.proofs.fitting.is_row_of.Given as goal

abbrev pub invariant-loop-i : goal.invariant-loop-i
invariant-loop-i l = Fits (drop l.i l.columns) (drop l.i l.values) → Fits l.columns l.values
