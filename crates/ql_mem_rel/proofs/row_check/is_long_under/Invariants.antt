use Rattle.std.proofs.Common.{◌≡◌, drop}
use Rattle.ql_rel.specs.Limits.{value_under}
use Rattle.ql_mem_rel.proofs.row_check.is_long_under.Given as goal

abbrev pub invariant-loop-i : goal.invariant-loop-i
invariant-loop-i l = value_under l.name (drop l.i l.columns) (drop l.i l.values) ≡ value_under l.name l.columns l.values
