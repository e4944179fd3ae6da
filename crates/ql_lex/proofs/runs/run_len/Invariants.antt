use Rattle.std.proofs.Common.{◌≡◌, ◌+◌, ◌-◌, ◌≤◌, length, drop}
use Rattle.std.specs.List.{prefix_len}
use Rattle.ql_lex.specs.Runs.{passes}
use Rattle.ql_lex.proofs.runs.run_len.Given as goal

abbrev pub invariant-bytes : goal.invariant-bytes
invariant-bytes l = (l.end + prefix_len (passes l.run) (drop l.end l.text) ≡ prefix_len (passes l.run) l.text) × (l.end ≤ length l.text)

abbrev pub decreases-bytes : goal.decreases-bytes
decreases-bytes l = length l.text - l.end
