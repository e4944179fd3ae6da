use Rattle.std.proofs.Common.{◌≡◌, ◌+◌, ◌-◌, ◌≤◌, length, drop}
use Rattle.std.specs.List.{prefix_len}
use Rattle.ql_shell.specs.Words.{is_in_name}
use Rattle.ql_shell.proofs.words.name_len.Given as goal

abbrev pub invariant-bytes : goal.invariant-bytes
invariant-bytes l = (l.end + prefix_len is_in_name (drop l.end l.text) ≡ prefix_len is_in_name l.text) × (l.end ≤ length l.text)

abbrev pub decreases-bytes : goal.decreases-bytes
decreases-bytes l = length l.text - l.end
