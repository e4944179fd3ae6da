use Rattle.std.proofs.Common.{◌≡◌, ◌++◌}
use Rattle.lldb_base.proofs.maps.copy_map.Given as goal

abbrev pub invariant-loop-handle : goal.invariant-loop-handle
invariant-loop-handle l = l.copy.entries ++ l.handle-iterator ≡ l.map.entries
