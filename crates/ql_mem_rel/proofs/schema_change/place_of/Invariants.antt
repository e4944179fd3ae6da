use Rattle.std.proofs.Common.{◌≡◌, ◌+◌, drop}
use Rattle.ql_mem_rel.specs.Places.{place_before}
use Rattle.ql_mem_rel.proofs.schema_change.place_of.Given as goal

abbrev pub invariant-loop-i : goal.invariant-loop-i
invariant-loop-i l = l.i + place_before l.name (drop l.i l.tables) ≡ place_before l.name l.tables
