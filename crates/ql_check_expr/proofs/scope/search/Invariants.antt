use Rattle.std.proofs.Common.{◌≡◌, ◌+◌, List, ◌++◌, drop}
use Rattle.ql_syntax.specs.declared.scope.RowPlace.{RowPlace}
use Rattle.ql_syntax.specs.Scopes as spec
use Rattle.ql_check_expr.specs.Names.{Hits, bytes_of}
use Rattle.ql_check_expr.proofs.scope.search.Given as goal

-- the number of the next slot; the places so far, and those among the slots that are left
abbrev pub invariant-slots : goal.invariant-slots
invariant-slots l = record {
  number : l.at ≡ l.fn.start + l.slot-index;
  places : (before : List RowPlace) × Hits l.hit before × (before ++ spec.places_named (bytes_of l.set) (bytes_of l.column) l.at (drop l.slot-index l.slots) ≡ spec.places_named (bytes_of l.set) (bytes_of l.column) l.fn.start l.slots);
}
