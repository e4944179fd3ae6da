-- What the checker's parts of an UPDATE stand for.
use Rattle.std.specs.Prelude.{◌≡◌, ℕ, List, map}
use Rattle.ql_syntax.specs.declared.statement.Assign.{Assign}
use Rattle.ql_rel.specs.declared.change.Assigned.{Assigned}
use Rattle.ql_check.specs.declared.change.Parts.{Parts}

-- the columns and the new values of assignments
abbrev pub AreParts : Parts → List Assigned → Type 0
AreParts x changes = (x.targets ≡ map (λ (y : Assigned). y.at) changes) × (x.fields ≡ map (λ (y : Assigned). y.value) changes)

-- the names of the columns of assignments
abbrev pub set_names : List Assign → List (List ℕ)
set_names sets = map (λ (a : Assign). a.column) sets
