use Rattle.std.proofs.Common.{◌≡◌, pos, ◌∷◌, ◌++◌}
use Rattle.std.specs.Vec.Iter.{into_iter_items}
use Rattle.ql_value.specs.declared.value.Kind.TheVariants as k
use Rattle.ql_value.specs.declared.value.Value.TheVariants as v
use Rattle.ql_exec.proofs.query.set_row.Given as goal

-- the row so far, and the values that are left
abbrev pub invariant-values : goal.invariant-values
invariant-values l = l.row ++ into_iter_items l.value-iterator ≡ v.Int k.Int64 (pos l.fn.id) ∷ l.fn.values
