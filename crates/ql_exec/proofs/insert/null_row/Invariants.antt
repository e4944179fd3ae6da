use Rattle.std.proofs.Common.{◌≡◌, ◌∷◌, ◌++◌, drop}
use Rattle.ql_value.specs.declared.value.Value.TheVariants as v
use Rattle.ql_rel.specs.InsertEffects.{nulls}
use Rattle.ql_exec.proofs.insert.null_row.Given as goal

-- the row so far, and the NULLs of the columns that are left
abbrev pub invariant-columns : goal.invariant-columns
invariant-columns l = l.row ++ nulls (drop l._column-index l.columns) ≡ v.Null ∷ nulls l.columns
