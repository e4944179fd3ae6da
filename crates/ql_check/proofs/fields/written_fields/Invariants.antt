use Rattle.std.proofs.Common.{◌≡◌, drop}
use Rattle.ql_rel.specs.Plans as spec
use Rattle.ql_check_expr.proofs.Turns.{behind}
use Rattle.ql_check.proofs.fields.written_fields.Given as goal

-- the fields so far, and those that are left
abbrev pub invariant-fields : goal.invariant-fields
invariant-fields l = behind l.list (spec.written_fields l.scope (drop l.field-index l.fields)) ≡ spec.written_fields l.scope l.fields
