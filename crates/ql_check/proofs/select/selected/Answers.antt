-- A refusal of LIMIT or OFFSET.
use Rattle.std.proofs.Common.{◌≡◌, Ok, subst}
use Rattle.ql_rel.specs.Plans as spec
use Rattle.ql_rel.specs.Targets.{kinds_of}
use Rattle.ql_check_expr.proofs.Stops.{third}
use Rattle.ql_check.proofs.select.selected.Goals as goal

pub returns-in_err-limits : goal.returns-in_err-limits
returns-in_err-limits c =
    let schema = c.args.schema.now in
    let select = c.args.select.now in
    let kinds = kinds_of c.args.targets.now in
    let source = c.in_ok-row.field-0 in
    let output = c.in_ok-output.output in
    let whole = subst (λ g. spec.output_of kinds source.row g select ≡ Ok output) c.has_groups.ensures c.in_ok-output.ensures in
    third (spec.source_of schema select) (λ s. spec.output_of kinds s.row (spec.is_some_list s.groups) select) (λ s o. spec.limits_of select) (λ s o l. Ok (record { filter = s.filter; groups = s.groups; output = o; limits = l }))
    source output c.in_err-limits.field-0.0 c.from_residual-in_err-limits.result c.in_ok-row.ensures whole c.in_err-limits.ensures c.from_residual-in_err-limits.ensures.1
