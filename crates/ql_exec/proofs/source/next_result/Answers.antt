-- The fields have types at the row that came.
use Rattle.ql_exec.proofs.Turned.{fields_typed}
use Rattle.ql_exec.proofs.source.next_result.Goals as goal

pub values_of-requires : goal.values_of-requires
values_of-requires g c =
    fields_typed c.in_ok-row.field-0 c.in-Some.row c.as_slice.result.now _ c.args.plan.now.fields c.in-Some.is c.as_slice.ensures c.in_ok-row.ensures.fits c.requires.fields
