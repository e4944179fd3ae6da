-- A column that is refused.
use Rattle.ql_check.proofs.NewNames.{stops_at_column}
use Rattle.ql_check.proofs.create.new_columns.Goals as goal

pub returns-in_err-new_column : goal.returns-in_err-new_column
returns-in_err-new_column c =
    stops_at_column c.args.columns.now c.columns.column-index c.column-item.result c.column-item.result c.in_err-new_column.field-0.0 c.from_residual.result _
    c.columns-test.true c.column-item.is (c.in_err-new_column.ensures.new _ c.columns.invariant.names) c.from_residual.ensures.1 c.columns.invariant.columns
