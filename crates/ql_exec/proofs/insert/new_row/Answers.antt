-- The values are for the columns.
use Rattle.std.proofs.Common.{[]}
use Rattle.ql_exec.proofs.NewRows.{row_evaluates}
use Rattle.ql_exec.proofs.Placed.{values_for}
use Rattle.ql_exec.proofs.insert.new_row.Goals as goal

pub values_of-requires : goal.values_of-requires
values_of-requires c = row_evaluates c.args.columns.now c.args.targets.now c.args.exprs.now c.requires

pub place_values-requires : goal.place_values-requires
place_values-requires c = values_for [] [] c.args.columns.now c.args.targets.now c.args.exprs.now c.in_ok-new.new tt c.requires c.in_ok-new.ensures
