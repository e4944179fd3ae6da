-- The values are the row, or have places in it, one each.
use Rattle.std.proofs.Common.{sym, ◌∙◌}
use Rattle.ql_exec.proofs.Placed.{for_each, places_below, all_placed}
use Rattle.ql_exec.proofs.insert.place_values.Goals as goal

pub returns-then-are_all : goal.returns-then-are_all
returns-then-are_all c = all_placed c.args.columns.now c.args.targets.now c.args.new (sym c.are_all.ensures ∙ c.if-are_all.true) c.requires

pub assign-requires-clause-places : goal.assign-requires-clause-places
assign-requires-clause-places c =
    places_below c.args.columns.now c.args.targets.now c.args.new c.into_vec-row.result.items (c.into_vec-row.ensures ∙ c.in_ok-null_row.ensures) c.requires

pub assign-requires-clause-each : goal.assign-requires-clause-each
assign-requires-clause-each c = for_each c.args.columns.now c.args.targets.now c.args.new c.requires
