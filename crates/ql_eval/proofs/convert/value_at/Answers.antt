-- The place is within the row.
use Rattle.std.proofs.Common.{rules, ◌∙◌, sym, ap}
use Rattle.ql_syntax.specs.Values as spec
use Rattle.ql_eval.proofs.Places.{within, placed_is}
use Rattle.ql_eval.proofs.convert.value_at.Goals as goal

pub bounds-row-at : goal.bounds-row-at
bounds-row-at c = within c.args.row.now c.args.at c.requires

pub returns : goal.returns
returns c = placed_is c.args.row.now c.args.at _ c.requires ∙ ap spec.gives (sym c.index-row-at.is)

pub offset_bounds-row-at : goal.offset_bounds-row-at
offset_bounds-row-at c = search (rules, c.well_formed, within c.args.row.now c.args.at c.requires)
