use Rattle.std.proofs.Common.{arith}
use Rattle.ql_rel.proofs.RowFits.{fits_length, fits_at}
use Rattle.ql_rel.proofs.fitting.is_row_of.Goals as goal

pub returns-then-columns-values-clause-all : goal.returns-then-columns-values-clause-all
returns-then-columns-values-clause-all c h =
    let same = fits_length c.args.columns.now c.args.values.now h in
    absurd (omega arith)

pub returns-then-not-has_kind-clause-all : goal.returns-then-not-has_kind-clause-all
returns-then-not-has_kind-clause-all c h =
    let same = fits_length c.args.columns.now c.args.values.now h in
    let kind = fits_at c.args.columns.now c.args.values.now c.loop-i.i c.index-columns-i.result c.index-values-i.result (omega arith) (omega arith) c.index-columns-i.is c.index-values-i.is h in
    let yes = c.has_kind.ensures.all kind in
    absurd cc
