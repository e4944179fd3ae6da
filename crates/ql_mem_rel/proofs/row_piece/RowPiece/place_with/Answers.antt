use Rattle.std.proofs.Common.{◌≡◌, slice_get, ◌∙◌, arith}
use Rattle.std.proofs.lemmas.Grind.{common_steps}
use Rattle.std.proofs.lemmas.Option.{gets}
use Rattle.std.specs.Option.{option_copied}
use Rattle.ql_mem_rel.proofs.PlaceLemmas.{there_as, not_there_as, nowhere_as}
use Rattle.ql_mem_rel.proofs.row_piece.RowPiece.place_with.Goals as goal

pub returns-in_err-row : goal.returns-in_err-row
returns-in_err-row c =
    let same : c.as_slice.result.now ≡ c.args.self.now = c.as_slice.ensures.value ∙ c.self.view_is in
    let got : option_copied c.get.result ≡ slice_get c.as_slice.result.now c.place_after-at.result = grind (arith, common_steps, gets) in
    c.from_residual.ensures ∙ nowhere_as c.args.id c.as_slice.result.now c.args.self.now c.saturating_sub.result c.place_after-at.result same c.saturating_sub.ensures c.place_after-at.ensures (rw c.in_err-row.was at got) c.requires

pub returns-then-row-id : goal.returns-then-row-id
returns-then-row-id c =
    let same : c.as_slice.result.now ≡ c.args.self.now = c.as_slice.ensures.value ∙ c.self.view_is in
    let got : option_copied c.get.result ≡ slice_get c.as_slice.result.now c.place_after-at.result = grind (arith, common_steps, gets) in
    there_as c.args.id c.as_slice.result.now c.args.self.now c.saturating_sub.result c.place_after-at.result c.in_ok-row.row.now same c.saturating_sub.ensures c.place_after-at.ensures (rw c.in_ok-row.was at got) c.requires c.if-row-id.true

pub returns-else-row-id : goal.returns-else-row-id
returns-else-row-id c =
    let same : c.as_slice.result.now ≡ c.args.self.now = c.as_slice.ensures.value ∙ c.self.view_is in
    let got : option_copied c.get.result ≡ slice_get c.as_slice.result.now c.place_after-at.result = grind (arith, common_steps, gets) in
    not_there_as c.args.id c.as_slice.result.now c.args.self.now c.saturating_sub.result c.place_after-at.result c.in_ok-row.row.now same c.saturating_sub.ensures c.place_after-at.ensures (rw c.in_ok-row.was at got) c.requires c.if-row-id.false
