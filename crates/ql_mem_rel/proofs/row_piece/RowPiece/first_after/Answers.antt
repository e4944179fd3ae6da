use Rattle.std.proofs.Common.{◌≡◌, slice_get, ◌∙◌, arith}
use Rattle.std.proofs.lemmas.Grind.{common_steps}
use Rattle.std.proofs.lemmas.Option.{gets}
use Rattle.std.specs.Option.{option_copied}
use Rattle.ql_mem_rel.proofs.PlaceLemmas.{found_as}
use Rattle.ql_mem_rel.proofs.row_piece.RowPiece.first_after.Goals as goal

pub returns : goal.returns
returns c =
    let same : c.as_slice.result.now ≡ c.args.self.now = c.as_slice.ensures.value ∙ c.self.view_is in
    let got : option_copied c.get.result ≡ slice_get c.as_slice.result.now c.place_after-at.result = grind (arith, common_steps, gets) in
    found_as c.args.id c.as_slice.result.now c.args.self.now c.place_after-at.result _ same c.place_after-at.ensures got
