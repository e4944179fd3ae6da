use Rattle.std.proofs.Common.{◌≡◌, slice_get, ◌∙◌, sym, arith}
use Rattle.std.proofs.lemmas.Grind.{common_steps}
use Rattle.std.proofs.lemmas.Option.{gets}
use Rattle.std.specs.Option.{option_copied}
use Rattle.ql_mem_rel.proofs.PlaceLemmas.{with_as, found_nowhere}
use Rattle.ql_mem_rel.proofs.row_piece.RowPiece.with_id.Goals as goal

pub returns-in-Some : goal.returns-in-Some
returns-in-Some c =
    let same : c.as_slice.result.now ≡ c.args.self.now = c.as_slice.ensures.value ∙ c.self.view_is in
    let got : option_copied c.get.result ≡ slice_get c.as_slice.result.now c.in-Some.at = grind (arith, common_steps, gets) in
    with_as c.args.id c.as_slice.result.now c.args.self.now c.in-Some.at _ same (sym c.in-Some.ensures) got

pub returns-in-None : goal.returns-in-None
returns-in-None c = sym (found_nowhere c.args.id c.args.self.now (sym c.in-None.ensures))
