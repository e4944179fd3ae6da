use Rattle.std.proofs.Common.{◌≡◌, slice_get, Some, None, refl, arith}
use Rattle.std.proofs.lemmas.Grind.{common_steps}
use Rattle.std.proofs.lemmas.Option.{gets}
use Rattle.std.specs.Option.{option_copied}
use Rattle.ql_mem_rel.proofs.PieceLemmas.{rise_got, with_as}
use Rattle.ql_mem_rel.proofs.row_pieces.with_id.Goals as goal

pub with_id-requires : goal.with_id-requires
with_id-requires c =
    let got : option_copied c.get.result ≡ slice_get c.args.pieces.now c.piece_after-at.result = grind (arith, common_steps, gets) in
    rise_got 1 c.args.pieces.now c.piece_after-at.result (option_copied c.get.result) c.in-Some.piece.now c.requires.filled c.requires.rise (rw c.in-Some.is refl) got

pub returns-in-Some : goal.returns-in-Some
returns-in-Some c =
    let got : option_copied c.get.result ≡ slice_get c.args.pieces.now c.piece_after-at.result = grind (arith, common_steps, gets) in
    with_as c.args.id c.args.pieces.now c.saturating_sub.result c.piece_after-at.result (Some c.in-Some.piece.now) _ c.requires.filled c.requires.rise c.saturating_sub.ensures c.piece_after-at.ensures (rw c.in-Some.is at got) c.with_id.ensures

pub returns-in-None : goal.returns-in-None
returns-in-None c =
    let got : option_copied c.get.result ≡ slice_get c.args.pieces.now c.piece_after-at.result = grind (arith, common_steps, gets) in
    with_as c.args.id c.args.pieces.now c.saturating_sub.result c.piece_after-at.result None None c.requires.filled c.requires.rise c.saturating_sub.ensures c.piece_after-at.ensures (rw c.in-None.is at got) refl
