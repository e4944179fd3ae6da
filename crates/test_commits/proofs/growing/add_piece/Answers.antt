use Rattle.std.proofs.Common.{◌+◌, ◌≤◌, arith}
use Rattle.test_commits.proofs.Grown.{grown_push}
use Rattle.test_commits.proofs.growing.add_piece.Goals as goal

pub returns-clause-grown : goal.returns-clause-grown
returns-clause-grown c =
    let floor : 16 ≤ c.args.growing.now.shift + c.args.place = c.if-growing-place-lt16.false in
    let within : c.args.growing.now.shift + c.args.place ≤ c.args.growing.now.far = omega (arith, c.if-place-growing.false, c.if-growing-place.false) in
    grown_push _ _ _ c.args.growing.now.end _ _ c.args.growing.now.batch.pieces _ (record { place = c.args.place; bytes = c.args.bytes.now }) c.in_ok-push.ensures.ok c.max-growing.ensures c.requires floor within
