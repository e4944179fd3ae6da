use Rattle.std.proofs.Common.{◌≡◌, ◌-◌, suc, arith}
use Rattle.ql_cursor.proofs.StepLemmas.{exits_enclosed}
use Rattle.ql_cursor.proofs.BracketLemmas.{fails_inside, fails_close, gives_enclosed}
use Rattle.ql_cursor.proofs.brackets.in_brackets.Goals as goal

pub returns-in_err-value : goal.returns-in_err-value
returns-in_err-value g c =
    let z : suc (c.args.room - 1) ≡ c.args.room = omega (arith, c.in_ok-open_bracket.ensures.room) in
    exits_enclosed _ _ _ _ c.from_residual-in_err-value.ensures.1
    (fails_inside _ z c.in_ok-open_bracket.ensures.found c.in_ok-open_bracket.ensures.taken (c.requires.answers _ _ _ _ z c.in_err-value.ensures))

pub returns-in_err-expect_mark : goal.returns-in_err-expect_mark
returns-in_err-expect_mark g c =
    let z : suc (c.args.room - 1) ≡ c.args.room = omega (arith, c.in_ok-open_bracket.ensures.room) in
    exits_enclosed _ _ _ _ c.from_residual-in_err-expect_mark.ensures.1
    (fails_close _ z c.in_ok-open_bracket.ensures.found c.in_ok-open_bracket.ensures.taken (c.requires.answers _ _ _ _ z c.in_ok-value.ensures) (c.in_err-expect_mark.ensures 0))

pub returns : goal.returns
returns g c =
    let z : suc (c.args.room - 1) ≡ c.args.room = omega (arith, c.in_ok-open_bracket.ensures.room) in
    gives_enclosed _ z c.in_ok-open_bracket.ensures.found c.in_ok-open_bracket.ensures.taken (c.requires.answers _ _ _ _ z c.in_ok-value.ensures) (c.in_ok-expect_mark.ensures 0)
