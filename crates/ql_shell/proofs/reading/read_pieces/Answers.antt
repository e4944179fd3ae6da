use Rattle.std.proofs.Common.{◌≡◌, ◌+◌, ◌≤◌, length, drop, option_map, ap, ◌∙◌, arith}
use Rattle.std.proofs.lemmas.List.{length-take}
use Rattle.ql_shell.specs.Comes.{longest_script}
use Rattle.ql_shell.proofs.Taking.{left_after, dropped_twice, takes_part, takes_more, takes_some}
use Rattle.ql_shell.proofs.reading.read_pieces.Goals as goal

pub returns-in_err-more-clause-takes : goal.returns-in_err-more-clause-takes
returns-in_err-more-clause-takes g c =
    let script = rw c.requires.empty at c.pieces.invariant.script in
    let part = c.in_err-more.ensures.takes in
    takes_part _ _ _ _ c.from_residual.ensures.1 c.in_err-more.ensures.only (dropped_twice _ _ _ _ _ (left_after c.pieces.source _ _ script) part.2)

pub returns-in_err-more-clause-most : goal.returns-in_err-more-clause-most
returns-in_err-more-clause-most g c =
    let script = rw c.requires.empty at c.pieces.invariant.script in
    let part = c.in_err-more.ensures.takes in
    let within : length c.pieces.source + part.0 ≤ longest_script + 1 = omega (arith, part.1, length-take c.min-room.result c.pieces.buffer) in
    takes_more _ _ _ _ _ _ (left_after c.pieces.source _ _ script) within part.2

pub returns-then-not-more-clause-most : goal.returns-then-not-more-clause-most
returns-then-not-more-clause-most g c =
    let script = rw c.requires.empty at c.pieces.invariant.script in
    let same = c.in_ok-more.ensures.end c.if-not-more.true in
    rw same.1 (takes_some _ _ _ _ (left_after c.pieces.source _ _ script) c.pieces.invariant.within)

pub returns-clause-most : goal.returns-clause-most
returns-clause-most g c =
    let script = rw c.requires.empty at c.pieces.invariant.script in
    takes_some _ _ _ _ (left_after c.pieces.source _ _ script) c.pieces.invariant.within

pub returns-clause-takes : goal.returns-clause-takes
returns-clause-takes g c =
    let script = rw c.requires.empty at c.pieces.invariant.script in
    let full : length c.pieces.source ≡ longest_script + 1 = omega arith in
    left_after c.pieces.source _ _ script ∙ ap (λ n. option_map (drop n) (g.M.Shows.left c.args.machine.now)) full
