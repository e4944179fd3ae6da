use Rattle.std.proofs.Common.{◌≡◌, [], refl, inl, arith, rules}
use Rattle.std.specs.Prelude.{Err}
use Rattle.ql_lex.specs.Tokens.{Reads}
use Rattle.ql_lex.proofs.LongestLemmas.{longest_counts}
use Rattle.ql_lex.proofs.PlaceLemmas.{whole_in}
use Rattle.ql_lex.proofs.TokenLemmas.{lexes_once, at_start, at_end, at_flaw, over_gap, over_token, piece_shorter}
use Rattle.ql_lex.proofs.TotalLemmas.{outcome}
use Rattle.ql_lex.proofs.lexer.tokens.Goals as goal

pub pieces-init : goal.pieces-init
pieces-init c = at_start _ _ _ c.new-found.ensures

pub pieces-smaller-in-Gap : goal.pieces-smaller-in-Gap
pieces-smaller-in-Gap c = piece_shorter _ _ _ _ _ c.in-Some.ensures c.in-Ok.ensures

pub pieces-preserved-in-Gap : goal.pieces-preserved-in-Gap
pieces-preserved-in-Gap c = over_gap _ _ _ _ _ _ _ _ c.pieces.invariant c.in-Some.ensures c.in-Ok.ensures c.in-Gap.is

pub overflow_sub-to : goal.overflow_sub-to
overflow_sub-to c =
    let less = piece_shorter _ _ _ _ _ c.in-Some.ensures c.in-Ok.ensures in
    omega (arith, less, c.pieces.invariant.within)

pub pieces-smaller : goal.pieces-smaller
pieces-smaller c = piece_shorter _ _ _ _ _ c.in-Some.ensures c.in-Ok.ensures

pub pieces-preserved : goal.pieces-preserved
pieces-preserved c =
    over_token _ _ _ _ _ _ _ _ _ _ _ c.pieces.invariant c.in-Some.ensures c.in-Ok.ensures c.in-Token.is refl c.in_ok-push-in-Token.ensures.ok

pub returns-in-Err-clause-fault : goal.returns-in-Err-clause-fault
returns-in-Err-clause-fault c = λ _. rw c.at.ensures (at_flaw _ _ _ _ _ _ _ c.pieces.invariant c.in-Some.ensures c.in-Err.ensures)

pub returns-in-Err-clause-only : goal.returns-in-Err-clause-only
returns-in-Err-clause-only c = λ o h.
    let reads : Reads c.args.source.now (Err c.at.result) = rw c.at.ensures (at_flaw _ _ _ _ _ _ _ c.pieces.invariant c.in-Some.ensures c.in-Err.ensures) in
    inl (lexes_once reads h)

pub returns-in-Err-clause-one : goal.returns-in-Err-clause-one
returns-in-Err-clause-one c = λ o p h k. lexes_once h k

pub returns-in_err-push-in-Token-clause-one : goal.returns-in_err-push-in-Token-clause-one
returns-in_err-push-in-Token-clause-one c = λ o p h k. lexes_once h k

pub returns-clause-read : goal.returns-clause-read
returns-clause-read c =
    let over : c.pieces.z.now ≡ [] = search rules in
    at_end _ _ _ _ c.pieces.invariant over

pub returns-clause-only : goal.returns-clause-only
returns-clause-only c = λ o h.
    let over : c.pieces.z.now ≡ [] = search rules in
    inl (lexes_once (at_end _ _ _ _ c.pieces.invariant over) h)

pub returns-clause-one : goal.returns-clause-one
returns-clause-one c = λ o p h k. lexes_once h k

pub returns-clause-each : goal.returns-clause-each
returns-clause-each c =
    let over : c.pieces.z.now ≡ [] = search rules in
    whole_in _ _ (at_end _ _ _ _ c.pieces.invariant over)

pub returns-in-Err-clause-longest : goal.returns-in-Err-clause-longest
returns-in-Err-clause-longest c = longest_counts

pub returns-in_err-push-in-Token-clause-longest : goal.returns-in_err-push-in-Token-clause-longest
returns-in_err-push-in-Token-clause-longest c = longest_counts

pub returns-clause-longest : goal.returns-clause-longest
returns-clause-longest c = longest_counts

pub returns-in-Err-clause-some : goal.returns-in-Err-clause-some
returns-in-Err-clause-some c = outcome

pub returns-in_err-push-in-Token-clause-some : goal.returns-in_err-push-in-Token-clause-some
returns-in_err-push-in-Token-clause-some c = outcome

pub returns-clause-some : goal.returns-clause-some
returns-clause-some c = outcome
