use Rattle.std.proofs.Common.{refl}
use Rattle.ql_parse_expr.specs.Levels.{is_op}
use Rattle.ql_cursor.proofs.StepLemmas.{exits}
use Rattle.ql_cursor.proofs.Loops.{one_more, no_more, one_fails, fewer}
use Rattle.ql_parse_expr.proofs.ChainLemmas.{gives_link, fails_link, first_link}
use Rattle.ql_parse_expr.proofs.parser.Parser.links.Goals as goal

pub returns-in_err-part : goal.returns-in_err-part
returns-in_err-part g c = exits _ _ _ _ c.from_residual.ensures.1 (one_fails c.links.invariant c.in-Some.ensures.0 (fails_link c.args.level c.in-Some.ensures.0 c.skip.ensures (c.requires.answers _ _ _ c.in_err-part.ensures)))

pub links-smaller : goal.links-smaller
links-smaller g c = fewer (is_op c.args.level) c.links.cursor c.in-Some.ensures.0 c.skip.ensures (c.requires.answers _ _ _ c.in_ok-part.ensures)

pub links-preserved : goal.links-preserved
links-preserved g c = rw c.in_ok-push.ensures.ok (one_more c.links.invariant c.in-Some.ensures.0 (gives_link c.args.level c.in-Some.ensures.0 c.in-Some.ensures.1 c.skip.ensures (c.requires.answers _ _ _ c.in_ok-part.ensures)) first_link)

pub returns : goal.returns
returns g c = rw c.shrink_to_fit.ensures (no_more c.links.invariant c.in_default.ensures refl)
