use Rattle.std.proofs.Common.{refl}
use Rattle.ql_cursor.proofs.Loops.{one_more, no_more}
use Rattle.ql_parse_expr.proofs.ChainLemmas.{gives_prefix, first_prefix}
use Rattle.ql_parse_expr.proofs.chain.prefixes.Goals as goal

pub ops-preserved : goal.ops-preserved
ops-preserved c n = rw c.in_ok-push.ensures.ok (one_more (c.ops.invariant n) c.in-Some.ensures.0 (gives_prefix c.in-Some.ensures.0 c.in-Some.ensures.1 c.skip.ensures) first_prefix)

pub returns : goal.returns
returns c n = rw c.shrink_to_fit.ensures (no_more (c.ops.invariant n) c.in_default.ensures refl)
