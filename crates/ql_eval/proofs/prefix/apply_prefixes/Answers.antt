-- One operator of the run, from the last one on.
use Rattle.ql_eval.proofs.Outcomes.{last_meant, last_gives}
use Rattle.ql_eval.proofs.prefix.apply_prefixes.Goals as goal

pub apply_prefix-requires : goal.apply_prefix-requires
apply_prefix-requires c = last_meant c.ops.left.now c.in-Some.front.now c.in-Some.op.now c.ops.value _ c.in-Some.ensures.cases.0 c.ops.invariant c.requires

pub ops-preserved : goal.ops-preserved
ops-preserved c = last_gives c.ops.left.now c.in-Some.front.now c.in-Some.op.now c.ops.value _ _ c.in-Some.ensures.cases.0 c.ops.invariant c.in_ok-value.ensures
