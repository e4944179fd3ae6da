use Rattle.std.proofs.Common.{◌∙◌}
use Rattle.lldb_wal.specs.Log.{IsLog}
use Rattle.lldb_wal.proofs.Steps.{no_size, more_behind, batch_held}
use Rattle.lldb_wal.proofs.read_log.judge_end.Goals as goal

pub returns-in-None : goal.returns-in-None
returns-in-None c = λ log rest opened count follow. IsLog.bad_end opened count follow (no_size _ _ _ _ _ rest c.in-None.ensures.none)

pub returns-in-Some : goal.returns-in-Some
returns-in-Some c = λ log rest opened count follow. IsLog.bad_end opened count follow (more_behind _ _ _ _ _ rest c.in-Some.ensures.kept c.if-rest-gt8.true)

pub returns-in-Some-2 : goal.returns-in-Some-2
returns-in-Some-2 c = λ log rest opened count follow.
    batch_held _ _ _ _ _ _ _ _ rest opened count follow
    c.in-Some-2.ensures.kept c.in-Some-2.ensures.whole c.if-rest-gt8.false c.in-Some-2.ensures.some c.into_batch.ensures.pieces (c.into_batch.ensures.size ∙ c.in-Some-2.length-is)
