use Rattle.std.proofs.Common.{◌∙◌}
use Rattle.lldb_wal.proofs.Heads.{head_short, head_nameless, head_shut, head_open, head_count}
use Rattle.lldb_wal.proofs.header.read_head.Goals as goal

pub returns-then-head-lt32-clause-decided : goal.returns-then-head-lt32-clause-decided
returns-then-head-lt32-clause-decided c = λ size log is. head_short size log _ c.if-head-lt32.true is

pub returns-then-not-begins_log-clause-decided : goal.returns-then-not-begins_log-clause-decided
returns-then-not-begins_log-clause-decided c = λ size log is. head_nameless size log _ _ c.if-head-lt32.false c.begins_log.ensures c.if-not-begins_log.true is

pub returns-then-head-ne1-clause-decided : goal.returns-then-head-ne1-clause-decided
returns-then-head-ne1-clause-decided c = λ size log is. head_shut size log _ _ c.if-head-lt32.false c.begins_log.ensures c.if-not-begins_log.false c.if-head-ne1.true is

pub returns-clause-open : goal.returns-clause-open
returns-clause-open c = λ log is. head_open log _ _ c.if-head-lt32.false c.begins_log.ensures c.if-not-begins_log.false c.if-head-ne1.false is

pub returns-clause-count : goal.returns-clause-count
returns-clause-count c = λ log is. c.u64_at.ensures ∙ head_count log _ is
