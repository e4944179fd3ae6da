use Rattle.lldb_wal.proofs.Heads.{being_made, no_database}
use Rattle.lldb_wal.proofs.files.judge_heads.Goals as goal

pub returns-then-was_being_made-clause-decided : goal.returns-then-was_being_made-clause-decided
returns-then-was_being_made-clause-decided c = λ log is. being_made c.args.magic.now c.args.front.now c.args.size log c.args.head.now _ _ c.is_ours.ensures c.if-is_ours.false c.was_being_made.ensures c.if-was_being_made.true is

pub returns-clause-decided : goal.returns-clause-decided
returns-clause-decided c = λ log is. no_database c.args.magic.now c.args.front.now c.args.size log c.args.head.now _ _ c.if-size-eq0.false c.is_ours.ensures c.if-is_ours.false c.was_being_made.ensures c.if-was_being_made.false is
