use Rattle.lldb_btree.proofs.Splitting.{tail_of_eight, tail_of_value}
use Rattle.lldb_btree.proofs.entry.split_tail.Goals as goal

pub returns-then-not-leaf-clause-whole : goal.returns-then-not-leaf-clause-whole
returns-then-not-leaf-clause-whole c = tail_of_eight c.args.leaf c.args.bytes.now c.split_at_checked.result c.if-not-leaf.true c.split_at_checked.ensures.cases

pub returns-clause-is : goal.returns-clause-is
returns-clause-is c = tail_of_value c.args.leaf c.args.bytes.now c.in_ok-len.field-0.now c.split_at_checked-2.result c.if-not-leaf.false c.in_ok-len.ensures.value c.if-len-gt16.false c.split_at_checked-2.ensures.cases
