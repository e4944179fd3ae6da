use Rattle.std.proofs.Common.{arith}
use Rattle.lldb_btree.proofs.Whole.{no_head, leaf_ok, inner_ok, leaf_bad, inner_bad}
use Rattle.lldb_btree.proofs.decode.read_node.Goals as goal

pub returns-in_default-clause-refused : goal.returns-in_default-clause-refused
returns-in_default-clause-refused c = λ n p. no_head n c.args.bytes.now p.1 c.in_default.ensures.whole

pub returns-then-leaf-clause-read : goal.returns-then-leaf-clause-read
returns-then-leaf-clause-read c = leaf_ok c.args.bytes.now c.in-Some.rest.now c.in-Some.leaf c.in-Some.count c.read_leaf.result c.in-Some.ensures.is c.if-leaf.true (omega (arith, c.if-count-gt-NODE_LIMIT.false)) c.read_leaf.ensures.read

pub returns-then-leaf-clause-refused : goal.returns-then-leaf-clause-refused
returns-then-leaf-clause-refused c = leaf_bad c.args.bytes.now c.in-Some.rest.now c.in-Some.leaf c.in-Some.count c.read_leaf.result c.in-Some.ensures.is c.if-leaf.true c.read_leaf.ensures.refused

pub returns-else-leaf-clause-read : goal.returns-else-leaf-clause-read
returns-else-leaf-clause-read c = inner_ok c.args.bytes.now c.in-Some.rest.now c.in-Some.leaf c.in-Some.count c.read_inner.result c.in-Some.ensures.is c.if-leaf.false (omega (arith, c.if-count-gt-NODE_LIMIT.false)) c.read_inner.ensures.read

pub returns-else-leaf-clause-refused : goal.returns-else-leaf-clause-refused
returns-else-leaf-clause-refused c = inner_bad c.args.bytes.now c.in-Some.rest.now c.in-Some.leaf c.in-Some.count c.read_inner.result c.in-Some.ensures.is c.if-leaf.false c.read_inner.ensures.refused
