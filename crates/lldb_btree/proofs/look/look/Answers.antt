use Rattle.std.proofs.Common.{true, false, length, map}
use Rattle.lldb_btree.specs.Bounds.{is_ahead}
use Rattle.lldb_btree.specs.Nodes.{body, pair_entry, child_entry}
use Rattle.lldb_btree.proofs.Looked.{unsought_leaf, unsought_inner, looked_leaf, looked_inner}
use Rattle.lldb_btree.proofs.look.look.Goals as goal

pub returns-in_default-clause-leaf : goal.returns-in_default-clause-leaf
returns-in_default-clause-leaf c = λ pairs fits is. c.in_default.ensures.whole true (length pairs) (body (map pair_entry pairs)) is

pub returns-in_default-clause-inner : goal.returns-in_default-clause-inner
returns-in_default-clause-inner c = λ children fits some is. c.in_default.ensures.whole false (length children) (body (map child_entry children)) is

pub returns-in_default-seek-clause-leaf : goal.returns-in_default-seek-clause-leaf
returns-in_default-seek-clause-leaf c = λ pairs fits is. unsought_leaf c.in-Some.leaf c.in-Some.count c.in-Some.rest.now pairs fits (c.in-Some.ensures.whole true (length pairs) (body (map pair_entry pairs)) is) c.in_default-seek.ensures

pub returns-in_default-seek-clause-inner : goal.returns-in_default-seek-clause-inner
returns-in_default-seek-clause-inner c = λ children fits some is. unsought_inner c.in-Some.leaf c.in-Some.count c.in-Some.rest.now children fits (c.in-Some.ensures.whole false (length children) (body (map child_entry children)) is) c.in_default-seek.ensures

pub returns-clause-leaf : goal.returns-clause-leaf
returns-clause-leaf c = λ pairs fits is. looked_leaf c.in-Some.leaf (is_ahead c.args.bound.now) c.in-Some.count c.in-Some-seek.left c.in-Some.rest.now c.in-Some-seek.rest.now pairs c.first_found.result fits (c.in-Some.ensures.whole true (length pairs) (body (map pair_entry pairs)) is) c.in-Some-seek.ensures c.first_found.ensures.none c.first_found.ensures.pair

pub returns-clause-inner : goal.returns-clause-inner
returns-clause-inner c = λ children fits some is. looked_inner c.in-Some.leaf (is_ahead c.args.bound.now) c.in-Some.count c.in-Some-seek.left c.in-Some.rest.now c.in-Some-seek.rest.now children c.first_found.result fits some (c.in-Some.ensures.whole false (length children) (body (map child_entry children)) is) c.in-Some-seek.ensures c.first_found.ensures.child
