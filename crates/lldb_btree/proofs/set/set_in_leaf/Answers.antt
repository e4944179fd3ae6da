use Rattle.std.proofs.Common.{◌+◌, true, map, refl, sym, ◌∙◌}
use Rattle.lldb_btree.specs.declared.bound.Bound.TheVariants.{From}
use Rattle.lldb_btree.specs.Bounds.{is_ahead}
use Rattle.lldb_btree.specs.Nodes.{pair_entry}
use Rattle.lldb_btree.specs.Reading.{IsSought}
use Rattle.lldb_btree.proofs.Ends.{leaf_ends}
use Rattle.lldb_btree.proofs.Leaves.{sought}
use Rattle.lldb_btree.proofs.Lengths.{many_of}
use Rattle.lldb_btree.proofs.Placing.{sought_fits, leaf_placed}
use Rattle.lldb_btree.proofs.Spelling.{pairs_fit}
use Rattle.lldb_btree.proofs.set.set_in_leaf.Goals as goal

pub returns-in_default-clause-refuses : goal.returns-in_default-clause-refuses
returns-in_default-clause-refuses c = λ pairs fits len is. c.in_default.ensures (map pair_entry pairs) (pairs_fit pairs fits) (many_of pair_entry pairs ∙ len) is

pub returns-in_default-past_key-clause-refuses : goal.returns-in_default-past_key-clause-refuses
returns-in_default-past_key-clause-refuses c = λ pairs fits len is.
    let found : IsSought true (is_ahead (From c.args.put.now.key)) (map pair_entry pairs) c.in-Some.rest.now c.in-Some.left = rw (sym c.args.put.now.from_is) (c.in-Some.ensures (map pair_entry pairs) (pairs_fit pairs fits) (many_of pair_entry pairs ∙ len) is) in
    c.in_default-past_key.ensures.past (sought c.args.put.now.key pairs) (sought_fits c.args.put.now.key pairs fits) (sym found.1) found.0

pub returns-clause-set : goal.returns-clause-set
returns-clause-set c = λ pairs fits len is.
    let found : IsSought true (is_ahead (From c.args.put.now.key)) (map pair_entry pairs) c.in-Some.rest.now c.in-Some.left = rw (sym c.args.put.now.from_is) (c.in-Some.ensures (map pair_entry pairs) (pairs_fit pairs fits) (many_of pair_entry pairs ∙ len) is) in
    let past = rw c.as_slice.ensures at c.in-Some-past_key.ensures.past (sought c.args.put.now.key pairs) (sought_fits c.args.put.now.key pairs fits) (sym found.1) found.0 in
    leaf_placed c.args.put.now.key c.args.put.now.value pairs c.args.count c.in-Some.left c.in-Some-past_key.more (c.args.count + c.in-Some-past_key.more) c.args.bytes.now c.in-Some.rest.now c.front_of-front.result.now c.in-Some-past_key.back.now c.as_slice-2.result.now c.in_ok-node.node len is found past c.front_of-front.ensures (c.as_slice-2.ensures ∙ c.args.put.now.entry_is) refl c.in_ok-node.ensures

pub returns-clause-ends : goal.returns-clause-ends
returns-clause-ends c = λ pairs fits len is.
    let found : IsSought true (is_ahead (From c.args.put.now.key)) (map pair_entry pairs) c.in-Some.rest.now c.in-Some.left = rw (sym c.args.put.now.from_is) (c.in-Some.ensures (map pair_entry pairs) (pairs_fit pairs fits) (many_of pair_entry pairs ∙ len) is) in
    let past = rw c.as_slice.ensures at c.in-Some-past_key.ensures.past (sought c.args.put.now.key pairs) (sought_fits c.args.put.now.key pairs fits) (sym found.1) found.0 in
    λ on. leaf_ends c.args.put.now.key c.args.put.now.value pairs c.in-Some-past_key.back.now past.0 (c.is_last-ends.ensures on).1
