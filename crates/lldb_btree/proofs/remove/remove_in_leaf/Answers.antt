use Rattle.std.proofs.Common.{true, map, sym, ◌∙◌, arith}
use Rattle.lldb_btree.specs.declared.bound.Bound.TheVariants.{From}
use Rattle.lldb_btree.specs.Bounds.{is_ahead}
use Rattle.lldb_btree.specs.Nodes.{pair_entry}
use Rattle.lldb_btree.specs.Reading.{IsSought}
use Rattle.lldb_btree.proofs.Drops.{leaf_lacks, leaf_dropped}
use Rattle.lldb_btree.proofs.Leaves.{sought}
use Rattle.lldb_btree.proofs.Lengths.{many_of}
use Rattle.lldb_btree.proofs.Placing.{sought_fits}
use Rattle.lldb_btree.proofs.Spelling.{pairs_fit}
use Rattle.lldb_btree.proofs.remove.remove_in_leaf.Goals as goal

pub returns-in_default-clause-refuses : goal.returns-in_default-clause-refuses
returns-in_default-clause-refuses c = λ pairs fits len is. c.in_default.ensures (map pair_entry pairs) (pairs_fit pairs fits) (many_of pair_entry pairs ∙ len) is

pub returns-in_default-past_key-clause-refuses : goal.returns-in_default-past_key-clause-refuses
returns-in_default-past_key-clause-refuses c = λ pairs fits len is.
    let found : IsSought true (is_ahead (From c.args.wanted.now.key)) (map pair_entry pairs) c.in-Some.rest.now c.in-Some.left = rw (sym c.args.wanted.now.from_is) (c.in-Some.ensures (map pair_entry pairs) (pairs_fit pairs fits) (many_of pair_entry pairs ∙ len) is) in
    c.in_default-past_key.ensures.past (sought c.args.wanted.now.key pairs) (sought_fits c.args.wanted.now.key pairs fits) (sym found.1) found.0

pub returns-then-more-gt0-clause-taken : goal.returns-then-more-gt0-clause-taken
returns-then-more-gt0-clause-taken c = λ pairs fits len is.
    let found : IsSought true (is_ahead (From c.args.wanted.now.key)) (map pair_entry pairs) c.in-Some.rest.now c.in-Some.left = rw (sym c.args.wanted.now.from_is) (c.in-Some.ensures (map pair_entry pairs) (pairs_fit pairs fits) (many_of pair_entry pairs ∙ len) is) in
    let past = rw c.as_slice.ensures at c.in-Some-past_key.ensures.past (sought c.args.wanted.now.key pairs) (sought_fits c.args.wanted.now.key pairs fits) (sym found.1) found.0 in
    leaf_lacks c.args.wanted.now.key pairs c.in-Some.left c.in-Some-past_key.more c.in-Some.rest.now c.in-Some-past_key.back.now found past (omega (arith, c.if-more-gt0.true)) c.in-Some-past_key.ensures.most

pub returns-clause-taken : goal.returns-clause-taken
returns-clause-taken c = λ pairs fits len is.
    let found : IsSought true (is_ahead (From c.args.wanted.now.key)) (map pair_entry pairs) c.in-Some.rest.now c.in-Some.left = rw (sym c.args.wanted.now.from_is) (c.in-Some.ensures (map pair_entry pairs) (pairs_fit pairs fits) (many_of pair_entry pairs ∙ len) is) in
    let past = rw c.as_slice.ensures at c.in-Some-past_key.ensures.past (sought c.args.wanted.now.key pairs) (sought_fits c.args.wanted.now.key pairs fits) (sym found.1) found.0 in
    leaf_dropped c.args.wanted.now.key pairs c.args.count c.in-Some.left c.in-Some-past_key.more c.saturating_sub.result c.args.bytes.now c.in-Some.rest.now c.front_of-front.result.now c.in-Some-past_key.back.now c.in_ok-node.node len is found past (omega (arith, c.if-more-gt0.false)) c.front_of-front.ensures (omega (arith, c.saturating_sub.ensures)) c.in_ok-node.ensures
