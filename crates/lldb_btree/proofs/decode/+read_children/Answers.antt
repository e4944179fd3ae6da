use Rattle.std.proofs.Common.{◌≡◌, ◌<◌, ◌-◌, ℕ, List, [], map, option_map, Bor, Some, arith}
use Rattle.lldb_btree.specs.Decoding.{AreChildren}
use Rattle.lldb_btree.specs.Nodes.{body, child_entry}
use Rattle.lldb_btree.proofs.Decodes.{first_child, children_end, children_added, children_next, follows_too, bad_on, on_ok}
use Rattle.lldb_btree.proofs.Splitting.{refused_by, granted_by}
use Rattle.lldb_btree.proofs.decode.+read_children.Goals as goal

pub returns-then-left-eq0-clause-refused : goal.returns-then-left-eq0-clause-refused
returns-then-left-eq0-clause-refused t c = bad_on (λ (u : Unit {0}). c.args.bytes.now ≡ []) (AreChildren (option_map (λ (k : Bor (List ℕ)). k.now) c.args.above) c.args.left c.args.bytes.now) c.at_end.result (λ xs a. (tt, children_end (option_map (λ (k : Bor (List ℕ)). k.now) c.args.above) c.args.left c.args.bytes.now xs c.if-left-eq0.true a)) c.at_end.ensures.refused

pub returns-in_default-clause-refused : goal.returns-in_default-clause-refused
returns-in_default-clause-refused t c = λ xs a.
    let f = first_child (option_map (λ (k : Bor (List ℕ)). k.now) c.args.above) c.args.left c.args.bytes.now xs a (omega (arith, c.if-left-eq0.false)) in
    c.in_default.ensures.whole (child_entry f.one) (body (map child_entry f.more)) f.entry_fits f.bytes_are

pub returns-then-not-may_follow-clause-refused : goal.returns-then-not-may_follow-clause-refused
returns-then-not-may_follow-clause-refused t c = λ xs a.
    let f = first_child (option_map (λ (k : Bor (List ℕ)). k.now) c.args.above) c.args.left c.args.bytes.now xs a (omega (arith, c.if-left-eq0.false)) in
    let w = c.in-Some.ensures.whole (child_entry f.one) (body (map child_entry f.more)) f.entry_fits f.bytes_are in
    refused_by c.may_follow.result _ c.may_follow.ensures c.if-not-may_follow.true (follows_too (option_map (λ (k : Bor (List ℕ)). k.now) c.args.above) c.in-Some.key.now f.one.key w.0 f.follows)

pub returns-clause-read : goal.returns-clause-read
returns-clause-read t c =
    let some : 0 < c.args.left = omega (arith, c.if-left-eq0.false) in
    on_ok c.read_children.result (children_added (option_map (λ (k : Bor (List ℕ)). k.now) c.args.above) c.in-Some.key.now c.in-Some.tail.now c.in-Some.rest.now c.args.bytes.now c.args.left c.in_ok-child.child c.args.children.now c.push.new.self c.read_children.new.children (granted_by c.may_follow.result _ c.may_follow.ensures c.if-not-may_follow.false) c.in-Some.ensures.is.0 some (c.in_ok-child.ensures.key, c.in_ok-child.ensures.handle, c.in_ok-child.ensures.range) c.in_ok-push.ensures.ok) c.read_children.ensures.read

pub returns-clause-refused : goal.returns-clause-refused
returns-clause-refused t c = bad_on (AreChildren (Some c.in-Some.key.now) (c.args.left - 1) c.in-Some.rest.now) (AreChildren (option_map (λ (k : Bor (List ℕ)). k.now) c.args.above) c.args.left c.args.bytes.now) c.read_children.result
    (λ xs a.
    let f = first_child (option_map (λ (k : Bor (List ℕ)). k.now) c.args.above) c.args.left c.args.bytes.now xs a (omega (arith, c.if-left-eq0.false)) in
    let w = c.in-Some.ensures.whole (child_entry f.one) (body (map child_entry f.more)) f.entry_fits f.bytes_are in
    (f.more, children_next c.in-Some.key.now f.one.key c.in-Some.rest.now (body (map child_entry f.more)) (c.args.left - 1) f.more w.0 w.2 f.next))
    c.read_children.ensures.refused
