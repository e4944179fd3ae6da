use Rattle.std.proofs.Common.{length, sym}
use Rattle.lldb_btree.specs.Nodes.{body}
use Rattle.lldb_btree.proofs.Splices.{head_is}
use Rattle.lldb_btree.proofs.splice.key_of.Goals as goal

pub returns-in_err-leaf-clause-last : goal.returns-in_err-leaf-clause-last
returns-in_err-leaf-clause-last c = λ leaf es a some. absurd (c.in_err-leaf.ensures.whole leaf (length es) (body es) a.is)

pub returns-clause-last : goal.returns-clause-last
returns-clause-last c = λ leaf es a some.
    let h = head_is leaf c.in_ok-leaf.leaf es c.args.node.now c.in_ok-leaf.bytes.now c.in_ok-leaf.count a c.in_ok-leaf.ensures.whole in
    c.last_key.ensures.last es (rw h.0 a.fits) (sym h.1) some h.2
