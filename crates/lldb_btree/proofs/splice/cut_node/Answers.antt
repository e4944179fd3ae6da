use Rattle.std.proofs.Common.{◌-◌, ◌/◌, length, take, drop, refl, sym, ap}
use Rattle.lldb_btree.specs.Nodes.{body}
use Rattle.lldb_btree.proofs.Splices.{head_is, half_low, halves_whole, cut_front, cut_back}
use Rattle.lldb_btree.proofs.splice.cut_node.Goals as goal

pub returns-in_default-skip-clause-refuses : goal.returns-in_default-skip-clause-refuses
returns-in_default-skip-clause-refuses c = λ leaf es a some.
    let h = head_is leaf c.in-Some.leaf es c.args.node.now c.in-Some.bytes.now c.in-Some.count a c.in-Some.ensures.whole in
    c.in_default-skip.ensures es (rw h.0 a.fits) (half_low c.in-Some.count (length es) h.1) h.2

pub returns-clause-front : goal.returns-clause-front
returns-clause-front c = λ leaf es a.
    let h = head_is leaf c.in-Some.leaf es c.args.node.now c.in-Some.bytes.now c.in-Some.count a c.in-Some.ensures.whole in
    let rest = c.in-Some-skip.ensures es (rw h.0 a.fits) (half_low c.in-Some.count (length es) h.1) h.2 in
    cut_front leaf c.in-Some.leaf es c.in-Some.count c.front_of.result.now c.in_ok-front.front a.fits h.1 h.0
    (c.front_of.ensures (body (take (c.in-Some.count / 2) es)) (body (drop (c.in-Some.count / 2) es)) (halves_whole (c.in-Some.count / 2) es c.in-Some.bytes.now h.2) (ap length (sym rest)))
    c.in_ok-front.ensures

pub returns-clause-back : goal.returns-clause-back
returns-clause-back c = λ leaf es a.
    let h = head_is leaf c.in-Some.leaf es c.args.node.now c.in-Some.bytes.now c.in-Some.count a c.in-Some.ensures.whole in
    let rest = c.in-Some-skip.ensures es (rw h.0 a.fits) (half_low c.in-Some.count (length es) h.1) h.2 in
    cut_back leaf c.in-Some.leaf es c.in-Some.count (c.in-Some.count - c.in-Some.count / 2) c.in-Some-skip.rest.now c.in_ok-back.back a.fits h.1 refl h.0 rest c.in_ok-back.ensures
