use Rattle.std.proofs.Common.{[], arith}
use Rattle.lldb_btree.proofs.Neighbours.{last_of, last_fits, last_many, last_left, last_front}
use Rattle.lldb_btree.proofs.mend.last_child.Goals as goal

pub returns-in_err-last : goal.returns-in_err-last
returns-in_err-last c = λ cs one fits fit n is. absurd (c.in_err-last.ensures (last_of cs one) (last_fits cs one fits fit) (last_many cs one c.args.count c.saturating_sub.result n (omega (arith, c.saturating_sub.ensures))) is)

pub returns-in_err-handle : goal.returns-in_err-handle
returns-in_err-handle c = λ cs one fits fit n is.
    let left = c.in_ok-last.ensures (last_of cs one) (last_fits cs one fits fit) (last_many cs one c.args.count c.saturating_sub.result n (omega (arith, c.saturating_sub.ensures))) is in
    absurd (c.in_err-handle.ensures one [] fit (last_left cs one c.args.count c.saturating_sub.result c.in_ok-last.last.now n (omega (arith, c.saturating_sub.ensures)) left))

pub returns : goal.returns
returns c = λ cs one fits fit n is.
    let left = c.in_ok-last.ensures (last_of cs one) (last_fits cs one fits fit) (last_many cs one c.args.count c.saturating_sub.result n (omega (arith, c.saturating_sub.ensures))) is in
    let last = last_left cs one c.args.count c.saturating_sub.result c.in_ok-last.last.now n (omega (arith, c.saturating_sub.ensures)) left in
    let f = c.in_ok-handle.ensures one [] fit last in
    (last_front cs one c.args.bytes.now c.in_ok-last.last.now c.front_of.result.now is last c.front_of.ensures, f.0)
