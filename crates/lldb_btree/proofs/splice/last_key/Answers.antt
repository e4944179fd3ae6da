use Rattle.std.proofs.Common.{◌-◌, [], length, refl, ap, ◌∙◌, arith}
use Rattle.lldb_btree.proofs.Splices.{last_one, last_bytes}
use Rattle.lldb_btree.proofs.splice.last_key.Goals as goal

pub returns-in_err-last-clause-last : goal.returns-in_err-last-clause-last
returns-in_err-last-clause-last c = λ es fits len some is. absurd (c.in_err-last.ensures es fits (omega (arith, len)) is)

pub returns-in_err-key-clause-last : goal.returns-in_err-key-clause-last
returns-in_err-key-clause-last c = λ es fits len some is.
    let o = last_one c.args.leaf es fits some in
    absurd (c.in_err-key.ensures.whole o.one [] o.fits (last_bytes c.args.leaf es c.args.count (c.args.count - 1) c.in_ok-last.last.now o len refl (c.in_ok-last.ensures es fits (omega (arith, len)) is)))

pub returns-then-len-gt-KEY_LIMIT-clause-last : goal.returns-then-len-gt-KEY_LIMIT-clause-last
returns-then-len-gt-KEY_LIMIT-clause-last c = λ es fits len some is.
    let o = last_one c.args.leaf es fits some in
    let w = c.in_ok-key.ensures.whole o.one [] o.fits (last_bytes c.args.leaf es c.args.count (c.args.count - 1) c.in_ok-last.last.now o len refl (c.in_ok-last.ensures es fits (omega (arith, len)) is)) in
    absurd (omega (arith, c.if-len-gt-KEY_LIMIT.true, ap length w.0, o.fits.key))

pub returns-clause-last : goal.returns-clause-last
returns-clause-last c = λ es fits len some is.
    let o = last_one c.args.leaf es fits some in
    let w = c.in_ok-key.ensures.whole o.one [] o.fits (last_bytes c.args.leaf es c.args.count (c.args.count - 1) c.in_ok-last.last.now o len refl (c.in_ok-last.ensures es fits (omega (arith, len)) is)) in
    w.0 ∙ o.key
