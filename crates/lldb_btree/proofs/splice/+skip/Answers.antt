use Rattle.std.proofs.Common.{arith}
use Rattle.lldb_btree.proofs.Splices.{skip_none, skip_bad, skip_goes}
use Rattle.lldb_btree.proofs.splice.+skip.Goals as goal

pub returns-then-count-eq0 : goal.returns-then-count-eq0
returns-then-count-eq0 t c = λ es fits low is. skip_none c.args.count c.args.bytes.now es c.if-count-eq0.true is

pub returns-in_err-rest : goal.returns-in_err-rest
returns-in_err-rest t c = λ es fits low is. absurd (skip_bad c.args.leaf c.args.count c.args.bytes.now (λ z. absurd (omega (arith, z, c.if-count-eq0.false))) c.in_err-rest.ensures.whole es fits low is)

pub returns : goal.returns
returns t c = λ es fits low is. skip_goes c.args.leaf c.args.count c.args.bytes.now c.in_ok-rest.field-0-0.now c.in_ok-rest.field-0-1.now c.in_ok-rest.rest.now c.skip.result (λ z. absurd (omega (arith, z, c.if-count-eq0.false))) c.in_ok-rest.ensures.whole c.skip.ensures es fits low is
