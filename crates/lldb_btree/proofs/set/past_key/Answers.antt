use Rattle.std.proofs.Common.{true, sym, ◌∙◌, arith}
use Rattle.lldb_btree.proofs.Past.{past_none, past_less, past_equal, past_greater}
use Rattle.lldb_btree.proofs.Splitting.{seek_bad}
use Rattle.lldb_btree.proofs.set.past_key.Goals as goal

pub returns-then-left-eq0-clause-past : goal.returns-then-left-eq0-clause-past
returns-then-left-eq0-clause-past c = λ es fits len is. past_none c.args.key.now c.args.left c.args.bytes.now c.if-left-eq0.true es len is

pub returns-in_err-first-clause-past : goal.returns-in_err-first-clause-past
returns-in_err-first-clause-past c = λ es fits len is. absurd (seek_bad true c.args.left c.args.bytes.now (λ z. absurd (omega (arith, z, c.if-left-eq0.false))) c.in_err-first.ensures.whole es fits len is)

pub returns-in-Less-clause-past : goal.returns-in-Less-clause-past
returns-in-Less-clause-past c = past_less c.args.key.now c.args.left c.args.bytes.now c.in_ok-first.first.now c.in_ok-first.field-0-1.now c.in_ok-first.rest.now (λ z. absurd (omega (arith, z, c.if-left-eq0.false))) c.in_ok-first.ensures.whole (sym c.cmp.ensures ∙ c.in-Less.is)

pub returns-in-Equal-clause-past : goal.returns-in-Equal-clause-past
returns-in-Equal-clause-past c = past_equal c.args.key.now c.args.left c.args.bytes.now c.in_ok-first.first.now c.in_ok-first.field-0-1.now c.in_ok-first.rest.now (λ z. absurd (omega (arith, z, c.if-left-eq0.false))) c.in_ok-first.ensures.whole (sym c.cmp.ensures ∙ c.in-Equal.is)

pub returns-in-Greater-clause-past : goal.returns-in-Greater-clause-past
returns-in-Greater-clause-past c = past_greater c.args.key.now c.args.left c.args.bytes.now c.in_ok-first.first.now c.in_ok-first.field-0-1.now c.in_ok-first.rest.now (λ z. absurd (omega (arith, z, c.if-left-eq0.false))) c.in_ok-first.ensures.whole (sym c.cmp.ensures ∙ c.in-Greater.is)
