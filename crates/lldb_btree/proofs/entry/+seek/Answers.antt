use Rattle.std.proofs.Common.{sym, ◌∙◌, arith}
use Rattle.lldb_btree.specs.Bounds.{is_ahead}
use Rattle.lldb_btree.proofs.Splitting.{seek_bad, seek_stops, seek_goes}
use Rattle.lldb_btree.proofs.entry.+seek.Goals as goal

pub returns-in_err-key : goal.returns-in_err-key
returns-in_err-key t c = λ es fits len is. absurd (seek_bad c.args.leaf c.args.left c.args.bytes.now (λ z. absurd (omega (arith, z, c.if-left-eq0.false))) c.in_err-key.ensures.whole es fits len is)

pub returns-then-ends_here : goal.returns-then-ends_here
returns-then-ends_here t c = λ es fits len is. seek_stops c.args.leaf (is_ahead c.args.bound.now) c.args.left c.args.bytes.now c.in_ok-key.key.now c.in_ok-key.field-0-1.now c.in_ok-key.rest.now (λ z. absurd (omega (arith, z, c.if-left-eq0.false))) c.in_ok-key.ensures.whole (sym c.ends_here.ensures ∙ c.if-ends_here.true) es fits len is

pub returns : goal.returns
returns t c = λ es fits len is. seek_goes c.args.leaf (is_ahead c.args.bound.now) c.args.left c.args.bytes.now c.in_ok-key.key.now c.in_ok-key.field-0-1.now c.in_ok-key.rest.now c.seek.result (λ z. absurd (omega (arith, z, c.if-left-eq0.false))) c.in_ok-key.ensures.whole (sym c.ends_here.ensures ∙ c.if-ends_here.false) c.seek.ensures es fits len is
