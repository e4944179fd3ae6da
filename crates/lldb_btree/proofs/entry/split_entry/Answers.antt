use Rattle.std.proofs.Common.{List, ℕ, ◌++◌, length, ap, sym, ◌∙◌, arith, w16}
use Rattle.std.specs.Int.{to_be_bytes}
use Rattle.lldb_btree.proofs.Spelling.{entry_front}
use Rattle.lldb_btree.proofs.entry.split_entry.Goals as goal

pub returns-in_err-key-clause-whole : goal.returns-in_err-key-clause-whole
returns-in_err-key-clause-whole c = λ e more fits is. absurd (c.in_err-key.ensures.whole e.key (e.tail ++ more) (omega (arith, fits.key)) (is ∙ entry_front e more))

pub returns-in_err-tail-clause-whole : goal.returns-in_err-tail-clause-whole
returns-in_err-tail-clause-whole c = λ e more fits is.
    let k = c.in_ok-key.ensures.whole e.key (e.tail ++ more) (omega (arith, fits.key)) (is ∙ entry_front e more) in
    absurd (c.in_err-tail.ensures.whole e.tail more fits.tail k.1)

pub returns-clause-is : goal.returns-clause-is
returns-clause-is c =
    let key = c.in_ok-key.key.now in
    (c.in_ok-key.ensures.is ∙ ap (λ (l : List ℕ). to_be_bytes w16 (length key) ++ (key ++ l)) c.in_ok-tail.ensures.is.0 ∙ sym (entry_front (record { key = key; tail = c.in_ok-tail.tail.now }) c.in_ok-tail.rest.now), c.in_ok-tail.ensures.is.1)

pub returns-clause-whole : goal.returns-clause-whole
returns-clause-whole c = λ e more fits is.
    let k = c.in_ok-key.ensures.whole e.key (e.tail ++ more) (omega (arith, fits.key)) (is ∙ entry_front e more) in
    let t = c.in_ok-tail.ensures.whole e.tail more fits.tail k.1 in
    (k.0, t.0, t.1)
