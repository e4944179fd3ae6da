use Rattle.std.proofs.Common.{refl, sym, ◌∙◌}
use Rattle.ql_syntax.specs.Readings.{left, right, first, second}
use Rattle.ql_cursor.proofs.StepLemmas.{taken}
use Rattle.ql_cursor.proofs.Sequences.{fails_neither}
use Rattle.ql_parse_expr.proofs.from.side.Goals as goal

pub returns-then-sees_word : goal.returns-then-sees_word
returns-then-sees_word c n =
    let e = sym c.sees_word.ensures ∙ c.if-sees_word.true in
    let t = taken n e c.skip.ensures in
    record { parse = left t.parse; reads = first e t.reads; means = refl }

pub returns-then-sees_word-2 : goal.returns-then-sees_word-2
returns-then-sees_word-2 c n =
    let f = sym c.sees_word.ensures ∙ c.if-sees_word.false in
    let e = sym c.sees_word-2.ensures ∙ c.if-sees_word-2.true in
    let t = taken n e c.skip-then-sees_word-2.ensures in
    record { parse = right (left t.parse); reads = second f (rw e refl) (first e t.reads); means = refl }

pub returns-then-sees_word-3 : goal.returns-then-sees_word-3
returns-then-sees_word-3 c n =
    let f = sym c.sees_word.ensures ∙ c.if-sees_word.false in
    let g = sym c.sees_word-2.ensures ∙ c.if-sees_word-2.false in
    let e = sym c.sees_word-3.ensures ∙ c.if-sees_word-3.true in
    let t = taken n e c.skip-then-sees_word-3.ensures in
    record { parse = right (right t.parse); reads = second f (rw (g, e) refl) (second g e t.reads); means = refl }

pub returns : goal.returns
returns c n =
    let f = sym c.sees_word.ensures ∙ c.if-sees_word.false in
    let g = sym c.sees_word-2.ensures ∙ c.if-sees_word-2.false in
    let h = sym c.sees_word-3.ensures ∙ c.if-sees_word-3.false in
    fails_neither f (rw (g, h) refl) c.unexpected.ensures
