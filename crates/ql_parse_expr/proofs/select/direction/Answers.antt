use Rattle.std.proofs.Common.{refl, sym, ◌∙◌}
use Rattle.ql_syntax.specs.Readings.{left, right, present, absent, first, second, entered, left_out}
use Rattle.ql_cursor.proofs.StepLemmas.{taken}
use Rattle.ql_parse_expr.proofs.select.direction.Goals as goal

pub returns-then-sees_word : goal.returns-then-sees_word
returns-then-sees_word c n =
    let e = sym c.sees_word.ensures ∙ c.if-sees_word.true in
    let t = taken n e c.skip.ensures in
    record { parse = present (left t.parse); reads = entered (rw e refl) (first e t.reads); means = refl }

pub returns-then-sees_word-2 : goal.returns-then-sees_word-2
returns-then-sees_word-2 c n =
    let f = sym c.sees_word.ensures ∙ c.if-sees_word.false in
    let e = sym c.sees_word-2.ensures ∙ c.if-sees_word-2.true in
    let t = taken n e c.skip-then-sees_word-2.ensures in
    record { parse = present (right t.parse); reads = entered (rw (f, e) refl) (second f e t.reads); means = refl }

pub returns : goal.returns
returns c n =
    let f = sym c.sees_word.ensures ∙ c.if-sees_word.false in
    let g = sym c.sees_word-2.ensures ∙ c.if-sees_word-2.false in
    record { parse = absent; reads = left_out (rw (f, g) refl); means = refl }
