use Rattle.std.proofs.Common.{true, false, sym, ◌∙◌}
use Rattle.ql_syntax.specs.Lexemes.{is_count, is_function, is_open}
use Rattle.ql_cursor.proofs.StepLemmas.{exits}
use Rattle.ql_parse_expr.proofs.CallLemmas.{two_behind, two_before, by_text, count_by_text, function_by_text, gives_column, fails_column, gives_count, fails_count, gives_call, fails_call, function_is_count, not_count}
use Rattle.ql_parse_expr.proofs.parser.Parser.column_or_call.Goals as goal

pub returns-in_err-column : goal.returns-in_err-column
returns-in_err-column g c =
    let behind = sym c.sees_open_behind.ensures ∙ c.if-not-sees_open_behind.true in
    exits _ _ _ _ c.from_residual.ensures.1
    (fails_column _ c.requires.name (two_behind is_count is_open c.args.cursor.now behind) (two_behind is_function is_open c.args.cursor.now behind) (c.in_err-column.ensures _))

pub returns-then-not-sees_open_behind : goal.returns-then-not-sees_open_behind
returns-then-not-sees_open_behind g c =
    let behind = sym c.sees_open_behind.ensures ∙ c.if-not-sees_open_behind.true in
    gives_column _ c.requires.name (two_behind is_count is_open c.args.cursor.now behind) (two_behind is_function is_open c.args.cursor.now behind) (c.in_ok-column.ensures _)

pub returns-in_err-column-2 : goal.returns-in_err-column-2
returns-in_err-column-2 g c =
    let none = rw c.text.ensures at c.in_default.ensures.none in
    exits _ _ _ _ c.from_residual-in_err-column-2.ensures.1
    (fails_column _ c.requires.name (two_before is_count is_open c.args.cursor.now (by_text is_count false c.args.cursor.now c.requires.name none.0 count_by_text))
    (two_before is_function is_open c.args.cursor.now (by_text is_function false c.args.cursor.now c.requires.name none.1 function_by_text)) (c.in_err-column-2.ensures _))

pub returns-in_default : goal.returns-in_default
returns-in_default g c =
    let none = rw c.text.ensures at c.in_default.ensures.none in
    gives_column _ c.requires.name (two_before is_count is_open c.args.cursor.now (by_text is_count false c.args.cursor.now c.requires.name none.0 count_by_text))
    (two_before is_function is_open c.args.cursor.now (by_text is_function false c.args.cursor.now c.requires.name none.1 function_by_text)) (c.in_ok-column-2.ensures _)

pub returns-in_err-count_call : goal.returns-in_err-count_call
returns-in_err-count_call g c =
    let count = rw c.text.ensures at c.in-Some.ensures.count in
    let is_count_name = by_text is_count true c.args.cursor.now c.requires.name (count ∙ sym c.is_count.ensures ∙ c.if-is_count.true) count_by_text in
    exits _ _ _ _ c.from_residual-in_err-count_call.ensures.1
    (fails_count c.args.cursor.now c.requires.name is_count_name (sym c.sees_open_behind.ensures ∙ c.if-not-sees_open_behind.false) c.skip.ensures c.in_err-count_call.ensures)

pub returns-in_err-call : goal.returns-in_err-call
returns-in_err-call g c =
    let count = rw c.text.ensures at c.in-Some.ensures.count in
    let other = rw c.text.ensures at c.in-Some.ensures.other in
    let none = count ∙ sym c.is_count.ensures ∙ c.if-is_count.false in
    exits _ _ _ _ c.from_residual-in_err-call.ensures.1
    (fails_call c.args.cursor.now c.requires.name (by_text is_count false c.args.cursor.now c.requires.name none count_by_text)
    (by_text is_function true c.args.cursor.now c.requires.name (not_count _ _ other none) function_by_text)
    (sym c.sees_open_behind.ensures ∙ c.if-not-sees_open_behind.false) c.skip.ensures c.in_err-call.ensures)

pub returns-in_ok-count_call : goal.returns-in_ok-count_call
returns-in_ok-count_call g c =
    let count = rw c.text.ensures at c.in-Some.ensures.count in
    let some = rw c.text.ensures at c.in-Some.ensures.some in
    let is_count_name = by_text is_count true c.args.cursor.now c.requires.name (count ∙ sym c.is_count.ensures ∙ c.if-is_count.true) count_by_text in
    gives_count c.args.cursor.now c.requires.name is_count_name (sym c.sees_open_behind.ensures ∙ c.if-not-sees_open_behind.false)
    (sym some ∙ function_is_count _ (sym c.is_count.ensures ∙ c.if-is_count.true)) c.skip.ensures c.in_ok-count_call.ensures

pub returns-in_ok-call : goal.returns-in_ok-call
returns-in_ok-call g c =
    let count = rw c.text.ensures at c.in-Some.ensures.count in
    let other = rw c.text.ensures at c.in-Some.ensures.other in
    let some = rw c.text.ensures at c.in-Some.ensures.some in
    let none = count ∙ sym c.is_count.ensures ∙ c.if-is_count.false in
    gives_call c.args.cursor.now c.requires.name (by_text is_count false c.args.cursor.now c.requires.name none count_by_text)
    (by_text is_function true c.args.cursor.now c.requires.name (not_count _ _ other none) function_by_text)
    (sym c.sees_open_behind.ensures ∙ c.if-not-sees_open_behind.false) some c.skip.ensures c.in_ok-call.ensures
