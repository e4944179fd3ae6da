-- Every primary that was read is printed, and read again as the same.
use Rattle.std.proofs.Common.{◌≡◌, ℕ, zero, suc, Bool, List, ◌∷◌, refl}
use Rattle.ql_lex.specs.Meaning.{text_value}
use Rattle.ql_lex.specs.Numbers.{number_value}
use Rattle.ql_lex.specs.declared.marks.Mark.TheVariants as m
use Rattle.ql_syntax.specs.declared.syntax.Expr.{Expr}
use Rattle.ql_syntax.specs.declared.syntax.Expr.TheVariants as e
use Rattle.ql_syntax.specs.declared.syntax.Function.{Function}
use Rattle.ql_syntax.specs.declared.syntax.Function.TheVariants as f
use Rattle.ql_syntax.specs.Lexemes.{Lexeme, is_comma}
use Rattle.ql_syntax.specs.Rules.{further, the, expr, select, unary, primary}
use Rattle.ql_syntax.specs.Readings.{Parse, Reads}
use Rattle.ql_syntax.specs.Readings as r
use Rattle.ql_syntax.specs.Trees.{expr_of, exprs_of, select_of, after_number, after_null, kind_named, function_named}
use Rattle.ql_syntax.specs.ReadsBack.{plain_expr}
use Rattle.ql_print.proofs.BackTokens.{mark_token, expr_before}
use Rattle.ql_print.proofs.BackParts.{Kept, Avoids, after_primary, after_expr, Back}
use Rattle.ql_print.proofs.BackLists.{more_again, listed, expr_item, BackItem, BackExprs, BackExprList}
use Rattle.ql_print.proofs.BackCalls.{count_named, function_called}
use Rattle.ql_print.proofs.BackPrimary.{after_number_rule, after_null_rule, number_again, text_again, true_again, false_again, null_again, count_again, count_parts_again, call_again, call_parts_again, back_column, paren_again, convert_again}
use Rattle.ql_print.proofs.BackTests.{BackSelect, back_ops, signed_again, primary_prefix}
use Rattle.ql_print.proofs.BackSelectParts.{after_select}

-- expressions are read again, with room for so many more brackets
pub record ExprsAgain (n : ℕ) : Type 0 where
  pub again : {ts r : List Lexeme} {a : Parse} → Reads n (the expr) ts a r → Kept a → (rest : List Lexeme) → Avoids after_expr rest → Back n expr (expr_of a) rest

-- a SELECT is read again, with room for so many more brackets
pub record SelectsAgain (n : ℕ) : Type 0 where
  pub again : {ts r : List Lexeme} {a : Parse} → Reads n (the select) ts a r → Kept a → (rest : List Lexeme) → Avoids after_select rest → BackSelect n (select_of a) rest

-- what stands in brackets is read again
abbrev pub Inner : ℕ → Type 0
Inner zero = Unit {0}
Inner (suc n) = ExprsAgain n × SelectsAgain n

each_expr : {n : ℕ} → ExprsAgain n → (ts r : List Lexeme) (a : Parse) → Reads n (the expr) ts a r → Kept a → (rest : List Lexeme) → Avoids after_expr rest → BackItem n (the expr) expr_before expr_of plain_expr (expr_of a) rest
each_expr known ts r a h kept rest after = expr_item (known.again h kept rest after)

-- further expressions of a list
pub more_exprs : {n : ℕ} {ts r : List Lexeme} {a : Parse} → ExprsAgain n → Reads n (further (the expr)) ts a r → Kept a → (rest : List Lexeme) → Avoids (is_comma ∷ after_expr) rest → BackExprs n (exprs_of a) rest
more_exprs known h kept rest after = more_again {meaning = expr_of} refl (λ a b. refl) (λ ts. record { none = refl }) (each_expr known) h kept rest after

-- a list of expressions
pub back_exprs : {n : ℕ} {ts mid r : List Lexeme} {a b : Parse} → ExprsAgain n → Reads n (the expr) ts a mid → Reads n (further (the expr)) mid b r → Kept a → Kept b → (rest : List Lexeme) → Avoids (is_comma ∷ after_expr) rest →
    BackExprList n (expr_of a ∷ exprs_of b) rest
back_exprs known h k kept others rest after =
    let more = more_exprs known k others rest after in
    listed (expr_item (known.again h kept _ more.after)) more

-- a call of count under its name
named_count : {n : ℕ} (g : Function) {star : Bool} (xs : List Expr) {rest : List Lexeme} → g ≡ f.Count → Back n primary (e.Call f.Count star xs) rest → Back n primary (e.Call g star xs) rest
named_count g xs h b = rw h b

-- one that is no literal
back_after_null : {n : ℕ} {ts r : List Lexeme} {a : Parse} → Inner n → Reads n after_null_rule ts a r → Kept a → (rest : List Lexeme) → Avoids after_primary rest → Back n primary (after_null a) rest
back_after_null inner (r.first e (r.both (r.takes_before {t = t} s o) (r.enclosed o' (r.left_out g) c))) kept rest after = named_count (function_named t.text) _ (count_named t s) (count_again rest)
back_after_null inner (r.first e (r.both (r.takes_before {t = t} s o) (r.enclosed o' (r.entered g (r.first i star)) c))) kept rest after = named_count (function_named t.text) _ (count_named t s) (count_again rest)
back_after_null inner (r.first e (r.both (r.takes_before {t = t} s o) (r.enclosed o' (r.entered g (r.second i i' (r.both h k))) c))) kept rest after =
    named_count (function_named t.text) _ (count_named t s) (count_parts_again (back_exprs inner.0 h k kept.1.0 kept.1.1 (mark_token m.Close ∷ rest) (record { none = refl })))
back_after_null inner (r.second e d (r.first e' (r.both (r.takes_before {t = t} s o) (r.enclosed o' (r.left_out g) c)))) kept rest after = call_again (function_named t.text) rest (function_called t s)
back_after_null inner (r.second e d (r.first e' (r.both (r.takes_before {t = t} s o) (r.enclosed o' (r.entered g (r.both h k)) c)))) kept rest after =
    call_parts_again (function_named t.text) (function_called t s) (back_exprs inner.0 h k kept.1.0 kept.1.1 (mark_token m.Close ∷ rest) (record { none = refl }))
back_after_null inner (r.second e d (r.second e' d' (r.first i h))) kept rest after = back_column h rest after
back_after_null inner (r.second e d (r.second e' d' (r.second i i' (r.first j (r.enclosed o h c))))) kept rest after = paren_again (inner.0.again h kept (mark_token m.Close ∷ rest) (record { none = refl }))
back_after_null inner (r.second e d (r.second e' d' (r.second i i' (r.second j j' (r.both (r.takes {t = t} s) (r.enclosed o h c)))))) kept rest after =
    convert_again (kind_named t.kind) (inner.0.again h kept.1 (mark_token m.Close ∷ rest) (record { none = refl }))

-- one that is no number
back_after_number : {n : ℕ} {ts r : List Lexeme} {a : Parse} → Inner n → Reads n after_number_rule ts a r → Kept a → (rest : List Lexeme) → Avoids after_primary rest → Back n primary (after_number a) rest
back_after_number inner (r.first e (r.takes {t = t} s)) kept rest after = text_again (text_value t.text) rest kept.text
back_after_number inner (r.second e d (r.first e' h)) kept rest after = true_again rest
back_after_number inner (r.second e d (r.second e' d' (r.first i h))) kept rest after = false_again rest
back_after_number inner (r.second e d (r.second e' d' (r.second i i' (r.first j h)))) kept rest after = null_again rest
back_after_number inner (r.second e d (r.second e' d' (r.second i i' (r.second j j' h)))) kept rest after = back_after_null inner h kept rest after

back_primary : {n : ℕ} {ts r : List Lexeme} {a : Parse} → Inner n → Reads n (the primary) ts a r → Kept a → (rest : List Lexeme) → Avoids after_primary rest → Back n primary (expr_of a) rest
back_primary inner (r.by_rule (r.first e (r.takes {t = t} s))) kept rest after = number_again (number_value t.text) rest (kept.number s)
back_primary inner (r.by_rule (r.second e d h)) kept rest after = back_after_number inner h kept rest after

pub back_unary : {n : ℕ} {ts r : List Lexeme} {a : Parse} → Inner n → Reads n (the unary) ts a r → Kept a → (rest : List Lexeme) → Avoids after_primary rest → Back n unary (expr_of a) rest
back_unary inner (r.by_rule (r.both h k)) kept rest after =
    let part = back_primary inner k kept.1 rest after in
    signed_again part (back_ops h _ (primary_prefix part))
