-- Printed primaries, where what stands in their brackets is sound.
use Rattle.std.proofs.Common.{ℕ, zero, suc, true, false, [], map}
use Rattle.ql_lex.specs.Numbers.{number_value}
use Rattle.ql_lex.specs.Meaning.{text_value}
use Rattle.ql_syntax.specs.Rules.{the, further, list, expr, primary, ref, select}
use Rattle.ql_syntax.specs.Readings.{Parse}
use Rattle.ql_syntax.specs.Trees.{name_of, kind_named, function_named, expr_of, exprs_of, select_of}
use Rattle.ql_syntax.specs.Printing.{ink_of_expr, ink_of_select}
use Rattle.ql_print.proofs.Fits.{Fits, is_name, is_worth}
use Rattle.ql_print.proofs.Fits as f
use Rattle.ql_print.proofs.SoundInk.{IsSound, IsPart, AreSound, none, one}
use Rattle.ql_print.proofs.SoundParts.{number_part, text_part, true_part, false_part, null_part, column_part, table_column_part, paren_part, call_part, convert_part}

-- with so much room for brackets, expressions are sound
pub record ExprsSound (n : ℕ) : Type 0 where
  pub sound : {a : Parse} → Fits n (the expr) a → IsSound (ink_of_expr (expr_of a))

-- with so much room for brackets, SELECTs are sound
pub record SelectsSound (n : ℕ) : Type 0 where
  pub sound : {a : Parse} → Fits n (the select) a → IsSound (ink_of_select (select_of a))

-- what stands in brackets is sound
abbrev pub Inner : ℕ → Type 0
Inner zero = Unit {0}
Inner (suc n) = ExprsSound n × SelectsSound n

-- a column
pub ref_part : {n : ℕ} {a : Parse} → Fits n (the ref) a → IsPart (ink_of_expr (expr_of a))
ref_part (f.by_rule (f.both (f.takes {t = t} e s) f.left_out)) = column_part t.text (is_name t e s)
ref_part (f.by_rule (f.both (f.takes {t = t} e s) (f.entered (f.both h (f.takes {t = c} d k))))) = table_column_part t.text c.text (is_name t e s) (is_name c d k)

-- further expressions of a list
pub further_sound : {n : ℕ} {a : Parse} → ExprsSound n → Fits n (further (the expr)) a → AreSound (map ink_of_expr (exprs_of a))
further_sound exprs f.no_more = none
further_sound exprs (f.member h k) = one (exprs.sound h) (further_sound exprs k)

-- a list of expressions
pub list_sound : {n : ℕ} {a : Parse} → ExprsSound n → Fits n (list (the expr)) a → AreSound (map ink_of_expr (exprs_of a))
list_sound exprs (f.both h k) = one (exprs.sound h) (further_sound exprs k)

-- a primary
pub primary_part : {n : ℕ} {a : Parse} → Inner n → Fits n (the primary) a → IsPart (ink_of_expr (expr_of a))
primary_part inner (f.by_rule (f.first (f.takes {t = t} e s))) = number_part (number_value t.text) (is_worth t e s)
primary_part inner (f.by_rule (f.second (f.first (f.takes {t = t} e s)))) = text_part (text_value t.text)
primary_part inner (f.by_rule (f.second (f.second (f.first h)))) = true_part
primary_part inner (f.by_rule (f.second (f.second (f.second (f.first h))))) = false_part
primary_part inner (f.by_rule (f.second (f.second (f.second (f.second (f.first h)))))) = null_part
primary_part inner (f.by_rule (f.second (f.second (f.second (f.second (f.second (f.first (f.both {a = n} h (f.enclosed f.left_out))))))))) = call_part (function_named (name_of n)) false [] none
primary_part inner (f.by_rule (f.second (f.second (f.second (f.second (f.second (f.first (f.both {a = n} h (f.enclosed (f.entered (f.first k))))))))))) = call_part (function_named (name_of n)) true [] none
primary_part inner (f.by_rule (f.second (f.second (f.second (f.second (f.second (f.first (f.both {a = n} h (f.enclosed (f.entered (f.second {a = a} k))))))))))) = call_part (function_named (name_of n)) false (exprs_of a) (list_sound inner.0 k)
primary_part inner (f.by_rule (f.second (f.second (f.second (f.second (f.second (f.second (f.first (f.both {a = n} h (f.enclosed f.left_out)))))))))) = call_part (function_named (name_of n)) false [] none
primary_part inner (f.by_rule (f.second (f.second (f.second (f.second (f.second (f.second (f.first (f.both {a = n} h (f.enclosed (f.entered {a = a} k))))))))))) = call_part (function_named (name_of n)) false (exprs_of a) (list_sound inner.0 k)
primary_part inner (f.by_rule (f.second (f.second (f.second (f.second (f.second (f.second (f.second (f.first h))))))))) = ref_part h
primary_part inner (f.by_rule (f.second (f.second (f.second (f.second (f.second (f.second (f.second (f.second (f.first (f.enclosed {a = a} h))))))))))) = paren_part (expr_of a) (inner.0.sound h)
primary_part inner (f.by_rule (f.second (f.second (f.second (f.second (f.second (f.second (f.second (f.second (f.second (f.both (f.takes {t = t} e s) (f.enclosed {a = a} h)))))))))))) = convert_part (kind_named t.kind) (expr_of a) (inner.0.sound h)
