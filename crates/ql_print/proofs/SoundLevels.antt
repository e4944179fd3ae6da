-- Printed chains at each level, and predicates, where what stands in brackets is sound.
use Rattle.std.proofs.Common.{ℕ}
use Rattle.ql_syntax.specs.declared.syntax.Expr.{Expr}
use Rattle.ql_syntax.specs.Lexemes.{is_either, is_both, is_sum, is_product, is_comparison}
use Rattle.ql_syntax.specs.Rules.{◌then◌, the, token, many, maybe, expr, term, factor, sum, product, unary, predicate}
use Rattle.ql_syntax.specs.Readings.{Parse}
use Rattle.ql_syntax.specs.Trees.{bin_op, ops_of, is_present, chain, expr_of, links_of, exprs_of, tested_of, select_of}
use Rattle.ql_syntax.specs.Printing.{ink_of_expr}
use Rattle.ql_print.proofs.Fits.{Fits, is_name, is_worth}
use Rattle.ql_print.proofs.Fits as f
use Rattle.ql_print.proofs.SoundInk.{IsSound, IsLater, later_none}
use Rattle.ql_print.proofs.SoundParts.{ink_of_links, links_later, chain_sound, signed_sound, in_sound, in_select_sound, between_sound, is_null_sound}
use Rattle.ql_print.proofs.SoundPrimaries.{Inner, list_sound, primary_part}

unary_sound : {n : ℕ} {a : Parse} → Inner n → Fits n (the unary) a → IsSound (ink_of_expr (expr_of a))
unary_sound inner (f.by_rule (f.both {a = a} {b = b} h k)) = signed_sound (ops_of a) (expr_of b) (primary_part inner k)

product_links : {n : ℕ} {a : Parse} → Inner n → Fits n (many (token is_product then the unary)) a → IsLater (ink_of_links (links_of a))
product_links inner f.ended = later_none
product_links inner (f.goes_on {b = b} (f.both {b = a} (f.takes {t = t} e s) h) k) = links_later (bin_op t.kind) (expr_of a) (links_of b) (unary_sound inner h) (product_links inner k)

product_sound : {n : ℕ} {a : Parse} → Inner n → Fits n (the product) a → IsSound (ink_of_expr (expr_of a))
product_sound inner (f.by_rule (f.both {a = a} {b = b} h k)) = chain_sound (expr_of a) (links_of b) (unary_sound inner h) (product_links inner k)

sum_links : {n : ℕ} {a : Parse} → Inner n → Fits n (many (token is_sum then the product)) a → IsLater (ink_of_links (links_of a))
sum_links inner f.ended = later_none
sum_links inner (f.goes_on {b = b} (f.both {b = a} (f.takes {t = t} e s) h) k) = links_later (bin_op t.kind) (expr_of a) (links_of b) (product_sound inner h) (sum_links inner k)

sum_sound : {n : ℕ} {a : Parse} → Inner n → Fits n (the sum) a → IsSound (ink_of_expr (expr_of a))
sum_sound inner (f.by_rule (f.both {a = a} {b = b} h k)) = chain_sound (expr_of a) (links_of b) (product_sound inner h) (sum_links inner k)

factor_links : {n : ℕ} {a : Parse} → Inner n → Fits n (many (token is_comparison then the sum)) a → IsLater (ink_of_links (links_of a))
factor_links inner f.ended = later_none
factor_links inner (f.goes_on {b = b} (f.both {b = a} (f.takes {t = t} e s) h) k) = links_later (bin_op t.kind) (expr_of a) (links_of b) (sum_sound inner h) (factor_links inner k)

-- a part with the predicate behind it, if there is one
tested_sound : {n : ℕ} {a : Parse} (part : Expr) → Inner n → IsSound (ink_of_expr part) → Fits n (maybe (the predicate)) a → IsSound (ink_of_expr (tested_of part a))
tested_sound part inner h f.left_out = h
tested_sound part inner h (f.entered (f.by_rule (f.first (f.both {a = n} i (f.first (f.both j (f.enclosed (f.first {a = a} k)))))))) = in_sound part (is_present n) (exprs_of a) h (list_sound inner.0 k)
tested_sound part inner h (f.entered (f.by_rule (f.first (f.both {a = n} i (f.first (f.both j (f.enclosed (f.second (f.both {a = q} k l))))))))) = in_select_sound part (is_present n) (select_of q) h (inner.1.sound k)
tested_sound part inner h (f.entered (f.by_rule (f.first (f.both {a = n} i (f.second (f.both j (f.both {a = low} k (f.both {b = high} o p)))))))) = between_sound part (is_present n) (expr_of low) (expr_of high) h (sum_sound inner k) (sum_sound inner p)
tested_sound part inner h (f.entered (f.by_rule (f.second (f.both j (f.both {a = n} i k))))) = is_null_sound part (is_present n) h

factor_sound : {n : ℕ} {a : Parse} → Inner n → Fits n (the factor) a → IsSound (ink_of_expr (expr_of a))
factor_sound inner (f.by_rule (f.both {a = a} h (f.both {a = b} k p))) = tested_sound (chain (expr_of a) (links_of b)) inner (chain_sound (expr_of a) (links_of b) (sum_sound inner h) (factor_links inner k)) p

term_links : {n : ℕ} {a : Parse} → Inner n → Fits n (many (token is_both then the factor)) a → IsLater (ink_of_links (links_of a))
term_links inner f.ended = later_none
term_links inner (f.goes_on {b = b} (f.both {b = a} (f.takes {t = t} e s) h) k) = links_later (bin_op t.kind) (expr_of a) (links_of b) (factor_sound inner h) (term_links inner k)

term_sound : {n : ℕ} {a : Parse} → Inner n → Fits n (the term) a → IsSound (ink_of_expr (expr_of a))
term_sound inner (f.by_rule (f.both {a = a} {b = b} h k)) = chain_sound (expr_of a) (links_of b) (factor_sound inner h) (term_links inner k)

expr_links : {n : ℕ} {a : Parse} → Inner n → Fits n (many (token is_either then the term)) a → IsLater (ink_of_links (links_of a))
expr_links inner f.ended = later_none
expr_links inner (f.goes_on {b = b} (f.both {b = a} (f.takes {t = t} e s) h) k) = links_later (bin_op t.kind) (expr_of a) (links_of b) (term_sound inner h) (expr_links inner k)

-- an expression
pub expr_sound : {n : ℕ} {a : Parse} → Inner n → Fits n (the expr) a → IsSound (ink_of_expr (expr_of a))
expr_sound inner (f.by_rule (f.both {a = a} {b = b} h k)) = chain_sound (expr_of a) (links_of b) (term_sound inner h) (expr_links inner k)
