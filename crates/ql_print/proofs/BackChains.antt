-- Every expression that was read is printed, and read again as the same.
use Rattle.std.proofs.Common.{ℕ, List, ◌∷◌, refl}
use Rattle.ql_lex.specs.declared.marks.Mark.TheVariants as m
use Rattle.ql_syntax.specs.declared.syntax.Expr.{Expr}
use Rattle.ql_syntax.specs.Lexemes.{Lexeme, is_either, is_both, is_comparison, is_sum, is_product}
use Rattle.ql_syntax.specs.Rules.{token, ◌then◌, maybe, many, the, expr, term, factor, predicate, sum, product, unary}
use Rattle.ql_syntax.specs.Readings.{Parse, Reads, pair, node}
use Rattle.ql_syntax.specs.Readings as r
use Rattle.ql_syntax.specs.Trees.{expr_of, links_of, tested_of, bin_op}
use Rattle.ql_print.proofs.BackTokens.{mark_token}
use Rattle.ql_print.proofs.BackLevels.{either_level, both_level, comparison_level, sum_level, product_level}
use Rattle.ql_print.proofs.BackParts.{Kept, Avoids, avoids_rest, after_primary, after_product, after_sum, after_compared, after_factor, after_term, after_expr, Back, BackLinks, BackChain, no_link, one_link, chained}
use Rattle.ql_print.proofs.BackTests.{BackTest, no_test, in_again, in_select_again, between_again, null_test_again, tested_again}
use Rattle.ql_print.proofs.BackPrimaries.{Inner, back_exprs, back_unary}

-- a chain is what its production reads
expr_chain : {n : ℕ} {x : Expr} {rest : List Lexeme} → BackChain n (the term then many (token is_either then the term)) x rest → Back n expr x rest
expr_chain c = record { parse = node expr (pair c.first c.links); reads = r.by_rule c.reads; tree = c.tree }

term_chain : {n : ℕ} {x : Expr} {rest : List Lexeme} → BackChain n (the factor then many (token is_both then the factor)) x rest → Back n term x rest
term_chain c = record { parse = node term (pair c.first c.links); reads = r.by_rule c.reads; tree = c.tree }

sum_chain : {n : ℕ} {x : Expr} {rest : List Lexeme} → BackChain n (the product then many (token is_sum then the product)) x rest → Back n sum x rest
sum_chain c = record { parse = node sum (pair c.first c.links); reads = r.by_rule c.reads; tree = c.tree }

product_chain : {n : ℕ} {x : Expr} {rest : List Lexeme} → BackChain n (the unary then many (token is_product then the unary)) x rest → Back n product x rest
product_chain c = record { parse = node product (pair c.first c.links); reads = r.by_rule c.reads; tree = c.tree }

sum_in_factor : {ts : List Lexeme} → Avoids after_factor ts → Avoids after_sum ts
sum_in_factor h = avoids_rest (avoids_rest (avoids_rest (avoids_rest (avoids_rest h))))

links_product : {n : ℕ} {ts r : List Lexeme} {a : Parse} → Inner n → Reads n (many (token is_product then the unary)) ts a r → Kept a → (rest : List Lexeme) → Avoids after_product rest → BackLinks n is_product unary after_primary (links_of a) rest
links_product inner (r.ended e) kept rest after = no_link after
links_product inner (r.goes_on e (r.both (r.takes {t = t} s) h) k) kept rest after =
    let ls = links_product inner k kept.1 rest after in
    one_link (bin_op t.kind) _ (product_level t s) (back_unary inner h kept.0.1 _ ls.after) ls

back_product : {n : ℕ} {ts r : List Lexeme} {a : Parse} → Inner n → Reads n (the product) ts a r → Kept a → (rest : List Lexeme) → Avoids after_product rest → Back n product (expr_of a) rest
back_product inner (r.by_rule (r.both h k)) kept rest after =
    let ls = links_product inner k kept.1 rest after in
    product_chain (chained (back_unary inner h kept.0 _ ls.after) ls)

links_sum : {n : ℕ} {ts r : List Lexeme} {a : Parse} → Inner n → Reads n (many (token is_sum then the product)) ts a r → Kept a → (rest : List Lexeme) → Avoids after_sum rest → BackLinks n is_sum product after_product (links_of a) rest
links_sum inner (r.ended e) kept rest after = no_link after
links_sum inner (r.goes_on e (r.both (r.takes {t = t} s) h) k) kept rest after =
    let ls = links_sum inner k kept.1 rest after in
    one_link (bin_op t.kind) _ (sum_level t s) (back_product inner h kept.0.1 _ ls.after) ls

back_sum : {n : ℕ} {ts r : List Lexeme} {a : Parse} → Inner n → Reads n (the sum) ts a r → Kept a → (rest : List Lexeme) → Avoids after_sum rest → Back n sum (expr_of a) rest
back_sum inner (r.by_rule (r.both h k)) kept rest after =
    let ls = links_sum inner k kept.1 rest after in
    sum_chain (chained (back_product inner h kept.0 _ ls.after) ls)

back_test : {n : ℕ} {ts r : List Lexeme} {a : Parse} → Inner n → Reads n (maybe (the predicate)) ts a r → Kept a → (rest : List Lexeme) → Avoids after_factor rest → BackTest n (λ x. tested_of x a) rest
back_test inner (r.left_out e) kept rest after = no_test after
back_test inner (r.entered e (r.by_rule (r.first g (r.both neg (r.first j (r.both i (r.enclosed o (r.first d (r.both h k)) c))))))) kept rest after =
    in_again _ (back_exprs inner.0 h k kept.1.1.0 kept.1.1.1 (mark_token m.Close ∷ rest) (record { none = refl }))
back_test inner (r.entered e (r.by_rule (r.first g (r.both neg (r.first j (r.both i (r.enclosed o (r.second d d' (r.both q s)) c))))))) kept rest after =
    in_select_again _ (inner.1.again q kept.1.1.0 (mark_token m.Close ∷ rest) (record { none = refl }))
back_test inner (r.entered e (r.by_rule (r.first g (r.both neg (r.second j j' (r.both i (r.both low (r.both d high)))))))) kept rest after =
    let h = back_sum inner high kept.1.1.1.1 rest (sum_in_factor after) in
    between_again _ (back_sum inner low kept.1.1.0 _ (record { none = refl })) h
back_test inner (r.entered e (r.by_rule (r.second g g' (r.both i (r.both neg d))))) kept rest after = null_test_again _ rest

links_comparison : {n : ℕ} {ts r : List Lexeme} {a : Parse} → Inner n → Reads n (many (token is_comparison then the sum)) ts a r → Kept a → (rest : List Lexeme) → Avoids after_compared rest → BackLinks n is_comparison sum after_sum (links_of a) rest
links_comparison inner (r.ended e) kept rest after = no_link after
links_comparison inner (r.goes_on e (r.both (r.takes {t = t} s) h) k) kept rest after =
    let ls = links_comparison inner k kept.1 rest after in
    one_link (bin_op t.kind) _ (comparison_level t s) (back_sum inner h kept.0.1 _ ls.after) ls

back_factor : {n : ℕ} {ts r : List Lexeme} {a : Parse} → Inner n → Reads n (the factor) ts a r → Kept a → (rest : List Lexeme) → Avoids after_factor rest → Back n factor (expr_of a) rest
back_factor inner (r.by_rule (r.both h (r.both k t))) kept rest after =
    let test = back_test inner t kept.1.1 rest after in
    let ls = links_comparison inner k kept.1.0 test.tokens test.after in
    tested_again test (back_sum inner h kept.0 _ ls.after) ls

links_both : {n : ℕ} {ts r : List Lexeme} {a : Parse} → Inner n → Reads n (many (token is_both then the factor)) ts a r → Kept a → (rest : List Lexeme) → Avoids after_term rest → BackLinks n is_both factor after_factor (links_of a) rest
links_both inner (r.ended e) kept rest after = no_link after
links_both inner (r.goes_on e (r.both (r.takes {t = t} s) h) k) kept rest after =
    let ls = links_both inner k kept.1 rest after in
    one_link (bin_op t.kind) _ (both_level t s) (back_factor inner h kept.0.1 _ ls.after) ls

back_term : {n : ℕ} {ts r : List Lexeme} {a : Parse} → Inner n → Reads n (the term) ts a r → Kept a → (rest : List Lexeme) → Avoids after_term rest → Back n term (expr_of a) rest
back_term inner (r.by_rule (r.both h k)) kept rest after =
    let ls = links_both inner k kept.1 rest after in
    term_chain (chained (back_factor inner h kept.0 _ ls.after) ls)

links_either : {n : ℕ} {ts r : List Lexeme} {a : Parse} → Inner n → Reads n (many (token is_either then the term)) ts a r → Kept a → (rest : List Lexeme) → Avoids after_expr rest → BackLinks n is_either term after_term (links_of a) rest
links_either inner (r.ended e) kept rest after = no_link after
links_either inner (r.goes_on e (r.both (r.takes {t = t} s) h) k) kept rest after =
    let ls = links_either inner k kept.1 rest after in
    one_link (bin_op t.kind) _ (either_level t s) (back_term inner h kept.0.1 _ ls.after) ls

pub back_expr : {n : ℕ} {ts r : List Lexeme} {a : Parse} → Inner n → Reads n (the expr) ts a r → Kept a → (rest : List Lexeme) → Avoids after_expr rest → Back n expr (expr_of a) rest
back_expr inner (r.by_rule (r.both h k)) kept rest after =
    let ls = links_either inner k kept.1 rest after in
    expr_chain (chained (back_term inner h kept.0 _ ls.after) ls)
