-- The tokens of a printed expression are those that were read, where those in its brackets are.
use Rattle.std.proofs.Common.{◌≡◌, ℕ, zero, suc, true, false, List, [], ◌∷◌, ◌++◌, Some, None, map}
use Rattle.std.specs.Prelude.{flat_map}
use Rattle.ql_lex.specs.declared.marks.Mark.TheVariants as m
use Rattle.ql_lex.specs.declared.words.Word.TheVariants as w
use Rattle.ql_lex.specs.Meaning.{text_value}
use Rattle.ql_lex.specs.Numbers.{number_value}
use Rattle.ql_value.specs.declared.operator.UnOp.{UnOp}
use Rattle.ql_syntax.specs.declared.syntax.Expr.{Expr}
use Rattle.ql_syntax.specs.declared.syntax.Link.{Link, roll-Link}
use Rattle.ql_syntax.specs.Ink.{space, name, listed, bracketed}
use Rattle.ql_syntax.specs.Lexemes.{Lexeme, is_close, is_mark, is_count, is_open, is_either, is_both, is_comparison, is_sum, is_product, is_prefix}
use Rattle.ql_syntax.specs.Functions.{function_bytes}
use Rattle.ql_syntax.specs.Printing.{Inks, ink_of_un, ink_of_not, ink_of_expr, ink_of_link, ink_of_select}
use Rattle.ql_syntax.specs.Rules.{◌then◌, the, token, many, maybe, further, list, word, mark, expr, term, factor, sum, product, unary, primary, predicate, ref, select}
use Rattle.ql_syntax.specs.Readings.{Parse, Reads}
use Rattle.ql_syntax.specs.Readings as r
use Rattle.ql_syntax.specs.SameTokens.{ends_list, ends_statement}
use Rattle.ql_syntax.specs.SameTokens as is
use Rattle.ql_syntax.specs.Trees.{bin_op, un_op, kind_named, function_named, chain, ops_of, links_of, is_present, tested_of, expr_of, exprs_of, select_of}
use Rattle.ql_syntax.proofs.PrintingEquations.{of_chain, of_unary, of_number, of_text, of_truth, of_null, of_column, of_paren, of_call, of_convert, of_in, of_in_select, of_between, of_is_null, of_link}
use Rattle.ql_print.proofs.KeptTokens.{Goes, goes_none, goes_then, goes_over, goes_space, goes_mark, goes_word, goes_small, goes_name, goes_number, goes_text, goes_bracketed, close_ends, semicolon_ends, close_ends_list, commas, goes_further, goes_trailing, IsBin, either_bin, both_bin, comparison_bin, sum_bin, product_bin, goes_bin, goes_un, goes_kind, goes_count, goes_function}

-- with so much room for brackets, expressions keep their tokens
pub record ExprsKept (n : ℕ) : Type 0 where
  pub kept : {ts rest : List Lexeme} {a : Parse} → Reads n (the expr) ts a rest → Goes ts rest (ink_of_expr (expr_of a))

-- with so much room for brackets, SELECTs keep their tokens
pub record SelectsKept (n : ℕ) : Type 0 where
  pub kept : {ts rest : List Lexeme} {a : Parse} → ends_statement rest ≡ true → Reads n (the select) ts a rest → Goes ts rest (ink_of_select (select_of a))

-- what stands in brackets keeps its tokens
abbrev pub Inner : ℕ → Type 0
Inner zero = Unit {0}
Inner (suc n) = ExprsKept n × SelectsKept n

-- a column
pub ref_kept : {n : ℕ} {ts rest : List Lexeme} {a : Parse} → Reads n (the ref) ts a rest → Goes ts rest (ink_of_expr (expr_of a))
ref_kept (r.by_rule (r.both (r.takes {t = t} i) (r.left_out f))) = rw (of_column None t.text) (goes_name i goes_none)
ref_kept (r.by_rule (r.both (r.takes {t = t} i) (r.entered f (r.both (r.takes d) (r.takes {t = c} j))))) =
    rw (of_column (Some t.text) c.text) (goes_name i (goes_mark d (goes_name j goes_none)))

-- further expressions of a list
pub further_kept : {n : ℕ} {ts rest : List Lexeme} {a : Parse} → ExprsKept n → ends_list rest ≡ true → Reads n (further (the expr)) ts a rest → Goes ts rest (commas (map ink_of_expr (exprs_of a)))
further_kept exprs l (r.no_comma f) = goes_none
further_kept exprs l (r.trailing i f) = goes_trailing i l
further_kept exprs l (r.member {b = b} i f h k) = goes_further (map ink_of_expr (exprs_of b)) i (exprs.kept h) (further_kept exprs l k)

-- a list of expressions
pub list_kept : {n : ℕ} {ts rest : List Lexeme} {a : Parse} → ExprsKept n → ends_list rest ≡ true → Reads n (list (the expr)) ts a rest → Goes ts rest (listed (map ink_of_expr (exprs_of a)))
list_kept exprs l (r.both h k) = goes_then (exprs.kept h) (further_kept exprs l k)

-- a list of expressions in brackets
pub bracketed_kept : {n : ℕ} {o c : Lexeme} {ts rest : List Lexeme} {a : Parse} → ExprsKept n → is_open o ≡ true → Reads n (list (the expr)) ts a (c ∷ rest) → is_close c ≡ true →
    Goes (o ∷ ts) rest (bracketed (listed (map ink_of_expr (exprs_of a))))
bracketed_kept {c = c} {rest = rest} exprs o h d = goes_bracketed o (list_kept exprs (close_ends_list c rest d) h) d

-- `count(*)`
star_kept : {t o s c : Lexeme} {rest : List Lexeme} → is_count t ≡ true → is_open o ≡ true → is_mark m.Star s ≡ true → is_close c ≡ true →
    Goes (t ∷ o ∷ s ∷ c ∷ rest) rest (name (function_bytes (function_named t.text)) ∷ bracketed [])
star_kept {t = t} {o = o} {c = c} {rest = rest} i j k l =
    let plain : Goes (t ∷ o ∷ c ∷ rest) rest (name (function_bytes (function_named t.text)) ∷ bracketed []) = goes_count i (goes_bracketed j goes_none l) in
    record { worth = λ a. a.1.1.1.1; goes = λ a tail q. is.no_star i j k l (plain.goes (a.0, (a.1.0, a.1.1.1)) tail q) }

-- a primary
pub primary_kept : {n : ℕ} {ts rest : List Lexeme} {a : Parse} → Inner n → Reads n (the primary) ts a rest → Goes ts rest (ink_of_expr (expr_of a))
primary_kept inner (r.by_rule (r.first x (r.takes {t = t} i))) = rw (of_number (number_value t.text)) (goes_number i goes_none)
primary_kept inner (r.by_rule (r.second x y (r.first z (r.takes {t = t} i)))) = rw (of_text (text_value t.text)) (goes_text i goes_none)
primary_kept inner (r.by_rule (r.second x y (r.second x2 y2 (r.first z (r.takes i))))) = rw (of_truth true) (goes_small i goes_none)
primary_kept inner (r.by_rule (r.second x y (r.second x2 y2 (r.second x3 y3 (r.first z (r.takes i)))))) = rw (of_truth false) (goes_small i goes_none)
primary_kept inner (r.by_rule (r.second x y (r.second x2 y2 (r.second x3 y3 (r.second x4 y4 (r.first z (r.takes i))))))) = rw of_null (goes_word i goes_none)
primary_kept inner (r.by_rule (r.second x y (r.second x2 y2 (r.second x3 y3 (r.second x4 y4 (r.second x5 y5 (r.first z (r.both (r.takes_before {t = t} i j) (r.enclosed o (r.left_out k) c))))))))) =
    rw (of_call (function_named t.text) false []) (goes_count i (goes_bracketed o goes_none c))
primary_kept inner (r.by_rule (r.second x y (r.second x2 y2 (r.second x3 y3 (r.second x4 y4 (r.second x5 y5 (r.first z (r.both (r.takes_before {t = t} i j) (r.enclosed o (r.entered k (r.first l (r.takes s))) c))))))))) =
    rw (of_call (function_named t.text) true []) (star_kept i o s c)
primary_kept inner (r.by_rule (r.second x y (r.second x2 y2 (r.second x3 y3 (r.second x4 y4 (r.second x5 y5 (r.first z (r.both (r.takes_before {t = t} i j) (r.enclosed o (r.entered k (r.second {a = a} l p h)) c))))))))) =
    rw (of_call (function_named t.text) false (exprs_of a)) (goes_count i (bracketed_kept inner.0 o h c))
primary_kept inner (r.by_rule (r.second x y (r.second x2 y2 (r.second x3 y3 (r.second x4 y4 (r.second x5 y5 (r.second x6 y6 (r.first z (r.both (r.takes_before {t = t} i j) (r.enclosed o (r.left_out k) c)))))))))) =
    rw (of_call (function_named t.text) false []) (goes_function i (goes_bracketed o goes_none c))
primary_kept inner (r.by_rule (r.second x y (r.second x2 y2 (r.second x3 y3 (r.second x4 y4 (r.second x5 y5 (r.second x6 y6 (r.first z (r.both (r.takes_before {t = t} i j) (r.enclosed o (r.entered {a = a} k h) c)))))))))) =
    rw (of_call (function_named t.text) false (exprs_of a)) (goes_function i (bracketed_kept inner.0 o h c))
primary_kept inner (r.by_rule (r.second x y (r.second x2 y2 (r.second x3 y3 (r.second x4 y4 (r.second x5 y5 (r.second x6 y6 (r.second x7 y7 (r.first z h))))))))) = ref_kept h
primary_kept inner (r.by_rule (r.second x y (r.second x2 y2 (r.second x3 y3 (r.second x4 y4 (r.second x5 y5 (r.second x6 y6 (r.second x7 y7 (r.second x8 y8 (r.first z (r.enclosed {a = a} o h c))))))))))) =
    rw (of_paren (expr_of a)) (goes_bracketed o (inner.0.kept h) c)
primary_kept inner (r.by_rule (r.second x y (r.second x2 y2 (r.second x3 y3 (r.second x4 y4 (r.second x5 y5 (r.second x6 y6 (r.second x7 y7 (r.second x8 y8 (r.second x9 y9 (r.both (r.takes {t = t} i) (r.enclosed {a = a} o h c)))))))))))) =
    rw (of_convert (kind_named t.kind) (expr_of a)) (goes_kind i (goes_bracketed o (inner.0.kept h) c))

-- signs

-- what further signs print
abbrev signs : List UnOp → Inks
signs ops = flat_map (λ (y : Inks). (space ∷ []) ++ y) (map (λ (op : UnOp). ink_of_un op ∷ []) ops)

signs_kept : {n : ℕ} {ts rest : List Lexeme} {a : Parse} → Reads n (many (token is_prefix)) ts a rest → Goes ts rest (signs (ops_of a))
signs_kept (r.ended f) = goes_none
signs_kept (r.goes_on f (r.takes i) k) = goes_space (goes_un i (signs_kept k))

unary_kept : {n : ℕ} {ts rest : List Lexeme} {a : Parse} → Inner n → Reads n (the unary) ts a rest → Goes ts rest (ink_of_expr (expr_of a))
unary_kept inner (r.by_rule (r.both (r.ended f) h)) = primary_kept inner h
unary_kept inner (r.by_rule (r.both {b = a} (r.goes_on {b = more} f (r.takes {t = t} i) k) h)) =
    rw (of_unary (un_op t.kind ∷ ops_of more) (expr_of a)) (goes_un i (goes_then (signs_kept k) (primary_kept inner h)))

-- chains

-- what the links of a chain print
abbrev ink_of_links : List Link → Inks
ink_of_links links = flat_map (λ (link : Inks). link) (map ink_of_link links)

goes_link : {t : Lexeme} {ts mid rest : List Lexeme} (part : Expr) (links : List Link) → IsBin t → Goes ts mid (ink_of_expr part) → Goes mid rest (ink_of_links links) →
    Goes (t ∷ ts) rest (ink_of_links (roll-Link (record { op = bin_op t.kind; part = part }) ∷ links))
goes_link {t = t} {ts = ts} {mid = mid} part links i h k =
    let one : Goes (t ∷ ts) mid (ink_of_link (roll-Link (record { op = bin_op t.kind; part = part }))) = rw (of_link (bin_op t.kind) part) (goes_space (goes_bin i (goes_space h))) in
    goes_then one k

goes_chain : {ts mid rest : List Lexeme} (first : Expr) (links : List Link) → Goes ts mid (ink_of_expr first) → Goes mid rest (ink_of_links links) → Goes ts rest (ink_of_expr (chain first links))
goes_chain first [] h k = goes_over h k
goes_chain first (link ∷ links) h k = rw (of_chain first (link ∷ links)) (goes_then h k)

product_links : {n : ℕ} {ts rest : List Lexeme} {a : Parse} → Inner n → Reads n (many (token is_product then the unary)) ts a rest → Goes ts rest (ink_of_links (links_of a))
product_links inner (r.ended f) = goes_none
product_links inner (r.goes_on {b = b} f (r.both {b = a} (r.takes {t = t} i) h) k) = goes_link (expr_of a) (links_of b) (product_bin t i) (unary_kept inner h) (product_links inner k)

product_kept : {n : ℕ} {ts rest : List Lexeme} {a : Parse} → Inner n → Reads n (the product) ts a rest → Goes ts rest (ink_of_expr (expr_of a))
product_kept inner (r.by_rule (r.both {a = a} {b = b} h k)) = goes_chain (expr_of a) (links_of b) (unary_kept inner h) (product_links inner k)

sum_links : {n : ℕ} {ts rest : List Lexeme} {a : Parse} → Inner n → Reads n (many (token is_sum then the product)) ts a rest → Goes ts rest (ink_of_links (links_of a))
sum_links inner (r.ended f) = goes_none
sum_links inner (r.goes_on {b = b} f (r.both {b = a} (r.takes {t = t} i) h) k) = goes_link (expr_of a) (links_of b) (sum_bin t i) (product_kept inner h) (sum_links inner k)

sum_kept : {n : ℕ} {ts rest : List Lexeme} {a : Parse} → Inner n → Reads n (the sum) ts a rest → Goes ts rest (ink_of_expr (expr_of a))
sum_kept inner (r.by_rule (r.both {a = a} {b = b} h k)) = goes_chain (expr_of a) (links_of b) (product_kept inner h) (sum_links inner k)

factor_links : {n : ℕ} {ts rest : List Lexeme} {a : Parse} → Inner n → Reads n (many (token is_comparison then the sum)) ts a rest → Goes ts rest (ink_of_links (links_of a))
factor_links inner (r.ended f) = goes_none
factor_links inner (r.goes_on {b = b} f (r.both {b = a} (r.takes {t = t} i) h) k) = goes_link (expr_of a) (links_of b) (comparison_bin t i) (sum_kept inner h) (factor_links inner k)

-- predicates

not_kept : {n : ℕ} {ts mid rest : List Lexeme} {a : Parse} {x : Inks} → Reads n (maybe (word w.Not)) ts a mid → Goes mid rest x → Goes ts rest (ink_of_not (is_present a) ++ x)
not_kept (r.left_out f) h = h
not_kept (r.entered f (r.takes i)) h = goes_word i (goes_space h)

-- a semicolon behind a SELECT in brackets
semicolon_kept : {n : ℕ} {ts rest : List Lexeme} {a : Parse} → ends_statement rest ≡ true → Reads n (maybe (mark m.Semicolon)) ts a rest → Goes ts rest []
semicolon_kept l (r.left_out f) = goes_none
semicolon_kept l (r.entered f (r.takes i)) = record { worth = λ a. a.1; goes = λ a tail s. is.no_semicolon i l s }

semicolon_ends_here : {n : ℕ} {ts rest : List Lexeme} {a : Parse} → ends_statement rest ≡ true → Reads n (maybe (mark m.Semicolon)) ts a rest → ends_statement ts ≡ true
semicolon_ends_here l (r.left_out f) = l
semicolon_ends_here l (r.entered f (r.takes {t = t} {ts = ts} i)) = semicolon_ends t ts i

-- a SELECT in brackets
pub query_kept : {n : ℕ} {o c : Lexeme} {ts mid rest : List Lexeme} {q b : Parse} → SelectsKept n → is_open o ≡ true → Reads n (the select) ts q mid → Reads n (maybe (mark m.Semicolon)) mid b (c ∷ rest) → is_close c ≡ true →
    Goes (o ∷ ts) rest (bracketed (ink_of_select (select_of q)))
query_kept {c = c} {rest = rest} selects o h k d =
    let l = close_ends c rest d in
    goes_bracketed o (goes_over (selects.kept (semicolon_ends_here l k) h) (semicolon_kept l k)) d

-- a part with the predicate behind it, if there is one
tested_kept : {n : ℕ} {ts mid rest : List Lexeme} {a : Parse} (part : Expr) → Inner n → Goes ts mid (ink_of_expr part) → Reads n (maybe (the predicate)) mid a rest → Goes ts rest (ink_of_expr (tested_of part a))
tested_kept part inner h (r.left_out f) = h
tested_kept part inner h (r.entered f (r.by_rule (r.first g (r.both {a = n} i (r.first u (r.both (r.takes j) (r.enclosed o (r.first {a = a} v k) c))))))) =
    rw (of_in part (is_present n) (exprs_of a)) (goes_then h (goes_space (not_kept i (goes_word j (goes_space (bracketed_kept inner.0 o k c))))))
tested_kept part inner h (r.entered f (r.by_rule (r.first g (r.both {a = n} i (r.first u (r.both (r.takes j) (r.enclosed o (r.second v x (r.both {a = q} k l)) c))))))) =
    rw (of_in_select part (is_present n) (select_of q)) (goes_then h (goes_space (not_kept i (goes_word j (goes_space (query_kept inner.1 o k l c))))))
tested_kept part inner h (r.entered f (r.by_rule (r.first g (r.both {a = n} i (r.second u v (r.both (r.takes j) (r.both {a = low} k (r.both {b = high} (r.takes o) p)))))))) =
    rw (of_between part (is_present n) (expr_of low) (expr_of high))
    (goes_then h (goes_space (not_kept i (goes_word j (goes_space (goes_then (sum_kept inner k) (goes_space (goes_word o (goes_space (sum_kept inner p))))))))))
tested_kept part inner h (r.entered f (r.by_rule (r.second g u (r.both (r.takes j) (r.both {a = n} i (r.takes k)))))) =
    rw (of_is_null part (is_present n)) (goes_then h (goes_space (goes_word j (goes_space (not_kept i (goes_word k goes_none))))))

factor_kept : {n : ℕ} {ts rest : List Lexeme} {a : Parse} → Inner n → Reads n (the factor) ts a rest → Goes ts rest (ink_of_expr (expr_of a))
factor_kept inner (r.by_rule (r.both {a = a} h (r.both {a = b} k p))) =
    tested_kept (chain (expr_of a) (links_of b)) inner (goes_chain (expr_of a) (links_of b) (sum_kept inner h) (factor_links inner k)) p

term_links : {n : ℕ} {ts rest : List Lexeme} {a : Parse} → Inner n → Reads n (many (token is_both then the factor)) ts a rest → Goes ts rest (ink_of_links (links_of a))
term_links inner (r.ended f) = goes_none
term_links inner (r.goes_on {b = b} f (r.both {b = a} (r.takes {t = t} i) h) k) = goes_link (expr_of a) (links_of b) (both_bin t i) (factor_kept inner h) (term_links inner k)

term_kept : {n : ℕ} {ts rest : List Lexeme} {a : Parse} → Inner n → Reads n (the term) ts a rest → Goes ts rest (ink_of_expr (expr_of a))
term_kept inner (r.by_rule (r.both {a = a} {b = b} h k)) = goes_chain (expr_of a) (links_of b) (factor_kept inner h) (term_links inner k)

expr_links : {n : ℕ} {ts rest : List Lexeme} {a : Parse} → Inner n → Reads n (many (token is_either then the term)) ts a rest → Goes ts rest (ink_of_links (links_of a))
expr_links inner (r.ended f) = goes_none
expr_links inner (r.goes_on {b = b} f (r.both {b = a} (r.takes {t = t} i) h) k) = goes_link (expr_of a) (links_of b) (either_bin t i) (term_kept inner h) (expr_links inner k)

-- an expression
pub expr_kept : {n : ℕ} {ts rest : List Lexeme} {a : Parse} → Inner n → Reads n (the expr) ts a rest → Goes ts rest (ink_of_expr (expr_of a))
expr_kept inner (r.by_rule (r.both {a = a} {b = b} h k)) = goes_chain (expr_of a) (links_of b) (term_kept inner h) (expr_links inner k)
