-- What stands behind a printed part, and what a printed part is read as again.
use Rattle.std.proofs.Common.{◌≡◌, ℕ, Bool, true, false, List, [], ◌∷◌, refl}
use Rattle.std.specs.Prelude.{◌&&◌, not, map}
use Rattle.std.specs.Fmt.{decimal}
use Rattle.ql_lex.specs.Meaning.{text_value}
use Rattle.ql_lex.specs.Numbers.{number_value}
use Rattle.ql_lex.specs.declared.marks.Mark.TheVariants as m
use Rattle.ql_lex.specs.declared.words.Word.TheVariants as w
use Rattle.ql_value.specs.declared.operator.BinOp.{BinOp}
use Rattle.ql_value.specs.Print.{quoted}
use Rattle.ql_syntax.specs.declared.syntax.Expr.{Expr}
use Rattle.ql_syntax.specs.declared.syntax.Link.{Link, roll-Link}
use Rattle.ql_syntax.specs.Lexemes.{Lexeme, is_mark, is_word, is_open, is_number, is_either, is_both, is_comparison, is_sum, is_product, sees}
use Rattle.ql_syntax.specs.Rules.{Production, Rule, token, ◌then◌, many, the}
use Rattle.ql_syntax.specs.Readings.{Parse, Reads, leaf, pair, left, right, absent, present, stop, cell, group, node}
use Rattle.ql_syntax.specs.Readings as r
use Rattle.ql_syntax.specs.Trees.{expr_of, links_of, chain}
use Rattle.ql_syntax.specs.ReadsBack.{plain_expr, plain_link}
use Rattle.ql_print.proofs.PlainEquations.{plain_of_chain, plain_of_link}
use Rattle.ql_print.proofs.BackTokens.{bin_token, expr_before, links_before}
use Rattle.ql_print.proofs.BackForms.{before_chain, before_link}
use Rattle.ql_print.proofs.BackOps.{bin_op_is}

-- the literal that a token is means the same once it is printed
pub record IsKept (t : Lexeme) : Type 0 where
  pub number : is_number t ≡ true → number_value (decimal (number_value t.text)) ≡ number_value t.text
  pub text : text_value (quoted false (text_value t.text)) ≡ text_value t.text

-- a fact of each token that a reading keeps
abbrev pub Each : (Lexeme → Type 0) → Parse → Type 0
Each P (leaf t) = P t
Each P (pair a b) = Each P a × Each P b
Each P (left a) = Each P a
Each P (right a) = Each P a
Each P absent = Unit {0}
Each P (present a) = Each P a
Each P stop = Unit {0}
Each P (cell a b) = Each P a × Each P b
Each P (group a) = Each P a
Each P (node p a) = Each P a

-- every literal of a reading means the same once it is printed
abbrev pub Kept : Parse → Type 0
Kept a = Each IsKept a

-- the next token passes none of the tests
abbrev pub none_of : List (Lexeme → Bool) → List Lexeme → Bool
none_of [] ts = true
none_of (test ∷ tests) ts = not (sees test ts) && none_of tests ts

pub record Avoids (tests : List (Lexeme → Bool)) (ts : List Lexeme) : Type 0 where
  pub none : none_of tests ts ≡ true

first_false : (a b : Bool) → (not a && b) ≡ true → a ≡ false
first_false true b h = cc
first_false false b h = refl

second_true : (a b : Bool) → (not a && b) ≡ true → b ≡ true
second_true true b h = cc
second_true false b h = h

pub avoids_first : {test : Lexeme → Bool} {tests : List (Lexeme → Bool)} {ts : List Lexeme} → Avoids (test ∷ tests) ts → sees test ts ≡ false
avoids_first {test = test} {tests = tests} {ts = ts} h = first_false (sees test ts) (none_of tests ts) h.none

pub avoids_rest : {test : Lexeme → Bool} {tests : List (Lexeme → Bool)} {ts : List Lexeme} → Avoids (test ∷ tests) ts → Avoids tests ts
avoids_rest {test = test} {tests = tests} {ts = ts} h = record { none = second_true (sees test ts) (none_of tests ts) h.none }

-- what goes on with a primary
abbrev pub after_primary : List (Lexeme → Bool)
after_primary = is_mark m.Dot ∷ is_open ∷ []

-- what goes on with a product
abbrev pub after_product : List (Lexeme → Bool)
after_product = is_product ∷ after_primary

-- what goes on with a sum
abbrev pub after_sum : List (Lexeme → Bool)
after_sum = is_sum ∷ after_product

-- what goes on with sums that are compared
abbrev pub after_compared : List (Lexeme → Bool)
after_compared = is_comparison ∷ after_sum

-- what goes on with a factor
abbrev pub after_factor : List (Lexeme → Bool)
after_factor = is_word w.Not ∷ is_word w.In ∷ is_word w.Between ∷ is_word w.Is ∷ after_compared

-- what goes on with a term
abbrev pub after_term : List (Lexeme → Bool)
after_term = is_both ∷ after_factor

-- what goes on with an expression
abbrev pub after_expr : List (Lexeme → Bool)
after_expr = is_either ∷ after_term

-- the printed expression is read by the production, up to the tokens behind it, as that expression
pub record Back (n : ℕ) (p : Production) (x : Expr) (rest : List Lexeme) : Type 0 where
  pub parse : Parse
  pub reads : Reads n (the p) (expr_before x rest) parse rest
  pub tree : expr_of parse ≡ plain_expr x

-- the same of links
pub record BackLinks (n : ℕ) (test : Lexeme → Bool) (p : Production) (inner : List (Lexeme → Bool)) (links : List Link) (rest : List Lexeme) : Type 0 where
  pub parse : Parse
  pub reads : Reads n (many (token test then the p)) (links_before links rest) parse rest
  pub tree : links_of parse ≡ map plain_link links
  pub after : Avoids inner (links_before links rest)

-- an operator is printed as one of its level, which does not go on with the part before it
pub record IsLevel (test : Lexeme → Bool) (inner : List (Lexeme → Bool)) (op : BinOp) : Type 0 where
  pub again : test (bin_token op) ≡ true
  pub after : (ts : List Lexeme) → Avoids inner (bin_token op ∷ ts)

pub no_link : {n : ℕ} {test : Lexeme → Bool} {p : Production} {inner : List (Lexeme → Bool)} {rest : List Lexeme} → Avoids (test ∷ inner) rest → BackLinks n test p inner [] rest
no_link h = record { parse = stop; reads = r.ended (avoids_first h); tree = refl; after = avoids_rest h }

pub one_link : {n : ℕ} {test : Lexeme → Bool} {p : Production} {inner : List (Lexeme → Bool)} {ls : List Link} {rest : List Lexeme} (op : BinOp) (x : Expr) →
    IsLevel test inner op → Back n p x (links_before ls rest) → BackLinks n test p inner ls rest → BackLinks n test p inner (roll-Link (record { op = op; part = x }) ∷ ls) rest
one_link {ls = ls} {rest = rest} op x level b l = record {
  parse = cell (pair (leaf (bin_token op)) b.parse) l.parse;
  reads = rw (before_link op x (links_before ls rest)) (r.goes_on level.again (r.both (r.takes level.again) b.reads) l.reads);
  tree = rw (plain_of_link op x, bin_op_is op, b.tree, l.tree) refl;
  after = rw (before_link op x (links_before ls rest)) (level.after _);
}

-- a part with links behind it
pub record BackChain (n : ℕ) (x : Rule) (part : Expr) (rest : List Lexeme) : Type 0 where
  pub first : Parse
  pub links : Parse
  pub reads : Reads n x (expr_before part rest) (pair first links) rest
  pub tree : chain (expr_of first) (links_of links) ≡ plain_expr part

pub plain_chain : (x : Expr) (ls : List Link) → plain_expr (chain x ls) ≡ chain (plain_expr x) (map plain_link ls)
plain_chain x [] = refl
plain_chain x (l ∷ ls) = plain_of_chain x (l ∷ ls)

pub chained : {n : ℕ} {test : Lexeme → Bool} {p : Production} {inner : List (Lexeme → Bool)} {x : Expr} {ls : List Link} {rest : List Lexeme} →
    Back n p x (links_before ls rest) → BackLinks n test p inner ls rest → BackChain n (the p then many (token test then the p)) (chain x ls) rest
chained {x = x} {ls = ls} {rest = rest} b l = record {
  first = b.parse;
  links = l.parse;
  reads = rw (before_chain x ls rest) (r.both b.reads l.reads);
  tree = rw (plain_chain x ls, b.tree, l.tree) refl;
}
