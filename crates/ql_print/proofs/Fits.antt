-- What a reading says of its tokens, without the tokens: each stands where its rule asks for it, and meets a condition.
use Rattle.std.proofs.Common.{◌≡◌, ℕ, suc, ◌^◌, ◌<◌, Bool, true, List}
use Rattle.std.specs.Prelude.{◌&&◌, nat_lt}
use Rattle.std.specs.List.{AllByRecursion}
use Rattle.std.proofs.lemmas.Bool.{ltb-true}
use Rattle.ql_lex.specs.declared.token.TokenKind.{TokenKind}
use Rattle.ql_lex.specs.declared.token.TokenKind.TheVariants as kind
use Rattle.ql_lex.specs.Numbers.{number_value, is_number, are_digits, has_digits, base_of, digits_of}
use Rattle.ql_lex.specs.Tokens.{IsName, IsSpelled}
use Rattle.ql_syntax.specs.Lexemes.{Lexeme, kind_is_name, kind_is_number}
use Rattle.ql_syntax.specs.Lexemes as lexeme
use Rattle.ql_syntax.specs.Rules.{Production, Rule, ◌then◌, ◌or◌, rule_of}
use Rattle.ql_syntax.specs.Rules as rule
use Rattle.ql_syntax.specs.Readings.{Parse, leaf, pair, left, right, absent, present, stop, cell, group, node, Reads}
use Rattle.ql_syntax.specs.Readings as r
use Rattle.ql_print.proofs.PrintedNumbers.{both_true}

-- a token is spelled as its kind is
abbrev pub Spelled : Lexeme → Type 0
Spelled t = IsSpelled t.kind t.text

-- a reading by a rule with room for so many open brackets, of tokens that are spelled as their kinds are
pub data Fits : ℕ → Rule → Parse → Type 0 where
  takes : {n : ℕ} {test : Lexeme → Bool} {t : Lexeme} → test t ≡ true → Spelled t → Fits n (rule.token test) (leaf t)
  takes_before : {n : ℕ} {test next : Lexeme → Bool} {t : Lexeme} → test t ≡ true → Spelled t → Fits n (rule.before test next) (leaf t)
  takes_nothing : {n : ℕ} → Fits n rule.nothing absent
  both : {n : ℕ} {x y : Rule} {a b : Parse} → Fits n x a → Fits n y b → Fits n (x then y) (pair a b)
  first : {n : ℕ} {x y : Rule} {a : Parse} → Fits n x a → Fits n (x or y) (left a)
  second : {n : ℕ} {x y : Rule} {a : Parse} → Fits n y a → Fits n (x or y) (right a)
  left_out : {n : ℕ} {x : Rule} → Fits n (rule.maybe x) absent
  entered : {n : ℕ} {x : Rule} {a : Parse} → Fits n x a → Fits n (rule.maybe x) (present a)
  ended : {n : ℕ} {x : Rule} → Fits n (rule.many x) stop
  goes_on : {n : ℕ} {x : Rule} {a b : Parse} → Fits n x a → Fits n (rule.many x) b → Fits n (rule.many x) (cell a b)
  enclosed : {n : ℕ} {x : Rule} {a : Parse} → Fits n x a → Fits (suc n) (rule.bracketed x) (group a)
  no_more : {n : ℕ} {x : Rule} → Fits n (rule.further x) stop
  member : {n : ℕ} {x : Rule} {a b : Parse} → Fits n x a → Fits n (rule.further x) b → Fits n (rule.further x) (cell a b)
  at_end : {n : ℕ} → Fits n rule.finish absent
  by_rule : {n : ℕ} {p : Production} {a : Parse} → Fits n (rule_of p) a → Fits n (rule.the p) (node p a)

-- all tokens are spelled as their kinds are
abbrev pub AreSpelled : List Lexeme → Type 0
AreSpelled ts = AllByRecursion Spelled ts

-- a reading of tokens that are spelled as their kinds are, and what is left of them
pub fits : {n : ℕ} {x : Rule} {ts rest : List Lexeme} {a : Parse} → Reads n x ts a rest → AreSpelled ts → Fits n x a × AreSpelled rest
fits (r.takes e) h = (takes e h.0, h.1)
fits (r.takes_before e d) h = (takes_before e h.0, h.1)
fits r.takes_nothing h = (takes_nothing, h)
fits (r.both k l) h = let i = fits k h in let j = fits l i.1 in (both i.0 j.0, j.1)
fits (r.first e k) h = let i = fits k h in (first i.0, i.1)
fits (r.second f e k) h = let i = fits k h in (second i.0, i.1)
fits (r.left_out f) h = (left_out, h)
fits (r.entered e k) h = let i = fits k h in (entered i.0, i.1)
fits (r.ended f) h = (ended, h)
fits (r.goes_on e k l) h = let i = fits k h in let j = fits l i.1 in (goes_on i.0 j.0, j.1)
fits (r.enclosed o k c) h = let i = fits k h.1 in (enclosed i.0, i.1.1)
fits (r.no_comma f) h = (no_more, h)
fits (r.trailing e f) h = (no_more, h.1)
fits (r.member e f k l) h = let i = fits k h.1 in let j = fits l i.1 in (member i.0 j.0, j.1)
fits r.at_end h = (at_end, h)
fits (r.by_rule k) h = let i = fits k h in (by_rule i.0, i.1)

named : (k : TokenKind) (text : List ℕ) → kind_is_name k ≡ true → IsSpelled k text → IsName text
named kind.Name text e h = h
named kind.Number text e h = cc
named kind.Text text e h = cc
named (kind.Mark m) text e h = cc
named (kind.Word w) text e h = cc

-- the spelling of a token that is a name
pub is_name : (t : Lexeme) → lexeme.is_name t ≡ true → Spelled t → IsName t.text
is_name t e h = named t.kind t.text e h

numbered : (k : TokenKind) (text : List ℕ) → kind_is_number k ≡ true → IsSpelled k text → is_number text ≡ true
numbered kind.Name text e h = cc
numbered kind.Number text e h = h
numbered kind.Text text e h = cc
numbered (kind.Mark m) text e h = cc
numbered (kind.Word w) text e h = cc

-- what a token that is a number is worth
pub is_worth : (t : Lexeme) → lexeme.is_number t ≡ true → Spelled t → number_value t.text < 2 ^ 64
is_worth t e h =
    let k = numbered t.kind t.text e h in
    let i = both_true (are_digits (base_of t.text) (digits_of t.text) && has_digits (base_of t.text) (digits_of t.text)) (nat_lt (number_value t.text) (2 ^ 64)) k in
    ltb-true (number_value t.text) (2 ^ 64) i.1
