-- The alternatives of a primary, by its first tokens.
use Rattle.std.proofs.Common.{◌≡◌, ℕ, true, false, List, [], ◌∷◌, drop, refl, ap, sym, subst}
use Rattle.std.proofs.Common.{rules}
use Rattle.std.specs.Prelude.{Some}
use denote.Enum.Bare.{same_true}
use Rattle.ql_lex.specs.Meaning.{text_value}
use Rattle.ql_lex.specs.Numbers.{number_value}
use Rattle.ql_lex.specs.declared.words.Word.{Word}
use Rattle.ql_lex.specs.contracts.words.Word.{the_type}
use Rattle.ql_lex.specs.declared.words.Word.TheVariants as w
use Rattle.ql_lex.specs.declared.token.TokenKind.{TokenKind}
use Rattle.ql_lex.specs.declared.token.TokenKind.TheVariants as kind
use Rattle.ql_syntax.specs.declared.syntax.Expr.{Expr}
use Rattle.ql_syntax.specs.declared.syntax.Expr.TheVariants as e
use Rattle.ql_syntax.specs.Lexemes.{Lexeme, kind_is_word, sees, is_word, kind_at, text_at}
use Rattle.ql_syntax.specs.Rules.{the, primary}
use Rattle.ql_syntax.specs.Readings.{leaf, node, left, right, takes, first, second, by_rule}
use Rattle.ql_cursor.specs.Parses.{Gives}
use Rattle.ql_syntax.specs.Trees.{expr_of}

-- the kind of the first token
kind_is : (t : Lexeme) (ts : List Lexeme) (k : TokenKind) → kind_at (t ∷ ts) ≡ Some k → t.kind ≡ k
kind_is t ts k e = cc

-- a reading of a token of one kind is one of any token of that kind
by_kind : (n : ℕ) (t : Lexeme) (ts : List Lexeme) (k : TokenKind) (v : Expr) → t.kind ≡ k → Gives n (the primary) expr_of (record { kind = k; text = t.text } ∷ ts) v ts → Gives n (the primary) expr_of (t ∷ ts) v ts
by_kind n t ts k v e h = subst (λ (q : TokenKind). Gives n (the primary) expr_of (record { kind = q; text = t.text } ∷ ts) v ts) (sym e) h

-- a number
pub at_number : (n : ℕ) (ts new : List Lexeme) (v : ℕ) → kind_at ts ≡ Some kind.Number → v ≡ number_value (text_at ts) → new ≡ drop 1 ts → Gives n (the primary) expr_of ts (e.Number v) new
at_number n [] new v k g d = cc
at_number n (t ∷ ts) new v k g d =
    rw (g, d) (by_kind n t ts kind.Number (e.Number (number_value t.text)) (kind_is t ts _ k)
    (record { parse = node primary (left (leaf (record { kind = kind.Number; text = t.text }))); reads = by_rule (first refl (takes refl)); means = refl }))

-- a string
pub at_text : (n : ℕ) (ts new : List Lexeme) (v : List ℕ) → kind_at ts ≡ Some kind.Text → v ≡ text_value (text_at ts) → new ≡ drop 1 ts → Gives n (the primary) expr_of ts (e.Text v) new
at_text n [] new v k g d = cc
at_text n (t ∷ ts) new v k g d =
    rw (g, d) (by_kind n t ts kind.Text (e.Text (text_value t.text)) (kind_is t ts _ k)
    (record { parse = node primary (right (left (leaf (record { kind = kind.Text; text = t.text })))); reads = by_rule (second refl refl (first refl (takes refl))); means = refl }))

-- the keyword of a literal is the first token
word_kind : (a : Word) (k : TokenKind) → kind_is_word a k ≡ true → k ≡ kind.Word a
word_kind a kind.Name e = cc
word_kind a kind.Number e = cc
word_kind a kind.Text e = cc
word_kind a (kind.Mark b) e = cc
word_kind a (kind.Word b) e = ap kind.Word (same_true the_type (search rules) _ _ e)

-- true, false and NULL
pub at_true : (n : ℕ) (ts new : List Lexeme) → sees (is_word w.True) ts ≡ true → new ≡ drop 1 ts → Gives n (the primary) expr_of ts (e.Truth true) new
at_true n [] new k d = cc
at_true n (t ∷ ts) new k d =
    rw d (by_kind n t ts (kind.Word w.True) (e.Truth true) (word_kind w.True t.kind k)
    (record {
      parse = node primary (right (right (left (leaf (record { kind = kind.Word w.True; text = t.text })))));
      reads = by_rule (second refl refl (second refl refl (first refl (takes refl))));
      means = refl;
    }))

pub at_false : (n : ℕ) (ts new : List Lexeme) → sees (is_word w.False) ts ≡ true → new ≡ drop 1 ts → Gives n (the primary) expr_of ts (e.Truth false) new
at_false n [] new k d = cc
at_false n (t ∷ ts) new k d =
    rw d (by_kind n t ts (kind.Word w.False) (e.Truth false) (word_kind w.False t.kind k)
    (record {
      parse = node primary (right (right (right (left (leaf (record { kind = kind.Word w.False; text = t.text }))))));
      reads = by_rule (second refl refl (second refl refl (second refl refl (first refl (takes refl)))));
      means = refl;
    }))

pub at_null : (n : ℕ) (ts new : List Lexeme) → sees (is_word w.Null) ts ≡ true → new ≡ drop 1 ts → Gives n (the primary) expr_of ts e.Null new
at_null n [] new k d = cc
at_null n (t ∷ ts) new k d =
    rw d (by_kind n t ts (kind.Word w.Null) e.Null (word_kind w.Null t.kind k)
    (record {
      parse = node primary (right (right (right (right (left (leaf (record { kind = kind.Word w.Null; text = t.text })))))));
      reads = by_rule (second refl refl (second refl refl (second refl refl (second refl refl (first refl (takes refl))))));
      means = refl;
    }))
