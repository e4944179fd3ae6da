-- Printed texts: tokens and the blanks between them.
use Rattle.std.specs.Prelude.{◌≡◌, ℕ, zero, suc, false, List, [], ◌∷◌, ◌++◌, map, flat_map, decimal}
use Rattle.std.specs.Char.{to_ascii_uppercase}
use Rattle.ql_lex.specs.declared.marks.Mark.{Mark}
use Rattle.ql_lex.specs.declared.marks.Mark.TheVariants as m
use Rattle.ql_lex.specs.declared.words.Word.{Word}
use Rattle.ql_lex.specs.declared.token.TokenKind.TheVariants as kind
use Rattle.ql_lex.specs.Marks.{mark_bytes}
use Rattle.ql_lex.specs.Words.{word_bytes}
use Rattle.ql_value.specs.Print.{quoted}
use Rattle.ql_syntax.specs.Lexemes.{Lexeme}

-- a piece of a printed text: one blank, or a token
pub data Ink : Type 0 where
  space : Ink
  written : Lexeme → Ink

-- the bytes of a piece
abbrev pub bytes_of : Ink → List ℕ
bytes_of space = 32 ∷ []
bytes_of (written t) = t.text

-- the bytes of a printed text
abbrev pub text_of : List Ink → List ℕ
text_of inks = flat_map bytes_of inks

-- the token of a piece, if it is one
abbrev pub token_in : Ink → List Lexeme
token_in space = []
token_in (written t) = t ∷ []

-- the tokens of a printed text
abbrev pub tokens_of : List Ink → List Lexeme
tokens_of inks = flat_map token_in inks

-- a mark
abbrev pub mark : Mark → Ink
mark a = written (record { kind = kind.Mark a; text = mark_bytes a })

-- a keyword in capital letters
abbrev pub keyword : Word → Ink
keyword a = written (record { kind = kind.Word a; text = map to_ascii_uppercase (word_bytes a) })

-- a keyword in small letters
abbrev pub small : Word → Ink
small a = written (record { kind = kind.Word a; text = word_bytes a })

-- a name
abbrev pub name : List ℕ → Ink
name bytes = written (record { kind = kind.Name; text = bytes })

-- a number, in decimal
abbrev pub number : ℕ → Ink
number n = written (record { kind = kind.Number; text = decimal n })

-- a string, as the value prints
abbrev pub string : List ℕ → Ink
string bytes = written (record { kind = kind.Text; text = quoted false bytes })

-- pieces with the same pieces between them
abbrev pub between : List Ink → List (List Ink) → List Ink
between gap [] = []
between gap (x ∷ xs) = x ++ flat_map (λ y. gap ++ y) xs

-- `, `
abbrev pub comma : List Ink
comma = mark m.Comma ∷ space ∷ []

-- parts with `, ` between them
abbrev pub listed : List (List Ink) → List Ink
listed parts = between comma parts

-- what stands before the part with this number, counted from 0, where pieces stand between parts
abbrev pub gap_before : List Ink → ℕ → List Ink
gap_before gap zero = []
gap_before gap (suc n) = gap

-- a part in brackets
abbrev pub bracketed : List Ink → List Ink
bracketed part = mark m.Open ∷ part ++ mark m.Close ∷ []

-- a text begins with what it was before
pub record Grows (old new : List ℕ) : Type 0 where
  pub more : List ℕ
  pub added : new ≡ old ++ more
