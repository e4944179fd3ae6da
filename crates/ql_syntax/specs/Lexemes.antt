-- Tokens with their spelling, and what a place of the grammar asks of one token.
use Rattle.std.specs.Prelude.{ℕ, Bool, true, false, ◌&&◌, ◌||◌, List, [], ◌∷◌, map, Option, Some, None}
use Rattle.std.specs.Str.{bytes_eq}
use denote.Enum.Bare.{sameb}
use Rattle.ql_lex.specs.contracts.marks.Mark as mark
use Rattle.ql_lex.specs.contracts.words.Word as word
use Rattle.ql_lex.specs.declared.marks.Mark.{Mark}
use Rattle.ql_lex.specs.declared.marks.Mark.TheVariants as m
use Rattle.ql_lex.specs.declared.words.Word.{Word}
use Rattle.ql_lex.specs.declared.words.Word.TheVariants as w
use Rattle.ql_lex.specs.declared.token.Token.{Token}
use Rattle.ql_lex.specs.declared.token.TokenKind.{TokenKind}
use Rattle.ql_lex.specs.declared.token.TokenKind.TheVariants as kind
use Rattle.ql_lex.specs.Tokens.{spelling_of}
use Rattle.ql_syntax.specs.Functions.{function_bytes}
use Rattle.ql_syntax.specs.declared.syntax.Function.{Function}
use Rattle.ql_syntax.specs.declared.syntax.Function.TheVariants as f

-- a token: what it is, and the bytes that it stands on
pub record Lexeme : Type 0 where
  pub kind : TokenKind
  pub text : List ℕ

-- a token of a source with its spelling
abbrev pub lexeme : List ℕ → Token → Lexeme
lexeme source token = record { kind = token.kind; text = spelling_of source token }

-- the tokens of a source, each with its spelling
abbrev pub lexemes : List ℕ → List Token → List Lexeme
lexemes source tokens = map (lexeme source) tokens

-- a kind is a mark
abbrev pub kind_is_mark : Mark → TokenKind → Bool
kind_is_mark a (kind.Mark b) = sameb mark.the_type b a
kind_is_mark a _ = false

-- a kind is a keyword
abbrev pub kind_is_word : Word → TokenKind → Bool
kind_is_word a (kind.Word b) = sameb word.the_type b a
kind_is_word a _ = false

-- a kind is that of names
abbrev pub kind_is_name : TokenKind → Bool
kind_is_name kind.Name = true
kind_is_name _ = false

-- a kind is that of numbers
abbrev pub kind_is_number : TokenKind → Bool
kind_is_number kind.Number = true
kind_is_number _ = false

-- a kind is that of strings
abbrev pub kind_is_text : TokenKind → Bool
kind_is_text kind.Text = true
kind_is_text _ = false

-- the token is this mark
abbrev pub is_mark : Mark → Lexeme → Bool
is_mark a t = kind_is_mark a t.kind

-- the token is this keyword
abbrev pub is_word : Word → Lexeme → Bool
is_word a t = kind_is_word a t.kind

-- the token is a name
abbrev pub is_name : Lexeme → Bool
is_name t = kind_is_name t.kind

-- the token is a number
abbrev pub is_number : Lexeme → Bool
is_number t = kind_is_number t.kind

-- the token is a string
abbrev pub is_text : Lexeme → Bool
is_text t = kind_is_text t.kind

-- the token is a name with these bytes
abbrev pub is_named : List ℕ → Lexeme → Bool
is_named bytes t = is_name t && bytes_eq t.text bytes

-- `(`
abbrev pub is_open : Lexeme → Bool
is_open t = is_mark m.Open t

-- `)`
abbrev pub is_close : Lexeme → Bool
is_close t = is_mark m.Close t

-- `,`
abbrev pub is_comma : Lexeme → Bool
is_comma t = is_mark m.Comma t

-- `||` or OR
abbrev pub is_either : Lexeme → Bool
is_either t = is_mark m.OrOr t || is_word w.Or t

-- `&&` or AND
abbrev pub is_both : Lexeme → Bool
is_both t = is_mark m.AndAnd t || is_word w.And t

-- `==`, `=`, `!=`, `<>`, `<`, `<=`, `>`, `>=` or LIKE
abbrev pub is_comparison : Lexeme → Bool
is_comparison t = is_mark m.EqualEqual t || (is_mark m.Equal t || (is_mark m.BangEqual t || (is_mark m.LessGreater t || (is_mark m.Less t
    || (is_mark m.LessEqual t || (is_mark m.Greater t || (is_mark m.GreaterEqual t || is_word w.Like t)))))))

-- `+`, `-`, `|` or `^` between two parts
abbrev pub is_sum : Lexeme → Bool
is_sum t = is_mark m.Plus t || (is_mark m.Minus t || (is_mark m.Bar t || is_mark m.Caret t))

-- `*`, `/`, `%`, `<<`, `>>`, `&` or `&^`
abbrev pub is_product : Lexeme → Bool
is_product t = is_mark m.Star t || (is_mark m.Slash t || (is_mark m.Percent t || (is_mark m.ShiftLeft t || (is_mark m.ShiftRight t
    || (is_mark m.Ampersand t || is_mark m.AndNot t)))))

-- `+`, `-`, `!` or `^` before a part
abbrev pub is_prefix : Lexeme → Bool
is_prefix t = is_mark m.Plus t || (is_mark m.Minus t || (is_mark m.Bang t || is_mark m.Caret t))

-- bool string blob byte rune int uint int8 int16 int32 int64 uint8 uint16 uint32 uint64
abbrev pub is_kind : Lexeme → Bool
is_kind t = is_word w.Bool t || (is_word w.String t || (is_word w.Blob t || (is_word w.Byte t || (is_word w.Rune t || (is_word w.Int t
    || (is_word w.Uint t || (is_word w.Int8 t || (is_word w.Int16 t || (is_word w.Int32 t || (is_word w.Int64 t
    || (is_word w.Uint8 t || (is_word w.Uint16 t || (is_word w.Uint32 t || is_word w.Uint64 t)))))))))))))

-- the name of this function
abbrev pub is_called : Function → Lexeme → Bool
is_called function t = is_named (function_bytes function) t

-- the name `id`
abbrev pub is_id : Lexeme → Bool
is_id t = is_called f.Id t

-- the name `count`, the function that may be called with `*`
abbrev pub is_count : Lexeme → Bool
is_count t = is_called f.Count t

-- the name of another function: id len contains hasPrefix hasSuffix coalesce sum avg min max
abbrev pub is_function : Lexeme → Bool
is_function t = is_id t || (is_called f.Len t || (is_called f.Contains t || (is_called f.HasPrefix t || (is_called f.HasSuffix t
    || (is_called f.Coalesce t || (is_called f.Sum t || (is_called f.Avg t || (is_called f.Min t || is_called f.Max t))))))))

-- the next token passes a test
abbrev pub sees : (Lexeme → Bool) → List Lexeme → Bool
sees test [] = false
sees test (t ∷ ts) = test t

-- the next token passes a test, and the one directly behind it another
abbrev pub sees_two : (Lexeme → Bool) → (Lexeme → Bool) → List Lexeme → Bool
sees_two test next [] = false
sees_two test next (t ∷ ts) = test t && sees next ts

-- what the next token is
abbrev pub kind_at : List Lexeme → Option TokenKind
kind_at [] = None
kind_at (t ∷ ts) = Some t.kind

-- the bytes of the next token
abbrev pub text_at : List Lexeme → List ℕ
text_at [] = []
text_at (t ∷ ts) = t.text
