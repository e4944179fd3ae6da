-- The escapes of an interpreted string, by the text behind the backslash.
use Rattle.std.specs.Prelude.{ℕ, ◌-◌, Bool, not, ◌&&◌, ◌||◌, ◌==◌, nat_lt, nat_le, if◌then◌else◌, List, [], ◌∷◌, length, take, drop, Result, Ok, Err, encode_utf8}
use Rattle.ql_lex.specs.declared.escapes.Form.{Form}
use Rattle.ql_lex.specs.declared.escapes.Form.TheVariants as form
use Rattle.ql_lex.specs.declared.escapes.Code.{Code}
use Rattle.ql_lex.specs.declared.escapes.Code.TheVariants as code
use Rattle.ql_lex.specs.declared.token.Flaw.{Flaw}
use Rattle.ql_lex.specs.declared.token.Flaw.TheVariants as flaw
use Rattle.ql_lex.specs.Numbers.{value_from, are_digits}

-- how an escape goes on behind its first byte: a b f n r t v \ " stand for one byte, x has two hexadecimal digits, 0 to 7 is
-- the first of three octal ones, u has four hexadecimal digits and U eight
abbrev pub form_of : ℕ → Form
form_of b =
    if b == 97 then form.Alone 7 else (if b == 98 then form.Alone 8 else (if b == 102 then form.Alone 12 else (if b == 110 then form.Alone 10
    else (if b == 114 then form.Alone 13 else (if b == 116 then form.Alone 9 else (if b == 118 then form.Alone 11 else (if b == 92 then form.Alone 92
    else (if b == 34 then form.Alone 34 else (if b == 120 then form.Byte 16 2 0 else (if nat_le 48 b && nat_le b 55 then form.Byte 8 2 (b - 48)
    else (if b == 117 then form.Character 4 else (if b == 85 then form.Character 8 else form.Unknown))))))))))))

-- the next digits and what stands behind them: a byte that is no digit is wrong, and else the end may come too early
abbrev pub digits_at : ℕ → ℕ → List ℕ → Result (List ℕ × List ℕ) Flaw
digits_at base count text =
    if not (are_digits base (take count text)) then Err flaw.BadLiteral
    else (if nat_lt (length text) count then Err flaw.Unclosed else Ok (take count text, drop count text))

-- digits that make a byte: it is at most 255
abbrev pub byte_of : ℕ → List ℕ → Result (Code × List ℕ) Flaw
byte_of value rest = if nat_le value 255 then Ok (code.Byte value, rest) else Err flaw.BadLiteral

-- a number is a character's: at most 10FFFF, and no surrogate
abbrev pub is_character : ℕ → Bool
is_character value = nat_lt value 0xD800 || (nat_le 0xE000 value && nat_le value 0x10FFFF)

-- digits that make a character
abbrev pub character_of : ℕ → List ℕ → Result (Code × List ℕ) Flaw
character_of value rest = if is_character value then Ok (code.Character value, rest) else Err flaw.BadLiteral

-- what an escape stands for whose digits make a byte, once they are read
abbrev pub byte_of_digits : ℕ → ℕ → Result (List ℕ × List ℕ) Flaw → Result (Code × List ℕ) Flaw
byte_of_digits base so_far (Ok found) = byte_of (value_from base so_far found.0) found.1
byte_of_digits base so_far (Err f) = Err f

-- what an escape stands for whose digits make a character, once they are read
abbrev pub character_of_digits : Result (List ℕ × List ℕ) Flaw → Result (Code × List ℕ) Flaw
character_of_digits (Ok found) = character_of (value_from 16 0 found.0) found.1
character_of_digits (Err f) = Err f

-- what an escape of a form stands for, by the text behind its first byte, and what stands behind it
abbrev pub escape_of : Form → List ℕ → Result (Code × List ℕ) Flaw
escape_of (form.Alone b) text = Ok (code.Byte b, text)
escape_of (form.Byte base count so_far) text = byte_of_digits base so_far (digits_at base count text)
escape_of (form.Character count) text = character_of_digits (digits_at 16 count text)
escape_of form.Unknown text = Err flaw.BadLiteral

-- what the escape at the front of a text stands for, and what stands behind it
abbrev pub escape_at : List ℕ → Result (Code × List ℕ) Flaw
escape_at [] = Err flaw.Unclosed
escape_at (b ∷ text) = escape_of (form_of b) text

-- the bytes that an escape stands for; a character is written as UTF-8
abbrev pub code_bytes : Code → List ℕ
code_bytes (code.Byte b) = b ∷ []
code_bytes (code.Character c) = encode_utf8 c
