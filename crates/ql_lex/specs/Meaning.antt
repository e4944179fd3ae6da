-- What a string means.
use Rattle.std.specs.Prelude.{ℕ, zero, suc, ◌-◌, not, ◌==◌, if◌then◌else◌, List, [], ◌∷◌, ◌++◌, length, take, drop, filter, slice_index, Result, Ok, Err}
use Rattle.ql_lex.specs.declared.escapes.Code.{Code}
use Rattle.ql_lex.specs.declared.token.Flaw.{Flaw}
use Rattle.ql_lex.specs.Escapes.{escape_at, code_bytes}

-- what stands between the first byte and the last
abbrev pub inside : List ℕ → List ℕ
inside spelling = take (length spelling - 2) (drop 1 spelling)

-- a raw string drops carriage returns and keeps all else
abbrev pub raw_value : List ℕ → List ℕ
raw_value text = filter (λ b. not (b == 13)) text

-- the bytes of the escape at the front of a text, none where there is none
abbrev pub escape_value : Result (Code × List ℕ) Flaw → List ℕ
escape_value (Ok e) = code_bytes e.0
escape_value (Err f) = []

-- how many bytes of a text belong to the escape at its front
abbrev pub escape_length : List ℕ → Result (Code × List ℕ) Flaw → ℕ
escape_length text (Ok e) = length text - length e.1
escape_length text (Err f) = 0

-- an interpreted string: each byte stands for itself, but a backslash and what belongs to its escape stand for what that says;
-- the first argument is how many bytes still belong to an escape
abbrev pub string_value : ℕ → List ℕ → List ℕ
string_value skip [] = []
string_value (suc skip) (b ∷ text) = string_value skip text
string_value zero (b ∷ text) =
    if b == 92 then escape_value (escape_at text) ++ string_value (escape_length text (escape_at text)) text else b ∷ string_value zero text

-- what the spelling of a string means
abbrev pub text_value : List ℕ → List ℕ
text_value spelling = if slice_index spelling 0 == 96 then raw_value (inside spelling) else string_value 0 (inside spelling)
