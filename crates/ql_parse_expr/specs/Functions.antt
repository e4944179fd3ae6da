-- Names of functions.
use Rattle.std.specs.Prelude.{ℕ, Bool, true, false, List}
use Rattle.ql_lex.specs.declared.token.TokenKind.TheVariants as kind
use Rattle.ql_syntax.specs.declared.syntax.Function.{Function}
use Rattle.ql_syntax.specs.declared.syntax.Function.TheVariants as f
use Rattle.ql_syntax.specs.Lexemes.{Lexeme}

-- a name with these bytes
abbrev pub named : List ℕ → Lexeme
named text = record { kind = kind.Name; text = text }

-- the function is count, whose part may be `*`
abbrev pub is_count_function : Function → Bool
is_count_function f.Count = true
is_count_function _ = false
