-- Kinds of tokens, and of the values that tokens name.
use Rattle.std.specs.Prelude.{List, [], ◌∷◌}
use Rattle.ql_lex.specs.declared.token.TokenKind.{TokenKind}
use Rattle.ql_value.specs.declared.value.Kind.{Kind}
use Rattle.ql_value.specs.declared.value.Kind.TheVariants as k
use Rattle.ql_syntax.specs.Lexemes.{Lexeme}
use Rattle.ql_syntax.specs.Trees.{kind_named}

-- a token of a kind, without its spelling
abbrev pub token_of : TokenKind → Lexeme
token_of k = record { kind = k; text = [] }

-- the kind of values that the next token names
abbrev pub kind_of_next : List Lexeme → Kind
kind_of_next [] = k.Uint64
kind_of_next (t ∷ ts) = kind_named t.kind
