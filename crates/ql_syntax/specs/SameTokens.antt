-- The tokens of printed statements are those that were read: what printing leaves out, what it puts in, and what it writes otherwise.
use Rattle.std.specs.Prelude.{◌≡◌, ℕ, Bool, true, false, ◌||◌, List, [], ◌∷◌, map, Ok}
use Rattle.ql_lex.specs.Meaning.{text_value}
use Rattle.ql_lex.specs.Numbers.{number_value}
use Rattle.ql_lex.specs.Tokens
use Rattle.ql_lex.specs.declared.marks.Mark.{Mark}
use Rattle.ql_lex.specs.declared.marks.Mark.TheVariants as m
use Rattle.ql_lex.specs.declared.words.Word.{Word}
use Rattle.ql_lex.specs.declared.words.Word.TheVariants as w
use Rattle.ql_lex.specs.declared.token.Token.{Token}
use Rattle.ql_lex.specs.declared.token.TokenKind.{TokenKind}
use Rattle.ql_lex.specs.declared.token.TokenKind.TheVariants as kind
use Rattle.ql_syntax.specs.declared.statement.Statement.{Statement}
use Rattle.ql_syntax.specs.Ink.{Ink, space, between, text_of}
use Rattle.ql_syntax.specs.Ink as ink
use Rattle.ql_syntax.specs.Lexemes.{Lexeme, lexemes, is_mark, is_word, is_name, is_open, is_close, is_comma, is_count, sees}
use Rattle.ql_syntax.specs.StatementPrinting.{ink_of_statement}
use Rattle.ql_syntax.specs.Statements.{IsRead}

-- What a token says. A keyword says the same in capital and in small letters, a number and a string in every spelling.
pub data Sense : Type 0 where
  a_mark : Mark → Sense
  a_word : Word → Sense
  a_name : List ℕ → Sense
  a_number : ℕ → Sense
  a_text : List ℕ → Sense

-- `=` says what `==` says, and `<>` what `!=` says
abbrev pub mark_sense : Mark → Sense
mark_sense m.Equal = a_mark m.EqualEqual
mark_sense m.LessGreater = a_mark m.BangEqual
mark_sense a = a_mark a

-- OR says what `||` says, AND what `&&` says; byte is uint8, rune is int32, int is int64, and uint is uint64
abbrev pub word_sense : Word → Sense
word_sense w.Or = a_mark m.OrOr
word_sense w.And = a_mark m.AndAnd
word_sense w.Byte = a_word w.Uint8
word_sense w.Rune = a_word w.Int32
word_sense w.Int = a_word w.Int64
word_sense w.Uint = a_word w.Uint64
word_sense a = a_word a

-- what a token of this kind and with these bytes says
abbrev pub sense_of : TokenKind → List ℕ → Sense
sense_of (kind.Mark a) bytes = mark_sense a
sense_of (kind.Word a) bytes = word_sense a
sense_of kind.Name bytes = a_name bytes
sense_of kind.Number bytes = a_number (number_value bytes)
sense_of kind.Text bytes = a_text (text_value bytes)

-- two tokens say the same
abbrev pub IsAlike : Lexeme → Lexeme → Type 0
IsAlike t u = sense_of t.kind t.text ≡ sense_of u.kind u.text

-- a statement may end before such a token
abbrev pub kind_ends_statement : TokenKind → Bool
kind_ends_statement (kind.Mark m.Close) = true
kind_ends_statement (kind.Mark m.Semicolon) = true
kind_ends_statement _ = false

-- a list may end before such a token
abbrev pub kind_ends_list : TokenKind → Bool
kind_ends_list (kind.Mark m.Close) = true
kind_ends_list (kind.Mark m.Semicolon) = true
kind_ends_list (kind.Word w.From) = true
kind_ends_list (kind.Word w.Left) = true
kind_ends_list (kind.Word w.Right) = true
kind_ends_list (kind.Word w.Full) = true
kind_ends_list (kind.Word w.Where) = true
kind_ends_list (kind.Word w.Group) = true
kind_ends_list (kind.Word w.Order) = true
kind_ends_list (kind.Word w.Asc) = true
kind_ends_list (kind.Word w.Desc) = true
kind_ends_list (kind.Word w.Limit) = true
kind_ends_list (kind.Word w.Offset) = true
kind_ends_list _ = false

-- a statement may end here: at the end, before `)` or before `;`
abbrev pub ends_statement : List Lexeme → Bool
ends_statement [] = true
ends_statement (t ∷ ts) = kind_ends_statement t.kind

-- a list may end here: there, or before a keyword that goes on behind a list
abbrev pub ends_list : List Lexeme → Bool
ends_list [] = true
ends_list (t ∷ ts) = kind_ends_list t.kind

-- LEFT, RIGHT or FULL
abbrev pub is_side : Lexeme → Bool
is_side t = is_word w.Left t || (is_word w.Right t || is_word w.Full t)

-- `SameTokens ts us`: the tokens `ts` that were read are the tokens `us` that were printed, one by one and in this order, but for these.
pub data SameTokens : List Lexeme → List Lexeme → Type 0 where
  -- no more tokens
  no_more : SameTokens [] []
  -- a token that says the same
  same : {t u : Lexeme} {ts us : List Lexeme} → IsAlike t u → SameTokens ts us → SameTokens (t ∷ ts) (u ∷ us)
  -- a comma behind the last part of a list is left out
  no_comma : {comma : Lexeme} {ts us : List Lexeme} →
      is_comma comma ≡ true → ends_list ts ≡ true → SameTokens ts us → SameTokens (comma ∷ ts) us
  -- a semicolon is left out, where nothing stands between it and the next one, the end or a closing bracket
  no_semicolon : {semicolon : Lexeme} {ts us : List Lexeme} →
      is_mark m.Semicolon semicolon ≡ true → ends_statement ts ≡ true → SameTokens ts us → SameTokens (semicolon ∷ ts) us
  -- ASC is left out
  no_asc : {asc : Lexeme} {ts us : List Lexeme} →
      is_word w.Asc asc ≡ true → ends_list ts ≡ true → SameTokens ts us → SameTokens (asc ∷ ts) us
  -- `count(*)` is as `count()`
  no_star : {count bracket star close : Lexeme} {ts us : List Lexeme} →
      is_count count ≡ true → is_open bracket ≡ true → is_mark m.Star star ≡ true → is_close close ≡ true →
      SameTokens (count ∷ bracket ∷ close ∷ ts) us → SameTokens (count ∷ bracket ∷ star ∷ close ∷ ts) us
  -- UPDATE and a table without SET are as with it
  with_set : {update table set : Lexeme} {ts us : List Lexeme} →
      is_word w.Update update ≡ true → is_name table ≡ true → sees (is_word w.Set) ts ≡ false → is_word w.Set set ≡ true →
      SameTokens (update ∷ table ∷ set ∷ ts) us → SameTokens (update ∷ table ∷ ts) us
  -- LEFT JOIN is as LEFT OUTER JOIN; so are RIGHT JOIN and FULL JOIN
  with_outer : {side outer join : Lexeme} {ts us : List Lexeme} →
      is_side side ≡ true → is_word w.Outer outer ≡ true → is_word w.Join join ≡ true →
      SameTokens (side ∷ outer ∷ join ∷ ts) us → SameTokens (side ∷ join ∷ ts) us

-- the same of scripts: semicolons before the first statement are left out
pub data SameScript : List Lexeme → List Lexeme → Type 0 where
  empty : {semicolon : Lexeme} {ts us : List Lexeme} → is_mark m.Semicolon semicolon ≡ true → SameScript ts us → SameScript (semicolon ∷ ts) us
  begun : {ts us : List Lexeme} → SameTokens ts us → SameScript ts us

-- what statements print, one behind the other with `; ` between them
abbrev pub ink_of_script : List Statement → List Ink
ink_of_script ss = between (ink.mark m.Semicolon ∷ space ∷ []) (map ink_of_statement ss)

-- the text that statements print is cut into tokens, and these are those of the source
pub record KeepsTokens (source : List ℕ) (tokens : List Token) (ss : List Statement) : Type 0 where
  pub printed : List Token
  pub lexed : Tokens.Reads (text_of (ink_of_script ss)) (Ok printed)
  pub kept : SameScript (lexemes source tokens) (lexemes (text_of (ink_of_script ss)) printed)

-- whatever statements the tokens of a source are read as, what these print keeps the tokens
pub record TokenLaws : Type 0 where
  pub scripts : (source : List ℕ) (tokens : List Token) (ss : List Statement) →
      Tokens.Reads source (Ok tokens) → IsRead (lexemes source tokens) ss → KeepsTokens source tokens ss
