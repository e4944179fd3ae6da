-- The keywords.
use Rattle.std.specs.Prelude.{◌≡◌, ℕ, ◌==◌, if◌then◌else◌, List, [], ◌∷◌, map, codes}
use Rattle.std.specs.Char.{to_ascii_lowercase}
use Rattle.ql_lex.specs.declared.words.Word.{Word}
use Rattle.ql_lex.specs.declared.words.Word.TheVariants as w
use Rattle.ql_lex.specs.declared.token.TokenKind.{TokenKind}
use Rattle.ql_lex.specs.declared.token.TokenKind.TheVariants as kind

-- how a keyword is written in small letters
abbrev pub word_bytes : Word → List ℕ
word_bytes w.Add = codes "add"
word_bytes w.Alter = codes "alter"
word_bytes w.And = codes "and"
word_bytes w.As = codes "as"
word_bytes w.Asc = codes "asc"
word_bytes w.Begin = codes "begin"
word_bytes w.Between = codes "between"
word_bytes w.Bigint = codes "bigint"
word_bytes w.Bigrat = codes "bigrat"
word_bytes w.Blob = codes "blob"
word_bytes w.Bool = codes "bool"
word_bytes w.By = codes "by"
word_bytes w.Byte = codes "byte"
word_bytes w.Column = codes "column"
word_bytes w.Commit = codes "commit"
word_bytes w.Complex64 = codes "complex64"
word_bytes w.Complex128 = codes "complex128"
word_bytes w.Create = codes "create"
word_bytes w.Default = codes "default"
word_bytes w.Delete = codes "delete"
word_bytes w.Desc = codes "desc"
word_bytes w.Distinct = codes "distinct"
word_bytes w.Drop = codes "drop"
word_bytes w.Duration = codes "duration"
word_bytes w.Exists = codes "exists"
word_bytes w.Explain = codes "explain"
word_bytes w.False = codes "false"
word_bytes w.Float = codes "float"
word_bytes w.Float32 = codes "float32"
word_bytes w.Float64 = codes "float64"
word_bytes w.From = codes "from"
word_bytes w.Full = codes "full"
word_bytes w.Group = codes "group"
word_bytes w.If = codes "if"
word_bytes w.In = codes "in"
word_bytes w.Index = codes "index"
word_bytes w.Insert = codes "insert"
word_bytes w.Int = codes "int"
word_bytes w.Int8 = codes "int8"
word_bytes w.Int16 = codes "int16"
word_bytes w.Int32 = codes "int32"
word_bytes w.Int64 = codes "int64"
word_bytes w.Into = codes "into"
word_bytes w.Is = codes "is"
word_bytes w.Join = codes "join"
word_bytes w.Left = codes "left"
word_bytes w.Like = codes "like"
word_bytes w.Limit = codes "limit"
word_bytes w.Not = codes "not"
word_bytes w.Null = codes "null"
word_bytes w.Offset = codes "offset"
word_bytes w.On = codes "on"
word_bytes w.Or = codes "or"
word_bytes w.Order = codes "order"
word_bytes w.Outer = codes "outer"
word_bytes w.Right = codes "right"
word_bytes w.Rollback = codes "rollback"
word_bytes w.Rune = codes "rune"
word_bytes w.Select = codes "select"
word_bytes w.Set = codes "set"
word_bytes w.String = codes "string"
word_bytes w.Table = codes "table"
word_bytes w.Time = codes "time"
word_bytes w.Transaction = codes "transaction"
word_bytes w.True = codes "true"
word_bytes w.Truncate = codes "truncate"
word_bytes w.Uint = codes "uint"
word_bytes w.Uint8 = codes "uint8"
word_bytes w.Uint16 = codes "uint16"
word_bytes w.Uint32 = codes "uint32"
word_bytes w.Uint64 = codes "uint64"
word_bytes w.Unique = codes "unique"
word_bytes w.Update = codes "update"
word_bytes w.Values = codes "values"
word_bytes w.Where = codes "where"

-- the bytes are the keyword, in any case
abbrev pub IsWord : List ℕ → Word → Type 0
IsWord run word = map to_ascii_lowercase run ≡ word_bytes word

-- a word is the keyword that it spells, or a name where it spells none
pub data Names : List ℕ → TokenKind → Type 0 where
  keyword : {run : List ℕ} {word : Word} → IsWord run word → Names run (kind.Word word)
  name : {run : List ℕ} → ((word : Word) → IsWord run word → ⊥) → Names run kind.Name

-- the keywords that begin with a small letter
abbrev pub words_with : ℕ → List Word
words_with b = if b == 97 then (w.Add ∷ w.Alter ∷ w.And ∷ w.As ∷ w.Asc ∷ [])
    else (if b == 98 then (w.Begin ∷ w.Between ∷ w.Bigint ∷ w.Bigrat ∷ w.Blob ∷ w.Bool ∷ w.By ∷ w.Byte ∷ [])
    else (if b == 99 then (w.Column ∷ w.Commit ∷ w.Complex64 ∷ w.Complex128 ∷ w.Create ∷ [])
    else (if b == 100 then (w.Default ∷ w.Delete ∷ w.Desc ∷ w.Distinct ∷ w.Drop ∷ w.Duration ∷ [])
    else (if b == 101 then (w.Exists ∷ w.Explain ∷ [])
    else (if b == 102 then (w.False ∷ w.Float ∷ w.Float32 ∷ w.Float64 ∷ w.From ∷ w.Full ∷ [])
    else (if b == 103 then (w.Group ∷ [])
    else (if b == 105 then (w.If ∷ w.In ∷ w.Index ∷ w.Insert ∷ w.Int ∷ w.Int8 ∷ w.Int16 ∷ w.Int32 ∷ w.Int64 ∷ w.Into ∷ w.Is ∷ [])
    else (if b == 106 then (w.Join ∷ [])
    else (if b == 108 then (w.Left ∷ w.Like ∷ w.Limit ∷ [])
    else (if b == 110 then (w.Not ∷ w.Null ∷ [])
    else (if b == 111 then (w.Offset ∷ w.On ∷ w.Or ∷ w.Order ∷ w.Outer ∷ [])
    else (if b == 114 then (w.Right ∷ w.Rollback ∷ w.Rune ∷ [])
    else (if b == 115 then (w.Select ∷ w.Set ∷ w.String ∷ [])
    else (if b == 116 then (w.Table ∷ w.Time ∷ w.Transaction ∷ w.True ∷ w.Truncate ∷ [])
    else (if b == 117 then (w.Uint ∷ w.Uint8 ∷ w.Uint16 ∷ w.Uint32 ∷ w.Uint64 ∷ w.Unique ∷ w.Update ∷ [])
    else (if b == 118 then (w.Values ∷ [])
    else (if b == 119 then (w.Where ∷ []) else [])))))))))))))))))
