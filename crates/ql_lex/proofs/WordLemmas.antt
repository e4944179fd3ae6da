-- The keywords against the letters that they begin with.
use Rattle.std.proofs.Common.{◌≡◌, ℕ, List, ◌∷◌, map, refl, sym, ◌∙◌, ap}
use Rattle.std.specs.Prelude.{Option, Some, None, All, slice_index, MatchOption, if◌then◌else◌}
use Rattle.std.specs.Char.{to_ascii_lowercase}
use Rattle.std.specs.List.{AllByRecursion}
use Rattle.std.specs.Str.{bytes_eq}
use Rattle.std.proofs.lemmas.List.Elements.{recursion_from_All}
use Rattle.ql_lex.specs.declared.words.Word.{Word}
use Rattle.ql_lex.specs.declared.words.Word.TheVariants as w
use Rattle.ql_lex.specs.Words.{word_bytes, words_with, IsWord}

first_byte : List ℕ → ℕ
first_byte xs = slice_index xs 0

-- a keyword stands among those that begin with its letter
picked : (P : Word → Type 0) (word : Word) → AllByRecursion P (words_with (slice_index (word_bytes word) 0)) → P word
picked P w.Add h = h.0
picked P w.Alter h = h.1.0
picked P w.And h = h.1.1.0
picked P w.As h = h.1.1.1.0
picked P w.Asc h = h.1.1.1.1.0
picked P w.Begin h = h.0
picked P w.Between h = h.1.0
picked P w.Bigint h = h.1.1.0
picked P w.Bigrat h = h.1.1.1.0
picked P w.Blob h = h.1.1.1.1.0
picked P w.Bool h = h.1.1.1.1.1.0
picked P w.By h = h.1.1.1.1.1.1.0
picked P w.Byte h = h.1.1.1.1.1.1.1.0
picked P w.Column h = h.0
picked P w.Commit h = h.1.0
picked P w.Complex64 h = h.1.1.0
picked P w.Complex128 h = h.1.1.1.0
picked P w.Create h = h.1.1.1.1.0
picked P w.Default h = h.0
picked P w.Delete h = h.1.0
picked P w.Desc h = h.1.1.0
picked P w.Distinct h = h.1.1.1.0
picked P w.Drop h = h.1.1.1.1.0
picked P w.Duration h = h.1.1.1.1.1.0
picked P w.Exists h = h.0
picked P w.Explain h = h.1.0
picked P w.False h = h.0
picked P w.Float h = h.1.0
picked P w.Float32 h = h.1.1.0
picked P w.Float64 h = h.1.1.1.0
picked P w.From h = h.1.1.1.1.0
picked P w.Full h = h.1.1.1.1.1.0
picked P w.Group h = h.0
picked P w.If h = h.0
picked P w.In h = h.1.0
picked P w.Index h = h.1.1.0
picked P w.Insert h = h.1.1.1.0
picked P w.Int h = h.1.1.1.1.0
picked P w.Int8 h = h.1.1.1.1.1.0
picked P w.Int16 h = h.1.1.1.1.1.1.0
picked P w.Int32 h = h.1.1.1.1.1.1.1.0
picked P w.Int64 h = h.1.1.1.1.1.1.1.1.0
picked P w.Into h = h.1.1.1.1.1.1.1.1.1.0
picked P w.Is h = h.1.1.1.1.1.1.1.1.1.1.0
picked P w.Join h = h.0
picked P w.Left h = h.0
picked P w.Like h = h.1.0
picked P w.Limit h = h.1.1.0
picked P w.Not h = h.0
picked P w.Null h = h.1.0
picked P w.Offset h = h.0
picked P w.On h = h.1.0
picked P w.Or h = h.1.1.0
picked P w.Order h = h.1.1.1.0
picked P w.Outer h = h.1.1.1.1.0
picked P w.Right h = h.0
picked P w.Rollback h = h.1.0
picked P w.Rune h = h.1.1.0
picked P w.Select h = h.0
picked P w.Set h = h.1.0
picked P w.String h = h.1.1.0
picked P w.Table h = h.0
picked P w.Time h = h.1.0
picked P w.Transaction h = h.1.1.0
picked P w.True h = h.1.1.1.0
picked P w.Truncate h = h.1.1.1.1.0
picked P w.Uint h = h.0
picked P w.Uint8 h = h.1.0
picked P w.Uint16 h = h.1.1.0
picked P w.Uint32 h = h.1.1.1.0
picked P w.Uint64 h = h.1.1.1.1.0
picked P w.Unique h = h.1.1.1.1.1.0
picked P w.Update h = h.1.1.1.1.1.1.0
picked P w.Values h = h.0
picked P w.Where h = h.0

pub no_word : (b : ℕ) (rest run : List ℕ) → run ≡ b ∷ rest → All (λ word. IsWord run word → ⊥) (words_with (to_ascii_lowercase b)) → (word : Word) → IsWord run word → ⊥
no_word b rest run e none word is =
    let spelled : map to_ascii_lowercase (b ∷ rest) ≡ word_bytes word = ap (map to_ascii_lowercase) (sym e) ∙ is in
    let head : to_ascii_lowercase b ≡ slice_index (word_bytes word) 0 = ap (λ (xs : List ℕ). slice_index xs 0) spelled in
    let all = recursion_from_All (λ (x : Word). IsWord run x → ⊥) (words_with (to_ascii_lowercase b)) none in
    picked (λ (x : Word). IsWord run x → ⊥) word (rw head at all) is

pub no_word_of : (r : Option Word) (b l : ℕ) (rest run : List ℕ) (words : List Word) → run ≡ b ∷ rest → l ≡ to_ascii_lowercase b → words ≡ words_with l → MatchOption r (All (λ word. IsWord run word → ⊥) words) (IsWord run) → MatchOption r ((word : Word) → IsWord run word → ⊥) (IsWord run)
no_word_of None b l rest run words e f g none =
    let same : words ≡ words_with (to_ascii_lowercase b) = g ∙ ap words_with f in
    no_word b rest run e (rw same at none)
no_word_of (Some word) b l rest run words e f g is = is

-- the keyword that is written so
pub found : List ℕ → Option Word
found bytes = if bytes_eq bytes (word_bytes w.Add) then Some w.Add
    else (if bytes_eq bytes (word_bytes w.Alter) then Some w.Alter
    else (if bytes_eq bytes (word_bytes w.And) then Some w.And
    else (if bytes_eq bytes (word_bytes w.As) then Some w.As
    else (if bytes_eq bytes (word_bytes w.Asc) then Some w.Asc
    else (if bytes_eq bytes (word_bytes w.Begin) then Some w.Begin
    else (if bytes_eq bytes (word_bytes w.Between) then Some w.Between
    else (if bytes_eq bytes (word_bytes w.Bigint) then Some w.Bigint
    else (if bytes_eq bytes (word_bytes w.Bigrat) then Some w.Bigrat
    else (if bytes_eq bytes (word_bytes w.Blob) then Some w.Blob
    else (if bytes_eq bytes (word_bytes w.Bool) then Some w.Bool
    else (if bytes_eq bytes (word_bytes w.By) then Some w.By
    else (if bytes_eq bytes (word_bytes w.Byte) then Some w.Byte
    else (if bytes_eq bytes (word_bytes w.Column) then Some w.Column
    else (if bytes_eq bytes (word_bytes w.Commit) then Some w.Commit
    else (if bytes_eq bytes (word_bytes w.Complex64) then Some w.Complex64
    else (if bytes_eq bytes (word_bytes w.Complex128) then Some w.Complex128
    else (if bytes_eq bytes (word_bytes w.Create) then Some w.Create
    else (if bytes_eq bytes (word_bytes w.Default) then Some w.Default
    else (if bytes_eq bytes (word_bytes w.Delete) then Some w.Delete
    else (if bytes_eq bytes (word_bytes w.Desc) then Some w.Desc
    else (if bytes_eq bytes (word_bytes w.Distinct) then Some w.Distinct
    else (if bytes_eq bytes (word_bytes w.Drop) then Some w.Drop
    else (if bytes_eq bytes (word_bytes w.Duration) then Some w.Duration
    else (if bytes_eq bytes (word_bytes w.Exists) then Some w.Exists
    else (if bytes_eq bytes (word_bytes w.Explain) then Some w.Explain
    else (if bytes_eq bytes (word_bytes w.False) then Some w.False
    else (if bytes_eq bytes (word_bytes w.Float) then Some w.Float
    else (if bytes_eq bytes (word_bytes w.Float32) then Some w.Float32
    else (if bytes_eq bytes (word_bytes w.Float64) then Some w.Float64
    else (if bytes_eq bytes (word_bytes w.From) then Some w.From
    else (if bytes_eq bytes (word_bytes w.Full) then Some w.Full
    else (if bytes_eq bytes (word_bytes w.Group) then Some w.Group
    else (if bytes_eq bytes (word_bytes w.If) then Some w.If
    else (if bytes_eq bytes (word_bytes w.In) then Some w.In
    else (if bytes_eq bytes (word_bytes w.Index) then Some w.Index
    else (if bytes_eq bytes (word_bytes w.Insert) then Some w.Insert
    else (if bytes_eq bytes (word_bytes w.Int) then Some w.Int
    else (if bytes_eq bytes (word_bytes w.Int8) then Some w.Int8
    else (if bytes_eq bytes (word_bytes w.Int16) then Some w.Int16
    else (if bytes_eq bytes (word_bytes w.Int32) then Some w.Int32
    else (if bytes_eq bytes (word_bytes w.Int64) then Some w.Int64
    else (if bytes_eq bytes (word_bytes w.Into) then Some w.Into
    else (if bytes_eq bytes (word_bytes w.Is) then Some w.Is
    else (if bytes_eq bytes (word_bytes w.Join) then Some w.Join
    else (if bytes_eq bytes (word_bytes w.Left) then Some w.Left
    else (if bytes_eq bytes (word_bytes w.Like) then Some w.Like
    else (if bytes_eq bytes (word_bytes w.Limit) then Some w.Limit
    else (if bytes_eq bytes (word_bytes w.Not) then Some w.Not
    else (if bytes_eq bytes (word_bytes w.Null) then Some w.Null
    else (if bytes_eq bytes (word_bytes w.Offset) then Some w.Offset
    else (if bytes_eq bytes (word_bytes w.On) then Some w.On
    else (if bytes_eq bytes (word_bytes w.Or) then Some w.Or
    else (if bytes_eq bytes (word_bytes w.Order) then Some w.Order
    else (if bytes_eq bytes (word_bytes w.Outer) then Some w.Outer
    else (if bytes_eq bytes (word_bytes w.Right) then Some w.Right
    else (if bytes_eq bytes (word_bytes w.Rollback) then Some w.Rollback
    else (if bytes_eq bytes (word_bytes w.Rune) then Some w.Rune
    else (if bytes_eq bytes (word_bytes w.Select) then Some w.Select
    else (if bytes_eq bytes (word_bytes w.Set) then Some w.Set
    else (if bytes_eq bytes (word_bytes w.String) then Some w.String
    else (if bytes_eq bytes (word_bytes w.Table) then Some w.Table
    else (if bytes_eq bytes (word_bytes w.Time) then Some w.Time
    else (if bytes_eq bytes (word_bytes w.Transaction) then Some w.Transaction
    else (if bytes_eq bytes (word_bytes w.True) then Some w.True
    else (if bytes_eq bytes (word_bytes w.Truncate) then Some w.Truncate
    else (if bytes_eq bytes (word_bytes w.Uint) then Some w.Uint
    else (if bytes_eq bytes (word_bytes w.Uint8) then Some w.Uint8
    else (if bytes_eq bytes (word_bytes w.Uint16) then Some w.Uint16
    else (if bytes_eq bytes (word_bytes w.Uint32) then Some w.Uint32
    else (if bytes_eq bytes (word_bytes w.Uint64) then Some w.Uint64
    else (if bytes_eq bytes (word_bytes w.Unique) then Some w.Unique
    else (if bytes_eq bytes (word_bytes w.Update) then Some w.Update
    else (if bytes_eq bytes (word_bytes w.Values) then Some w.Values
    else (if bytes_eq bytes (word_bytes w.Where) then Some w.Where
    else (None)))))))))))))))))))))))))))))))))))))))))))))))))))))))))))))))))))))))))))

pub found-bytes : (word : Word) → found (word_bytes word) ≡ Some word
unfolding found
found-bytes w.Add = refl
found-bytes w.Alter = refl
found-bytes w.And = refl
found-bytes w.As = refl
found-bytes w.Asc = refl
found-bytes w.Begin = refl
found-bytes w.Between = refl
found-bytes w.Bigint = refl
found-bytes w.Bigrat = refl
found-bytes w.Blob = refl
found-bytes w.Bool = refl
found-bytes w.By = refl
found-bytes w.Byte = refl
found-bytes w.Column = refl
found-bytes w.Commit = refl
found-bytes w.Complex64 = refl
found-bytes w.Complex128 = refl
found-bytes w.Create = refl
found-bytes w.Default = refl
found-bytes w.Delete = refl
found-bytes w.Desc = refl
found-bytes w.Distinct = refl
found-bytes w.Drop = refl
found-bytes w.Duration = refl
found-bytes w.Exists = refl
found-bytes w.Explain = refl
found-bytes w.False = refl
found-bytes w.Float = refl
found-bytes w.Float32 = refl
found-bytes w.Float64 = refl
found-bytes w.From = refl
found-bytes w.Full = refl
found-bytes w.Group = refl
found-bytes w.If = refl
found-bytes w.In = refl
found-bytes w.Index = refl
found-bytes w.Insert = refl
found-bytes w.Int = refl
found-bytes w.Int8 = refl
found-bytes w.Int16 = refl
found-bytes w.Int32 = refl
found-bytes w.Int64 = refl
found-bytes w.Into = refl
found-bytes w.Is = refl
found-bytes w.Join = refl
found-bytes w.Left = refl
found-bytes w.Like = refl
found-bytes w.Limit = refl
found-bytes w.Not = refl
found-bytes w.Null = refl
found-bytes w.Offset = refl
found-bytes w.On = refl
found-bytes w.Or = refl
found-bytes w.Order = refl
found-bytes w.Outer = refl
found-bytes w.Right = refl
found-bytes w.Rollback = refl
found-bytes w.Rune = refl
found-bytes w.Select = refl
found-bytes w.Set = refl
found-bytes w.String = refl
found-bytes w.Table = refl
found-bytes w.Time = refl
found-bytes w.Transaction = refl
found-bytes w.True = refl
found-bytes w.Truncate = refl
found-bytes w.Uint = refl
found-bytes w.Uint8 = refl
found-bytes w.Uint16 = refl
found-bytes w.Uint32 = refl
found-bytes w.Uint64 = refl
found-bytes w.Unique = refl
found-bytes w.Update = refl
found-bytes w.Values = refl
found-bytes w.Where = refl

-- keywords that are written alike are the same keyword
pub same_word : (x y : Word) → word_bytes x ≡ word_bytes y → x ≡ y
same_word x y e =
    let one = found-bytes x in
    let other = found-bytes y in
    let same : found (word_bytes x) ≡ found (word_bytes y) = ap found e in
    cc
