-- The grammar as a value. Each line of `rule_of` is a production.
use Rattle.std.specs.Prelude.{Bool, true, false, ◌&&◌, ◌||◌, List}
use Rattle.ql_lex.specs.declared.marks.Mark.{Mark}
use Rattle.ql_lex.specs.declared.marks.Mark.TheVariants as m
use Rattle.ql_lex.specs.declared.words.Word.{Word}
use Rattle.ql_lex.specs.declared.words.Word.TheVariants as w
use Rattle.ql_syntax.specs.Lexemes.{Lexeme, is_mark, is_word, is_name, is_number, is_text, is_open, is_comma, is_either, is_both, is_comparison, is_sum, is_product, is_prefix, is_kind, is_id, is_count, is_function, sees, sees_two}

-- what the grammar has a line for
pub data Production : Type 0 where
  statement creation removal alteration insertion update deletion column select set ref : Production
  expr term factor predicate sum product unary primary : Production

infixr 20 ◌then◌
infixr 10 ◌or◌
-- What a place of the grammar may ask for.
pub data Rule : Type 0 where
  -- one token that passes a test
  token : (Lexeme → Bool) → Rule
  -- one token that passes a test and stands directly before one that passes another; that one is not taken
  before : (Lexeme → Bool) → (Lexeme → Bool) → Rule
  -- no token
  nothing : Rule
  -- `x y`
  ◌then◌ : Rule → Rule → Rule
  -- `x | y`
  ◌or◌ : Rule → Rule → Rule
  -- `[x]`
  maybe : Rule → Rule
  -- `{x}`
  many : Rule → Rule
  -- `"(" x ")"`
  bracketed : Rule → Rule
  -- `{"," x} [","]`
  further : Rule → Rule
  -- the end of the tokens
  finish : Rule
  -- what a production says
  the : Production → Rule

-- a mark
abbrev pub mark : Mark → Rule
mark a = token (is_mark a)

-- a keyword
abbrev pub word : Word → Rule
word a = token (is_word a)

-- a name
abbrev pub name : Rule
name = token is_name

-- `x {"," x} [","]`
abbrev pub list : Rule → Rule
list x = x then further x

-- `IF EXISTS`
abbrev pub if_exists : Rule
if_exists = word w.If then word w.Exists

-- `IF NOT EXISTS`
abbrev pub if_not_exists : Rule
if_not_exists = word w.If then word w.Not then word w.Exists

-- `WHERE Expr`
abbrev pub filter : Rule
filter = word w.Where then the expr

-- `Select [";"]`
abbrev pub subselect : Rule
subselect = the select then maybe (mark m.Semicolon)

-- `(LEFT | RIGHT | FULL) [OUTER] JOIN Set ON Expr`
abbrev pub join : Rule
join = (word w.Left or word w.Right or word w.Full) then maybe (word w.Outer) then word w.Join then the set then word w.On then the expr

-- what an index orders by: `id()`, or the name of a column
abbrev pub item_rule : Rule
item_rule = before is_id is_open then bracketed nothing or name

-- The productions. Alternatives that begin with the same tokens and parts are written as one up to the place where they differ.
abbrev pub rule_of : Production → Rule
rule_of statement =
    word w.Begin then word w.Transaction
    or word w.Commit
    or word w.Rollback
    or the select
    or the creation
    or the removal
    or the alteration
    or word w.Truncate then word w.Table then name
    or the insertion
    or the update
    or the deletion
rule_of creation = word w.Create then (
    word w.Table then maybe if_not_exists then name then bracketed (list (the column))
    or maybe (word w.Unique) then word w.Index then maybe if_not_exists then name then word w.On then name
    then bracketed item_rule)
rule_of removal = word w.Drop then (
    word w.Table then maybe if_exists then name
    or word w.Index then maybe if_exists then name)
rule_of alteration = word w.Alter then word w.Table then name then (
    word w.Add then the column
    or word w.Drop then word w.Column then name)
rule_of insertion = word w.Insert then word w.Into then name then maybe (bracketed (list name)) then (
    word w.Values then list (bracketed (list (the expr)))
    or the select)
rule_of update = word w.Update then name then maybe (word w.Set) then list (name then mark m.Equal then the expr) then maybe filter
rule_of deletion = word w.Delete then word w.From then name then maybe filter
rule_of column = name then token is_kind then maybe (word w.Not then word w.Null or the expr) then maybe (word w.Default then the expr)
rule_of select = word w.Select then maybe (word w.Distinct)
    then (mark m.Star or list (the expr then maybe (word w.As then name)))
    then maybe (word w.From then list (the set) then maybe join)
    then maybe filter
    then maybe (word w.Group then word w.By then list (the ref))
    then maybe (word w.Order then word w.By then list (the expr) then maybe (word w.Asc or word w.Desc))
    then maybe (word w.Limit then the expr)
    then maybe (word w.Offset then the expr)
rule_of set = (name or bracketed subselect) then maybe (word w.As then name)
rule_of ref = name then maybe (mark m.Dot then name)
rule_of expr = the term then many (token is_either then the term)
rule_of term = the factor then many (token is_both then the factor)
rule_of factor = the sum then many (token is_comparison then the sum) then maybe (the predicate)
rule_of predicate = maybe (word w.Not) then (
    word w.In then bracketed (list (the expr) or subselect)
    or word w.Between then the sum then word w.And then the sum)
    or word w.Is then maybe (word w.Not) then word w.Null
rule_of sum = the product then many (token is_sum then the product)
rule_of product = the unary then many (token is_product then the unary)
rule_of unary = many (token is_prefix) then the primary
rule_of primary =
    token is_number
    or token is_text
    or word w.True
    or word w.False
    or word w.Null
    or before is_count is_open then bracketed (maybe (mark m.Star or list (the expr)))
    or before is_function is_open then bracketed (maybe (list (the expr)))
    or the ref
    or bracketed (the expr)
    or token is_kind then bracketed (the expr)

-- `Script = [Statement] {";" [Statement]}`, and then the end
abbrev pub script : Rule
script = maybe (the statement) then many (mark m.Semicolon then maybe (the statement)) then finish

-- a rule may be met by no token at all; an alternative is always one that begins
abbrev pub may_be_empty : Rule → Bool
may_be_empty nothing = true
may_be_empty (maybe x) = true
may_be_empty (many x) = true
may_be_empty (further x) = true
may_be_empty (x then y) = may_be_empty x && may_be_empty y
may_be_empty _ = false

-- a primary begins here
abbrev pub begins_primary : List Lexeme → Bool
begins_primary ts = sees is_number ts || (sees is_text ts || (sees (is_word w.True) ts || (sees (is_word w.False) ts || (sees (is_word w.Null) ts
    || (sees_two is_count is_open ts || (sees_two is_function is_open ts || (sees is_name ts || (sees is_open ts || sees is_kind ts))))))))

-- an expression begins here, and so does each level of it
abbrev pub begins_expr : List Lexeme → Bool
begins_expr ts = sees is_prefix ts || begins_primary ts

-- what a production says begins here
abbrev pub begins_the : Production → List Lexeme → Bool
begins_the statement ts = sees (is_word w.Begin) ts || (sees (is_word w.Commit) ts || (sees (is_word w.Rollback) ts || (sees (is_word w.Select) ts
    || (sees (is_word w.Create) ts || (sees (is_word w.Drop) ts || (sees (is_word w.Alter) ts || (sees (is_word w.Truncate) ts
    || (sees (is_word w.Insert) ts || (sees (is_word w.Update) ts || sees (is_word w.Delete) ts)))))))))
begins_the creation ts = sees (is_word w.Create) ts
begins_the removal ts = sees (is_word w.Drop) ts
begins_the alteration ts = sees (is_word w.Alter) ts
begins_the insertion ts = sees (is_word w.Insert) ts
begins_the update ts = sees (is_word w.Update) ts
begins_the deletion ts = sees (is_word w.Delete) ts
begins_the column ts = sees is_name ts
begins_the select ts = sees (is_word w.Select) ts
begins_the set ts = sees is_name ts || sees is_open ts
begins_the ref ts = sees is_name ts
begins_the expr ts = begins_expr ts
begins_the term ts = begins_expr ts
begins_the factor ts = begins_expr ts
begins_the predicate ts = (sees (is_word w.Not) ts || (sees (is_word w.In) ts || sees (is_word w.Between) ts)) || sees (is_word w.Is) ts
begins_the sum ts = begins_expr ts
begins_the product ts = begins_expr ts
begins_the unary ts = begins_expr ts
begins_the primary ts = begins_primary ts

-- two parts in turn begin where the first does, or where the second does and the first may be empty
abbrev pub in_turn : Bool → Bool → Bool → Bool
in_turn true one two = one || two
in_turn false one two = one

-- Here a rule can begin: the next token, for a name that must stand before another the next two, can be the first of it.
abbrev pub enters : Rule → List Lexeme → Bool
enters (token test) ts = sees test ts
enters (before test next) ts = sees_two test next ts
enters nothing ts = false
enters (x then y) ts = in_turn (may_be_empty x) (enters x ts) (enters y ts)
enters (x or y) ts = enters x ts || enters y ts
enters (maybe x) ts = enters x ts
enters (many x) ts = enters x ts
enters (bracketed x) ts = sees is_open ts
enters (further x) ts = sees is_comma ts
enters finish ts = false
enters (the p) ts = begins_the p ts
