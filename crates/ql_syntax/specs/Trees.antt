-- The syntax tree of a reading of an expression or of a SELECT. A reading of another shape than its rule's has no meaning.
use Rattle.std.specs.Prelude.{ℕ, Bool, true, false, if◌then◌else◌, List, [], ◌∷◌, Option, Some, None}
use Rattle.std.specs.Str.{bytes_eq}
use Rattle.ql_lex.specs.Meaning.{text_value}
use Rattle.ql_lex.specs.Numbers.{number_value}
use Rattle.ql_lex.specs.declared.marks.Mark.TheVariants as m
use Rattle.ql_lex.specs.declared.words.Word.TheVariants as w
use Rattle.ql_lex.specs.declared.token.TokenKind.{TokenKind}
use Rattle.ql_lex.specs.declared.token.TokenKind.TheVariants as kind
use Rattle.ql_value.specs.declared.operator.BinOp.{BinOp}
use Rattle.ql_value.specs.declared.operator.BinOp.TheVariants as bin
use Rattle.ql_value.specs.declared.operator.UnOp.{UnOp}
use Rattle.ql_value.specs.declared.operator.UnOp.TheVariants as un
use Rattle.ql_value.specs.declared.value.Kind.{Kind}
use Rattle.ql_value.specs.declared.value.Kind.TheVariants as k
use Rattle.ql_syntax.specs.declared.syntax.Expr.{Expr}
use Rattle.ql_syntax.specs.declared.syntax.Expr.TheVariants as e
use Rattle.ql_syntax.specs.declared.syntax.Field.{Field, roll-Field}
use Rattle.ql_syntax.specs.declared.syntax.FromSet.{FromSet, roll-FromSet}
use Rattle.ql_syntax.specs.declared.syntax.Function.{Function}
use Rattle.ql_syntax.specs.declared.syntax.Function.TheVariants as f
use Rattle.ql_syntax.specs.declared.syntax.Join.{Join, roll-Join}
use Rattle.ql_syntax.specs.declared.syntax.Link.{Link, roll-Link}
use Rattle.ql_syntax.specs.declared.syntax.Select.{Select, roll-Select}
use Rattle.ql_syntax.specs.declared.syntax.SetSource.{SetSource}
use Rattle.ql_syntax.specs.declared.syntax.SetSource.TheVariants as source
use Rattle.ql_syntax.specs.declared.syntax.Side.{Side}
use Rattle.ql_syntax.specs.declared.syntax.Side.TheVariants as side
use Rattle.ql_syntax.specs.Functions.{function_bytes}
use Rattle.ql_syntax.specs.Rules as p
use Rattle.ql_syntax.specs.Readings.{Parse, leaf, pair, left, right, present, cell, group, node}

-- the operator between two parts that a token is
abbrev pub bin_op : TokenKind → BinOp
bin_op (kind.Mark m.OrOr) = bin.Either
bin_op (kind.Word w.Or) = bin.Either
bin_op (kind.Mark m.AndAnd) = bin.Both
bin_op (kind.Word w.And) = bin.Both
bin_op (kind.Mark m.EqualEqual) = bin.Eq
bin_op (kind.Mark m.Equal) = bin.Eq
bin_op (kind.Mark m.BangEqual) = bin.Ne
bin_op (kind.Mark m.LessGreater) = bin.Ne
bin_op (kind.Mark m.Less) = bin.Lt
bin_op (kind.Mark m.LessEqual) = bin.Le
bin_op (kind.Mark m.Greater) = bin.Gt
bin_op (kind.Mark m.GreaterEqual) = bin.Ge
bin_op (kind.Word w.Like) = bin.Like
bin_op (kind.Mark m.Plus) = bin.Add
bin_op (kind.Mark m.Minus) = bin.Sub
bin_op (kind.Mark m.Bar) = bin.Or
bin_op (kind.Mark m.Caret) = bin.Xor
bin_op (kind.Mark m.Star) = bin.Mul
bin_op (kind.Mark m.Slash) = bin.Div
bin_op (kind.Mark m.Percent) = bin.Rem
bin_op (kind.Mark m.ShiftLeft) = bin.Shl
bin_op (kind.Mark m.ShiftRight) = bin.Shr
bin_op (kind.Mark m.Ampersand) = bin.And
bin_op _ = bin.AndNot

-- the operator before a part that a token is
abbrev pub un_op : TokenKind → UnOp
un_op (kind.Mark m.Plus) = un.Plus
un_op (kind.Mark m.Minus) = un.Minus
un_op (kind.Mark m.Bang) = un.Not
un_op _ = un.Flip

-- the kind that a keyword names
abbrev pub kind_named : TokenKind → Kind
kind_named (kind.Word w.Bool) = k.Bool
kind_named (kind.Word w.String) = k.Text
kind_named (kind.Word w.Blob) = k.Blob
kind_named (kind.Word w.Byte) = k.Uint8
kind_named (kind.Word w.Rune) = k.Int32
kind_named (kind.Word w.Int) = k.Int64
kind_named (kind.Word w.Uint) = k.Uint64
kind_named (kind.Word w.Int8) = k.Int8
kind_named (kind.Word w.Int16) = k.Int16
kind_named (kind.Word w.Int32) = k.Int32
kind_named (kind.Word w.Int64) = k.Int64
kind_named (kind.Word w.Uint8) = k.Uint8
kind_named (kind.Word w.Uint16) = k.Uint16
kind_named (kind.Word w.Uint32) = k.Uint32
kind_named _ = k.Uint64

-- the function with a name
abbrev pub function_named : List ℕ → Function
function_named name =
    if bytes_eq name (function_bytes f.Id) then f.Id
    else (if bytes_eq name (function_bytes f.Len) then f.Len
    else (if bytes_eq name (function_bytes f.Contains) then f.Contains
    else (if bytes_eq name (function_bytes f.HasPrefix) then f.HasPrefix
    else (if bytes_eq name (function_bytes f.HasSuffix) then f.HasSuffix
    else (if bytes_eq name (function_bytes f.Coalesce) then f.Coalesce
    else (if bytes_eq name (function_bytes f.Count) then f.Count
    else (if bytes_eq name (function_bytes f.Sum) then f.Sum
    else (if bytes_eq name (function_bytes f.Avg) then f.Avg
    else (if bytes_eq name (function_bytes f.Min) then f.Min else f.Max)))))))))

-- a part that may be left out is there
abbrev pub is_present : Parse → Bool
is_present (present a) = true
is_present _ = false

-- the bytes of a name
abbrev pub name_of : Parse → List ℕ
name_of (leaf t) = t.text
name_of _ = []

-- the name behind AS
abbrev pub alias_of : Parse → Option (List ℕ)
alias_of (present (pair _ n)) = Some (name_of n)
alias_of _ = None

-- a column, with or without its table
abbrev pub column_of : Parse → Expr
column_of (pair n (present (pair _ c))) = e.Column (Some (name_of n)) (name_of c)
column_of (pair n _) = e.Column None (name_of n)
column_of _ = e.Null

-- operators before a part
abbrev pub ops_of : Parse → List UnOp
ops_of (cell (leaf t) more) = un_op t.kind ∷ ops_of more
ops_of _ = []

-- a part with links behind it; one with none is that part
abbrev pub chain : Expr → List Link → Expr
chain part [] = part
chain part (l ∷ ls) = e.Chain part (l ∷ ls)

-- a part with operators before it; one with none is that part
abbrev pub signed : List UnOp → Expr → Expr
signed [] part = part
signed (o ∷ os) part = e.Unary (o ∷ os) part

-- the side of a join
abbrev pub side_of : Parse → Side
side_of (left a) = side.Left
side_of (right (left a)) = side.Right
side_of _ = side.Full

-- DESC stands behind the keys of ORDER BY
abbrev pub is_descending : Parse → Bool
is_descending (present (pair _ (pair _ (pair _ (present (right a)))))) = true
is_descending _ = false

abbrev mutual
  -- an expression, by any of its productions
  pub expr_of : Parse → Expr
  expr_of (node p.primary a) = primary_of a
  expr_of (node p.ref a) = column_of a
  expr_of (node p.unary (pair a b)) = signed (ops_of a) (expr_of b)
  expr_of (node p.factor (pair a (pair b c))) = tested_of (chain (expr_of a) (links_of b)) c
  expr_of (node p.expr (pair a b)) = chain (expr_of a) (links_of b)
  expr_of (node p.term (pair a b)) = chain (expr_of a) (links_of b)
  expr_of (node p.sum (pair a b)) = chain (expr_of a) (links_of b)
  expr_of (node p.product (pair a b)) = chain (expr_of a) (links_of b)
  expr_of _ = e.Null

  -- the links of a chain
  pub links_of : Parse → List Link
  links_of (cell (pair (leaf t) a) more) = roll-Link (record { op = bin_op t.kind; part = expr_of a }) ∷ links_of more
  links_of _ = []

  -- the expressions of a list, from its first member or from a later one on
  pub exprs_of : Parse → List Expr
  exprs_of (pair a more) = expr_of a ∷ exprs_of more
  exprs_of (cell a more) = expr_of a ∷ exprs_of more
  exprs_of (present a) = exprs_of a
  exprs_of (right a) = exprs_of a
  exprs_of _ = []

  -- a primary
  pub primary_of : Parse → Expr
  primary_of (left (leaf t)) = e.Number (number_value t.text)
  primary_of (right a) = after_number a
  primary_of _ = e.Null

  -- one that is no number
  pub after_number : Parse → Expr
  after_number (left (leaf t)) = e.Text (text_value t.text)
  after_number (right (left a)) = e.Truth true
  after_number (right (right (left a))) = e.Truth false
  after_number (right (right (right (left a)))) = e.Null
  after_number (right (right (right (right a)))) = after_null a
  after_number _ = e.Null

  -- one that is no literal: a call of count, another call, a column, brackets or a conversion
  pub after_null : Parse → Expr
  after_null (left (pair n (group (present (left a))))) = e.Call (function_named (name_of n)) true []
  after_null (left (pair n (group a))) = e.Call (function_named (name_of n)) false (exprs_of a)
  after_null (right (left (pair n (group a)))) = e.Call (function_named (name_of n)) false (exprs_of a)
  after_null (right (right (left a))) = expr_of a
  after_null (right (right (right (left (group a))))) = e.Paren (expr_of a)
  after_null (right (right (right (right (pair (leaf t) (group a)))))) = e.Convert (kind_named t.kind) (expr_of a)
  after_null _ = e.Null

  -- a part with the predicate behind it, if there is one
  pub tested_of : Expr → Parse → Expr
  tested_of part (present (node _ (left (pair n (left (pair _ (group (left a)))))))) = e.IsIn (is_present n) part (exprs_of a)
  tested_of part (present (node _ (left (pair n (left (pair _ (group (right (pair q _))))))))) = e.IsInSelect (is_present n) part (select_of q)
  tested_of part (present (node _ (left (pair n (right (pair _ (pair low (pair _ high)))))))) = e.IsBetween (is_present n) part (expr_of low) (expr_of high)
  tested_of part (present (node _ (right (pair _ (pair n _))))) = e.IsNull (is_present n) part
  tested_of part _ = part

  -- the expression behind a keyword, if it is there
  pub option_of : Parse → Option Expr
  option_of (present (pair _ a)) = Some (expr_of a)
  option_of _ = None

  -- the expressions behind GROUP BY or ORDER BY
  pub behind_by : Parse → List Expr
  behind_by (present (pair _ (pair _ (pair (pair a more) _)))) = expr_of a ∷ exprs_of more
  behind_by (present (pair _ (pair _ (pair a more)))) = expr_of a ∷ exprs_of more
  behind_by _ = []

  -- a field
  pub field_of : Parse → Field
  field_of (pair a n) = roll-Field (record { expr = expr_of a; alias = alias_of n })
  field_of _ = roll-Field (record { expr = e.Null; alias = None })

  -- the fields of a SELECT, none of them for `*`
  pub fields_of : Parse → List Field
  fields_of (right a) = fields_of a
  fields_of (pair a more) = field_of a ∷ fields_of more
  fields_of (cell a more) = field_of a ∷ fields_of more
  fields_of _ = []

  -- what a record set is made of
  pub source_of : Parse → SetSource
  source_of (right (group (pair q _))) = source.Query (select_of q)
  source_of (left n) = source.Table (name_of n)
  source_of _ = source.Table []

  -- a record set
  pub set_of : Parse → FromSet
  set_of (node _ (pair a n)) = roll-FromSet (record { source = source_of a; alias = alias_of n })
  set_of _ = roll-FromSet (record { source = source.Table []; alias = None })

  -- the record sets of a list
  pub sets_in : Parse → List FromSet
  sets_in (pair a more) = set_of a ∷ sets_in more
  sets_in (cell a more) = set_of a ∷ sets_in more
  sets_in _ = []

  -- the record sets behind FROM
  pub sets_of : Parse → List FromSet
  sets_of (present (pair _ (pair a _))) = sets_in a
  sets_of _ = []

  -- the join behind them
  pub join_of : Parse → Option Join
  join_of (present (pair _ (pair _ (present (pair s (pair _ (pair _ (pair a (pair _ on))))))))) =
      Some (roll-Join (record { side = side_of s; set = set_of a; on = expr_of on }))
  join_of _ = None

  -- a SELECT
  pub select_of : Parse → Select
  select_of (node _ (pair _ (pair d (pair shown (pair from (pair filter (pair groups (pair order (pair limit offset))))))))) =
      roll-Select (record {
        distinct = is_present d;
        fields = fields_of shown;
        sets = sets_of from;
        join = join_of from;
        filter = option_of filter;
        groups = behind_by groups;
        keys = behind_by order;
        descending = is_descending order;
        limit = option_of limit;
        offset = option_of offset;
      })
  select_of _ = roll-Select (record {
    distinct = false;
    fields = [];
    sets = [];
    join = None;
    filter = None;
    groups = [];
    keys = [];
    descending = false;
    limit = None;
    offset = None;
  })
