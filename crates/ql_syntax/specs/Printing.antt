-- What an expression and a SELECT print.
use Rattle.std.specs.Prelude.{ℕ, Bool, true, false, List, [], ◌∷◌, ◌++◌, map, flat_map, Option, Some, None}
use Rattle.ql_lex.specs.declared.marks.Mark.TheVariants as m
use Rattle.ql_lex.specs.declared.words.Word.{Word}
use Rattle.ql_lex.specs.declared.words.Word.TheVariants as w
use Rattle.ql_value.specs.declared.operator.BinOp.{BinOp}
use Rattle.ql_value.specs.declared.operator.BinOp.TheVariants as bin
use Rattle.ql_value.specs.declared.operator.UnOp.{UnOp}
use Rattle.ql_value.specs.declared.operator.UnOp.TheVariants as un
use Rattle.ql_value.specs.declared.value.Kind.{Kind}
use Rattle.ql_value.specs.declared.value.Kind.TheVariants as k
use Rattle.ql_syntax.specs.declared.syntax.Expr.{Expr}
use Rattle.ql_syntax.specs.declared.syntax.Expr.TheOpen.{Expr-F, Link-F, Select-F, Field-F, SetSource-F, FromSet-F, Join-F}
use Rattle.ql_syntax.specs.declared.syntax.Expr.TheFolds.{fold-Expr, fold-Link, fold-Select, fold-Field, fold-SetSource, fold-FromSet, fold-Join}
use Rattle.ql_syntax.specs.declared.syntax.Field.{Field}
use Rattle.ql_syntax.specs.declared.syntax.FromSet.{FromSet}
use Rattle.ql_syntax.specs.declared.syntax.Function.{Function}
use Rattle.ql_syntax.specs.declared.syntax.Join.{Join}
use Rattle.ql_syntax.specs.declared.syntax.Link.{Link}
use Rattle.ql_syntax.specs.declared.syntax.Select.{Select}
use Rattle.ql_syntax.specs.declared.syntax.SetSource.{SetSource}
use Rattle.ql_syntax.specs.declared.syntax.Side.{Side}
use Rattle.ql_syntax.specs.declared.syntax.Side.TheVariants as side
use Rattle.ql_syntax.specs.Functions.{function_bytes}
use Rattle.ql_syntax.specs.Ink.{Ink, space, mark, keyword, small, name, number, string, between, listed, bracketed}

-- a printed part
abbrev pub Inks : Type 0
Inks = List Ink

-- an operator between two parts
abbrev pub ink_of_bin : BinOp → Ink
ink_of_bin bin.Mul = mark m.Star
ink_of_bin bin.Div = mark m.Slash
ink_of_bin bin.Rem = mark m.Percent
ink_of_bin bin.Shl = mark m.ShiftLeft
ink_of_bin bin.Shr = mark m.ShiftRight
ink_of_bin bin.And = mark m.Ampersand
ink_of_bin bin.AndNot = mark m.AndNot
ink_of_bin bin.Add = mark m.Plus
ink_of_bin bin.Sub = mark m.Minus
ink_of_bin bin.Or = mark m.Bar
ink_of_bin bin.Xor = mark m.Caret
ink_of_bin bin.Eq = mark m.EqualEqual
ink_of_bin bin.Ne = mark m.BangEqual
ink_of_bin bin.Lt = mark m.Less
ink_of_bin bin.Le = mark m.LessEqual
ink_of_bin bin.Gt = mark m.Greater
ink_of_bin bin.Ge = mark m.GreaterEqual
ink_of_bin bin.Both = mark m.AndAnd
ink_of_bin bin.Either = mark m.OrOr
ink_of_bin bin.Like = keyword w.Like

-- an operator before a part
abbrev pub ink_of_un : UnOp → Ink
ink_of_un un.Plus = mark m.Plus
ink_of_un un.Minus = mark m.Minus
ink_of_un un.Not = mark m.Bang
ink_of_un un.Flip = mark m.Caret

-- operators before a part, each further one behind a blank
abbrev pub ink_of_ops : List UnOp → Inks
ink_of_ops ops = between (space ∷ []) (map (λ op. ink_of_un op ∷ []) ops)

-- the keyword of a kind
abbrev pub word_of_kind : Kind → Word
word_of_kind k.Bool = w.Bool
word_of_kind k.Int8 = w.Int8
word_of_kind k.Int16 = w.Int16
word_of_kind k.Int32 = w.Int32
word_of_kind k.Int64 = w.Int64
word_of_kind k.Uint8 = w.Uint8
word_of_kind k.Uint16 = w.Uint16
word_of_kind k.Uint32 = w.Uint32
word_of_kind k.Uint64 = w.Uint64
word_of_kind k.Text = w.String
word_of_kind k.Blob = w.Blob

-- `true` or `false`
abbrev pub ink_of_truth : Bool → Ink
ink_of_truth true = small w.True
ink_of_truth false = small w.False

-- `NOT`, where it stands before a predicate or before NULL
abbrev pub ink_of_not : Bool → Inks
ink_of_not true = keyword w.Not ∷ space ∷ []
ink_of_not false = []

-- a column, with its table where that is written
abbrev pub ink_of_column : Option (List ℕ) → List ℕ → Inks
ink_of_column None column = name column ∷ []
ink_of_column (Some table) column = name table ∷ mark m.Dot ∷ name column ∷ []

-- the name that AS gives
abbrev pub ink_of_alias : Option (List ℕ) → Inks
ink_of_alias None = []
ink_of_alias (Some alias) = space ∷ keyword w.As ∷ space ∷ name alias ∷ []

-- a keyword and the part behind it, where that stands
abbrev pub behind : Word → Option Inks → Inks
behind word None = []
behind word (Some part) = space ∷ keyword word ∷ space ∷ part

-- what a SELECT shows
abbrev pub ink_of_fields : List Inks → Inks
ink_of_fields [] = mark m.Star ∷ []
ink_of_fields (x ∷ xs) = listed (x ∷ xs)

-- FROM and the record sets
abbrev pub ink_of_sets : List Inks → Inks
ink_of_sets [] = []
ink_of_sets (x ∷ xs) = space ∷ keyword w.From ∷ space ∷ listed (x ∷ xs)

-- an outer join, where there is one
abbrev pub ink_of_join : Option Inks → Inks
ink_of_join None = []
ink_of_join (Some join) = join

-- GROUP BY and its columns
abbrev pub ink_of_groups : List Inks → Inks
ink_of_groups [] = []
ink_of_groups (x ∷ xs) = space ∷ keyword w.Group ∷ space ∷ keyword w.By ∷ space ∷ listed (x ∷ xs)

-- `DESC`, or nothing
abbrev pub ink_of_direction : Bool → Inks
ink_of_direction true = space ∷ keyword w.Desc ∷ []
ink_of_direction false = []

-- ORDER BY, its expressions and its direction
abbrev pub ink_of_keys : List Inks → Bool → Inks
ink_of_keys [] descending = []
ink_of_keys (x ∷ xs) descending = space ∷ keyword w.Order ∷ space ∷ keyword w.By ∷ space ∷ listed (x ∷ xs) ++ ink_of_direction descending

-- `DISTINCT`, or nothing
abbrev pub ink_of_distinct : Bool → Inks
ink_of_distinct true = keyword w.Distinct ∷ space ∷ []
ink_of_distinct false = []

-- the keyword of a join's side
abbrev pub word_of_side : Side → Word
word_of_side side.Left = w.Left
word_of_side side.Right = w.Right
word_of_side side.Full = w.Full

-- an expression of one layer, from what its parts print
abbrev pub expr_step : Expr-F Inks Inks Inks Inks Inks Inks Inks → Inks
expr_step (Expr-F.Chain first rest) = first ++ flat_map (λ link. link) rest
expr_step (Expr-F.Unary ops part) = ink_of_ops ops ++ part
expr_step (Expr-F.Number n) = number n ∷ []
expr_step (Expr-F.Text bytes) = string bytes ∷ []
expr_step (Expr-F.Truth truth) = ink_of_truth truth ∷ []
expr_step Expr-F.Null = keyword w.Null ∷ []
expr_step (Expr-F.Column table column) = ink_of_column table column
expr_step (Expr-F.Paren part) = bracketed part
expr_step (Expr-F.Call function star parts) = name (function_bytes function) ∷ bracketed (listed parts)
expr_step (Expr-F.Convert kind part) = small (word_of_kind kind) ∷ bracketed part
expr_step (Expr-F.IsIn negated part list) = part ++ (space ∷ ink_of_not negated ++ (keyword w.In ∷ space ∷ bracketed (listed list)))
expr_step (Expr-F.IsInSelect negated part query) = part ++ (space ∷ ink_of_not negated ++ (keyword w.In ∷ space ∷ bracketed query))
expr_step (Expr-F.IsBetween negated part low high) =
    part ++ (space ∷ ink_of_not negated ++ (keyword w.Between ∷ space ∷ low ++ (space ∷ keyword w.And ∷ space ∷ high)))
expr_step (Expr-F.IsNull negated part) = part ++ (space ∷ keyword w.Is ∷ space ∷ ink_of_not negated ++ (keyword w.Null ∷ []))

-- an operator of a chain and the part behind it
abbrev pub link_step : Link-F Inks Inks Inks Inks Inks Inks Inks → Inks
link_step x = space ∷ ink_of_bin x.op ∷ space ∷ x.part

-- a SELECT
abbrev pub select_step : Select-F Inks Inks Inks Inks Inks Inks Inks → Inks
select_step x =
    keyword w.Select ∷ space ∷ ink_of_distinct x.distinct ++ (ink_of_fields x.fields ++ (ink_of_sets x.sets ++ (ink_of_join x.join
    ++ (behind w.Where x.filter ++ (ink_of_groups x.groups ++ (ink_of_keys x.keys x.descending ++ (behind w.Limit x.limit ++ behind w.Offset x.offset)))))))

-- a field
abbrev pub field_step : Field-F Inks Inks Inks Inks Inks Inks Inks → Inks
field_step x = x.expr ++ ink_of_alias x.alias

-- what a record set is made of
abbrev pub source_step : SetSource-F Inks Inks Inks Inks Inks Inks Inks → Inks
source_step (SetSource-F.Table table) = name table ∷ []
source_step (SetSource-F.Query query) = bracketed query

-- a record set
abbrev pub set_step : FromSet-F Inks Inks Inks Inks Inks Inks Inks → Inks
set_step x = x.source ++ ink_of_alias x.alias

-- a join
abbrev pub join_step : Join-F Inks Inks Inks Inks Inks Inks Inks → Inks
join_step x =
    space ∷ keyword (word_of_side x.side) ∷ space ∷ keyword w.Outer ∷ space ∷ keyword w.Join ∷ space ∷ x.set ++ (space ∷ keyword w.On ∷ space ∷ x.on)

-- what an expression prints
abbrev pub ink_of_expr : Expr → Inks
ink_of_expr = fold-Expr Inks Inks Inks Inks Inks Inks Inks expr_step source_step field_step set_step join_step link_step select_step

-- what a link of a chain prints
abbrev pub ink_of_link : Link → Inks
ink_of_link = fold-Link Inks Inks Inks Inks Inks Inks Inks expr_step source_step field_step set_step join_step link_step select_step

-- what a SELECT prints
abbrev pub ink_of_select : Select → Inks
ink_of_select = fold-Select Inks Inks Inks Inks Inks Inks Inks expr_step source_step field_step set_step join_step link_step select_step

-- what a field prints
abbrev pub ink_of_field : Field → Inks
ink_of_field = fold-Field Inks Inks Inks Inks Inks Inks Inks expr_step source_step field_step set_step join_step link_step select_step

-- what the source of a record set prints
abbrev pub ink_of_source : SetSource → Inks
ink_of_source = fold-SetSource Inks Inks Inks Inks Inks Inks Inks expr_step source_step field_step set_step join_step link_step select_step

-- what a record set prints
abbrev pub ink_of_set : FromSet → Inks
ink_of_set = fold-FromSet Inks Inks Inks Inks Inks Inks Inks expr_step source_step field_step set_step join_step link_step select_step

-- what a join prints, with the blank before it
abbrev pub ink_of_one_join : Join → Inks
ink_of_one_join = fold-Join Inks Inks Inks Inks Inks Inks Inks expr_step source_step field_step set_step join_step link_step select_step
