-- The forms of expressions that have a function of their own.
use Rattle.ql_syntax.specs.declared.syntax.Expr.{Expr, out-Expr}
use Rattle.ql_syntax.specs.declared.syntax.Expr.TheOpen.{Expr-F}
use Rattle.ql_syntax.specs.declared.syntax.Field.{Field}
use Rattle.ql_syntax.specs.declared.syntax.FromSet.{FromSet}
use Rattle.ql_syntax.specs.declared.syntax.Join.{Join}
use Rattle.ql_syntax.specs.declared.syntax.Link.{Link}
use Rattle.ql_syntax.specs.declared.syntax.Select.{Select}
use Rattle.ql_syntax.specs.declared.syntax.SetSource.{SetSource}

-- one layer of an expression
abbrev pub Layer : Type 0
Layer = Expr-F Expr SetSource Field FromSet Join Link Select

abbrev pub is_chain : Layer → Type 0
is_chain (Expr-F.Chain first rest) = Unit {0}
is_chain _ = ⊥

abbrev pub is_in : Layer → Type 0
is_in (Expr-F.IsIn negated part list) = Unit {0}
is_in _ = ⊥

abbrev pub is_between : Layer → Type 0
is_between (Expr-F.IsBetween negated part low high) = Unit {0}
is_between _ = ⊥

-- parts between operators of one level
abbrev pub IsChain : Expr → Type 0
IsChain e = is_chain (out-Expr e)

-- a part and a list of others
abbrev pub IsIn : Expr → Type 0
IsIn e = is_in (out-Expr e)

-- a part between two others
abbrev pub IsBetween : Expr → Type 0
IsBetween e = is_between (out-Expr e)
