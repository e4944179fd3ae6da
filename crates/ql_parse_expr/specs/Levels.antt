-- The levels of operators, by one definition for all.
use Rattle.std.specs.Prelude.{Bool, List, [], ◌∷◌}
use Rattle.ql_value.specs.declared.operator.BinOp.{BinOp}
use Rattle.ql_value.specs.declared.operator.BinOp.TheVariants as bin
use Rattle.ql_value.specs.declared.operator.UnOp.{UnOp}
use Rattle.ql_value.specs.declared.operator.UnOp.TheVariants as un
use Rattle.ql_parse_expr.specs.declared.level.Level.{Level}
use Rattle.ql_parse_expr.specs.declared.level.Level.TheVariants as l
use Rattle.ql_syntax.specs.declared.syntax.Expr.{Expr}
use Rattle.ql_syntax.specs.declared.syntax.Expr.TheVariants as e
use Rattle.ql_syntax.specs.Lexemes.{Lexeme, is_either, is_both, is_comparison, is_sum, is_product}
use Rattle.ql_syntax.specs.Rules.{Production, Rule, token, ◌then◌, many, the, term, factor, sum, product, unary}
use Rattle.ql_syntax.specs.Readings.{Parse, pair}
use Rattle.ql_syntax.specs.Trees.{bin_op, un_op, chain, expr_of, links_of}

-- a token is an operator of a level
abbrev pub is_op : Level → Lexeme → Bool
is_op l.Either t = is_either t
is_op l.Both t = is_both t
is_op l.Comparison t = is_comparison t
is_op l.Sum t = is_sum t
is_op l.Product t = is_product t

-- the parts between the operators of a level
abbrev pub part_of : Level → Production
part_of l.Either = term
part_of l.Both = factor
part_of l.Comparison = sum
part_of l.Sum = product
part_of l.Product = unary

-- what stands behind the first part of a chain
abbrev pub links : Level → Rule
links level = many (token (is_op level) then the (part_of level))

-- the parts of a level and the operators between them
abbrev pub chain_rule : Level → Rule
chain_rule level = the (part_of level) then links level

-- what they are together
abbrev pub chain_of : Parse → Expr
chain_of (pair a b) = chain (expr_of a) (links_of b)
chain_of _ = e.Null

-- the operator that the next token is
abbrev pub next_op : List Lexeme → BinOp
next_op [] = bin.AndNot
next_op (t ∷ ts) = bin_op t.kind

-- the operator before a part that the next token is
abbrev pub next_un_op : List Lexeme → UnOp
next_un_op [] = un.Flip
next_un_op (t ∷ ts) = un_op t.kind
