-- The lists of the grammar.
use Rattle.std.specs.Prelude.{refl}
use Rattle.ql_syntax.specs.declared.syntax.Expr.{Expr}
use Rattle.ql_syntax.specs.declared.syntax.Field.{Field}
use Rattle.ql_syntax.specs.declared.syntax.FromSet.{FromSet}
use Rattle.ql_cursor.specs.Parts.{ListOf}
use Rattle.ql_parse_expr.specs.Selects.{field_rule}
use Rattle.ql_syntax.specs.Rules.{the, expr, set, ref}
use Rattle.ql_syntax.specs.Trees.{expr_of, exprs_of, field_of, fields_of, set_of, sets_in}

-- expressions
abbrev pub expr_list : ListOf Expr
expr_list = record { rule = the expr; tree = expr_of; items = exprs_of; pairs = λ a b. refl; cells = λ a b. refl; stops = refl }

-- the fields of a SELECT
abbrev pub field_list : ListOf Field
field_list = record { rule = field_rule; tree = field_of; items = fields_of; pairs = λ a b. refl; cells = λ a b. refl; stops = refl }

-- the record sets behind FROM
abbrev pub set_list : ListOf FromSet
set_list = record { rule = the set; tree = set_of; items = sets_in; pairs = λ a b. refl; cells = λ a b. refl; stops = refl }

-- the columns behind GROUP BY
abbrev pub ref_list : ListOf Expr
ref_list = record { rule = the ref; tree = expr_of; items = exprs_of; pairs = λ a b. refl; cells = λ a b. refl; stops = refl }
