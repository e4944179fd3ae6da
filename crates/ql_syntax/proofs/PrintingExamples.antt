-- A few printed expressions and statements.
use Rattle.std.proofs.Common.{◌≡◌, true, false, [], ◌∷◌, Some, None, refl}
use Rattle.std.specs.Prelude.{codes}
use Rattle.ql_value.specs.declared.operator.BinOp.TheVariants as bin
use Rattle.ql_value.specs.declared.operator.UnOp.TheVariants as un
use Rattle.ql_value.specs.declared.value.Kind.TheVariants as k
use Rattle.ql_syntax.specs.declared.statement.Item.TheVariants as item
use Rattle.ql_syntax.specs.declared.statement.RowSource.TheVariants as rows
use Rattle.ql_syntax.specs.declared.statement.Statement.TheVariants as s
use Rattle.ql_syntax.specs.declared.syntax.Expr.{Expr}
use Rattle.ql_syntax.specs.declared.syntax.Expr.TheVariants as e
use Rattle.ql_syntax.specs.declared.syntax.Field.{roll-Field}
use Rattle.ql_syntax.specs.declared.syntax.FromSet.{FromSet, roll-FromSet}
use Rattle.ql_syntax.specs.declared.syntax.Function.TheVariants as f
use Rattle.ql_syntax.specs.declared.syntax.Join.{roll-Join}
use Rattle.ql_syntax.specs.declared.syntax.Link.{roll-Link}
use Rattle.ql_syntax.specs.declared.syntax.Select.{roll-Select}
use Rattle.ql_syntax.specs.declared.syntax.SetSource.TheVariants as source
use Rattle.ql_syntax.specs.declared.syntax.Side.TheVariants as side
use Rattle.ql_syntax.specs.Ink.{text_of}
use Rattle.ql_syntax.specs.Printing.{ink_of_expr}
use Rattle.ql_syntax.specs.StatementPrinting.{ink_of_statement}
use Rattle.ql_syntax.proofs.PrintingEquations.{of_chain, of_unary, of_truth, of_null, of_text, of_column, of_paren, of_call, of_convert, of_in, of_table, of_link, of_field, of_set, of_join, of_select}

-- the column `a`
abbrev a : Expr
a = e.Column None (codes "a")

-- the table `t`, without another name
abbrev t : FromSet
t = roll-FromSet (record { source = source.Table (codes "t"); alias = None })

-- unary operators, with a blank before a further one
pub negations : text_of (ink_of_expr (e.Unary (un.Minus ∷ un.Minus ∷ []) (e.Paren a))) ≡ codes "- -(a)"
negations = rw (of_unary, of_paren, of_column) refl

-- a chain
pub a_chain : text_of (ink_of_expr (e.Chain a (roll-Link (record { op = bin.Eq; part = e.Call f.Count true [] }) ∷ roll-Link (record { op = bin.Ne; part = e.Convert k.Int8 a }) ∷ [])))
    ≡ codes "a == count() != int8(a)"
a_chain = rw (of_chain, of_link, of_link, of_call, of_convert, of_column) refl

-- IN a list
pub not_in : text_of (ink_of_expr (e.IsIn true a (a ∷ e.Text (codes "\n") ∷ []))) ≡ codes "a NOT IN (a, \"\\n\")"
not_in = rw (of_in, of_column, of_text) refl

-- a SELECT
pub a_select : text_of (ink_of_statement (s.Query (roll-Select (record {
  distinct = true;
  fields = roll-Field (record { expr = e.Column (Some (codes "t")) (codes "a"); alias = Some (codes "x") }) ∷ [];
  sets = t ∷ [];
  join = Some (roll-Join (record { side = side.Left; set = t; on = a }));
  filter = Some a;
  groups = [];
  keys = a ∷ [];
  descending = true;
  limit = Some e.Null;
  offset = None;
}))))
    ≡ codes "SELECT DISTINCT t.a AS x FROM t LEFT OUTER JOIN t ON a WHERE a ORDER BY a DESC LIMIT NULL"
a_select = rw (of_select, of_field, of_column, of_set, of_table, of_join, of_set, of_table, of_column, of_null) refl

-- CREATE TABLE
pub a_table : text_of (ink_of_statement (s.CreateTable false (codes "t") (
    record { name = codes "a"; kind = k.Int64; not_null = false; rule = None; default = None }
    ∷ record { name = codes "s"; kind = k.Text; not_null = true; rule = None; default = Some (e.Text (codes "x")) }
    ∷ [])))
    ≡ codes "CREATE TABLE t (a int64, s string NOT NULL DEFAULT \"x\")"
a_table = rw of_text refl

-- CREATE INDEX
pub an_index : text_of (ink_of_statement (s.CreateIndex true true (codes "x") (codes "t") item.Id)) ≡ codes "CREATE UNIQUE INDEX IF NOT EXISTS x ON t (id())"
an_index = refl

-- INSERT
pub an_insert : text_of (ink_of_statement (s.Insert (codes "t") (codes "a" ∷ codes "b" ∷ []) (rows.Rows ((a ∷ e.Null ∷ []) ∷ (a ∷ []) ∷ []))))
    ≡ codes "INSERT INTO t (a, b) VALUES (a, NULL), (a)"
an_insert = rw (of_column, of_null) refl

-- UPDATE
pub an_update : text_of (ink_of_statement (s.Update (codes "t") (record { column = codes "a"; value = e.Truth true } ∷ []) (Some a))) ≡ codes "UPDATE t SET a = true WHERE a"
an_update = rw (of_truth, of_column) refl
