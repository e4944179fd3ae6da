-- A statement with `count()` for `count(*)` prints as the statement does, and a second time nothing changes.
use Rattle.std.proofs.Common.{◌≡◌, Bool, true, false, List, [], ◌∷◌, Option, Some, None, refl, ap}
use Rattle.std.specs.Prelude.{map}
use Rattle.ql_syntax.specs.declared.statement.Assign.{Assign}
use Rattle.ql_syntax.specs.declared.statement.ColumnDef.{ColumnDef}
use Rattle.ql_syntax.specs.declared.statement.RowSource.{RowSource}
use Rattle.ql_syntax.specs.declared.statement.RowSource.TheVariants as rows
use Rattle.ql_syntax.specs.declared.statement.Statement.{Statement}
use Rattle.ql_syntax.specs.declared.statement.Statement.TheVariants as s
use Rattle.ql_syntax.specs.declared.syntax.Expr.{Expr}
use Rattle.ql_syntax.specs.Printing.{ink_of_expr}
use Rattle.ql_syntax.specs.ReadsBack.{plain_expr, plain_option, plain_column, plain_rows, plain_assign, plain_statement, PlainLaws}
use Rattle.ql_syntax.specs.StatementPrinting.{ink_of_option, ink_of_rule, ink_of_column, ink_of_row, ink_of_rows, ink_of_assign, ink_of_statement}
use Rattle.ql_print.proofs.PlainAgain.{plain_expr_same, plain_select_same}

-- where each part is the same, all parts are
all_same : {A B : Type 0} (f : A → B) (g : A → A) → ((x : A) → f (g x) ≡ f x) → (xs : List A) → map f (map g xs) ≡ map f xs
all_same f g e [] = refl
all_same f g e (x ∷ xs) = rw (e x, all_same f g e xs) refl

expr_text : (x : Expr) → ink_of_expr (plain_expr x) ≡ ink_of_expr x
expr_text x = (plain_expr_same x).print

expr_again : (x : Expr) → plain_expr (plain_expr x) ≡ plain_expr x
expr_again x = (plain_expr_same x).again

option_text : (x : Option Expr) → ink_of_option (plain_option x) ≡ ink_of_option x
option_text None = refl
option_text (Some x) = ap Some (expr_text x)

option_again : (x : Option Expr) → plain_option (plain_option x) ≡ plain_option x
option_again None = refl
option_again (Some x) = ap Some (expr_again x)

rule_text : (not_null : Bool) (x : Option Expr) → ink_of_rule not_null (plain_option x) ≡ ink_of_rule not_null x
rule_text true x = refl
rule_text false None = refl
rule_text false (Some x) = rw (expr_text x) refl

column_text : (x : ColumnDef) → ink_of_column (plain_column x) ≡ ink_of_column x
column_text x = rw (rule_text x.not_null x.rule, option_text x.default) refl

column_again : (x : ColumnDef) → plain_column (plain_column x) ≡ plain_column x
column_again x = rw (option_again x.rule, option_again x.default) refl

row_text : (row : List Expr) → ink_of_row (map plain_expr row) ≡ ink_of_row row
row_text row = rw (all_same ink_of_expr plain_expr expr_text row) refl

row_again : (row : List Expr) → map plain_expr (map plain_expr row) ≡ map plain_expr row
row_again row = all_same plain_expr plain_expr expr_again row

rows_text : (x : RowSource) → ink_of_rows (plain_rows x) ≡ ink_of_rows x
rows_text (rows.Rows all) = rw (all_same ink_of_row (map plain_expr) row_text all) refl
rows_text (rows.Query query) = (plain_select_same query).print

rows_again : (x : RowSource) → plain_rows (plain_rows x) ≡ plain_rows x
rows_again (rows.Rows all) = ap rows.Rows (all_same (map plain_expr) (map plain_expr) row_again all)
rows_again (rows.Query query) = ap rows.Query (plain_select_same query).again

assign_text : (x : Assign) → ink_of_assign (plain_assign x) ≡ ink_of_assign x
assign_text x = rw (expr_text x.value) refl

assign_again : (x : Assign) → plain_assign (plain_assign x) ≡ plain_assign x
assign_again x = rw (expr_again x.value) refl

statement_text : (x : Statement) → ink_of_statement (plain_statement x) ≡ ink_of_statement x
statement_text (s.Query query) = (plain_select_same query).print
statement_text (s.CreateTable quiet table columns) = rw (all_same ink_of_column plain_column column_text columns) refl
statement_text (s.AddColumn table x) = rw (column_text x) refl
statement_text (s.Insert table columns from) = rw (rows_text from) refl
statement_text (s.Update table sets filter) = rw (all_same ink_of_assign plain_assign assign_text sets, option_text filter) refl
statement_text (s.Delete table filter) = rw (option_text filter) refl
statement_text s.Begin = refl
statement_text s.Commit = refl
statement_text s.Rollback = refl
statement_text (s.DropTable quiet table) = refl
statement_text (s.DropColumn table column) = refl
statement_text (s.CreateIndex unique quiet index table it) = refl
statement_text (s.DropIndex quiet index) = refl
statement_text (s.Truncate table) = refl

statement_again : (x : Statement) → plain_statement (plain_statement x) ≡ plain_statement x
statement_again (s.Query query) = ap s.Query (plain_select_same query).again
statement_again (s.CreateTable quiet table columns) = ap (s.CreateTable quiet table) (all_same plain_column plain_column column_again columns)
statement_again (s.AddColumn table x) = ap (s.AddColumn table) (column_again x)
statement_again (s.Insert table columns from) = ap (s.Insert table columns) (rows_again from)
statement_again (s.Update table sets filter) = rw (all_same plain_assign plain_assign assign_again sets, option_again filter) refl
statement_again (s.Delete table filter) = ap (s.Delete table) (option_again filter)
statement_again s.Begin = refl
statement_again s.Commit = refl
statement_again s.Rollback = refl
statement_again (s.DropTable quiet table) = refl
statement_again (s.DropColumn table column) = refl
statement_again (s.CreateIndex unique quiet index table it) = refl
statement_again (s.DropIndex quiet index) = refl
statement_again (s.Truncate table) = refl

pub plain_laws : PlainLaws
plain_laws = record {
  expr_text = expr_text;
  expr_again = expr_again;
  column_text = column_text;
  column_again = column_again;
  statement_text = statement_text;
  statement_again = statement_again;
}
