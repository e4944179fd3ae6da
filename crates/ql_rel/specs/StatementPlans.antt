-- The plan of a statement over the tables of a schema, or its first refusal.
use Rattle.ql_value.specs.declared.refusal.TheConstants.{LATER}
use Rattle.ql_syntax.specs.declared.statement.Statement.{Statement}
use Rattle.ql_syntax.specs.declared.statement.Statement.TheVariants as s
use Rattle.ql_rel.specs.declared.plan.Plan.{Plan}
use Rattle.ql_rel.specs.declared.schema.Schema.{Schema}
use Rattle.ql_syntax.specs.Answers.{Answer, refused}
use Rattle.ql_rel.specs.ChangePlans.{update_plan, delete_plan}
use Rattle.ql_rel.specs.InsertPlans.{insert_plan}
use Rattle.ql_rel.specs.Plans.{select_plan}
use Rattle.ql_rel.specs.TablePlans.{create_plan, drop_plan, add_column_plan, drop_column_plan, whole_plan}

-- the plan of a statement; those that are not named are not built yet
abbrev pub statement_plan : Schema → Statement → Answer Plan
statement_plan schema (s.Query select) = select_plan schema select
statement_plan schema (s.CreateTable quiet name columns) = create_plan schema quiet name columns
statement_plan schema (s.DropTable quiet name) = drop_plan schema quiet name
statement_plan schema (s.AddColumn name column) = add_column_plan schema name column
statement_plan schema (s.DropColumn name column) = drop_column_plan schema name column
statement_plan schema (s.Insert name names rows) = insert_plan schema name names rows
statement_plan schema (s.Update name sets filter) = update_plan schema name sets filter
statement_plan schema (s.Delete name filter) = delete_plan schema name filter
statement_plan schema (s.Truncate name) = whole_plan schema name
statement_plan schema _ = refused LATER
