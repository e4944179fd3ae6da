-- Each part is given what it asks for, and does what the statement does.
use Rattle.std.proofs.Common.{length, sym, ◌∙◌}
use Rattle.ql_exec.proofs.Carried.{query_planned, create_level, create_planned, create_read, insert_level, insert_planned, insert_does, selecting_planned, selecting_does, query_does, create_does, is_other, others_do}
use Rattle.ql_exec.proofs.Altered as altered
use Rattle.ql_exec.proofs.Tabled.{drop_level, truncate_level, drop_planned, update_planned, delete_planned, truncate_planned, drop_does, truncate_does}
use Rattle.ql_exec.proofs.statement.carry.Goals as goal

pub add_select-requires-clause-plan : goal.add_select-requires-clause-plan
add_select-requires-clause-plan g c =
    query_planned (g.R.Rel.schema c.args.rel.now) c.args.statement.now c.in-Query.select c.get.result.now c.args.plan.now c.in-Query.is c.get.ensures c.requires.plan

pub returns-in-Query-clause-done : goal.returns-in-Query-clause-done
returns-in-Query-clause-done g c =
    query_does c.args.with_names c.args.statement.now c.in-Query.select c.get.result.now c.args.plan.now _ _ _ _ _ c.in-Query.is c.get.ensures c.add_select.ensures.db c.add_select.ensures.text

pub create_table-requires-clause-level : goal.create_table-requires-clause-level
create_table-requires-clause-level g c =
    create_level c.args.statement.now c.in-CreateTable.quiet c.in-CreateTable.table c.in-CreateTable.columns (length (g.R.Rel.saved c.args.rel.now)) c.in-CreateTable.is c.requires.level

pub create_table-requires-clause-plan : goal.create_table-requires-clause-plan
create_table-requires-clause-plan g c =
    create_planned (g.R.Rel.schema c.args.rel.now) c.args.statement.now c.in-CreateTable.quiet c.in-CreateTable.table c.in-CreateTable.columns c.args.plan.now c.in-CreateTable.is c.requires.plan

pub create_table-requires-clause-read : goal.create_table-requires-clause-read
create_table-requires-clause-read g c =
    create_read c.args.statement.now c.in-CreateTable.quiet c.in-CreateTable.table c.in-CreateTable.columns c.in-CreateTable.is c.requires.read

pub returns-in-CreateTable-clause-done : goal.returns-in-CreateTable-clause-done
returns-in-CreateTable-clause-done g c =
    create_does c.args.with_names c.args.statement.now c.in-CreateTable.quiet c.in-CreateTable.table c.in-CreateTable.columns c.args.plan.now _ _ _ _ c.in-CreateTable.is c.create_table.ensures.done

pub add_column-requires-clause-level : goal.add_column-requires-clause-level
add_column-requires-clause-level g c = altered.add_level c.args.statement.now c.in-AddColumn.table c.in-AddColumn.column (length (g.R.Rel.saved c.args.rel.now)) c.in-AddColumn.is c.requires.level

pub add_column-requires-clause-plan : goal.add_column-requires-clause-plan
add_column-requires-clause-plan g c =
    altered.add_has (g.R.Rel.schema c.args.rel.now) c.args.statement.now c.in-AddColumn.table c.in-AddColumn.column c.get-in-AddColumn.result.now c.args.plan.now c.in-AddColumn.is c.get-in-AddColumn.ensures c.requires.plan

pub add_column-requires-clause-read : goal.add_column-requires-clause-read
add_column-requires-clause-read g c =
    altered.add_read c.args.statement.now c.in-AddColumn.table c.in-AddColumn.column c.get-in-AddColumn.result.now c.in-AddColumn.is c.get-in-AddColumn.ensures c.requires.read

pub returns-in-AddColumn-clause-done : goal.returns-in-AddColumn-clause-done
returns-in-AddColumn-clause-done g c =
    altered.add_does c.args.with_names c.args.statement.now c.in-AddColumn.table c.in-AddColumn.column c.get-in-AddColumn.result.now c.args.plan.now _ _ _ _ c.in-AddColumn.is c.get-in-AddColumn.ensures c.add_column.ensures.done

pub drop_column-requires-clause-level : goal.drop_column-requires-clause-level
drop_column-requires-clause-level g c = altered.drop_level c.args.statement.now c.in-DropColumn.table c.in-DropColumn.column (length (g.R.Rel.saved c.args.rel.now)) c.in-DropColumn.is c.requires.level

pub drop_column-requires-clause-plan : goal.drop_column-requires-clause-plan
drop_column-requires-clause-plan g c =
    altered.drop_has (g.R.Rel.schema c.args.rel.now) c.args.statement.now c.in-DropColumn.table c.in-DropColumn.column c.args.plan.now c.in-DropColumn.is c.requires.plan

pub returns-in-DropColumn-clause-done : goal.returns-in-DropColumn-clause-done
returns-in-DropColumn-clause-done g c =
    altered.drop_does c.args.with_names c.args.statement.now c.in-DropColumn.table c.in-DropColumn.column c.args.plan.now _ _ _ _ c.in-DropColumn.is c.drop_column.ensures.done

pub insert_rows-requires-clause-level : goal.insert_rows-requires-clause-level
insert_rows-requires-clause-level g c =
    insert_level c.args.statement.now c.in-Insert.table _ _ (length (g.R.Rel.saved c.args.rel.now)) c.in-Insert.is c.requires.level

pub insert_rows-requires-clause-table : goal.insert_rows-requires-clause-table
insert_rows-requires-clause-table g c =
    (insert_planned (g.R.Rel.schema c.args.rel.now) c.args.statement.now c.in-Insert.table c.in-Insert.columns c.in-Insert.source c.get-in-Insert.result.now _ c.args.plan.now
    c.in-Insert.is c.get-in-Insert.ensures c.in-Rows.is c.requires.plan).there

pub insert_rows-requires-clause-typed : goal.insert_rows-requires-clause-typed
insert_rows-requires-clause-typed g c =
    (insert_planned (g.R.Rel.schema c.args.rel.now) c.args.statement.now c.in-Insert.table c.in-Insert.columns c.in-Insert.source c.get-in-Insert.result.now _ c.args.plan.now
    c.in-Insert.is c.get-in-Insert.ensures c.in-Rows.is c.requires.plan).typed

pub returns-in-Rows-clause-done : goal.returns-in-Rows-clause-done
returns-in-Rows-clause-done g c =
    insert_does c.args.with_names c.args.statement.now c.in-Insert.table c.in-Insert.columns c.in-Insert.source c.get-in-Insert.result.now _ c.args.plan.now _ _ _ _
    c.in-Insert.is c.get-in-Insert.ensures c.in-Rows.is c.insert_rows.ensures.done

pub insert_selected-requires-clause-level : goal.insert_selected-requires-clause-level
insert_selected-requires-clause-level g c =
    insert_level c.args.statement.now c.in-Insert.table _ _ (length (g.R.Rel.saved c.args.rel.now)) c.in-Insert.is c.requires.level

pub insert_selected-requires-clause-table : goal.insert_selected-requires-clause-table
insert_selected-requires-clause-table g c =
    (selecting_planned (g.R.Rel.schema c.args.rel.now) c.args.statement.now c.in-Insert.table c.in-Insert.columns c.in-Insert.source c.get-in-Insert.result.now c.in-Query-get.select c.get-in-Query-get.result.now c.args.plan.now
    c.in-Insert.is c.get-in-Insert.ensures c.in-Query-get.is c.get-in-Query-get.ensures c.requires.plan).there

pub insert_selected-requires-clause-sets : goal.insert_selected-requires-clause-sets
insert_selected-requires-clause-sets g c =
    (selecting_planned (g.R.Rel.schema c.args.rel.now) c.args.statement.now c.in-Insert.table c.in-Insert.columns c.in-Insert.source c.get-in-Insert.result.now c.in-Query-get.select c.get-in-Query-get.result.now c.args.plan.now
    c.in-Insert.is c.get-in-Insert.ensures c.in-Query-get.is c.get-in-Query-get.ensures c.requires.plan).sets

pub insert_selected-requires-clause-typed : goal.insert_selected-requires-clause-typed
insert_selected-requires-clause-typed g c =
    (selecting_planned (g.R.Rel.schema c.args.rel.now) c.args.statement.now c.in-Insert.table c.in-Insert.columns c.in-Insert.source c.get-in-Insert.result.now c.in-Query-get.select c.get-in-Query-get.result.now c.args.plan.now
    c.in-Insert.is c.get-in-Insert.ensures c.in-Query-get.is c.get-in-Query-get.ensures c.requires.plan).typed

pub returns-in-Query-get-clause-done : goal.returns-in-Query-get-clause-done
returns-in-Query-get-clause-done g c =
    selecting_does c.args.with_names c.args.statement.now c.in-Insert.table c.in-Insert.columns c.in-Insert.source c.get-in-Insert.result.now c.in-Query-get.select c.get-in-Query-get.result.now c.args.plan.now _ _ _ _
    c.in-Insert.is c.get-in-Insert.ensures c.in-Query-get.is c.get-in-Query-get.ensures c.insert_selected.ensures.done

pub drop_table-requires-clause-level : goal.drop_table-requires-clause-level
drop_table-requires-clause-level g c = drop_level c.args.statement.now c.in-DropTable.quiet c.in-DropTable.table (length (g.R.Rel.saved c.args.rel.now)) c.in-DropTable.is c.requires.level

pub drop_table-requires-clause-table : goal.drop_table-requires-clause-table
drop_table-requires-clause-table g c =
    drop_planned (g.R.Rel.schema c.args.rel.now) c.args.statement.now c.in-DropTable.quiet c.in-DropTable.table c.args.plan.now c.in-DropTable.is c.requires.plan

pub returns-in-DropTable-clause-done : goal.returns-in-DropTable-clause-done
returns-in-DropTable-clause-done g c =
    drop_does c.args.with_names c.args.statement.now c.in-DropTable.quiet c.in-DropTable.table c.args.plan.now _ _ _ _ c.in-DropTable.is c.drop_table.ensures.done

pub change_table-requires-clause-table : goal.change_table-requires-clause-table
change_table-requires-clause-table g c =
    (update_planned (g.R.Rel.schema c.args.rel.now) c.args.statement.now c.in-Update.table _ _ c.args.plan.now c.in-Update.is c.requires.plan).there

pub change_table-requires-clause-typed : goal.change_table-requires-clause-typed
change_table-requires-clause-typed g c =
    (update_planned (g.R.Rel.schema c.args.rel.now) c.args.statement.now c.in-Update.table _ _ c.args.plan.now c.in-Update.is c.requires.plan).typed

pub change_table-requires-in-Delete-clause-table : goal.change_table-requires-in-Delete-clause-table
change_table-requires-in-Delete-clause-table g c =
    (delete_planned (g.R.Rel.schema c.args.rel.now) c.args.statement.now c.in-Delete.table _ c.args.plan.now c.in-Delete.is c.requires.plan).there

pub change_table-requires-in-Delete-clause-typed : goal.change_table-requires-in-Delete-clause-typed
change_table-requires-in-Delete-clause-typed g c =
    (delete_planned (g.R.Rel.schema c.args.rel.now) c.args.statement.now c.in-Delete.table _ c.args.plan.now c.in-Delete.is c.requires.plan).typed

pub truncate_table-requires-clause-level : goal.truncate_table-requires-clause-level
truncate_table-requires-clause-level g c = truncate_level c.args.statement.now c.in-Truncate.table (length (g.R.Rel.saved c.args.rel.now)) c.in-Truncate.is c.requires.level

pub truncate_table-requires-clause-table : goal.truncate_table-requires-clause-table
truncate_table-requires-clause-table g c =
    truncate_planned (g.R.Rel.schema c.args.rel.now) c.args.statement.now c.in-Truncate.table c.args.plan.now c.in-Truncate.is c.requires.plan

pub returns-in-Truncate-clause-done : goal.returns-in-Truncate-clause-done
returns-in-Truncate-clause-done g c =
    truncate_does c.args.with_names c.args.statement.now c.in-Truncate.table c.args.plan.now _ _ _ _ c.in-Truncate.is c.truncate_table.ensures.done

pub returns-in_default-clause-done : goal.returns-in_default-clause-done
returns-in_default-clause-done g c =
    others_do (Unit {0}) c.args.with_names c.args.statement.now c.args.plan.now c.refusal.result _ _ _ _ c.refusal.ensures
    (is_other c.args.statement.now c.in_default.not-Query c.in_default.not-CreateTable c.in_default.not-DropTable c.in_default.not-AddColumn c.in_default.not-DropColumn c.in_default.not-Insert c.in_default.not-Update c.in_default.not-Delete c.in_default.not-Truncate)
