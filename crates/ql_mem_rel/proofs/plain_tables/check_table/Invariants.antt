use Rattle.std.proofs.Common.{◌≡◌, drop}
use Rattle.std.specs.List.{list_any}
use Rattle.ql_rel.specs.Limits.{is_past_column}
use Rattle.ql_mem_rel.proofs.plain_tables.check_table.Given as goal

abbrev pub invariant-loop-column : goal.invariant-loop-column
invariant-loop-column l = list_any is_past_column (drop l.column-index l.table.columns) ≡ list_any is_past_column l.table.columns
