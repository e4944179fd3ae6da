-- The rows that LIMIT and OFFSET show of those to come.
use Rattle.std.specs.Prelude.{ℕ, List, map, Some, Ok}
use Rattle.ql_value.specs.declared.value.Value.{Value}
use Rattle.ql_syntax.specs.declared.syntax.Select.{Select}
use Rattle.ql_syntax.specs.Answers.{Answer, then_with}
use Rattle.ql_rel.specs.declared.db.Db.{Db}
use Rattle.ql_rel.specs.declared.plan.Plan.{Plan}
use Rattle.ql_rel.specs.declared.select.ResultRow.{ResultRow}
use Rattle.ql_rel.specs.RowLists as lists
use Rattle.ql_rel.specs.SelectRows.{lines_of, shown_rows}
use Rattle.ql_exec.specs.declared.limits.Window.{Window}

-- what is shown of rows
abbrev pub shown : Window → List (List Value) → List (List Value)
shown w rows = lists.window (Some w.skip) w.most rows

-- the same as text
abbrev pub shown_lines : Window → List (List Value) → List ℕ
shown_lines w rows = lines_of (shown w rows)

-- the text of the rows of a result that are shown
abbrev pub result_lines : Window → List ResultRow → Answer (List ℕ)
result_lines w rows = Ok (shown_lines w (map (λ (x : ResultRow). x.values) rows))

-- the text of the rows that a SELECT shows
abbrev pub select_lines : Db → Select → Plan → Answer (List ℕ)
select_lines db select p = then_with (shown_rows db select p) (λ rows. Ok (lines_of rows))
