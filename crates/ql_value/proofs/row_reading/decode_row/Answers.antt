use Rattle.std.proofs.Common.{List, ℕ, arith, subst}
use Rattle.std.specs.Prelude.{Some, IfOk}
use Rattle.ql_edge.specs.Answers.{Gives}
use Rattle.ql_value.specs.RowReading.{row_in, stands_for}
use Rattle.ql_value.proofs.RowLaws.{row_again, is_spelled}
use Rattle.ql_value.proofs.row_reading.decode_row.Goals as goal

pub returns-clause-read : goal.returns-clause-read
returns-clause-read c = is_spelled c.args.kinds.now c.args.bytes.now c.read_row.result (λ i. omega (arith, c.type_inv.bytes i)) c.read_row.ensures

pub returns-clause-exact : goal.returns-clause-exact
returns-clause-exact c = λ values spells. subst (λ o. Gives Some stands_for o c.read_row.result) (row_again c.args.kinds.now values c.args.bytes.now spells) c.read_row.ensures
