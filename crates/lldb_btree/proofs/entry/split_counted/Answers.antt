use Rattle.std.proofs.Common.{arith}
use Rattle.lldb_btree.proofs.Splitting.{counted_some}
use Rattle.lldb_btree.proofs.entry.split_counted.Goals as goal

pub returns-clause-is : goal.returns-clause-is
returns-clause-is c =
    let cut = c.in_ok-len.ensures.cases in
    counted_some c.args.bytes.now c.in_ok-len.len.now c.in_ok-len.rest.now c.from_be_bytes.result c.split_at_checked.result (λ i. omega (arith, c.type_inv.bytes i)) cut.0 cut.1 cut.2 c.from_be_bytes.ensures c.split_at_checked.ensures.cases
