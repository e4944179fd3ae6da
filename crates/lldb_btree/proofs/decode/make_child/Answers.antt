use Rattle.std.proofs.Common.{arith}
use Rattle.lldb_btree.proofs.Whole.{handle_made}
use Rattle.lldb_btree.proofs.decode.make_child.Goals as goal

pub returns-clause-handle : goal.returns-clause-handle
returns-clause-handle c = handle_made c.args.tail.now c.in-Some.handle.now c.from_be_bytes-handle.result (λ i. omega (arith, c.type_inv.tail i)) c.in-Some.ensures.cases.0 c.from_be_bytes-handle.ensures c.requires
