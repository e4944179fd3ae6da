use Rattle.std.proofs.Common.{false, ◌++◌, []}
use Rattle.lldb_btree.specs.Nodes.{entry_bytes, child_entry}
use Rattle.lldb_btree.proofs.lower.only_child.Goals as goal

pub returns-in_err-leaf-clause-only : goal.returns-in_err-leaf-clause-only
returns-in_err-leaf-clause-only c = λ one fits is. absurd (c.in_err-leaf.ensures.whole false 1 (entry_bytes (child_entry one) ++ []) is)
