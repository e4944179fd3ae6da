use Rattle.lldb_btree.proofs.Spelling.{one_spelling}
use Rattle.lldb_btree.proofs.laws.node_laws.Goals as goal

pub returns : goal.returns
returns c = one_spelling
