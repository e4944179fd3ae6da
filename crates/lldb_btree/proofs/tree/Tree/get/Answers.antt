use Rattle.std.proofs.Common.{Some, None}
use Rattle.lldb_btree.proofs.Roots.{get_found}
use Rattle.lldb_btree.proofs.tree.Tree.get.Goals as goal

pub returns-in-Some-clause-found : goal.returns-in-Some-clause-found
returns-in-Some-clause-found g c = λ levels pairs footprint t. get_found c.args.key.now c.in_ok-from.from c.in_ok-found.found pairs (Some c.in-Some.there) c.in_ok-from.ensures (c.in_ok-found.ensures.found levels pairs footprint t) c.in-Some.ensures

pub returns-in-None-clause-found : goal.returns-in-None-clause-found
returns-in-None-clause-found g c = λ levels pairs footprint t. get_found c.args.key.now c.in_ok-from.from c.in_ok-found.found pairs None c.in_ok-from.ensures (c.in_ok-found.ensures.found levels pairs footprint t) c.in-None.ensures
