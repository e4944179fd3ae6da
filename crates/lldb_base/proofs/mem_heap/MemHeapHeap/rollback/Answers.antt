use Rattle.lldb_base.proofs.Entries.{all_after, top_of}
use Rattle.lldb_base.proofs.mem_heap.MemHeapHeap.rollback.Goals as goal

pub invariant_of-self-clause-contents : goal.invariant_of-self-clause-contents
invariant_of-self-clause-contents c = top_of c.in-Some.map.entries c.args.self.now.saved c.pop.new.self c.in-Some.ensures c.args.self.now.all_contents

pub invariant_of-self-clause-all_contents : goal.invariant_of-self-clause-all_contents
invariant_of-self-clause-all_contents c = all_after c.in-Some.map.entries c.args.self.now.saved c.pop.new.self c.in-Some.ensures c.args.self.now.all_contents
