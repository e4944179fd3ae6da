use Rattle.lldb_base.proofs.Entries.{contents_without}
use Rattle.lldb_base.proofs.mem_heap.MemHeapHeap.remove.Goals as goal

pub invariant_of-self-clause-contents : goal.invariant_of-self-clause-contents
invariant_of-self-clause-contents c = contents_without c.args.handle _ _ c.args.self.now.contents c.remove.ensures.ordered c.remove.ensures.entries
