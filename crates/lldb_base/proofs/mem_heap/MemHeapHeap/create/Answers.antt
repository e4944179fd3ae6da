use Rattle.lldb_base.proofs.Entries.{contents_with}
use Rattle.lldb_base.proofs.mem_heap.MemHeapHeap.create.Goals as goal

pub invariant_of-self-2-clause-contents : goal.invariant_of-self-2-clause-contents
invariant_of-self-2-clause-contents c =
    contents_with c.in_ok-handle.handle c.in_ok-content.content _ _ c.args.self.now.contents c.in_ok-handle.ensures.range.0 c.in_ok-handle.ensures.range.1 (rw c.in_ok-content.ensures c.requires.most) c.put_entry.ensures.rising c.in_ok-put_entry.ensures.ok
