use Rattle.std.proofs.Common.{◌≡◌, is_some, true, sym, ◌∙◌, arith}
use Rattle.lldb_base.specs.Contents.{content_of}
use Rattle.lldb_base.proofs.Entries.{contents_with, live_from}
use Rattle.lldb_base.proofs.mem_heap.MemHeapHeap.replace.Goals as goal

pub invariant_of-self-2-clause-contents : goal.invariant_of-self-2-clause-contents
invariant_of-self-2-clause-contents c =
    let live : is_some (content_of c.args.handle c.args.self.now.live.entries) ≡ true = sym c.contains_key.ensures ∙ c.if-not-contains_key.false in
    contents_with c.args.handle c.in_ok-content.content _ _ c.args.self.now.contents (live_from c.args.handle _ c.args.self.now.contents live) (omega (arith, c.ranges.handle.fits)) (rw c.in_ok-content.ensures c.requires.most) c.put_entry.ensures.rising c.in_ok-put_entry.ensures.ok
