use Rattle.std.proofs.Common.{Some, ap, ◌∙◌}
use Rattle.lldb_base.proofs.Entries.{all_popped}
use Rattle.lldb_base.proofs.Kept.{kept_popped, kept_one, still, kept_again}
use Rattle.lldb_base.proofs.mem_heap.MemHeapHeap.end_update.Goals as goal

pub invariant_of-self-clause-all_contents : goal.invariant_of-self-clause-all_contents
invariant_of-self-clause-all_contents c = all_popped (λ map. map.entries) c.pop.result c.args.self.now.saved c.pop.new.self c.pop.ensures c.args.self.now.all_contents

pub returns-clause-stops : goal.returns-clause-stops
returns-clause-stops c =
    let same = kept_popped (λ map. map.entries) c.args.self.now.live.entries c.pop.result c.len.result c.args.self.now.saved c.pop.new.self c.requires.depth c.len.ensures c.if-len-eq1.false c.pop.ensures in
    λ s is. kept_one _ c.args.self.now.saved s (is ∙ ap Some same)

pub returns-clause-time : goal.returns-clause-time
returns-clause-time c = still _ (kept_popped (λ map. map.entries) c.args.self.now.live.entries c.pop.result c.len.result c.args.self.now.saved c.pop.new.self c.requires.depth c.len.ensures c.if-len-eq1.false c.pop.ensures)

pub returns-clause-inner_stops : goal.returns-clause-inner_stops
returns-clause-inner_stops c _ =
    kept_again _ _ _ c.args.self.now.saved c.pop.new.self (kept_popped (λ map. map.entries) c.args.self.now.live.entries c.pop.result c.len.result c.args.self.now.saved c.pop.new.self c.requires.depth c.len.ensures c.if-len-eq1.false c.pop.ensures)
