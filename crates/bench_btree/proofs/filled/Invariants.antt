use Rattle.std.proofs.Common.{◌≡◌, ◌≤◌, length, true}
use Rattle.bench_btree.proofs.filled.Given as goal

abbrev pub invariant-loop-number : goal.invariant-loop-number
invariant-loop-number g l = (g.H.Heap.is_ready l.heap ≡ true) × (1 ≤ length (g.H.Heap.saved l.heap))
