use Rattle.std.proofs.Common.{◌≡◌, ◌≤◌, length, true}
use Rattle.bench_btree.proofs.removed.Given as goal

abbrev pub invariant-loop-turn : goal.invariant-loop-turn
invariant-loop-turn g l = (g.H.Heap.is_ready l.heap ≡ true) × (1 ≤ length (g.H.Heap.saved l.heap))
