use Rattle.std.proofs.Common.{◌≡◌}
use Rattle.bench_btree.proofs.read.Given as goal

abbrev pub invariant-loop-turn : goal.invariant-loop-turn
invariant-loop-turn g l = g.H.Heap.is_ready l.heap ≡ g.H.Heap.is_ready l.fn.heap
