use Rattle.std.proofs.Common.{◌≡◌}
use Rattle.bench_btree.proofs.passed.Given as goal

abbrev pub invariant-loop-passed : goal.invariant-loop-passed
invariant-loop-passed g l = g.H.Heap.is_ready l.heap ≡ g.H.Heap.is_ready l.fn.heap
