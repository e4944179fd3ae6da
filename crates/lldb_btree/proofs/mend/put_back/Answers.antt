use Rattle.std.proofs.Common.{ℕ, List, Option, arith}
use Rattle.lldb_base.specs.Contents.{Contents}
use Rattle.lldb_btree.specs.declared.node.Pair.{Pair}
use Rattle.lldb_btree.specs.Removal.{CanPut}
use Rattle.lldb_btree.specs.Splicing.{IsFullFor}
use Rattle.lldb_btree.proofs.Putting.{put_headless, put_count}
use Rattle.lldb_btree.proofs.Splices.{refuses_last}
use Rattle.lldb_btree.proofs.mend.put_back.Goals as goal

-- nothing that can be put back
abbrev No : Option Contents → ℕ → ℕ → List ℕ → List ℕ → List ℕ → Type 0
No told many child front node back = (m : Contents) (d : ℕ) (before : List ℕ) (pairs : List Pair) → CanPut told m d many child front node back before pairs → ⊥

pub returns-in_default-clause-refuses : goal.returns-in_default-clause-refuses
returns-in_default-clause-refuses g c = λ m d before pairs can. put_headless (g.H.Heap.map_of c.args.heap.now) m d c.args.many c.args.child c.args.front.now c.args.node.now c.args.back.now before pairs can c.in_default.ensures.whole

pub returns-else-entries-lt-LEAST-clause-put : goal.returns-else-entries-lt-LEAST-clause-put
returns-else-entries-lt-LEAST-clause-put g c = λ m d before pairs can. c.keep.ensures.put m d before pairs can (omega (arith, c.if-entries-lt-LEAST.false, put_count (g.H.Heap.map_of c.args.heap.now) m d c.args.many c.args.child c.args.front.now c.args.node.now c.args.back.now before pairs c.in-Some.entries can c.in-Some.ensures.whole))

pub returns-else-entries-lt-LEAST-clause-refuses : goal.returns-else-entries-lt-LEAST-clause-refuses
returns-else-entries-lt-LEAST-clause-refuses g c = refuses_last (IsFullFor (g.H.Heap.limit_of c.args.heap.now) (g.H.Heap.size_of c.keep.new.heap)) (IsFullFor (g.H.Heap.limit_of c.args.heap.now) (g.H.Heap.size_of c.keep.new.heap)) _ (No (g.H.Heap.map_of c.args.heap.now) c.args.many c.args.child c.args.front.now c.args.node.now c.args.back.now) c.keep.result (λ need most f. f)
    (λ none m d before pairs can. none m d before pairs can (omega (arith, c.if-entries-lt-LEAST.false, put_count (g.H.Heap.map_of c.args.heap.now) m d c.args.many c.args.child c.args.front.now c.args.node.now c.args.back.now before pairs c.in-Some.entries can c.in-Some.ensures.whole)))
    c.keep.ensures.refuses
