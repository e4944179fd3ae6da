use Rattle.std.proofs.Common.{ℕ, List, ◌∷◌, Option, Result, Ok, Err, IfOk, arith}
use Rattle.lldb_base.specs.Contents.{Contents}
use Rattle.lldb_btree.specs.declared.node.Pair.{Pair}
use Rattle.lldb_base.specs.declared.trouble.Trouble.{Trouble}
use Rattle.lldb_btree.specs.declared.store.Stored.{Stored}
use Rattle.lldb_btree.specs.Changes.{CanStore, IsStored}
use Rattle.lldb_btree.specs.Splicing.{IsFullFor}
use Rattle.lldb_btree.proofs.Rooted.{one_headless, one_count, stored_more}
use Rattle.lldb_btree.proofs.Splices.{refuses_last}
use Rattle.lldb_btree.proofs.store.store.Goals as goal

all_more : (now : Option Contents) (m : Contents) (d : ℕ) (before : List ℕ) (pairs : List Pair) (r : Result Stored Trouble) → IfOk r (λ s. IsStored now m d 0 before pairs s.count s.entries) → IfOk r (λ s. IsStored now m d 1 before pairs s.count s.entries)
all_more now m d before pairs (Ok s) i = stored_more now m d before pairs s.count s.entries i
all_more now m d before pairs (Err e) i = tt

-- nothing that can be stored
abbrev No : Option Contents → ℕ → List ℕ → Type 0
No told h bytes = (m : Contents) (d : ℕ) (pairs : List Pair) (under : List ℕ) → CanStore told m d h bytes pairs under → ⊥

pub returns-in_default-clause-refuses : goal.returns-in_default-clause-refuses
returns-in_default-clause-refuses g c = λ m d pairs under s. one_headless (g.H.Heap.map_of c.args.heap.now) m d c.args.handle c.args.node.now pairs under s c.in_default.ensures.whole

pub returns-then-count-gt-NODE_LIMIT-clause-stored : goal.returns-then-count-gt-NODE_LIMIT-clause-stored
returns-then-count-gt-NODE_LIMIT-clause-stored g c = λ m d pairs under s known. c.store_two.ensures.stored m d pairs under s (omega (arith, c.if-count-gt-NODE_LIMIT.true, one_count (g.H.Heap.map_of c.args.heap.now) m d c.args.handle c.args.node.now pairs under c.in-Some.count s c.in-Some.ensures.whole))

pub returns-then-count-gt-NODE_LIMIT-clause-refuses : goal.returns-then-count-gt-NODE_LIMIT-clause-refuses
returns-then-count-gt-NODE_LIMIT-clause-refuses g c = refuses_last (IsFullFor (g.H.Heap.limit_of c.args.heap.now) (g.H.Heap.size_of c.store_two.new.heap)) (IsFullFor (g.H.Heap.limit_of c.args.heap.now) (g.H.Heap.size_of c.store_two.new.heap)) _ (No (g.H.Heap.map_of c.args.heap.now) c.args.handle c.args.node.now) c.store_two.result (λ need most f. f)
    (λ none m d pairs under s. none m d pairs under s (omega (arith, c.if-count-gt-NODE_LIMIT.true, one_count (g.H.Heap.map_of c.args.heap.now) m d c.args.handle c.args.node.now pairs under c.in-Some.count s c.in-Some.ensures.whole)))
    c.store_two.ensures.refuses

pub returns-else-count-gt-NODE_LIMIT-clause-stored : goal.returns-else-count-gt-NODE_LIMIT-clause-stored
returns-else-count-gt-NODE_LIMIT-clause-stored g c = λ m d pairs under s known.
    all_more (g.H.Heap.map_of c.store_one.new.heap) m d (c.args.handle ∷ under) pairs c.store_one.result (c.store_one.ensures.stored m d pairs under s (omega (arith, c.if-count-gt-NODE_LIMIT.false, one_count (g.H.Heap.map_of c.args.heap.now) m d c.args.handle c.args.node.now pairs under c.in-Some.count s c.in-Some.ensures.whole)) known)

pub returns-else-count-gt-NODE_LIMIT-clause-refuses : goal.returns-else-count-gt-NODE_LIMIT-clause-refuses
returns-else-count-gt-NODE_LIMIT-clause-refuses g c = refuses_last (IsFullFor (g.H.Heap.limit_of c.args.heap.now) (g.H.Heap.size_of c.store_one.new.heap)) (IsFullFor (g.H.Heap.limit_of c.args.heap.now) (g.H.Heap.size_of c.store_one.new.heap)) _ (No (g.H.Heap.map_of c.args.heap.now) c.args.handle c.args.node.now) c.store_one.result (λ need most f. f)
    (λ none m d pairs under s. none m d pairs under s (omega (arith, c.if-count-gt-NODE_LIMIT.false, one_count (g.H.Heap.map_of c.args.heap.now) m d c.args.handle c.args.node.now pairs under c.in-Some.count s c.in-Some.ensures.whole)))
    c.store_one.ensures.refuses
