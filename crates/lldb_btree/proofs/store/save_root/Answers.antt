use Rattle.std.proofs.Common.{ℕ, List, Option, arith}
use Rattle.lldb_base.specs.Contents.{Contents}
use Rattle.lldb_btree.specs.declared.node.Pair.{Pair}
use Rattle.lldb_btree.specs.Changes.{CanRoot}
use Rattle.lldb_btree.specs.Splicing.{IsFullFor}
use Rattle.lldb_btree.proofs.Rooted.{root_headless, root_count, root_one, root_unsaved}
use Rattle.lldb_btree.proofs.Decodes.{on_ok}
use Rattle.lldb_btree.proofs.Splices.{refuses_last}
use Rattle.lldb_btree.proofs.store.save_root.Goals as goal

-- nothing that can become a root
abbrev No : Option Contents → ℕ → List ℕ → Type 0
No told h bytes = (old m : Contents) (d : ℕ) (before : List ℕ) (pairs : List Pair) → CanRoot told old m d h before bytes pairs → ⊥

pub returns-in_default-clause-refuses : goal.returns-in_default-clause-refuses
returns-in_default-clause-refuses g c = λ old m d before pairs r. root_headless (g.H.Heap.map_of c.args.heap.now) old m d c.args.handle before c.args.node.now pairs r c.in_default.ensures.whole

pub returns-then-count-gt-NODE_LIMIT-clause-rooted : goal.returns-then-count-gt-NODE_LIMIT-clause-rooted
returns-then-count-gt-NODE_LIMIT-clause-rooted g c = λ old m d before pairs r. c.save_two.ensures.rooted old m d before pairs r (omega (arith, c.if-count-gt-NODE_LIMIT.true, root_count (g.H.Heap.map_of c.args.heap.now) old m d c.args.handle before c.args.node.now pairs c.in-Some.count r c.in-Some.ensures.whole))

pub returns-then-count-gt-NODE_LIMIT-clause-refuses : goal.returns-then-count-gt-NODE_LIMIT-clause-refuses
returns-then-count-gt-NODE_LIMIT-clause-refuses g c = refuses_last (IsFullFor (g.H.Heap.limit_of c.args.heap.now) (g.H.Heap.size_of c.save_two.new.heap)) (IsFullFor (g.H.Heap.limit_of c.args.heap.now) (g.H.Heap.size_of c.save_two.new.heap)) _ (No (g.H.Heap.map_of c.args.heap.now) c.args.handle c.args.node.now) c.save_two.result (λ need most f. f)
    (λ none old m d before pairs r. none old m d before pairs r (omega (arith, c.if-count-gt-NODE_LIMIT.true, root_count (g.H.Heap.map_of c.args.heap.now) old m d c.args.handle before c.args.node.now pairs c.in-Some.count r c.in-Some.ensures.whole)))
    c.save_two.ensures.refuses

pub returns-else-count-gt-NODE_LIMIT-clause-rooted : goal.returns-else-count-gt-NODE_LIMIT-clause-rooted
returns-else-count-gt-NODE_LIMIT-clause-rooted g c = λ old m d before pairs r.
    on_ok c.save.result (λ put. root_one (g.H.Heap.map_of c.args.heap.now) (g.H.Heap.map_of c.save.new.heap) old m d c.args.handle before c.args.node.now pairs r (omega (arith, c.if-count-gt-NODE_LIMIT.false, root_count (g.H.Heap.map_of c.args.heap.now) old m d c.args.handle before c.args.node.now pairs c.in-Some.count r c.in-Some.ensures.whole)) put) c.save.ensures.put

pub returns-else-count-gt-NODE_LIMIT-clause-refuses : goal.returns-else-count-gt-NODE_LIMIT-clause-refuses
returns-else-count-gt-NODE_LIMIT-clause-refuses g c = refuses_last (IsFullFor (g.H.Heap.limit_of c.args.heap.now) (g.H.Heap.size_of c.save.new.heap)) (IsFullFor (g.H.Heap.limit_of c.args.heap.now) (g.H.Heap.size_of c.save.new.heap)) _ (No (g.H.Heap.map_of c.args.heap.now) c.args.handle c.args.node.now) c.save.result (λ need most f. f)
    (λ dead old m d before pairs r. root_unsaved (g.H.Heap.map_of c.args.heap.now) old m d c.args.handle before c.args.node.now pairs r (omega (arith, c.if-count-gt-NODE_LIMIT.false, root_count (g.H.Heap.map_of c.args.heap.now) old m d c.args.handle before c.args.node.now pairs c.in-Some.count r c.in-Some.ensures.whole)) dead)
    c.save.ensures.refuses
