use Rattle.std.proofs.Common.{◌≤◌, ℕ, List, length, Option}
use Rattle.lldb_base.specs.Contents.{Contents}
use Rattle.lldb_base.specs.Heaps.{MayBeDead}
use Rattle.lldb_btree.specs.declared.node.Pair.{Pair}
use Rattle.lldb_btree.specs.Removal.{CanLower}
use Rattle.lldb_btree.specs.Splicing.{IsFullFor}
use Rattle.lldb_btree.proofs.Decodes.{on_ok}
use Rattle.lldb_btree.proofs.Lowering.{Answers, lower_one, lower_unsaved, lower_enough, lower_only}
use Rattle.lldb_btree.proofs.Splices.{refuses_last}
use Rattle.lldb_btree.proofs.lower.lower_root.Goals as goal

-- no root that can be written
abbrev No : Option Contents → ℕ → List ℕ → Type 0
No told h bytes = (old m : Contents) (d : ℕ) (before : List ℕ) (pairs : List Pair) → CanLower told old m d h before bytes pairs → ⊥

pub returns-in-Some-clause-lowered : goal.returns-in-Some-clause-lowered
returns-in-Some-clause-lowered g c = λ old m d before pairs can.
    let a : Answers c.args.node.now c.only_child.result = record { only = c.only_child.ensures.only; leaf = c.only_child.ensures.leaf; many = c.only_child.ensures.many } in
    let o = lower_only (g.H.Heap.map_of c.args.heap.now) old m d c.args.handle before c.args.node.now pairs can c.only_child.result c.in-Some.only c.in-Some.is a in
    c.replace_root.ensures.lowered old m d before c.args.node.now pairs o.x can o.is o.here

pub returns-in-Some-clause-refuses : goal.returns-in-Some-clause-refuses
returns-in-Some-clause-refuses g c =
    let a : Answers c.args.node.now c.only_child.result = record { only = c.only_child.ensures.only; leaf = c.only_child.ensures.leaf; many = c.only_child.ensures.many } in
    refuses_last (IsFullFor (g.H.Heap.limit_of c.args.heap.now) (g.H.Heap.size_of c.replace_root.new.heap)) (IsFullFor (g.H.Heap.limit_of c.args.heap.now) (g.H.Heap.size_of c.replace_root.new.heap)) _ (No (g.H.Heap.map_of c.args.heap.now) c.args.handle c.args.node.now) c.replace_root.result (λ need most f. f)
    (λ none old m d before pairs can.
    let o = lower_only (g.H.Heap.map_of c.args.heap.now) old m d c.args.handle before c.args.node.now pairs can c.only_child.result c.in-Some.only c.in-Some.is a in
    none old m d before c.args.node.now pairs o.x can o.is o.here)
    c.replace_root.ensures.refuses

pub returns-in-None-clause-lowered : goal.returns-in-None-clause-lowered
returns-in-None-clause-lowered g c = λ old m d before pairs can.
    let a : Answers c.args.node.now c.only_child.result = record { only = c.only_child.ensures.only; leaf = c.only_child.ensures.leaf; many = c.only_child.ensures.many } in
    on_ok c.save.result (λ put. lower_one (g.H.Heap.map_of c.args.heap.now) (g.H.Heap.map_of c.save.new.heap) old m d c.args.handle before c.args.node.now pairs can (lower_enough (g.H.Heap.map_of c.args.heap.now) old m d c.args.handle before c.args.node.now pairs can c.only_child.result c.in-None.is a) put) c.save.ensures.put

pub returns-in-None-clause-refuses : goal.returns-in-None-clause-refuses
returns-in-None-clause-refuses g c =
    refuses_last (IsFullFor (g.H.Heap.limit_of c.args.heap.now) (g.H.Heap.size_of c.save.new.heap)) (IsFullFor (g.H.Heap.limit_of c.args.heap.now) (g.H.Heap.size_of c.save.new.heap)) (length c.args.node.now ≤ 35810 → MayBeDead c.args.handle (g.H.Heap.map_of c.args.heap.now)) (No (g.H.Heap.map_of c.args.heap.now) c.args.handle c.args.node.now) c.save.result (λ need most f. f)
    (λ dead old m d before pairs can. lower_unsaved (g.H.Heap.map_of c.args.heap.now) old m d c.args.handle before c.args.node.now pairs can dead)
    c.save.ensures.refuses
