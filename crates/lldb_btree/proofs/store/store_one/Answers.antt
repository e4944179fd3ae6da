use Rattle.std.proofs.Common.{◌≤◌, ℕ, List, ◌++◌, length, Option, ap, ◌∙◌}
use Rattle.lldb_base.specs.Contents.{Contents}
use Rattle.lldb_base.specs.Heaps.{MayBeDead}
use Rattle.lldb_btree.specs.declared.node.Pair.{Pair}
use Rattle.lldb_btree.specs.declared.store.Stored.{Stored}
use Rattle.lldb_btree.specs.Changes.{CanStore}
use Rattle.lldb_btree.specs.Nodes.{count, entry_bytes}
use Rattle.lldb_btree.specs.Splicing.{IsFullFor, AreNoNode, entry_of}
use Rattle.lldb_btree.proofs.Rooted.{one_child, one_unsaved, one_unread}
use Rattle.lldb_btree.proofs.Splices.{refuses_then, caused_then, never}
use Rattle.lldb_btree.proofs.store.store_one.Goals as goal

-- nothing that can be stored as one
abbrev No : Option Contents → ℕ → List ℕ → Type 0
No told h bytes = (m : Contents) (d : ℕ) (pairs : List Pair) (under : List ℕ) (s : CanStore told m d h bytes pairs under) → count s.node ≤ 32 → ⊥

pub returns-in_err-save-clause-refuses : goal.returns-in_err-save-clause-refuses
returns-in_err-save-clause-refuses g c =
    refuses_then (Unit {0}) Stored (IsFullFor (g.H.Heap.limit_of c.args.heap.now) (g.H.Heap.size_of c.save.new.heap)) (IsFullFor (g.H.Heap.limit_of c.args.heap.now) (g.H.Heap.size_of c.save.new.heap))
    (length c.args.node.now ≤ 35810 → MayBeDead c.args.handle (g.H.Heap.map_of c.args.heap.now))
    (No (g.H.Heap.map_of c.args.heap.now) c.args.handle c.args.node.now)
    c.from_residual-in_err-save.result c.in_err-save.field-0.0 c.from_residual-in_err-save.ensures.1 (λ need most f. f)
    (λ dead m d pairs under s few. one_unsaved (g.H.Heap.map_of c.args.heap.now) m d c.args.handle c.args.node.now pairs under s few dead)
    c.in_err-save.ensures.refuses

pub returns-in_err-push_last-clause-refuses : goal.returns-in_err-push_last-clause-refuses
returns-in_err-push_last-clause-refuses g c =
    refuses_then (Unit {0}) Stored (λ _ _. ⊥) (IsFullFor (g.H.Heap.limit_of c.args.heap.now) (g.H.Heap.size_of c.save.new.heap))
    (AreNoNode c.args.node.now)
    (No (g.H.Heap.map_of c.args.heap.now) c.args.handle c.args.node.now)
    c.from_residual-in_err-push_last.result c.in_err-push_last.field-0.0 c.from_residual-in_err-push_last.ensures.1 (never (IsFullFor (g.H.Heap.limit_of c.args.heap.now) (g.H.Heap.size_of c.save.new.heap)))
    (λ none m d pairs under s few. one_unread (g.H.Heap.map_of c.args.heap.now) m d c.args.handle c.args.node.now pairs under s none)
    c.in_err-push_last.ensures.refuses

pub returns-clause-stored : goal.returns-clause-stored
returns-clause-stored g c = λ m d pairs under s few known.
    one_child (g.H.Heap.map_of c.args.heap.now) (g.H.Heap.map_of c.save.new.heap) m d c.args.handle c.args.node.now pairs under c.push_last.new.entries s few c.in_ok-save.ensures.put c.args.key.now c.args.ends known
    (λ leaf es a some last. c.in_ok-push_last.ensures.pushed leaf es a some last ∙ ap (λ (x : List ℕ). x ++ entry_bytes (entry_of es c.args.handle)) c.in_ok-entries.ensures)

pub returns-in_err-push_last-clause-cause : goal.returns-in_err-push_last-clause-cause
returns-in_err-push_last-clause-cause g c = caused_then (Unit {0}) Stored c.from_residual-in_err-push_last.result c.in_err-push_last.field-0.0 c.from_residual-in_err-push_last.ensures.1 c.in_err-push_last.ensures.cause c.in_ok-save.ensures.cause
