use Rattle.std.proofs.Common.{◌≡◌, ◌≤◌, ℕ, List, [], ◌∷◌, length, Option, refl, sym, ◌∙◌}
use Rattle.lldb_base.specs.Contents.{Contents}
use Rattle.lldb_base.specs.Heaps.{MayBeDead}
use Rattle.lldb_btree.specs.declared.node.Child.{Child}
use Rattle.lldb_btree.specs.declared.node.Node.TheVariants.{Inner}
use Rattle.lldb_btree.specs.declared.node.Pair.{Pair}
use Rattle.lldb_btree.specs.Removal.{CanLower}
use Rattle.lldb_btree.specs.Splicing.{IsFullFor}
use Rattle.lldb_btree.proofs.Decodes.{on_ok}
use Rattle.lldb_btree.proofs.Full.{full_kept}
use Rattle.lldb_btree.proofs.Lowering.{only_dead, root_lowered, root_unwritten}
use Rattle.lldb_btree.proofs.Splices.{refuses_then, refuses_last, never}
use Rattle.lldb_btree.proofs.Steps.{Got}
use Rattle.lldb_btree.proofs.lower.replace_root.Goals as goal

-- no root with this child alone
abbrev No : Option Contents → ℕ → ℕ → Type 0
No told h only = (old m : Contents) (d : ℕ) (before bytes : List ℕ) (pairs : List Pair) (x : Child) (c : CanLower told old m d h before bytes pairs) → c.node ≡ Inner (x ∷ []) → only ≡ x.handle → ⊥

pub returns-in_err-read-clause-refuses : goal.returns-in_err-read-clause-refuses
returns-in_err-read-clause-refuses g c =
    refuses_then (Unit {0}) (Unit {0}) (λ _ _. ⊥) (IsFullFor (g.H.Heap.limit_of c.args.heap.now) (g.H.Heap.size_of c.read.new.self))
    (MayBeDead c.args.only (g.H.Heap.map_of c.args.heap.now)) (No (g.H.Heap.map_of c.args.heap.now) c.args.handle c.args.only)
    c.from_residual.result c.in_err-read.field-0.0 c.from_residual.ensures.1 (never (IsFullFor (g.H.Heap.limit_of c.args.heap.now) (g.H.Heap.size_of c.read.new.self)))
    (λ dead old m d before bytes pairs x can is here. only_dead (g.H.Heap.map_of c.args.heap.now) (g.H.Heap.map_of c.args.heap.now) old m d c.args.handle before bytes pairs c.args.only x can is here refl dead)
    c.in_err-read.ensures.refuses

pub returns-in_err-remove-clause-refuses : goal.returns-in_err-remove-clause-refuses
returns-in_err-remove-clause-refuses g c =
    refuses_then (Unit {0}) (Unit {0}) (λ _ _. ⊥) (IsFullFor (g.H.Heap.limit_of c.args.heap.now) (g.H.Heap.size_of c.remove.new.self))
    (MayBeDead c.args.only (g.H.Heap.map_of c.read.new.self)) (No (g.H.Heap.map_of c.args.heap.now) c.args.handle c.args.only)
    c.from_residual-in_err-remove.result c.in_err-remove.field-0.0 c.from_residual-in_err-remove.ensures.1 (never (IsFullFor (g.H.Heap.limit_of c.args.heap.now) (g.H.Heap.size_of c.remove.new.self)))
    (λ dead old m d before bytes pairs x can is here. only_dead (g.H.Heap.map_of c.args.heap.now) (g.H.Heap.map_of c.read.new.self) old m d c.args.handle before bytes pairs c.args.only x can is here c.read.ensures.map dead)
    c.in_err-remove.ensures.refuses

pub returns-clause-lowered : goal.returns-clause-lowered
returns-clause-lowered g c = λ old m d before bytes pairs x can is here.
    let got : Got (g.H.Heap.map_of c.args.heap.now) c.args.only c.as_slice.result.now = rw c.as_slice.ensures c.in_ok-read.ensures.read in
    on_ok c.save.result (λ put. root_lowered (g.H.Heap.map_of c.args.heap.now) (g.H.Heap.map_of c.read.new.self) (g.H.Heap.map_of c.remove.new.self) (g.H.Heap.map_of c.save.new.heap) old m d c.args.handle before bytes c.as_slice.result.now pairs c.args.only x can is here got c.read.ensures.map (g.met.H.Heap.contents c.read.new.self (c.read.ensures.ready ∙ c.requires.ready)) c.in_ok-remove.ensures.removed put) c.save.ensures.put

pub returns-clause-refuses : goal.returns-clause-refuses
returns-clause-refuses g c =
    let got : Got (g.H.Heap.map_of c.args.heap.now) c.args.only c.as_slice.result.now = rw c.as_slice.ensures c.in_ok-read.ensures.read in
    refuses_last (IsFullFor (g.H.Heap.limit_of c.remove.new.self) (g.H.Heap.size_of c.save.new.heap)) (IsFullFor (g.H.Heap.limit_of c.args.heap.now) (g.H.Heap.size_of c.save.new.heap))
    (length c.as_slice.result.now ≤ 35810 → MayBeDead c.args.handle (g.H.Heap.map_of c.remove.new.self)) (No (g.H.Heap.map_of c.args.heap.now) c.args.handle c.args.only) c.save.result
    (full_kept (g.H.Heap.limit_of c.remove.new.self) (g.H.Heap.limit_of c.args.heap.now) (g.H.Heap.size_of c.save.new.heap) (sym (c.remove.ensures.limit ∙ c.read.ensures.limit)))
    (λ dead old m d before bytes pairs x can is here. root_unwritten (g.H.Heap.map_of c.args.heap.now) (g.H.Heap.map_of c.read.new.self) (g.H.Heap.map_of c.remove.new.self) old m d c.args.handle before bytes c.as_slice.result.now pairs c.args.only x can is here got c.read.ensures.map (g.met.H.Heap.contents c.read.new.self (c.read.ensures.ready ∙ c.requires.ready)) c.in_ok-remove.ensures.removed dead)
    c.save.ensures.refuses
