use Rattle.std.proofs.Common.{◌+◌, ◌-◌, ◌≤◌, ℕ, Bool, List, Option, refl, sym, arith}
use Rattle.lldb_base.specs.Contents.{Contents}
use Rattle.lldb_base.specs.Heaps.{MayBeDead}
use Rattle.lldb_btree.specs.declared.node.Pair.{Pair}
use Rattle.lldb_btree.specs.declared.store.Stored.{Stored}
use Rattle.lldb_btree.specs.Removal.{CanMendWith, CanPut, IsBeside}
use Rattle.lldb_btree.specs.Splicing.{IsFullFor}
use Rattle.lldb_btree.specs.Trees.{Part}
use Rattle.lldb_btree.proofs.Full.{full_kept}
use Rattle.lldb_btree.proofs.Neighbours.{Sides}
use Rattle.lldb_btree.proofs.Putting.{Beside, put_sides, beside, other_dead, can_mend, refilled}
use Rattle.lldb_btree.proofs.Splices.{refuses_then, never}
use Rattle.lldb_btree.proofs.Steps.{Got}
use Rattle.lldb_btree.proofs.mend.refill.Goals as goal

-- nothing that can be put back
abbrev No : Option Contents → ℕ → ℕ → List ℕ → List ℕ → List ℕ → Type 0
No told many child front node back = (m : Contents) (d : ℕ) (before : List ℕ) (pairs : List Pair) → CanPut told m d many child front node back before pairs → ⊥

-- nothing that can be put together
abbrev NoMend : Bool → Option Contents → ℕ → ℕ → List ℕ → List ℕ → Type 0
NoMend behind told child other node next = (m : Contents) (d : ℕ) (ps qs : List Pair) (us ts : List ℕ) → CanMendWith behind told m d child other node next ps qs us ts → ⊥

-- what was found beside a child, of each parent that it may have
abbrev AllBeside : Option Contents → ℕ → ℕ → List ℕ → List ℕ → List ℕ → List ℕ → List ℕ → ℕ → Bool → Type 0
AllBeside told many child front node back near far other behind = (m : Contents) (d : ℕ) (before : List ℕ) (pairs : List Pair) (c : CanPut told m d many child front node back before pairs) → Beside told m d many child node before pairs c.middle c.under near far other behind

all_beside : (told : Option Contents) (many child : ℕ) (front node back near far : List ℕ) (other : ℕ) (behind : Bool) → 2 ≤ many → ((l r : List Part) → Sides l r front (many - 1) back → IsBeside l r near other far behind) → AllBeside told many child front node back near far other behind
all_beside told many child front node back near far other behind some found m d before pairs c = beside told m d many child front node back before pairs c near far other behind (found c.l c.r (put_sides told m d many child front node back before pairs (many - 1) c some refl))

pub returns-in_default-clause-refuses : goal.returns-in_default-clause-refuses
returns-in_default-clause-refuses g c = λ m d before pairs can.
    let s = put_sides (g.H.Heap.map_of c.args.heap.now) m d c.args.many c.args.child c.args.front.now c.args.node.now c.args.back.now before pairs (c.args.many - 1) can c.requires.some refl in
    c.in_default.ensures can.l can.r s.0 s.1 s.2 s.3 s.4 s.5

pub returns-in_err-read-clause-refuses : goal.returns-in_err-read-clause-refuses
returns-in_err-read-clause-refuses g c =
    let found : AllBeside (g.H.Heap.map_of c.args.heap.now) c.args.many c.args.child c.args.front.now c.args.node.now c.args.back.now c.in-Some.front.now c.in-Some.back.now c.in-Some.other c.in-Some.behind = all_beside (g.H.Heap.map_of c.args.heap.now) c.args.many c.args.child c.args.front.now c.args.node.now c.args.back.now c.in-Some.front.now c.in-Some.back.now c.in-Some.other c.in-Some.behind c.requires.some (λ l r s. c.in-Some.ensures l r s.0 s.1 s.2 s.3 s.4 s.5) in
    refuses_then (Unit {0}) (List ℕ) (λ _ _. ⊥) (IsFullFor (g.H.Heap.limit_of c.args.heap.now) (g.H.Heap.size_of c.read.new.self))
    (MayBeDead c.in-Some.other (g.H.Heap.map_of c.args.heap.now)) (No (g.H.Heap.map_of c.args.heap.now) c.args.many c.args.child c.args.front.now c.args.node.now c.args.back.now)
    c.from_residual.result c.in_err-read.field-0.0 c.from_residual.ensures.1 (never (IsFullFor (g.H.Heap.limit_of c.args.heap.now) (g.H.Heap.size_of c.read.new.self)))
    (λ dead m d before pairs can. other_dead (g.H.Heap.map_of c.args.heap.now) m d c.args.many c.args.child c.args.node.now before pairs can.middle can.under c.in-Some.front.now c.in-Some.back.now c.in-Some.other c.in-Some.behind (found m d before pairs can) can.is dead)
    c.in_err-read.ensures.refuses

pub returns-in_err-stored-clause-refuses : goal.returns-in_err-stored-clause-refuses
returns-in_err-stored-clause-refuses g c =
    let found : AllBeside (g.H.Heap.map_of c.args.heap.now) c.args.many c.args.child c.args.front.now c.args.node.now c.args.back.now c.in-Some.front.now c.in-Some.back.now c.in-Some.other c.in-Some.behind = all_beside (g.H.Heap.map_of c.args.heap.now) c.args.many c.args.child c.args.front.now c.args.node.now c.args.back.now c.in-Some.front.now c.in-Some.back.now c.in-Some.other c.in-Some.behind c.requires.some (λ l r s. c.in-Some.ensures l r s.0 s.1 s.2 s.3 s.4 s.5) in
    let got : Got (g.H.Heap.map_of c.args.heap.now) c.in-Some.other c.as_slice.result.now = rw c.as_slice.ensures c.in_ok-read.ensures.read in
    refuses_then Stored (List ℕ) (IsFullFor (g.H.Heap.limit_of c.read.new.self) (g.H.Heap.size_of c.mend_with.new.heap)) (IsFullFor (g.H.Heap.limit_of c.args.heap.now) (g.H.Heap.size_of c.mend_with.new.heap))
    (NoMend c.in-Some.behind (g.H.Heap.map_of c.read.new.self) c.args.child c.in-Some.other c.args.node.now c.as_slice.result.now) (No (g.H.Heap.map_of c.args.heap.now) c.args.many c.args.child c.args.front.now c.args.node.now c.args.back.now)
    c.from_residual-in_err-stored.result c.in_err-stored.field-0.0 c.from_residual-in_err-stored.ensures.1
    (full_kept (g.H.Heap.limit_of c.read.new.self) (g.H.Heap.limit_of c.args.heap.now) (g.H.Heap.size_of c.mend_with.new.heap) (sym c.read.ensures.limit))
    (λ none m d before pairs can.
    let b = found m d before pairs can in
    none m d can.middle b.q.pairs can.under b.stands.under (can_mend (g.H.Heap.map_of c.args.heap.now) (g.H.Heap.map_of c.read.new.self) m d c.args.many c.args.child c.args.front.now c.args.node.now c.args.back.now before pairs can c.in-Some.front.now c.in-Some.back.now c.in-Some.other c.in-Some.behind c.as_slice.result.now b got c.read.ensures.map))
    c.in_err-stored.ensures.refuses

pub returns-clause-put : goal.returns-clause-put
returns-clause-put g c =
    let found : AllBeside (g.H.Heap.map_of c.args.heap.now) c.args.many c.args.child c.args.front.now c.args.node.now c.args.back.now c.in-Some.front.now c.in-Some.back.now c.in-Some.other c.in-Some.behind = all_beside (g.H.Heap.map_of c.args.heap.now) c.args.many c.args.child c.args.front.now c.args.node.now c.args.back.now c.in-Some.front.now c.in-Some.back.now c.in-Some.other c.in-Some.behind c.requires.some (λ l r s. c.in-Some.ensures l r s.0 s.1 s.2 s.3 s.4 s.5) in
    let got : Got (g.H.Heap.map_of c.args.heap.now) c.in-Some.other c.as_slice.result.now = rw c.as_slice.ensures c.in_ok-read.ensures.read in
    λ m d before pairs can.
    let b = found m d before pairs can in
    let stored = c.in_ok-stored.ensures.mended m d can.middle b.q.pairs can.under b.stands.under (can_mend (g.H.Heap.map_of c.args.heap.now) (g.H.Heap.map_of c.read.new.self) m d c.args.many c.args.child c.args.front.now c.args.node.now c.args.back.now before pairs can c.in-Some.front.now c.in-Some.back.now c.in-Some.other c.in-Some.behind c.as_slice.result.now b got c.read.ensures.map) in
    refilled (g.H.Heap.map_of c.args.heap.now) (g.H.Heap.map_of c.mend_with.new.heap) m d c.args.many c.args.child c.args.front.now c.args.node.now c.args.back.now before pairs can c.in-Some.front.now c.in-Some.back.now c.in-Some.other c.in-Some.behind b c.in_ok-stored.stored.count (c.args.many + c.in_ok-stored.stored.count - 2) c.in_ok-stored.stored.entries c.in_ok-all.all stored c.in_ok-stored.ensures.few.0 c.in_ok-stored.ensures.few.1 (omega (arith, c.in_ok-stored.ensures.few.0, c.requires.some)) (rw c.as_slice-2.ensures at c.in_ok-all.ensures)
