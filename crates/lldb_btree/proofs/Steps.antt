-- One level of a way down a tree, by what the search in its node found.
use Rattle.std.proofs.Common.{◌≡◌, ℕ, zero, suc, ◌+◌, ◌-◌, ◌<◌, ◌≤◌, Bool, List, length, map, Option, IfSome, IfOk, IsErrAnd, Result, Ok, Err, refl, ap, ◌∙◌, arith}
use Rattle.std.specs.List.{AllByRecursion}
use Rattle.lldb_base.specs.Contents.{Contents, content_of}
use Rattle.lldb_base.specs.Heaps.{MayBeDead}
use Rattle.lldb_base.specs.Trouble.{IsCausedTrouble, Refuses}
use Rattle.lldb_base.specs.declared.trouble.Trouble.{Trouble}
use Rattle.lldb_base.specs.declared.trouble.Trouble.TheVariants as trouble
use Rattle.lldb_btree.specs.declared.look.Found.{Found}
use Rattle.lldb_btree.specs.declared.look.Found.TheVariants.{Down, Here}
use Rattle.lldb_btree.specs.declared.node.Child.{Child}
use Rattle.lldb_btree.specs.declared.node.Node.TheVariants.{Leaf, Inner}
use Rattle.lldb_btree.specs.declared.node.NodeFault.{NodeFault}
use Rattle.lldb_btree.specs.declared.node.NodeFault.TheVariants as fault
use Rattle.lldb_btree.specs.declared.node.Pair.{Pair}
use Rattle.lldb_btree.specs.Nodes.{spelling, FitsChild}
use Rattle.lldb_btree.specs.Pairs.{FitsPair, first}
use Rattle.lldb_btree.specs.Reading.{Reads, LeadsTo, trouble_of}
use Rattle.lldb_btree.specs.Trees.{Part, child_of, CanWalk}
use Rattle.lldb_btree.proofs.Ahead.{Falls}
use Rattle.lldb_btree.proofs.Walking.{Descent, descend, node_got, walk_live, inner_fits, inner_some}

-- the two facts on a search in a node
pub record Looks (test : List ℕ → Bool) (bytes : List ℕ) (result : Result Found NodeFault) : Type 0 where
  pub leaf : (pairs : List Pair) → AllByRecursion FitsPair pairs → bytes ≡ spelling (Leaf pairs) → Reads (λ found. found ≡ Here (first test pairs)) result
  pub inner : (children : List Child) → AllByRecursion FitsChild children → 0 < length children → bytes ≡ spelling (Inner children) → Reads (LeadsTo test children) result

-- what a read of a handle gave
abbrev pub Got : Option Contents → ℕ → List ℕ → Type 0
Got told handle bytes = IfSome told (λ map. IfSome (content_of handle map) (λ content. bytes ≡ content))

-- nothing stands from which one can walk
abbrev pub NoWalk : Option Contents → ℕ → ℕ → Type 0
NoWalk told handle room = (m : Contents) (d least : ℕ) (p : Part) → CanWalk told m d least p handle room → ⊥

here_is : (test : List ℕ → Bool) (a : Option Pair) (pairs : List Pair) → Reads (λ found. found ≡ Here (first test pairs)) (Ok (Here a)) → a ≡ first test pairs
here_is test a pairs r = cc (r)

-- an answer at this level
pub walked_here : (told : Option Contents) (handle room : ℕ) (test : List ℕ → Bool) (bytes : List ℕ) (answer : Option Pair) → Got told handle bytes → Looks test bytes (Ok (Here answer)) → (m : Contents) (d least : ℕ) (p : Part) → CanWalk told m d least p handle room → (answer ≡ first test p.pairs) × (d ≡ 0)
walked_here told handle room test bytes answer got looks m zero least p w =
    let is : bytes ≡ spelling (Leaf p.pairs) = node_got told m zero least handle room p bytes w got ∙ ap spelling w.stands.over.0 in
    (here_is test answer p.pairs (looks.leaf p.pairs w.sorted.fits is), refl)
walked_here told handle room test bytes answer got looks m (suc d) least p w =
    let is : bytes ≡ spelling (Inner (map child_of w.stands.over.parts)) = node_got told m (suc d) least handle room p bytes w got ∙ ap spelling w.stands.over.named in
    absurd (looks.inner (map child_of w.stands.over.parts) (inner_fits told m d least handle room p w) (inner_some told m d least handle room p w) is)

-- a level below this one
pub record Below (told : Option Contents) (m : Contents) (d : ℕ) (test : List ℕ → Bool) (pairs : List Pair) (handle room : ℕ) : Type 0 where
  pub under : ℕ
  pub one_more : d ≡ suc under
  pub descent : Descent told m under test pairs handle room

pub walked_down : (told : Option Contents) (handle room : ℕ) (test : List ℕ → Bool) → Falls test → (bytes : List ℕ) (to : ℕ) → Got told handle bytes → Looks test bytes (Ok (Down to)) → (m : Contents) (d least : ℕ) (p : Part) → CanWalk told m d least p handle room → Below told m d test p.pairs to room
walked_down told handle room test falls bytes to got looks m zero least p w =
    let is : bytes ≡ spelling (Leaf p.pairs) = node_got told m zero least handle room p bytes w got ∙ ap spelling w.stands.over.0 in
    let clash : Down to ≡ Here (first test p.pairs) = looks.leaf p.pairs w.sorted.fits is in
    absurd (cc)
walked_down told handle room test falls bytes to got looks m (suc d) least p w =
    let is : bytes ≡ spelling (Inner (map child_of w.stands.over.parts)) = node_got told m (suc d) least handle room p bytes w got ∙ ap spelling w.stands.over.named in
    let l : LeadsTo test (map child_of w.stands.over.parts) (Down to) = looks.inner (map child_of w.stands.over.parts) (inner_fits told m d least handle room p w) (inner_some told m d least handle room p w) is in
    record { under = d; one_more = refl; descent = descend told m d least handle room p test falls w to l.0 l.1 l.2 l.3 l.4 }

-- a node that stands is read
pub walked_bad : (told : Option Contents) (handle room : ℕ) (test : List ℕ → Bool) (bytes : List ℕ) → Got told handle bytes → Looks test bytes (Err fault.BadNode) → NoWalk told handle room
walked_bad told handle room test bytes got looks m zero least p w =
    let is : bytes ≡ spelling (Leaf p.pairs) = node_got told m zero least handle room p bytes w got ∙ ap spelling w.stands.over.0 in
    looks.leaf p.pairs w.sorted.fits is
walked_bad told handle room test bytes got looks m (suc d) least p w =
    let is : bytes ≡ spelling (Inner (map child_of w.stands.over.parts)) = node_got told m (suc d) least handle room p bytes w got ∙ ap spelling w.stands.over.named in
    looks.inner (map child_of w.stands.over.parts) (inner_fits told m d least handle room p w) (inner_some told m d least handle room p w) is

pub refuses_fault : (T : Type 0) (told : Option Contents) (handle room : ℕ) (test : List ℕ → Bool) (bytes : List ℕ) (f : NodeFault) → Got told handle bytes → Looks test bytes (Err f) → Refuses {T = T} (λ _ _. ⊥) (NoWalk told handle room) (Err (trouble_of f))
refuses_fault T told handle room test bytes fault.BadNode got looks = walked_bad told handle room test bytes got looks
refuses_fault T told handle room test bytes fault.NoMemory got looks = tt

pub caused_fault : (T : Type 0) (f : NodeFault) (a b : ℕ) → b ≡ a → IsCausedTrouble {T = T} (Err (trouble_of f)) a b
caused_fault T fault.BadNode a b e = e
caused_fault T fault.NoMemory a b e = e

-- damage that one reason allows, another allows that follows from it
pub refuses_on : (T U : Type 0) (P Q : Type 0) (e : Trouble) → (P → Q) → Refuses {T = T} (λ _ _. ⊥) P (Err e) → Refuses {T = U} (λ _ _. ⊥) Q (Err e)
refuses_on T U P Q trouble.Failed f r = tt
refuses_on T U P Q trouble.NoMemory f r = tt
refuses_on T U P Q (trouble.Full need limit) f r = r
refuses_on T U P Q trouble.Damaged f r = f r

-- the same where the answer is handed on
pub refuses_exit : (T U : Type 0) (P Q : Type 0) (r : Result U Trouble) (e : Trouble) → IsErrAnd r (λ y. y ≡ e) → (P → Q) → Refuses {T = T} (λ _ _. ⊥) P (Err e) → Refuses (λ _ _. ⊥) Q r
refuses_exit T U P Q (Ok x) e h f a = absurd h
refuses_exit T U P Q (Err y) e h f a = rw h (refuses_on T U P Q e f a)

pub refuses_also : {T : Type 0} (P Q : Type 0) (result : Result T Trouble) → (P → Q) → Refuses (λ _ _. ⊥) P result → Refuses (λ _ _. ⊥) Q result
refuses_also P Q (Ok x) f r = tt
refuses_also {T = T} P Q (Err e) f r = refuses_on T T P Q e f r

pub no_walk_dead : (told : Option Contents) (handle room : ℕ) → MayBeDead handle told → NoWalk told handle room
no_walk_dead told handle room dead m d least p w = walk_live told m d least handle room p w dead

-- the same from a heap with the same contents
pub walk_kept : (told now : Option Contents) (m : Contents) (d least handle room : ℕ) (p : Part) → now ≡ told → CanWalk told m d least p handle room → CanWalk now m d least p handle room
walk_kept told now m d least handle room p e w = record { is = e ∙ w.is; stands = w.stands; here = w.here; within = w.within; some = w.some; sorted = w.sorted }

pub no_walk_up : (told now : Option Contents) (handle room : ℕ) (test : List ℕ → Bool) → Falls test → (bytes : List ℕ) (to : ℕ) → Got told handle bytes → Looks test bytes (Ok (Down to)) → now ≡ told → NoWalk now to (room - 1) → NoWalk told handle room
no_walk_up told now handle room test falls bytes to got looks e none m d least p w =
    let b : Below told m d test p.pairs to room = walked_down told handle room test falls bytes to got looks m d least p w in
    none m b.under 16 b.descent.part (walk_kept told now m b.under 16 to (room - 1) b.descent.part e b.descent.walk)

pub found_up : (told now : Option Contents) (handle room : ℕ) (test : List ℕ → Bool) → Falls test → (bytes : List ℕ) (to : ℕ) → Got told handle bytes → Looks test bytes (Ok (Down to)) → now ≡ told → (result : Result (Option Pair) Trouble) → ((m : Contents) (d least : ℕ) (p : Part) → CanWalk now m d least p to (room - 1) → IfOk result (λ found. found ≡ first test p.pairs)) → (m : Contents) (d least : ℕ) (p : Part) → CanWalk told m d least p handle room → IfOk result (λ found. found ≡ first test p.pairs)
found_up told now handle room test falls bytes to got looks e result next m d least p w =
    let b : Below told m d test p.pairs to room = walked_down told handle room test falls bytes to got looks m d least p w in
    rw b.descent.first_is (next m b.under 16 b.descent.part (walk_kept told now m b.under 16 to (room - 1) b.descent.part e b.descent.walk))

pub reads_up : (told now : Option Contents) (handle room : ℕ) (test : List ℕ → Bool) → Falls test → (bytes : List ℕ) (to : ℕ) → Got told handle bytes → Looks test bytes (Ok (Down to)) → now ≡ told → (before mid after : ℕ) → mid ≤ before + 1 → ((m : Contents) (d least : ℕ) (p : Part) → CanWalk now m d least p to (room - 1) → after ≤ mid + (d + 1)) → (m : Contents) (d least : ℕ) (p : Part) → CanWalk told m d least p handle room → after ≤ before + (d + 1)
reads_up told now handle room test falls bytes to got looks e before mid after step next m d least p w =
    let b : Below told m d test p.pairs to room = walked_down told handle room test falls bytes to got looks m d least p w in
    omega (arith, b.one_more, step, next m b.under 16 b.descent.part (walk_kept told now m b.under 16 to (room - 1) b.descent.part e b.descent.walk))

pub levels_up : (told now : Option Contents) (handle room : ℕ) (test : List ℕ → Bool) → Falls test → (bytes : List ℕ) (to : ℕ) → Got told handle bytes → Looks test bytes (Ok (Down to)) → now ≡ told → (levels : ℕ) → ((m : Contents) (d least : ℕ) (p : Part) → CanWalk now m d least p to (room - 1) → levels ≡ d + 1) → (m : Contents) (d least : ℕ) (p : Part) → CanWalk told m d least p handle room → levels + 1 ≡ d + 1
levels_up told now handle room test falls bytes to got looks e levels next m d least p w =
    let b : Below told m d test p.pairs to room = walked_down told handle room test falls bytes to got looks m d least p w in
    omega (arith, b.one_more, next m b.under 16 b.descent.part (walk_kept told now m b.under 16 to (room - 1) b.descent.part e b.descent.walk))
