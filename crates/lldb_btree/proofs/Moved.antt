-- What stands under a node stays where the maps agree on its footprint.
use Rattle.std.proofs.Common.{◌≡◌, ⊎_elim, ℕ, zero, suc, ◌+◌, ◌<◌, List, [], ◌∷◌, ◌++◌, Some, None, refl, sym, ap, ◌∙◌, arith}
use Rattle.std.specs.List.{AllByRecursion}
use Rattle.std.proofs.lemmas.Bool.{cases_eq}
use Rattle.lldb_base.specs.Contents.{Contents, content_of}
use Rattle.lldb_btree.specs.declared.node.Node.{Node}
use Rattle.lldb_btree.specs.declared.node.Pair.{Pair}
use Rattle.lldb_btree.specs.Footprints.{times}
use Rattle.lldb_btree.specs.Nodes.{spelling}
use Rattle.lldb_btree.specs.Trees.{Part, footprint_of, IsNode, IsOver}
use Rattle.lldb_btree.proofs.Edited.{Live, times_append, times_here, times_there}

-- two maps have the same at each handle of a footprint
abbrev pub Agree : Contents → Contents → List ℕ → Type 0
Agree old new us = (n : ℕ) → 0 < times n us → content_of n new ≡ content_of n old

abbrev Over : Contents → ℕ → Type 0
Over m d = (node : Node) (pairs : List Pair) (under : List ℕ) → IsOver m d node pairs under → Live m under

-- a lemma on what is below a node, and the same on the node
node_live : (m : Contents) (d least : ℕ) → Over m d → (p : Part) → IsNode (IsOver m d) m least p → Live m p.footprint
node_live m d least go p a n some none =
    let whole : times n p.footprint ≡ times n (p.handle ∷ a.under) = ap (times n) a.footprint in
    ⊎_elim
    (λ same. let clash : Some (spelling a.node) ≡ None = sym a.held ∙ ap (λ (k : ℕ). content_of k m) (sym same) ∙ none in absurd (cc))
    (λ ne. go a.node p.pairs a.under a.over n (omega (arith, some, whole, times_there n p.handle a.under ne)) none)
    (cases_eq n p.handle)

part_step : (m : Contents) (d : ℕ) → Over m d → (p : Part) → IsNode (IsOver m d) m 16 p → (rest : List ℕ) → Live m rest → (n : ℕ) → 0 < times n (p.footprint ++ rest) → content_of n m ≡ None → (k : ℕ) → times n p.footprint ≡ k → ⊥
part_step m d go p a rest more n some none zero e = more n (omega (arith, some, times_append n p.footprint rest, e)) none
part_step m d go p a rest more n some none (suc k) e = node_live m d 16 go p a n (omega (arith, e)) none

parts_live : (m : Contents) (d : ℕ) → Over m d → (parts : List Part) → AllByRecursion (IsNode (IsOver m d) m 16) parts → Live m (footprint_of parts)
parts_live m d go [] a n some none = absurd (omega (arith, some))
parts_live m d go (p ∷ ps) a n some none = part_step m d go p a.0 (footprint_of ps) (parts_live m d go ps a.1) n some none (times n p.footprint) refl

-- every handle that a node takes is live
pub over_live : (m : Contents) (d : ℕ) (node : Node) (pairs : List Pair) (under : List ℕ) → IsOver m d node pairs under → Live m under
over_live m zero node pairs under o = λ n some none. absurd (omega (arith, some, ap (times n) o.1))
over_live m (suc d) node pairs under o = rw o.takes (parts_live m d (over_live m d) o.parts o.each)

pub all_live : (m : Contents) (d : ℕ) (parts : List Part) → AllByRecursion (IsNode (IsOver m d) m 16) parts → Live m (footprint_of parts)
all_live m d parts a = parts_live m d (over_live m d) parts a

abbrev Moves : Contents → Contents → ℕ → Type 0
Moves old new d = (node : Node) (pairs : List Pair) (under : List ℕ) → IsOver old d node pairs under → Agree old new under → IsOver new d node pairs under

pub node_moved : (old new : Contents) (d least : ℕ) → Moves old new d → (p : Part) → IsNode (IsOver old d) old least p → Agree old new p.footprint → IsNode (IsOver new d) new least p
node_moved old new d least go p a same =
    let whole : (n : ℕ) → times n p.footprint ≡ times n (p.handle ∷ a.under) = λ n. ap (times n) a.footprint in
    record {
      node = a.node;
      under = a.under;
      held = same p.handle (omega (arith, whole p.handle, times_here p.handle a.under)) ∙ a.held;
      handle = a.handle;
      enough = a.enough;
      few = a.few;
      over = go a.node p.pairs a.under a.over (λ n some. same n (omega (arith, some, whole n)));
      footprint = a.footprint;
    }

parts_moved : (old new : Contents) (d : ℕ) → Moves old new d → (parts : List Part) → AllByRecursion (IsNode (IsOver old d) old 16) parts → Agree old new (footprint_of parts) → AllByRecursion (IsNode (IsOver new d) new 16) parts
parts_moved old new d go [] a same = tt
parts_moved old new d go (p ∷ ps) a same =
    let sum : (n : ℕ) → times n (p.footprint ++ footprint_of ps) ≡ times n p.footprint + times n (footprint_of ps) = λ n. times_append n p.footprint (footprint_of ps) in
    (node_moved old new d 16 go p a.0 (λ n some. same n (omega (arith, some, sum n))), parts_moved old new d go ps a.1 (λ n some. same n (omega (arith, some, sum n))))

pub over_moved : (old new : Contents) (d : ℕ) (node : Node) (pairs : List Pair) (under : List ℕ) → IsOver old d node pairs under → Agree old new under → IsOver new d node pairs under
over_moved old new zero node pairs under o same = o
over_moved old new (suc d) node pairs under o same = record {
  parts = o.parts;
  each = parts_moved old new d (over_moved old new d) o.parts o.each (λ n some. same n (omega (arith, some, ap (times n) o.takes)));
  named = o.named;
  all = o.all;
  takes = o.takes;
}

-- parts stay where the maps agree on their footprint
pub all_moved : (old new : Contents) (d : ℕ) (parts : List Part) → AllByRecursion (IsNode (IsOver old d) old 16) parts → Agree old new (footprint_of parts) → AllByRecursion (IsNode (IsOver new d) new 16) parts
all_moved old new d parts a same = parts_moved old new d (over_moved old new d) parts a same
