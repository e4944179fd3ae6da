-- One level of a removal, by what was read of its node.
use Rattle.std.proofs.Common.{◌≡◌, ℕ, zero, suc, ◌+◌, ◌-◌, ◌*◌, ◌≤◌, Bool, true, false, List, [], ◌∷◌, ◌++◌, length, map, Option, Some, None, Result, IfOk, refl, sym, ap, ◌∙◌, arith, length-append, append-nil}
use Rattle.std.specs.List.{AllByRecursion}
use Rattle.lldb_base.specs.Contents.{Contents, content_of}
use Rattle.lldb_base.specs.declared.trouble.Trouble.{Trouble}
use Rattle.lldb_btree.specs.declared.node.Child.{Child}
use Rattle.lldb_btree.specs.declared.node.Node.TheVariants.{Leaf, Inner}
use Rattle.lldb_btree.specs.declared.node.Pair.{Pair}
use Rattle.lldb_btree.specs.Changes.{Becomes, Lifts, CanEdit}
use Rattle.lldb_btree.specs.Footprints.{times, Edits}
use Rattle.lldb_btree.specs.Nodes.{count, body, spelling, pair_entry}
use Rattle.lldb_btree.specs.Pairs.{FitsPair, find, delete}
use Rattle.lldb_btree.specs.Removal.{Has, CanTake, IsReduced, IsTaken, IsTakenHere, CanPut, IsPut}
use Rattle.lldb_btree.specs.Splicing.{AddsNodes}
use Rattle.lldb_btree.specs.Trees.{Part, child_of, footprint_of, IsNode, IsOver, least_of}
use Rattle.lldb_btree.proofs.Below.{NoEdit, HeadRead, WayRead, Under, as_leaf, as_inner, clash, edit_kept, way_under}
use Rattle.lldb_btree.proofs.Deletes.{delete_fits, delete_count}
use Rattle.lldb_btree.proofs.Edited.{edits_none, edits_then}
use Rattle.lldb_btree.proofs.Mending.{if_ok_also}
use Rattle.lldb_btree.proofs.Parents.{parent}
use Rattle.lldb_btree.proofs.Putting.{amid, pairs_amid, times_amid, length_amid, footprints_amid, apart_moved, edits_amid}
use Rattle.lldb_btree.proofs.Setting.{one_live}
use Rattle.lldb_btree.proofs.Standing.{all_left, all_right, parts_count}
use Rattle.lldb_btree.proofs.Steps.{Got}

-- nothing stands below which a key can be removed
abbrev pub NoTake : Option Contents → ℕ → ℕ → Type 0
NoTake told handle room = (m : Contents) (d least : ℕ) (p : Part) → CanTake told m d least p handle room → ⊥

pub no_take : (told : Option Contents) (handle room : ℕ) → NoEdit told handle room → NoTake told handle room
no_take told handle room none m d least p t = none m d least p t.edit

-- a leaf with a key removed
leaf_reduced : (told now : Option Contents) (m : Contents) (least handle room : ℕ) (p : Part) (k bytes : List ℕ) → CanEdit told m zero least p handle room → now ≡ told → bytes ≡ spelling (Leaf (delete k p.pairs)) → IsReduced now m zero least p (delete k p.pairs) bytes
leaf_reduced told now m least handle room p k bytes e same spelled =
    let foot : p.footprint ≡ p.handle ∷ [] = e.walk.stands.footprint ∙ ap (λ (us : List ℕ). p.handle ∷ us) e.walk.stands.over.1 in
    let many : count e.walk.stands.node ≡ length p.pairs = ap count e.walk.stands.over.0 in
    let size = delete_count k p.pairs in
    let once : (n : ℕ) → times n (p.handle ∷ []) ≤ 1 = λ n. omega (arith, e.once n, ap (times n) foot) in
    record {
      new = m;
      told = same ∙ e.walk.is;
      node = Leaf (delete k p.pairs);
      spelled = spelled;
      lifts = record {
        under = [];
        over = (refl, refl);
        edits = rw foot (edits_none m (p.handle ∷ []) once);
        stays = refl;
        grows = omega (arith, ap length foot);
      };
      enough = omega (arith, many, size.1, e.walk.stands.enough);
      few = omega (arith, many, size.0, e.walk.stands.few);
    }

leaf_took : (told now : Option Contents) (m : Contents) (least handle room : ℕ) (p : Part) (k : List ℕ) → CanEdit told m zero least p handle room → now ≡ told → (r : Option (List ℕ)) → IsTakenHere k p.pairs r → IsTaken now m zero least p k r
leaf_took told now m least handle room p k e same None t = t
leaf_took told now m least handle room p k e same (Some bytes) t = (t.0, leaf_reduced told now m least handle room p k bytes e same t.1)

pub leaf_taken : (told now : Option Contents) (handle room : ℕ) (bytes rest : List ℕ) (leaf : Bool) (n : ℕ) (k : List ℕ) (r : Result (Option (List ℕ)) Trouble) → Got told handle bytes → HeadRead bytes leaf n rest → leaf ≡ true → now ≡ told → ((pairs : List Pair) → AllByRecursion FitsPair pairs → length pairs ≡ n → rest ≡ body (map pair_entry pairs) → IfOk r (λ x. IsTakenHere k pairs x)) → (m : Contents) (d least : ℕ) (p : Part) → CanTake told m d least p handle room → IfOk r (λ x. IsTaken now m d least p k x)
leaf_taken told now handle room bytes rest leaf n k r got head on same took m zero least p t =
    let a = as_leaf told handle room bytes rest leaf n got head m least p t.edit in
    if_ok_also (λ x. IsTakenHere k p.pairs x) (λ x. IsTaken now m zero least p k x) r (λ x h. leaf_took told now m least handle room p k t.edit same x h) (took p.pairs a.1.0 a.1.1 a.1.2)
leaf_taken told now handle room bytes rest leaf n k r got head on same took m (suc d) least p t = clash leaf on (as_inner told handle room bytes rest leaf n got head m d least p t.edit).0

-- a removal goes on below a child, and what comes of it is put back here
pub record Takes (read : Option Contents) (m : Contents) (d least room many : ℕ) (p : Part) (k front back : List ℕ) (child : ℕ) : Type 0 where
  pub low : ℕ
  pub one_more : d ≡ suc low
  pub l : List Part
  pub q : Part
  pub r : List Part
  pub take : CanTake read m low 16 q child (room - 1)
  pub found : find k p.pairs ≡ find k q.pairs
  pub ready : (mid : Option Contents) (node : List ℕ) (i : IsReduced mid m low 16 q (delete k q.pairs) node) → CanPut mid i.new low many child front node back (amid l (child ∷ i.lifts.under) r) (pairs_amid l (delete k q.pairs) r)
  pub up : (mid now : Option Contents) (node all : List ℕ) (i : IsReduced mid m low 16 q (delete k q.pairs) node) → IsPut now i.new low many (amid l (child ∷ i.lifts.under) r) (pairs_amid l (delete k q.pairs) r) all → IsReduced now m d least p (delete k p.pairs) all

-- the runs of parts beside a child that was changed
record Changed (told : Option Contents) (m : Contents) (d least : ℕ) (p : Part) (k : List ℕ) (l : List Part) (q : Part) (r : List Part) (parts : List Part) (child : ℕ) (mid : Option Contents) (node : List ℕ) (i : IsReduced mid m d 16 q (delete k q.pairs) node) : Type 0 where
  each_l : AllByRecursion (IsNode (IsOver i.new d) i.new 16) l
  each_r : AllByRecursion (IsNode (IsOver i.new d) i.new 16) r
  foot : p.footprint ≡ p.handle ∷ footprint_of parts
  edits : Edits m i.new (footprint_of parts) (amid l (child ∷ i.lifts.under) r)
  grows : length (amid l (child ∷ i.lifts.under) r) ≤ length (footprint_of parts)

changed : (told : Option Contents) (m : Contents) (d least handle room : ℕ) (p : Part) (k front back : List ℕ) (child : ℕ) (e : CanEdit told m (suc d) least p handle room) (u : Under told m d room k e.walk.stands.over.parts front child back) (mid : Option Contents) (node : List ℕ) (i : IsReduced mid m d 16 u.q (delete k u.q.pairs) node) → Changed told m d least p k u.l u.q u.r e.walk.stands.over.parts child mid node i
changed told m d least handle room p k front back child e u mid node i =
    let l : List Part = u.l in
    let q : Part = u.q in
    let r : List Part = u.r in
    let each : AllByRecursion (IsNode (IsOver m d) m 16) (l ++ (q ∷ r)) = rw u.whole at e.walk.stands.over.each in
    let left : AllByRecursion (IsNode (IsOver m d) m 16) l = all_left (IsNode (IsOver m d) m 16) l (q ∷ r) each in
    let right : AllByRecursion (IsNode (IsOver m d) m 16) (q ∷ r) = all_right (IsNode (IsOver m d) m 16) l (q ∷ r) each in
    let foot : p.footprint ≡ p.handle ∷ footprint_of e.walk.stands.over.parts = e.walk.stands.footprint ∙ ap (λ (us : List ℕ). p.handle ∷ us) e.walk.stands.over.takes in
    let runs : footprint_of e.walk.stands.over.parts ≡ amid l q.footprint r = ap (λ (x : List Part). footprint_of x) u.whole ∙ footprints_amid l (q ∷ []) r ∙ ap (λ (x : List ℕ). amid l x r) (append-nil q.footprint) in
    let once : (n : ℕ) → times n (amid l q.footprint r) ≤ 1 = λ n. omega (arith, e.once n, ap (times n) foot, ap (times n) runs) in
    let all : Edits m i.new (amid l q.footprint r) (amid l (q.handle ∷ i.lifts.under) r) = edits_amid m i.new d l r q.footprint (q.handle ∷ i.lifts.under) left right.1 once i.lifts.edits in
    let here : amid l (q.handle ∷ i.lifts.under) r ≡ amid l (child ∷ i.lifts.under) r = ap (λ (h : ℕ). amid l (h ∷ i.lifts.under) r) u.edit.walk.here in
    record {
      each_l = apart_moved m i.new d l q.footprint (q.handle ∷ i.lifts.under) left i.lifts.edits (λ n. omega (arith, once n, times_amid n l q.footprint r));
      each_r = apart_moved m i.new d r q.footprint (q.handle ∷ i.lifts.under) right.1 i.lifts.edits (λ n. omega (arith, once n, times_amid n l q.footprint r));
      foot = foot;
      edits = rw (runs, sym here) all;
      grows = omega (arith, ap length runs, length_amid l q.footprint r, length_amid l (child ∷ i.lifts.under) r, i.lifts.grows);
    }

-- all pairs without the key
all_without : (told : Option Contents) (m : Contents) (d least handle room : ℕ) (p : Part) (k front back : List ℕ) (child : ℕ) (e : CanEdit told m (suc d) least p handle room) (u : Under told m d room k e.walk.stands.over.parts front child back) → delete k p.pairs ≡ pairs_amid u.l (delete k u.q.pairs) u.r
all_without told m d least handle room p k front back child e u = ap (delete k) e.walk.stands.over.all ∙ u.deleted

parts_many : (told : Option Contents) (m : Contents) (d least handle room : ℕ) (p : Part) (k front back : List ℕ) (child : ℕ) (e : CanEdit told m (suc d) least p handle room) (u : Under told m d room k e.walk.stands.over.parts front child back) (many : ℕ) → length (map child_of e.walk.stands.over.parts) ≡ many → many ≡ length u.l + suc (length u.r)
parts_many told m d least handle room p k front back child e u many n = omega (arith, n, parts_count e.walk.stands.over.parts, ap length u.whole, length-append u.l (u.q ∷ u.r))

can_put : (told : Option Contents) (m : Contents) (d least handle room many : ℕ) (p : Part) (k front back : List ℕ) (child : ℕ) (e : CanEdit told m (suc d) least p handle room) (u : Under told m d room k e.walk.stands.over.parts front child back) (mid : Option Contents) (node : List ℕ) (i : IsReduced mid m d 16 u.q (delete k u.q.pairs) node) → length (map child_of e.walk.stands.over.parts) ≡ many → CanPut mid i.new d many child front node back (amid u.l (child ∷ i.lifts.under) u.r) (pairs_amid u.l (delete k u.q.pairs) u.r)
can_put told m d least handle room many p k front back child e u mid node i n =
    let c : Changed told m d least p k u.l u.q u.r e.walk.stands.over.parts child mid node i = changed told m d least handle room p k front back child e u mid node i in
    let q : IsNode (IsOver m d) m 16 u.q = u.edit.walk.stands in
    let fits : AllByRecursion FitsPair (delete k p.pairs) = delete_fits k p.pairs e.walk.sorted.fits in
    record {
      is = i.told;
      l = u.l;
      r = u.r;
      middle = delete k u.q.pairs;
      under = i.lifts.under;
      each_l = c.each_l;
      each_r = c.each_r;
      loose = record {
        node = i.node;
        spelled = i.spelled;
        over = i.lifts.over;
        live = (spelling q.node, ap (λ (h : ℕ). content_of h i.new) (sym u.edit.walk.here) ∙ i.lifts.stays ∙ q.held);
        low = omega (arith, u.edit.walk.here, q.handle);
        few = i.few;
        fits = delete_fits k u.q.pairs u.edit.walk.sorted.fits;
      };
      enough = omega (arith, i.enough);
      front_is = u.front_is;
      back_is = u.back_is;
      counted = parts_many told m d least handle room p k front back child e u many n;
      before_is = refl;
      pairs_are = refl;
      once = c.edits.once;
      fits = rw (all_without told m d least handle room p k front back child e u) at fits;
    }

-- all children of a node have become others
whole_parent : (old new : Contents) (d h : ℕ) (parts : List Part) (cs : List Child) (ps : List Pair) (content : List ℕ) → content_of h old ≡ Some content → ((n : ℕ) → times n (h ∷ footprint_of parts) ≤ 1) → Becomes old new d 0 (footprint_of parts) cs ps → Lifts old new (suc d) 0 h (h ∷ footprint_of parts) (Inner cs) ps
whole_parent old new d h parts cs ps content held once b =
    let nil : footprint_of (parts ++ []) ≡ footprint_of parts = ap (λ (x : List Part). footprint_of x) (append-nil parts) in
    let up : Lifts old new (suc d) 0 h (h ∷ footprint_of (parts ++ [])) (Inner (cs ++ [])) (ps ++ []) = parent old new d 0 h [] parts [] cs ps tt tt (one_live old h content held) (λ n. omega (arith, once n, ap (times n) nil)) b in
    let a : Lifts old new (suc d) 0 h (h ∷ footprint_of parts) (Inner (cs ++ [])) (ps ++ []) = rw nil at up in
    let c : Lifts old new (suc d) 0 h (h ∷ footprint_of parts) (Inner cs) (ps ++ []) = rw (append-nil cs) at a in
    rw (append-nil ps) at c

put_up : (told : Option Contents) (m : Contents) (d least handle room many : ℕ) (p : Part) (k front back : List ℕ) (child : ℕ) (e : CanEdit told m (suc d) least p handle room) (u : Under told m d room k e.walk.stands.over.parts front child back) (mid now : Option Contents) (node all : List ℕ) (i : IsReduced mid m d 16 u.q (delete k u.q.pairs) node) → length (map child_of e.walk.stands.over.parts) ≡ many → IsPut now i.new d many (amid u.l (child ∷ i.lifts.under) u.r) (pairs_amid u.l (delete k u.q.pairs) u.r) all → IsReduced now m (suc d) least p (delete k p.pairs) all
put_up told m d least handle room many p k front back child e u mid now node all i n s =
    let c : Changed told m d least p k u.l u.q u.r e.walk.stands.over.parts child mid node i = changed told m d least handle room p k front back child e u mid node i in
    let parts : List Part = e.walk.stands.over.parts in
    let b : Becomes m s.new d 0 (footprint_of parts) s.children (pairs_amid u.l (delete k u.q.pairs) u.r) = record {
      parts = s.becomes.parts;
      each = s.becomes.each;
      named = s.becomes.named;
      all = s.becomes.all;
      edits = edits_then m i.new s.new (footprint_of parts) (amid u.l (child ∷ i.lifts.under) u.r) (footprint_of s.becomes.parts) c.edits s.becomes.edits;
      grows = omega (arith, s.becomes.grows, c.grows);
    } in
    let up : Lifts m s.new (suc d) 0 p.handle (p.handle ∷ footprint_of parts) (Inner s.children) (pairs_amid u.l (delete k u.q.pairs) u.r) = whole_parent m s.new d p.handle parts s.children (pairs_amid u.l (delete k u.q.pairs) u.r) (spelling e.walk.stands.node) e.walk.stands.held (λ j. omega (arith, e.once j, ap (times j) c.foot)) b in
    let had : count e.walk.stands.node ≡ many = ap count e.walk.stands.over.named ∙ n in
    record {
      new = s.new;
      told = s.told;
      node = Inner s.children;
      spelled = s.spelled;
      lifts = rw (c.foot, all_without told m d least handle room p k front back child e u) up;
      enough = omega (arith, had, e.walk.stands.enough, s.low);
      few = omega (arith, had, e.walk.stands.few, s.high);
    }

wide_enough : (d : ℕ) → least_of d ≤ 16
wide_enough zero = omega arith
wide_enough (suc d) = omega arith

-- the same below each node that may stand at a handle
abbrev pub AllTake : Option Contents → Option Contents → ℕ → ℕ → ℕ → List ℕ → List ℕ → List ℕ → ℕ → Type 0
AllTake told read handle room many k front back child = (m : Contents) (d least : ℕ) (p : Part) → CanTake told m d least p handle room → Takes read m d least room many p k front back child

pub takes : (told read : Option Contents) (handle room : ℕ) (bytes rest : List ℕ) (leaf : Bool) (n : ℕ) (k front back : List ℕ) (child : ℕ) → Got told handle bytes → HeadRead bytes leaf n rest → leaf ≡ false → WayRead k rest n front child back → read ≡ told → AllTake told read handle room n k front back child
takes told read handle room bytes rest leaf n k front back child got head off way same m zero least p t = clash leaf (as_leaf told handle room bytes rest leaf n got head m least p t.edit).0 off
takes told read handle room bytes rest leaf n k front back child got head off way same m (suc d) least p t =
    let a = as_inner told handle room bytes rest leaf n got head m d least p t.edit in
    let u = way_under told m d least handle room p k front back child t.edit (way (map child_of t.edit.walk.stands.over.parts) a.1.0 a.1.1 a.1.2 a.1.3) in
    record {
      low = d;
      one_more = refl;
      l = u.l;
      q = u.q;
      r = u.r;
      take = record { edit = edit_kept told read m d 16 child (room - 1) u.q same u.edit; wide = wide_enough d };
      found = ap (find k) t.edit.walk.stands.over.all ∙ u.found;
      ready = λ mid node i. can_put told m d least handle room n p k front back child t.edit u mid node i a.1.2;
      up = λ mid now node all i s. put_up told m d least handle room n p k front back child t.edit u mid now node all i a.1.2 s;
    }

pub below_untaken : (told read : Option Contents) (handle room n : ℕ) (k front back : List ℕ) (child : ℕ) → AllTake told read handle room n k front back child → NoTake read child (room - 1) → NoTake told handle room
below_untaken told read handle room n k front back child go none m d least p t =
    let g = go m d least p t in
    none m g.low 16 g.q g.take

-- what a removal below the child answered
abbrev pub BelowTaken : Option Contents → Option Contents → ℕ → ℕ → List ℕ → Option (List ℕ) → Type 0
BelowTaken read mid child room k r = (m : Contents) (d least : ℕ) (p : Part) → CanTake read m d least p child room → IsTaken mid m d least p k r

pub below_none : (told read mid now : Option Contents) (handle room n : ℕ) (k front back : List ℕ) (child : ℕ) (r : Option (List ℕ)) → AllTake told read handle room n k front back child → BelowTaken read mid child (room - 1) k r → r ≡ None → (m : Contents) (d least : ℕ) (p : Part) → CanTake told m d least p handle room → find k p.pairs ≡ None
below_none told read mid now handle room n k front back child r go below none m d least p t =
    let g = go m d least p t in
    let h : IsTaken mid m g.low 16 g.q k None = rw none at below m g.low 16 g.q g.take in
    g.found ∙ h

pub below_reads : (told read : Option Contents) (handle room n : ℕ) (k front back : List ℕ) (child : ℕ) → AllTake told read handle room n k front back child → (before mid below after : ℕ) → mid ≤ before + 1 → after ≤ below + 1 → ((m : Contents) (d least : ℕ) (p : Part) → CanTake read m d least p child (room - 1) → below ≤ mid + (2 * d + 1)) → (m : Contents) (d least : ℕ) (p : Part) → CanTake told m d least p handle room → after ≤ before + (2 * d + 1)
below_reads told read handle room n k front back child go before mid below after step last next m d least p t =
    let g = go m d least p t in
    omega (arith, g.one_more, step, last, next m g.low 16 g.q g.take)

pub below_grows : (told read : Option Contents) (handle room n : ℕ) (k front back : List ℕ) (child : ℕ) → AllTake told read handle room n k front back child → (before mid below after : ℕ) → mid ≡ before → after ≤ below + 2 * 35952 → ((m : Contents) (d least : ℕ) (p : Part) → CanTake read m d least p child (room - 1) → AddsNodes (2 * d) mid below) → (m : Contents) (d least : ℕ) (p : Part) → CanTake told m d least p handle room → AddsNodes (2 * d) before after
below_grows told read handle room n k front back child go before mid below after same last next m d least p t =
    let g = go m d least p t in
    omega (arith, g.one_more, same, last, next m g.low 16 g.q g.take)

-- what can be put back of a child, and nothing
abbrev pub NoPut : Option Contents → ℕ → ℕ → List ℕ → List ℕ → List ℕ → Type 0
NoPut told many child front node back = (m : Contents) (d : ℕ) (before : List ℕ) (pairs : List Pair) → CanPut told m d many child front node back before pairs → ⊥

pub put_refused : (told read mid : Option Contents) (handle room n : ℕ) (k front back node : List ℕ) (child : ℕ) (r : Option (List ℕ)) → AllTake told read handle room n k front back child → BelowTaken read mid child (room - 1) k r → r ≡ Some node → NoPut mid n child front node back → NoTake told handle room
put_refused told read mid handle room n k front back node child r go below some none m d least p t =
    let g = go m d least p t in
    let h : IsTaken mid m g.low 16 g.q k (Some node) = rw some at below m g.low 16 g.q g.take in
    none h.1.new g.low (amid g.l (child ∷ h.1.lifts.under) g.r) (pairs_amid g.l (delete k g.q.pairs) g.r) (g.ready mid node h.1)

pub put_taken : (told read mid now : Option Contents) (handle room n : ℕ) (k front back node all : List ℕ) (child : ℕ) (r : Option (List ℕ)) → AllTake told read handle room n k front back child → BelowTaken read mid child (room - 1) k r → r ≡ Some node → ((m : Contents) (d : ℕ) (before : List ℕ) (pairs : List Pair) → CanPut mid m d n child front node back before pairs → IsPut now m d n before pairs all) → (m : Contents) (d least : ℕ) (p : Part) → CanTake told m d least p handle room → Has k p.pairs × IsReduced now m d least p (delete k p.pairs) all
put_taken told read mid now handle room n k front back node all child r go below some put m d least p t =
    let g = go m d least p t in
    let h : IsTaken mid m g.low 16 g.q k (Some node) = rw some at below m g.low 16 g.q g.take in
    let s = put h.1.new g.low (amid g.l (child ∷ h.1.lifts.under) g.r) (pairs_amid g.l (delete k g.q.pairs) g.r) (g.ready mid node h.1) in
    ((h.0.0, g.found ∙ h.0.1), g.up mid now node all h.1 s)
