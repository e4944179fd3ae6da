-- Nodes that are removed, and what is left of the heap.
use Rattle.std.proofs.Common.{◌≡◌, ⊎_elim, ℕ, zero, suc, ◌+◌, ◌-◌, ◌≤◌, Bool, true, false, cond, eqb, List, [], ◌∷◌, ◌++◌, length, map, Option, Some, None, IfSome, Result, OnOk, refl, sym, ap, ◌∙◌, arith, length-append}
use Rattle.std.specs.declared.cmp.Ordering.{Ordering}
use Rattle.std.specs.declared.cmp.Ordering.TheVariants.{Less, Equal, Greater}
use Rattle.std.specs.Cmp.{nat_cmp_total, tied_itself}
use Rattle.std.specs.Ordering.{nat_cmp, is_eq, eq_by_cmp}
use Rattle.std.specs.BTreeMap.{is_at}
use Rattle.std.specs.Map.{keys_of}
use Rattle.std.proofs.lemmas.Bool.{cases_eq}
use Rattle.std.proofs.lemmas.Cmp.{eq_by_cmp_equiv, ranked}
use Rattle.std.proofs.lemmas.Map.{lookup-remove_entry}
use Rattle.std.proofs.lemmas.Map.Keys.{IsDistinct-from_sorted}
use Rattle.lldb_base.specs.Contents.{Contents, content_of, without, AreContents}
use Rattle.lldb_base.specs.Heaps.{MayBeDead}
use Rattle.lldb_base.specs.declared.trouble.Trouble.{Trouble}
use Rattle.lldb_btree.specs.declared.node.Child.{Child}
use Rattle.lldb_btree.specs.Changes.{CanEdit, CanClear}
use Rattle.lldb_btree.specs.Footprints.{times, unless, Edits}
use Rattle.lldb_btree.specs.Nodes.{entry_bytes, body, child_entry, spelling, FitsChild}
use Rattle.lldb_btree.specs.Pairs.{FitsPair}
use Rattle.lldb_btree.specs.Trees.{Part, child_of, pairs_of, footprint_of, IsCleared}
use Rattle.lldb_btree.proofs.Ahead.{rises_left, rises_right}
use Rattle.lldb_btree.proofs.Below.{NoEdit, HeadRead, as_leaf, as_inner, clash}
use Rattle.lldb_btree.proofs.Decodes.{on_ok}
use Rattle.lldb_btree.proofs.Edited.{Live, times_append, times_self, times_there, edits_in, edits_then, edit_stays}
use Rattle.lldb_btree.proofs.Moved.{Agree, all_live, all_moved}
use Rattle.lldb_btree.proofs.Puts.{eqb_self, eqb_apart, apart_from}
use Rattle.lldb_btree.proofs.Standing.{all_left, all_right, parts_count, greatest_fits}
use Rattle.lldb_btree.proofs.Steps.{Got}

tied : (h x : ℕ) (o : Ordering) → nat_cmp h x ≡ o → is_eq o ≡ true → h ≡ x
tied h x Less is on = absurd (cc (on))
tied h x Equal is on = ranked h x Equal (sym is)
tied h x Greater is on = absurd (cc (on))

same_test : (h x y : ℕ) → is_at (nat_cmp h) x ≡ true → is_at (nat_cmp h) y ≡ eq_by_cmp nat_cmp x y
same_test h x y on = ap (λ (k : ℕ). is_eq (nat_cmp k y)) (tied h x (nat_cmp h x) refl on)

-- what each handle has once one is removed
at_without : (n h : ℕ) (m : Contents) → AreContents m → content_of n (without h m) ≡ cond (is_eq (nat_cmp h n)) None (content_of n m)
at_without n h m a = lookup-remove_entry (eq_by_cmp_equiv nat_cmp_total) (is_at (nat_cmp h)) (same_test h) n m (IsDistinct-from_sorted nat_cmp (keys_of m) a.rising)

-- a handle is removed
edit_without : (h : ℕ) (m : Contents) → AreContents m → Edits m (without h m) (h ∷ []) []
edit_without h m a = record {
  rest = λ n. ⊎_elim (λ same. here n same) (λ ne. there n ne) (cases_eq n h);
  once = λ n. omega arith;
} where
  here : (n : ℕ) → n ≡ h → content_of n (without h m) ≡ unless (cond (eqb n h) 1 0 + 0) (content_of n m)
  here n same = rw same (at_without h h m a ∙ ap (λ (o : Ordering). cond (is_eq o) None (content_of h m)) (tied_itself nat_cmp_total h) ∙ sym (ap (λ (b : Bool). unless (cond b 1 0 + 0) (content_of h m)) (eqb_self h)))

  there : (n : ℕ) → (n ≡ h → ⊥) → content_of n (without h m) ≡ unless (cond (eqb n h) 1 0 + 0) (content_of n m)
  there n ne = at_without n h m a ∙ ap (λ (b : Bool). cond b None (content_of n m)) (apart_from h n (λ e. ne (sym e)) (nat_cmp h n) refl) ∙ sym (ap (λ (b : Bool). unless (cond b 1 0 + 0) (content_of n m)) (eqb_apart n h ne))

-- one footprint after the other is removed
clear_then : (a b c : Contents) (xs ys whole : List ℕ) → Live a ys → ((n : ℕ) → times n whole ≡ times n ys + times n xs) → ((n : ℕ) → times n whole ≤ 1) → Edits a b xs [] → Edits b c ys [] → Edits a c whole []
clear_then a b c xs ys whole live sum once first second = edits_then a b c whole ys [] (edits_in a b xs [] ys whole ys first live sum (λ n. omega arith) once) second

-- what a heap says of a handle that was removed
abbrev pub Removed : Option Contents → Option Contents → ℕ → Type 0
Removed told now h = IfSome told (λ map. IfSome (content_of h map) (λ content. now ≡ Some (without h map)))

pub removed_here : (told now : Option Contents) (m : Contents) (h : ℕ) (content : List ℕ) → told ≡ Some m → content_of h m ≡ Some content → IfSome told AreContents → Removed told now h → IsCleared now m (h ∷ [])
removed_here told now m h content is held all gone =
    let a : AreContents m = rw is at all in
    let one : IfSome (content_of h m) (λ c. now ≡ Some (without h m)) = rw is at gone in
    let two : now ≡ Some (without h m) = rw held at one in
    record { new = without h m; told = two; edits = edit_without h m a }

held_here : (told : Option Contents) (m : Contents) (d least handle room : ℕ) (p : Part) (e : CanEdit told m d least p handle room) → content_of handle m ≡ Some (spelling e.walk.stands.node)
held_here told m d least handle room p e = sym (ap (λ (h : ℕ). content_of h m) e.walk.here) ∙ e.walk.stands.held

foot_here : (told : Option Contents) (m : Contents) (d least handle room : ℕ) (p : Part) (us : List ℕ) (e : CanEdit told m d least p handle room) → e.walk.stands.under ≡ us → p.footprint ≡ handle ∷ us
foot_here told m d least handle room p us e takes = e.walk.stands.footprint ∙ ap (λ (x : List ℕ). p.handle ∷ x) takes ∙ ap (λ (h : ℕ). h ∷ us) e.walk.here

foot_cleared : (now : Option Contents) (m : Contents) (us ts : List ℕ) → ts ≡ us → IsCleared now m us → IsCleared now m ts
foot_cleared now m us ts e c = rw e c

-- a leaf is removed
pub leaf_cleared : (told read now : Option Contents) (handle room : ℕ) (bytes rest : List ℕ) (leaf : Bool) (n : ℕ) (r : Result (Unit {0}) Trouble) → Got told handle bytes → HeadRead bytes leaf n rest → leaf ≡ true → read ≡ told → IfSome read AreContents → OnOk r (Removed read now handle) → (m : Contents) (d least : ℕ) (p : Part) → CanEdit told m d least p handle room → OnOk r (IsCleared now m p.footprint)
leaf_cleared told read now handle room bytes rest leaf n r got head on same all gone m zero least p e = on_ok {P = Removed read now handle} {Q = IsCleared now m p.footprint} r (λ g. foot_cleared now m (handle ∷ []) p.footprint (foot_here told m zero least handle room p [] e e.walk.stands.over.1) (removed_here read now m handle (spelling e.walk.stands.node) (same ∙ e.walk.is) (held_here told m zero least handle room p e) all g)) gone
leaf_cleared told read now handle room bytes rest leaf n r got head on same all gone m (suc d) least p e = clash leaf on (as_inner told handle room bytes rest leaf n got head m d least p e).0

-- the children of a node that was read
children_here : (told read : Option Contents) (handle room : ℕ) (bytes rest : List ℕ) (leaf : Bool) (n : ℕ) → Got told handle bytes → HeadRead bytes leaf n rest → read ≡ told → (m : Contents) (d least : ℕ) (p : Part) (e : CanEdit told m (suc d) least p handle room) → CanClear read m d e.walk.stands.over.parts rest n (room - 1)
children_here told read handle room bytes rest leaf n got head same m d least p e =
    let a = as_inner told handle room bytes rest leaf n got head m d least p e in
    let foot : p.footprint ≡ handle ∷ footprint_of e.walk.stands.over.parts = foot_here told m (suc d) least handle room p (footprint_of e.walk.stands.over.parts) e e.walk.stands.over.takes in
    record {
      is = same ∙ e.walk.is;
      each = e.walk.stands.over.each;
      counted = sym (parts_count e.walk.stands.over.parts) ∙ a.1.2;
      spelled = a.1.3;
      within = omega (arith, e.walk.within);
      sorted = rw e.walk.stands.over.all at e.walk.sorted;
      once = λ k. omega (arith, e.once k, ap (times k) foot);
    }

-- children that are read
abbrev pub NoClear : Option Contents → List ℕ → ℕ → ℕ → Type 0
NoClear told bytes many room = (m : Contents) (d : ℕ) (parts : List Part) → CanClear told m d parts bytes many room → ⊥

-- the children under a handle are gone
abbrev pub ChildrenGone : Option Contents → Option Contents → List ℕ → ℕ → ℕ → Type 0
ChildrenGone told now bytes many room = (m : Contents) (d : ℕ) (parts : List Part) → CanClear told m d parts bytes many room → IsCleared now m (footprint_of parts)

-- a node whose children are gone still stands at its handle
record Alone (told mid : Option Contents) (m : Contents) (handle : ℕ) (p : Part) : Type 0 where
  under : List ℕ
  foot : p.footprint ≡ handle ∷ under
  gone : IsCleared mid m under
  content : List ℕ
  held : content_of handle m ≡ Some content
  stays : content_of handle gone.new ≡ Some content

alone : (told read mid : Option Contents) (handle room : ℕ) (bytes rest : List ℕ) (leaf : Bool) (n : ℕ) → Got told handle bytes → HeadRead bytes leaf n rest → leaf ≡ false → read ≡ told → ChildrenGone read mid rest n (room - 1) → (m : Contents) (d least : ℕ) (p : Part) → CanEdit told m d least p handle room → Alone told mid m handle p
alone told read mid handle room bytes rest leaf n got head off same children m zero least p e = clash leaf (as_leaf told handle room bytes rest leaf n got head m least p e).0 off
alone told read mid handle room bytes rest leaf n got head off same children m (suc d) least p e =
    let us : List ℕ = footprint_of e.walk.stands.over.parts in
    let foot : p.footprint ≡ handle ∷ us = foot_here told m (suc d) least handle room p us e e.walk.stands.over.takes in
    let held : content_of handle m ≡ Some (spelling e.walk.stands.node) = held_here told m (suc d) least handle room p e in
    let gone : IsCleared mid m us = children m d e.walk.stands.over.parts (children_here told read handle room bytes rest leaf n got head same m d least p e) in
    let apart : times handle us ≡ 0 = omega (arith, times_self handle us, e.once handle, ap (times handle) foot) in
    record {
      under = us;
      foot = foot;
      gone = gone;
      content = spelling e.walk.stands.node;
      held = held;
      stays = edit_stays m gone.new us [] handle gone.edits apart (λ none. let both : Some (spelling e.walk.stands.node) ≡ None = sym held ∙ none in absurd (cc (both))) ∙ held;
    }

one_live : (m : Contents) (h : ℕ) (content : List ℕ) → content_of h m ≡ Some content → Live m (h ∷ [])
one_live m h content held n some none = ⊎_elim
    (λ same. let both : Some content ≡ None = sym held ∙ ap (λ (k : ℕ). content_of k m) (sym same) ∙ none in absurd (cc (both)))
    (λ ne. absurd (omega (arith, some, times_there n h [] ne)))
    (cases_eq n h)

-- an inner node is removed after its children
pub inner_cleared : (told read mid now : Option Contents) (handle room : ℕ) (bytes rest : List ℕ) (leaf : Bool) (n : ℕ) (r : Result (Unit {0}) Trouble) → Got told handle bytes → HeadRead bytes leaf n rest → leaf ≡ false → read ≡ told → ChildrenGone read mid rest n (room - 1) → IfSome mid AreContents → OnOk r (Removed mid now handle) → (m : Contents) (d least : ℕ) (p : Part) → CanEdit told m d least p handle room → OnOk r (IsCleared now m p.footprint)
inner_cleared told read mid now handle room bytes rest leaf n r got head off same children all gone m d least p e =
    let a : Alone told mid m handle p = alone told read mid handle room bytes rest leaf n got head off same children m d least p e in
    on_ok {P = Removed mid now handle} {Q = IsCleared now m p.footprint} r
    (λ g.
    let x : IsCleared now a.gone.new (handle ∷ []) = removed_here mid now a.gone.new handle a.content a.gone.told a.stays all g in
    record { new = x.new; told = x.told; edits = clear_then m a.gone.new x.new a.under (handle ∷ []) p.footprint (one_live m handle a.content a.held) (λ k. omega (arith, ap (times k) a.foot)) e.once a.gone.edits x.edits })
    gone

pub inner_dead : (told read mid : Option Contents) (handle room : ℕ) (bytes rest : List ℕ) (leaf : Bool) (n : ℕ) → Got told handle bytes → HeadRead bytes leaf n rest → leaf ≡ false → read ≡ told → ChildrenGone read mid rest n (room - 1) → MayBeDead handle mid → NoEdit told handle room
inner_dead told read mid handle room bytes rest leaf n got head off same children dead m d least p e =
    let a : Alone told mid m handle p = alone told read mid handle room bytes rest leaf n got head off same children m d least p e in
    let none : content_of handle a.gone.new ≡ None = rw a.gone.told at dead in
    let both : Some a.content ≡ None = sym a.stays ∙ none in
    absurd (cc (both))

pub inner_refused : (told read : Option Contents) (handle room : ℕ) (bytes rest : List ℕ) (leaf : Bool) (n : ℕ) → Got told handle bytes → HeadRead bytes leaf n rest → leaf ≡ false → read ≡ told → NoClear read rest n (room - 1) → NoEdit told handle room
inner_refused told read handle room bytes rest leaf n got head off same none m zero least p e = clash leaf (as_leaf told handle room bytes rest leaf n got head m least p e).0 off
inner_refused told read handle room bytes rest leaf n got head off same none m (suc d) least p e = none m d e.walk.stands.over.parts (children_here told read handle room bytes rest leaf n got head same m d least p e)

-- one node is read for each handle
pub one_read : (told : Option Contents) (handle room before after : ℕ) → after ≤ before + 1 → (m : Contents) (d least : ℕ) (p : Part) → CanEdit told m d least p handle room → after ≤ before + length p.footprint
one_read told handle room before after step m d least p e = omega (arith, step, ap length e.walk.stands.footprint)

pub inner_reads : (told read : Option Contents) (handle room : ℕ) (bytes rest : List ℕ) (leaf : Bool) (n before mid after : ℕ) → Got told handle bytes → HeadRead bytes leaf n rest → leaf ≡ false → read ≡ told → mid ≤ before + 1 → ((m : Contents) (d : ℕ) (parts : List Part) → CanClear read m d parts rest n (room - 1) → after ≤ mid + length (footprint_of parts)) → (m : Contents) (d least : ℕ) (p : Part) → CanEdit told m d least p handle room → after ≤ before + length p.footprint
inner_reads told read handle room bytes rest leaf n before mid after got head off same step children m zero least p e = clash leaf (as_leaf told handle room bytes rest leaf n got head m least p e).0 off
inner_reads told read handle room bytes rest leaf n before mid after got head off same step children m (suc d) least p e =
    let us : List ℕ = footprint_of e.walk.stands.over.parts in
    let foot : p.footprint ≡ handle ∷ us = foot_here told m (suc d) least handle room p us e e.walk.stands.over.takes in
    omega (arith, step, ap length foot, children m d e.walk.stands.over.parts (children_here told read handle room bytes rest leaf n got head same m d least p e))

-- the first child was read
abbrev pub FirstRead : List ℕ → ℕ → List ℕ → Type 0
FirstRead bytes handle rest = (c : Child) (more : List ℕ) → FitsChild c → bytes ≡ entry_bytes (child_entry c) ++ more → (handle ≡ c.handle) × (rest ≡ more)

first_fits : (told : Option Contents) (m : Contents) (d many room : ℕ) (q : Part) (qs : List Part) (bytes : List ℕ) → CanClear told m d (q ∷ qs) bytes many room → FitsChild (child_of q)
first_fits told m d many room q qs bytes c = (greatest_fits q.pairs (all_left FitsPair q.pairs (pairs_of qs) c.sorted.fits), c.each.0.handle)

first_edit : (told : Option Contents) (m : Contents) (d many room handle : ℕ) (q : Part) (qs : List Part) (bytes : List ℕ) → CanClear told m d (q ∷ qs) bytes many room → handle ≡ q.handle → CanEdit told m d 16 q handle room
first_edit told m d many room handle q qs bytes c same = record {
  walk = record {
    is = c.is;
    stands = c.each.0;
    here = sym same;
    within = c.within;
    some = λ low. omega arith;
    sorted = record { rises = rises_left q.pairs (pairs_of qs) c.sorted.rises; fits = all_left FitsPair q.pairs (pairs_of qs) c.sorted.fits };
  };
  once = λ n. omega (arith, c.once n, times_append n q.footprint (footprint_of qs));
}

others : (told now : Option Contents) (m : Contents) (d many room : ℕ) (q : Part) (qs : List Part) (bytes rest : List ℕ) → CanClear told m d (q ∷ qs) bytes many room → rest ≡ body (map child_entry (map child_of qs)) → (x : IsCleared now m q.footprint) → CanClear now x.new d qs rest (many - 1) room
others told now m d many room q qs bytes rest c is x =
    let sum : (n : ℕ) → times n (footprint_of (q ∷ qs)) ≡ times n q.footprint + times n (footprint_of qs) = λ n. times_append n q.footprint (footprint_of qs) in
    let live : Live m (footprint_of qs) = all_live m d qs c.each.1 in
    let same : Agree m x.new (footprint_of qs) = λ n some. edit_stays m x.new q.footprint [] n x.edits (omega (arith, some, c.once n, sum n)) (live n some) in
    record {
      is = x.told;
      each = all_moved m x.new d qs c.each.1 same;
      counted = omega (arith, c.counted);
      spelled = is;
      within = c.within;
      sorted = record { rises = rises_right q.pairs (pairs_of qs) c.sorted.rises; fits = all_right FitsPair q.pairs (pairs_of qs) c.sorted.fits };
      once = λ n. omega (arith, c.once n, sum n);
    }

-- what stands under a handle is gone
abbrev pub NodeGone : Option Contents → Option Contents → ℕ → ℕ → Type 0
NodeGone told now handle room = (m : Contents) (d least : ℕ) (p : Part) → CanEdit told m d least p handle room → IsCleared now m p.footprint

pub firstless : (told : Option Contents) (many room : ℕ) (bytes : List ℕ) → (many ≡ 0 → ⊥) → ((c : Child) (more : List ℕ) → FitsChild c → bytes ≡ entry_bytes (child_entry c) ++ more → ⊥) → NoClear told bytes many room
firstless told many room bytes some none m d [] c = some (sym c.counted)
firstless told many room bytes some none m d (q ∷ qs) c = none (child_of q) (body (map child_entry (map child_of qs))) (first_fits told m d many room q qs bytes c) c.spelled

pub first_refused : (told : Option Contents) (many room handle : ℕ) (bytes rest : List ℕ) → (many ≡ 0 → ⊥) → FirstRead bytes handle rest → NoEdit told handle room → NoClear told bytes many room
first_refused told many room handle bytes rest some first none m d [] c = some (sym c.counted)
first_refused told many room handle bytes rest some first none m d (q ∷ qs) c =
    let f = first (child_of q) (body (map child_entry (map child_of qs))) (first_fits told m d many room q qs bytes c) c.spelled in
    none m d 16 q (first_edit told m d many room handle q qs bytes c f.0)

pub others_refused : (told now : Option Contents) (many room handle : ℕ) (bytes rest : List ℕ) → (many ≡ 0 → ⊥) → FirstRead bytes handle rest → NodeGone told now handle room → NoClear now rest (many - 1) room → NoClear told bytes many room
others_refused told now many room handle bytes rest some first gone none m d [] c = some (sym c.counted)
others_refused told now many room handle bytes rest some first gone none m d (q ∷ qs) c =
    let f = first (child_of q) (body (map child_entry (map child_of qs))) (first_fits told m d many room q qs bytes c) c.spelled in
    let x = gone m d 16 q (first_edit told m d many room handle q qs bytes c f.0) in
    none x.new d qs (others told now m d many room q qs bytes rest c f.1 x)

pub children_cleared : (told mid now : Option Contents) (many room handle : ℕ) (bytes rest : List ℕ) (r : Result (Unit {0}) Trouble) → (many ≡ 0 → ⊥) → FirstRead bytes handle rest → NodeGone told mid handle room → ((m : Contents) (d : ℕ) (parts : List Part) → CanClear mid m d parts rest (many - 1) room → OnOk r (IsCleared now m (footprint_of parts))) → (m : Contents) (d : ℕ) (parts : List Part) → CanClear told m d parts bytes many room → OnOk r (IsCleared now m (footprint_of parts))
children_cleared told mid now many room handle bytes rest r some first gone more m d [] c = absurd (some (sym c.counted))
children_cleared told mid now many room handle bytes rest r some first gone more m d (q ∷ qs) c =
    let f = first (child_of q) (body (map child_entry (map child_of qs))) (first_fits told m d many room q qs bytes c) c.spelled in
    let x : IsCleared mid m q.footprint = gone m d 16 q (first_edit told m d many room handle q qs bytes c f.0) in
    on_ok {P = IsCleared now x.new (footprint_of qs)} {Q = IsCleared now m (footprint_of (q ∷ qs))} r
    (λ y. record { new = y.new; told = y.told; edits = clear_then m x.new y.new q.footprint (footprint_of qs) (footprint_of (q ∷ qs)) (all_live m d qs c.each.1) (λ n. omega (arith, times_append n q.footprint (footprint_of qs))) c.once x.edits y.edits })
    (more x.new d qs (others told mid m d many room q qs bytes rest c f.1 x))

-- what is read while the first child is removed
pub first_reads : (told : Option Contents) (many room handle : ℕ) (bytes rest : List ℕ) (before after : ℕ) → (many ≡ 0 → ⊥) → FirstRead bytes handle rest → ((m : Contents) (d least : ℕ) (p : Part) → CanEdit told m d least p handle room → after ≤ before + length p.footprint) → (m : Contents) (d : ℕ) (parts : List Part) → CanClear told m d parts bytes many room → after ≤ before + length (footprint_of parts)
first_reads told many room handle bytes rest before after some first node m d [] c = absurd (some (sym c.counted))
first_reads told many room handle bytes rest before after some first node m d (q ∷ qs) c =
    let f = first (child_of q) (body (map child_entry (map child_of qs))) (first_fits told m d many room q qs bytes c) c.spelled in
    omega (arith, length-append q.footprint (footprint_of qs), node m d 16 q (first_edit told m d many room handle q qs bytes c f.0))

pub children_reads : (told mid : Option Contents) (many room handle : ℕ) (bytes rest : List ℕ) (before between after : ℕ) → (many ≡ 0 → ⊥) → FirstRead bytes handle rest → NodeGone told mid handle room → ((m : Contents) (d least : ℕ) (p : Part) → CanEdit told m d least p handle room → between ≤ before + length p.footprint) → ((m : Contents) (d : ℕ) (parts : List Part) → CanClear mid m d parts rest (many - 1) room → after ≤ between + length (footprint_of parts)) → (m : Contents) (d : ℕ) (parts : List Part) → CanClear told m d parts bytes many room → after ≤ before + length (footprint_of parts)
children_reads told mid many room handle bytes rest before between after some first gone node more m d [] c = absurd (some (sym c.counted))
children_reads told mid many room handle bytes rest before between after some first gone node more m d (q ∷ qs) c =
    let f = first (child_of q) (body (map child_entry (map child_of qs))) (first_fits told m d many room q qs bytes c) c.spelled in
    let edit = first_edit told m d many room handle q qs bytes c f.0 in
    let x = gone m d 16 q edit in
    omega (arith, length-append q.footprint (footprint_of qs), node m d 16 q edit, more x.new d qs (others told mid m d many room q qs bytes rest c f.1 x))
