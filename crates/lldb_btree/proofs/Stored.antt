-- What stands after a node in memory was stored, as one or as two.
use Rattle.std.proofs.Common.{◌≡◌, ⊎_elim, ℕ, zero, suc, ◌+◌, ◌-◌, ◌^◌, ◌<◌, ◌≤◌, List, [], ◌∷◌, ◌++◌, length, Option, Some, None, refl, sym, ap, ◌∙◌, arith, length-append, append-nil}
use Rattle.std.proofs.lemmas.Bool.{cases_eq}
use Rattle.lldb_base.specs.Contents.{Contents, content_of, with_content}
use Rattle.lldb_btree.specs.declared.node.Node.{Node}
use Rattle.lldb_btree.specs.declared.node.Pair.{Pair}
use Rattle.lldb_btree.specs.Changes.{CanStore, IsStored}
use Rattle.lldb_btree.specs.Footprints.{times}
use Rattle.lldb_btree.specs.Nodes.{Entry, count, entries, spelling, entry_bytes, body, child_entry}
use Rattle.std.specs.Int.{w64, to_be_bytes}
use Rattle.lldb_btree.specs.Splicing.{entry_of}
use Rattle.lldb_btree.specs.Trees.{Part, child_of, IsNode, IsOver}
use Rattle.lldb_btree.proofs.Edited.{Live, times_append, times_here, times_self, times_there, edits_then, edits_in, edit_put}
use Rattle.lldb_btree.proofs.Moved.{Agree, over_live, over_moved, node_moved}
use Rattle.lldb_btree.proofs.Puts.{put_same, put_apart, edit_create}
use Rattle.lldb_btree.proofs.Cuts.{Cut}
use Rattle.lldb_btree.proofs.Lasts.{last_key_is}

abbrev pub part_at : ℕ → List Pair → List ℕ → Part
part_at handle pairs under = record { handle = handle; pairs = pairs; footprint = handle ∷ under }

-- a footprint that does not have a handle agrees where that has another content
pub put_agrees : (m : Contents) (h : ℕ) (c : List ℕ) (us : List ℕ) → times h us ≡ 0 → Agree m (with_content h c m) us
put_agrees m h c us apart n some = put_apart n h c m (λ same. absurd (omega (arith, apart, there n h us same some))) where
  there : (n h : ℕ) (us : List ℕ) → n ≡ h → 0 < times n us → 0 < times h us
  there n h us same some = rw same at some

-- a node whose bytes were put at its handle stands
pub node_put : (m : Contents) (d least h : ℕ) (node : Node) (pairs : List Pair) (under : List ℕ) → IsOver m d node pairs under → times h under ≡ 0 → h < 2 ^ 64 → least ≤ count node → count node ≤ 32 → IsNode (IsOver (with_content h (spelling node) m) d) (with_content h (spelling node) m) least (part_at h pairs under)
node_put m d least h node pairs under o apart low enough few = record {
  node = node;
  under = under;
  held = put_same h (spelling node) m;
  handle = low;
  enough = enough;
  few = few;
  over = over_moved m (with_content h (spelling node) m) d node pairs under o (put_agrees m h (spelling node) under apart);
  footprint = refl;
}

pub apart_once : (h : ℕ) (us : List ℕ) → times h (h ∷ us) ≤ 1 → times h us ≡ 0
apart_once h us once = omega (arith, once, times_self h us)

-- the entry of a part is that of its node
pub part_entry : (m : Contents) (d h : ℕ) (node : Node) (pairs : List Pair) (under : List ℕ) → IsOver m d node pairs under → entry_of (entries node) h ≡ child_entry (child_of (part_at h pairs under))
part_entry m d h node pairs under o = ap (λ (k : List ℕ). entry_at k h) (last_key_is m d node pairs under o) where
  entry_at : List ℕ → ℕ → Entry
  entry_at k h = record { key = k; tail = to_be_bytes w64 h }

-- stored as it is
pub stored_one : (told now : Option Contents) (m : Contents) (d h : ℕ) (bytes : List ℕ) (pairs : List Pair) (under : List ℕ) (many : ℕ) (out : List ℕ) → (s : CanStore told m d h bytes pairs under) → count s.node ≤ 32 → now ≡ Some (with_content h bytes m) → many ≡ 1 → out ≡ entry_bytes (entry_of (entries s.node) h) → IsStored now m d 0 (h ∷ under) pairs many out
stored_one told now m d h bytes pairs under many out s few is one entry =
    let apart : times h under ≡ 0 = apart_once h under (s.once h) in
    record {
      new = with_content h (spelling s.node) m;
      told = is ∙ ap (λ (b : List ℕ). Some (with_content h b m)) s.spelled;
      children = child_of (part_at h pairs under) ∷ [];
      becomes = record {
        parts = part_at h pairs under ∷ [];
        each = (node_put m d 16 h s.node pairs under s.over apart s.low s.enough few, tt);
        named = refl;
        all = sym (append-nil pairs);
        edits = rw (append-nil (h ∷ under)) (edit_put m h (spelling s.node) (h ∷ under) (times_here h under) s.once);
        grows = omega (arith, ap length (append-nil (h ∷ under)));
      };
      counted = one;
      spelled = entry ∙ ap entry_bytes (part_entry m d h s.node pairs under s.over) ∙ sym (append-nil (entry_bytes (child_entry (child_of (part_at h pairs under)))));
    }

-- after a write at the handle all of it is still live
pub put_live : (m : Contents) (h : ℕ) (c : List ℕ) (us : List ℕ) → Live m us → Live (with_content h c m) (h ∷ us)
put_live m h c us live n some none = ⊎_elim
    (λ same. let clash : Some c ≡ None = sym (put_same h c m) ∙ ap (λ (k : ℕ). content_of k (with_content h c m)) (sym same) ∙ none in absurd (cc))
    (λ ne. live n (omega (arith, some, times_there n h us ne)) (sym (put_apart n h c m ne) ∙ none))
    (cases_eq n h)

pub dead_apart : (m : Contents) (h : ℕ) (us : List ℕ) → Live m us → content_of h m ≡ None → (k : ℕ) → times h us ≡ k → times h us ≡ 0
dead_apart m h us live dead zero e = e
dead_apart m h us live dead (suc k) e = absurd (live h (omega (arith, e)) dead)

-- stored as two, the second at a new handle
pub stored_two : (told now : Option Contents) (m : Contents) (d half h more : ℕ) (bytes front back : List ℕ) (pairs : List Pair) (under : List ℕ) (many : ℕ) (out : List ℕ) → (s : CanStore told m d h bytes pairs under) → (c : Cut m d half s.node pairs under) → 16 ≤ half → half ≤ 32 → 16 ≤ count s.node - half → count s.node - half ≤ 32 → front ≡ spelling c.left → back ≡ spelling c.right → more < 2 ^ 64 → content_of more (with_content h front m) ≡ None → now ≡ Some (with_content more back (with_content h front m)) → many ≡ 2 → out ≡ body (entry_of (entries c.left) h ∷ entry_of (entries c.right) more ∷ []) → IsStored now m d 1 (h ∷ under) pairs many out
stored_two told now m d half h more bytes front back pairs under many out s c low high low_right high_right front_is back_is range fresh is_put count_is entry =
    let dead : content_of more (with_content h (spelling c.left) m) ≡ None = ap (λ (b : List ℕ). content_of more (with_content h b m)) (sym front_is) ∙ fresh in
    let is : now ≡ Some (with_content more (spelling c.right) (with_content h (spelling c.left) m)) = is_put ∙ ap (λ (b : List ℕ). Some (with_content more back (with_content h b m))) front_is ∙ ap (λ (b : List ℕ). Some (with_content more b (with_content h (spelling c.left) m))) back_is in
    let sum : (n : ℕ) → times n under ≡ times n c.us + times n c.ts = λ n. ap (times n) c.under_is ∙ times_append n c.us c.ts in
    let apart : times h under ≡ 0 = apart_once h under (s.once h) in
    let apart_us : times h c.us ≡ 0 = omega (arith, apart, sum h) in
    let apart_ts : times h c.ts ≡ 0 = omega (arith, apart, sum h) in
    let live : Live (with_content h (spelling c.left) m) (h ∷ under) = put_live m h (spelling c.left) under (over_live m d s.node pairs under s.over) in
    let new : times more (h ∷ under) ≡ 0 = dead_apart (with_content h (spelling c.left) m) more (h ∷ under) live dead (times more (h ∷ under)) refl in
    let new_us : times more (h ∷ c.us) ≡ 0 = omega (arith, new, sum more) in
    let new_ts : times more c.ts ≡ 0 = omega (arith, new, sum more) in
    let left = node_put m d 16 h c.left c.ps c.us c.over_left apart_us s.low (omega (arith, c.left_count, low)) (omega (arith, c.left_count, high)) in
    let right_over : IsOver (with_content h (spelling c.left) m) d c.right c.qs c.ts = over_moved m (with_content h (spelling c.left) m) d c.right c.qs c.ts c.over_right (put_agrees m h (spelling c.left) c.ts apart_ts) in
    let edit = edit_put m h (spelling c.left) (h ∷ under) (times_here h under) s.once in
    let made = edit_create (with_content h (spelling c.left) m) more (spelling c.right) dead in
    record {
      new = with_content more (spelling c.right) (with_content h (spelling c.left) m);
      told = is;
      children = child_of (part_at h c.ps c.us) ∷ child_of (part_at more c.qs c.ts) ∷ [];
      becomes = record {
        parts = part_at h c.ps c.us ∷ part_at more c.qs c.ts ∷ [];
        each = (
          node_moved (with_content h (spelling c.left) m) (with_content more (spelling c.right) (with_content h (spelling c.left) m)) d 16 (over_moved (with_content h (spelling c.left) m) (with_content more (spelling c.right) (with_content h (spelling c.left) m)) d) (part_at h c.ps c.us) left (put_agrees (with_content h (spelling c.left) m) more (spelling c.right) (h ∷ c.us) new_us),
          (node_put (with_content h (spelling c.left) m) d 16 more c.right c.qs c.ts right_over new_ts range (omega (arith, c.right_count, low_right)) (omega (arith, c.right_count, high_right)), tt),
        );
        named = refl;
        all = c.pairs_are ∙ ap (λ (x : List Pair). c.ps ++ x) (sym (append-nil c.qs));
        edits = edits_then m (with_content h (spelling c.left) m) (with_content more (spelling c.right) (with_content h (spelling c.left) m)) (h ∷ under) (h ∷ under) ((h ∷ c.us) ++ ((more ∷ c.ts) ++ [])) edit
            (edits_in (with_content h (spelling c.left) m) (with_content more (spelling c.right) (with_content h (spelling c.left) m)) [] (more ∷ []) (h ∷ under) (h ∷ under) ((h ∷ c.us) ++ ((more ∷ c.ts) ++ [])) made live
            (λ n. omega arith)
            (λ n. omega (arith, sum n, times_append n c.us ((more ∷ c.ts) ++ []), times_append n c.ts []))
            s.once);
        grows = omega (arith, ap length c.under_is, length-append c.us c.ts, length-append c.us ((more ∷ c.ts) ++ []), length-append c.ts []);
      };
      counted = count_is;
      spelled = entry ∙ ap (λ (e : Entry). body (e ∷ entry_of (entries c.right) more ∷ [])) (part_entry m d h c.left c.ps c.us c.over_left) ∙ ap (λ (e : Entry). body (child_entry (child_of (part_at h c.ps c.us)) ∷ e ∷ [])) (part_entry m d more c.right c.qs c.ts c.over_right);
    }
