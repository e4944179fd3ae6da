-- What an allocator means, of what its filer means.
use Rattle.std.specs.Prelude.{◌≡◌, ℕ, Bool, not, true, false, IsTrue, List, [], ◌∷◌, length, map, Option, Some, None, IfSome, Err, refl}
use Rattle.std.proofs.Common.{sym, subst, ◌∙◌, ap, inl, inr}
use Rattle.std.proofs.lemmas.List.{length-map}
use Rattle.ql_edge.specs.Stops.{Leaves, IsSameBut}
use Rattle.ql_edge.specs.Told.{Told}
use Rattle.lldb_base.specs.Contents.{Contents, AreContents}
use Rattle.lldb_base.specs.Filers.{IsSameHeld}
use Rattle.lldb_base.specs.Heaps.{IsSameHeap}
use Rattle.lldb_base.specs.declared.trouble.Trouble.{Trouble}
use Rattle.lldb_base.specs.Trouble.{IsCausedTrouble, Refuses}
use Rattle.lldb_base.specs.Stops.{LeavesOnly, IsEnded, Seen, kept_of, but_held, seen_same}
use Rattle.lldb_atoms.specs.Sound.{heap_in}
use Rattle.lldb_alloc.specs.Room.{most_free_told}
use Rattle.lldb_alloc.specs.Told.{heap_told}

-- the contents by handle, where the filer is sound and tells its content
abbrev pub meant : Bool → Option (List ℕ) → Option Contents
meant true told = heap_told told
meant false told = None

-- a call that only reads was refused
abbrev pub IsRefusal : Type 0 → ℕ → ℕ → Trouble → Type 0
IsRefusal damaged before now fault = Refuses {T = Unit {0}} (λ _ _. ⊥) damaged (Err fault) × IsCausedTrouble {T = Unit {0}} (Err fault) before now

kept_meant : (s : Bool) (held : Option (List ℕ)) (saved : List (Option (List ℕ))) → kept_of (meant s held) (map (meant s) saved) ≡ meant s (kept_of held saved)
kept_meant s held [] = refl
kept_meant s held (x ∷ saved) = kept_meant s x saved

-- what a stop leaves, in two states that are the same beside what is shown and warned
pub meant_same : (s t : Bool) → t ≡ s → (a b : Option (List ℕ)) (sa sb : List (Option (List ℕ))) {la lb : Option (List ℕ) → Type 0} {before now : ℕ} {past since : ℕ → ℕ → Option (List ℕ) → Type 0} {ta tb : Told} → IsSameBut (kept_of a sa) (kept_of b sb) la lb before now past since ta tb
    → IsSameBut (kept_of (meant s a) (map (meant s) sa)) (kept_of (meant t b) (map (meant t) sb)) (Seen heap_told la) (Seen heap_told lb) before now (λ u n. Seen heap_told (past u n)) (λ u n. Seen heap_told (since u n)) ta tb
meant_same s t is a b sa sb same =
    but_held (kept_meant t b sb ∙ ap (λ (r : Bool). meant r (kept_of b sb)) is ∙ ap (meant s) same.held ∙ sym (kept_meant s a sa)) (seen_same heap_told (meant s) same)

pub meant_only : (s : Bool) (held : Option (List ℕ)) (saved : List (Option (List ℕ))) (left : Option (List ℕ) → Type 0) → LeavesOnly (kept_of held saved) left → LeavesOnly (kept_of (meant s held) (map (meant s) saved)) (Seen heap_told left)
meant_only s held saved left only = subst (λ (o : Option Contents). LeavesOnly o (Seen heap_told left)) (sym (kept_meant s held saved)) (by_sound s (kept_of held saved) only)
  where
    by_heap : (c : List ℕ) (o : Option Contents) → heap_in c ≡ o → left (Some c) × Leaves left (λ b. b ≡ Some c) → LeavesOnly o (Seen heap_told left)
    by_heap c None is only = tt
    by_heap c (Some m) is only = ((Some c, only.0, sym is), λ b there. there.2 ∙ ap heap_told (only.1 there.0 there.1) ∙ is)

    by_told : (k : Option (List ℕ)) → LeavesOnly k left → LeavesOnly (heap_told k) (Seen heap_told left)
    by_told None only = tt
    by_told (Some c) only = by_heap c (heap_in c) refl only

    by_sound : (s : Bool) (k : Option (List ℕ)) → LeavesOnly k left → LeavesOnly (meant s k) (Seen heap_told left)
    by_sound true k only = by_told k only
    by_sound false k only = tt

-- what the end of a level leaves
pub meant_ended : (held below : Option (List ℕ)) (saved : List (Option (List ℕ))) → IsEnded (kept_of held saved) held below → IsEnded (kept_of (meant true held) (map (meant true) saved)) (meant true held) (heap_told below)
meant_ended held below saved ended = subst (λ (o : Option Contents). IsEnded o (heap_told held) (heap_told below)) (sym (kept_meant true held saved)) (by_told (kept_of held saved) ended)
  where
    by_heap : (c : List ℕ) (o : Option Contents) → heap_in c ≡ o → IsEnded (Some c) held below → IsEnded o (heap_told held) (heap_told below)
    by_heap c None is ended = tt
    by_heap c (Some m) is ended = elim ended [
      | inl kept ↦ inl (ap heap_told kept ∙ is)
      | inr new ↦ inr (ap heap_told new)
    ]

    by_told : (k : Option (List ℕ)) → IsEnded k held below → IsEnded (heap_told k) (heap_told held) (heap_told below)
    by_told None ended = tt
    by_told (Some c) ended = by_heap c (heap_in c) refl ended

-- two states that differ only in what is shown and warned
pub same_meant : {held_old held_new : Option (List ℕ)} {saved_old saved_new : List (Option (List ℕ))} {size_old size_new : ℕ} {sizes_old sizes_new : List ℕ} {limit_old limit_new : ℕ} {sound_old sound_new ready_old ready_new : Bool} {reads_old reads_new : ℕ} → ready_new ≡ ready_old → reads_new ≡ reads_old → IsSameHeld held_old held_new saved_old saved_new size_old size_new sizes_old sizes_new limit_old limit_new sound_old sound_new
    → IsSameHeap (meant sound_old held_old) (meant sound_new held_new) (map (meant sound_old) saved_old) (map (meant sound_new) saved_new) size_old size_new sizes_old sizes_new (Some limit_old) (Some limit_new) (most_free_told held_old) (most_free_told held_new) ready_old ready_new sound_old sound_new reads_old reads_new
same_meant ready reads same = rw (ready, reads, same.held, same.saved, same.size, same.sizes, same.limit, same.sound) (record { map = refl; saved = refl; size = refl; sizes = refl; limit = refl; free = refl; ready = refl; sound = refl; reads = refl })

pub sizes_meant : (s : Bool) (sizes : List ℕ) (saved : List (Option (List ℕ))) → length sizes ≡ length saved → length sizes ≡ length (map (meant s) saved)
sizes_meant s sizes saved same = same ∙ sym (length-map saved (meant s))

-- an allocator that is not refused is sound
pub ready_sound : (refused sound : Bool) → (refused ≡ false → sound ≡ true) → IsTrue (not refused) → IsTrue sound
ready_sound true sound means ready = absurd (cc)
ready_sound false sound means ready = means refl

pub contents_ready : (refused : Bool) (held : Option Contents) → (refused ≡ false → IfSome held AreContents) → IsTrue (not refused) → IfSome held AreContents
contents_ready true held are ready = absurd (cc)
contents_ready false held are ready = are refl
