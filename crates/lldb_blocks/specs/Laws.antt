-- What holds of rows that lie in contents: the two ways between contents and rows, the edits, and their heaps.
use Rattle.std.specs.Prelude.{◌≡◌, ℕ, ◌+◌, ◌-◌, ◌*◌, ◌^◌, ◌<◌, ◌≤◌, true, false, List, [], ◌∷◌, ◌++◌, length, get_or, take, drop, Some, None}
use Rattle.lldb_base.specs.Batch.{put}
use Rattle.lldb_base.specs.Contents.{Contents, content_of, with_content, without, atoms_for}
use Rattle.lldb_atoms.specs.Numbers.{as_bytes}
use Rattle.lldb_atoms.specs.Heads.{head_of, head_at}
use Rattle.lldb_atoms.specs.Blocks.{Extent, Used, Moved, Free, Hole, size, is_free, used_head, free_head, free_ending, head_for, Tile, tile_for, tile_at, IsBlock}
use Rattle.lldb_atoms.specs.Rows.{atoms_in, extent_at, used_content, contains, targets, are_distinct, are_spaced, ends_free, heap}
use Rattle.lldb_atoms.specs.Lists.{class_of, list_head, row_of}
use Rattle.lldb_atoms.specs.Sound.{sound_tiling, is_sound, heap_in}
use Rattle.lldb_atoms.specs.declared.block.Block.TheVariants as block
use Rattle.lldb_blocks.specs.Laid.{Solid, Spells, Lays, AtRest, Named}
use Rattle.lldb_blocks.specs.Maps.{Rising}
use Rattle.lldb_blocks.specs.Steps.{links_from, SetsHead, SetsPrevious, SetsNext, SetsFree, HasAtoms, HasLinks, Forward, Backward, TakesBehind, TakesBefore, GivesUp, Settled, largest, ending_for}
use Rattle.lldb_atoms.specs.Laws.{is_block}

-- a sound content is a row at rest that lies in it, and the other way round
pub record BridgeLaws : Type 0 where
  pub lays : (c : List ℕ) (tiles : List Tile) → sound_tiling c ≡ Some tiles → Lays c (row_of tiles) × AtRest (row_of tiles)
  pub sound : (c : List ℕ) (row : List Extent) → Lays c row → AtRest row → is_sound c ≡ true
  pub heap_is : (c : List ℕ) (row : List Extent) → Lays c row → AtRest row → heap_in c ≡ Some (heap row)

-- single writes
pub record WriteLaws : Type 0 where
  pub head : (class v : ℕ) (c : List ℕ) → class < 16 → v < 2 ^ 64 → SetsHead class v c (put (8 * class) (as_bytes 8 v) c)
  pub previous : (at s v : ℕ) (c : List ℕ) → v < 2 ^ 56 → HasAtoms at s c → SetsPrevious at v c (put (16 * at + links_from s) (as_bytes 7 v) c)
  pub next : (at s v : ℕ) (c : List ℕ) → v < 2 ^ 56 → HasAtoms at s c → SetsNext at v c (put (16 * at + (links_from s + 7)) (as_bytes 7 v) c)
  pub free : (at s before behind : ℕ) (c : List ℕ) → 1 ≤ s → s < 2 ^ 56 → before < 2 ^ 56 → behind < 2 ^ 56 → SetsFree at s before behind c (put (16 * at + (16 * s - length (free_ending s))) (free_ending s) (put (16 * at + 0) (head_of (free_head s before behind)) c))
  pub used : (p n : ℕ) (u any : List ℕ) → length u ≤ 65787 → length (head_of (used_head (length u))) + length u + length any + 1 ≡ 16 * size (Used u) → IsBlock p n (Used u) (head_of (used_head (length u)) ++ u ++ any ++ 0 ∷ [])
  pub moved : (p n t : ℕ) → t < 2 ^ 56 → IsBlock p n (Moved t) (head_of (block.Relocated t))
  pub head_is : (h p n : ℕ → ℕ) (c : List ℕ) (row : List Extent) (class : ℕ) → class < 16 → Spells h p n c row → list_head c class ≡ h class

-- edits of the row that lies in a content
pub record EditLaws : Type 0 where
  pub unlinked : (x : List Extent) (s : ℕ) (y : List Extent) (at before behind : ℕ) (c d e : List ℕ) → at ≡ 8 + atoms_in x → HasLinks at before behind c → Forward (class_of s) before behind c d → Backward before behind d e → Lays c (x ++ Free s ∷ y) → Lays e (x ++ Hole s ∷ y)
  pub linked : (x : List Extent) (s : ℕ) (y : List Extent) (at old : ℕ) (b c d e : List ℕ) → at ≡ 8 + atoms_in x → old ≡ list_head b (class_of s) → Backward at old b c → SetsFree at s 0 old c d → SetsHead (class_of s) at d e → Lays b (x ++ Hole s ∷ y) → Lays e (x ++ Free s ∷ y)
  pub emptied : (c : List ℕ) (x : List Extent) (e : Extent) (y : List Extent) → is_free e ≡ false → Lays c (x ++ e ∷ y) → Lays c (x ++ Hole (size e) ∷ y)
  pub joined : (c : List ℕ) (x : List Extent) (s t : ℕ) (y : List Extent) → Lays c (x ++ Hole s ∷ Hole t ∷ y) → Lays c (x ++ Hole (s + t) ∷ y)
  pub parted : (c : List ℕ) (x : List Extent) (s t : ℕ) (y : List Extent) → 1 ≤ s → 1 ≤ t → Lays c (x ++ Hole (s + t) ∷ y) → Lays c (x ++ Hole s ∷ Hole t ∷ y)
  pub filled : (c : List ℕ) (x : List Extent) (e : Extent) (y : List Extent) (at : ℕ) (piece : List ℕ) → at ≡ 8 + atoms_in x → is_free e ≡ false → IsBlock 0 0 e piece → Lays c (x ++ Hole (size e) ∷ y) → Lays (put (16 * at) piece c) (x ++ e ∷ y)
  pub cut : (c : List ℕ) (x : List Extent) (s : ℕ) → Lays c (x ++ Hole s ∷ []) → Lays (take (16 * (8 + atoms_in x)) c) x
  pub grown : (c : List ℕ) (x : List Extent) (e : Extent) (piece : List ℕ) → is_free e ≡ false → 1 ≤ size e → IsBlock 0 0 e piece → Lays c x → Lays (put (length c) piece c) (x ++ e ∷ [])
  pub length_is : (c : List ℕ) (row : List Extent) → Lays c row → length c ≡ 16 * (8 + atoms_in row)
  pub released : (at s from one two : ℕ) (c c1 c2 d : List ℕ) (x y : List Extent) → TakesBehind at s one c c1 → TakesBefore at one from two c1 c2 → GivesUp from two c2 d → at ≡ 8 + atoms_in x → Lays c (x ++ Hole s ∷ y) → are_spaced false x ≡ true → are_spaced false y ≡ true → ends_free false y ≡ false → Named (x ++ Hole s ∷ y) → Settled d (x ++ Hole s ∷ y)

-- what a row's heap is once a content is written, moved or taken away
pub record HeapLaws : Type 0 where
  pub made_whole : (x : List Extent) (u : List ℕ) (y : List Extent) → Solid (x ++ Free (atoms_for (length u)) ∷ y) → AtRest (x ++ Free (atoms_for (length u)) ∷ y) → AtRest (x ++ Used u ∷ y) × (heap (x ++ Used u ∷ y) ≡ with_content (8 + atoms_in x) u (heap (x ++ Free (atoms_for (length u)) ∷ y)))
  pub made_part : (x : List Extent) (u : List ℕ) (r : ℕ) (y : List Extent) → 1 ≤ r → Solid (x ++ Free (atoms_for (length u) + r) ∷ y) → AtRest (x ++ Free (atoms_for (length u) + r) ∷ y) → AtRest (x ++ Used u ∷ Free r ∷ y) × (heap (x ++ Used u ∷ Free r ∷ y) ≡ with_content (8 + atoms_in x) u (heap (x ++ Free (atoms_for (length u) + r) ∷ y)))
  pub made_last : (x : List Extent) (u : List ℕ) → Solid x → AtRest x → AtRest (x ++ Used u ∷ []) × (heap (x ++ Used u ∷ []) ≡ with_content (8 + atoms_in x) u (heap x))
  pub first : (row : List Extent) → Solid row → AtRest row → heap row ≡ [] → row ≡ []
  pub emptied : (x y : List Extent) (c : List ℕ) (at : ℕ) → Solid (x ++ Used c ∷ y) → at ≡ 8 + atoms_in x → contains (targets (x ++ Hole (atoms_for (length c)) ∷ y)) at ≡ false → heap (x ++ Hole (atoms_for (length c)) ∷ y) ≡ without at (heap (x ++ Used c ∷ y))
  pub replaced : (x : List Extent) (c d : List ℕ) (r : ℕ) (y : List Extent) → Solid (x ++ Used c ∷ y) → 1 ≤ r → atoms_for (length c) ≡ atoms_for (length d) + r → contains (targets (x ++ Used c ∷ y)) (8 + atoms_in x) ≡ false → heap (x ++ Used d ∷ Hole r ∷ y) ≡ with_content (8 + atoms_in x) d (heap (x ++ Used c ∷ y))
  pub target_replaced : (x : List Extent) (c d : List ℕ) (r : ℕ) (y : List Extent) → Solid (x ++ Used c ∷ y) → 1 ≤ r → atoms_for (length c) ≡ atoms_for (length d) + r → (home : ℕ) → 8 ≤ home → extent_at 8 (x ++ Used c ∷ y) home ≡ Some (Moved (8 + atoms_in x)) → are_distinct (targets (x ++ Used c ∷ y)) ≡ true → heap (x ++ Used d ∷ Hole r ∷ y) ≡ with_content home d (heap (x ++ Used c ∷ y))
  pub pointed : (x y : List Extent) (t : ℕ) (u : List ℕ) (at : ℕ) → Solid (x ++ Moved t ∷ y) → at ≡ 8 + atoms_in x → extent_at 8 (x ++ Hole 1 ∷ y) t ≡ Some (Used u) → contains (targets (x ++ Hole 1 ∷ y)) t ≡ false → heap (x ++ Moved t ∷ y) ≡ with_content at u (without t (heap (x ++ Hole 1 ∷ y)))
  pub unpointed : (x y : List Extent) (t : ℕ) (u : List ℕ) (at : ℕ) → Solid (x ++ Moved t ∷ y) → at ≡ 8 + atoms_in x → extent_at 8 (x ++ Hole 1 ∷ y) t ≡ Some (Used u) → contains (targets (x ++ Hole 1 ∷ y)) t ≡ false → 8 ≤ t → heap (x ++ Hole 1 ∷ y) ≡ with_content t u (without at (heap (x ++ Moved t ∷ y)))
  pub largest_below : (row : List Extent) (f n : ℕ) → 1 ≤ n → Solid row → ((q s : ℕ) → extent_at f row q ≡ Some (Free s) → s < n) → largest row < n

-- what is read where a row lies
pub record ReadLaws : Type 0 where
  pub tile : (h p n : ℕ → ℕ) (c : List ℕ) (x : List Extent) (e : Extent) (y : List Extent) (at : ℕ) → at ≡ 8 + atoms_in x → is_block e ≡ true → Spells h p n c (x ++ e ∷ y) → tile_at (drop (16 * at) c) ≡ Some (tile_for (p at) (n at) e)
  pub head : (h p n : ℕ → ℕ) (c : List ℕ) (x : List Extent) (e : Extent) (y : List Extent) (at left : ℕ) (bytes : List ℕ) → at ≡ 8 + atoms_in x → is_block e ≡ true → size e ≤ left → take (length (head_of (head_for (p at) (n at) e))) bytes ≡ take (length (head_of (head_for (p at) (n at) e))) (drop (16 * at) c) → Spells h p n c (x ++ e ∷ y) → head_at left bytes ≡ Some (head_for (p at) (n at) e)
  pub before : (h p n : ℕ → ℕ) (c : List ℕ) (x : List Extent) (e : Extent) (y : List Extent) (at : ℕ) → at ≡ 8 + atoms_in (x ++ e ∷ []) → Spells h p n c ((x ++ e ∷ []) ++ y) → (front : List ℕ) × (here : List ℕ) × (take (16 * at) c ≡ front ++ here) × IsBlock (p (8 + atoms_in x)) (n (8 + atoms_in x)) e here
  pub ends : (p n : ℕ) (e : Extent) (here : List ℕ) → is_block e ≡ true → IsBlock p n e here → (front : List ℕ) × (here ≡ front ++ ending_for e)
  pub one : (s p n before behind : ℕ) → head_for p n (Free s) ≡ block.FreeOne before behind → (s ≡ 1) × (p ≡ before) × (n ≡ behind)
  pub more : (s p n atoms before behind : ℕ) → head_for p n (Free s) ≡ block.Free atoms before behind → (s ≡ atoms) × (p ≡ before) × (n ≡ behind)
  pub new : (t : List ℕ) → length t ≡ 128 → ((i : ℕ) → get_or t i 0 ≡ 0) → Lays t []
  pub nowhere : (c : List ℕ) (row : List Extent) (n : ℕ) → 1 ≤ n → Lays c row → ((q s : ℕ) → extent_at 8 row q ≡ Some (Free s) → class_of s ≡ class_of n → s < n) → ((k : ℕ) → class_of n < k → k < 16 → list_head c k ≡ 0) → largest row < n

-- what stays of a row at rest while a call has a block in hand, and what makes it one again
pub record RestLaws : Type 0 where
  pub parts : (x : List Extent) (e : Extent) (y : List Extent) → is_free e ≡ false → AtRest (x ++ e ∷ y) → (are_spaced false x ≡ true) × (are_spaced false y ≡ true) × (ends_free false y ≡ false)
  pub used : (x : List Extent) (u : List ℕ) (y : List Extent) → are_spaced false x ≡ true → are_spaced false y ≡ true → ends_free false y ≡ false → Named (x ++ Used u ∷ y) → AtRest (x ++ Used u ∷ y)
  pub moved : (x : List Extent) (t : ℕ) (y : List Extent) → are_spaced false x ≡ true → are_spaced false y ≡ true → ends_free false y ≡ false → Named (x ++ Moved t ∷ y) → AtRest (x ++ Moved t ∷ y)
  pub emptied : (x : List Extent) (c : List ℕ) (y : List Extent) → contains (targets (x ++ Used c ∷ y)) (8 + atoms_in x) ≡ false → Named (x ++ Used c ∷ y) → Named (x ++ Hole (atoms_for (length c)) ∷ y)
  pub replaced : (x : List Extent) (c d : List ℕ) (r : ℕ) (y : List Extent) → Solid (x ++ Used c ∷ y) → 1 ≤ r → atoms_for (length c) ≡ atoms_for (length d) + r → Named (x ++ Used c ∷ y) → Named (x ++ Used d ∷ Hole r ∷ y)
  pub pointed : (x : List Extent) (t : ℕ) (u : List ℕ) (y : List Extent) → Solid x → extent_at 8 (x ++ Hole 1 ∷ y) t ≡ Some (Used u) → contains (targets (x ++ Hole 1 ∷ y)) t ≡ false → Named (x ++ Hole 1 ∷ y) → Named (x ++ Moved t ∷ y)
  pub unpointed : (x : List Extent) (t : ℕ) (y : List Extent) → Solid x → Named (x ++ Moved t ∷ y) → Named (x ++ Hole 1 ∷ y) × (contains (targets (x ++ Hole 1 ∷ y)) t ≡ false)
  pub not_named : (row : List Extent) (t : ℕ) → Named row → used_content (extent_at 8 row t) ≡ None → contains (targets row) t ≡ false

-- contents by handle in the middle of a call, when a content stands under two handles or under that of its target
pub record MapLaws : Type 0 where
  pub rises : (row : List Extent) → Solid row → Rising 8 (heap row)
  pub moved : (m : Contents) (p t : ℕ) (u : List ℕ) → Rising 8 m → 8 ≤ p → 8 ≤ t → (t ≡ p → ⊥) → content_of t m ≡ None → with_content p u (without t (without p (with_content t u m))) ≡ with_content p u m
  pub repointed : (m : Contents) (p old t : ℕ) (v u : List ℕ) → Rising 8 m → 8 ≤ p → 8 ≤ t → 8 ≤ old → (t ≡ p → ⊥) → (old ≡ p → ⊥) → (old ≡ t → ⊥) → content_of t m ≡ None → content_of old m ≡ None → without old (with_content p u (without t (with_content old v (without p (with_content t u m))))) ≡ with_content p u m
  pub removed : (m : Contents) (p t : ℕ) (u : List ℕ) → Rising 8 m → 8 ≤ t → (t ≡ p → ⊥) → content_of t m ≡ None → without t (with_content t u (without p m)) ≡ without p m
