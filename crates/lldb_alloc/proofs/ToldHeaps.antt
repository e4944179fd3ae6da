-- The heap in a content that is told, by the rows that lie in it.
use Rattle.std.proofs.Common.{◌≡◌, ℕ, true, List, [], ◌∷◌, Option, Some, None, is_some, option_map, IfSome, Result, Ok, Err, OnOk, refl, sym, ◌∙◌, ap, subst}
use Rattle.std.specs.Prelude.{⊤}
use Rattle.lldb_base.specs.declared.trouble.Trouble.{Trouble}
use Rattle.lldb_base.specs.declared.trouble.Trouble.TheVariants as trouble
use Rattle.lldb_base.specs.Trouble.{Refuses}
use Rattle.lldb_base.specs.Contents.{Contents, content_of}
use Rattle.lldb_base.specs.Heaps.{MayBeDead}
use Rattle.lldb_atoms.specs.Blocks.{Extent, Tile}
use Rattle.lldb_atoms.specs.Rows.{heap}
use Rattle.lldb_atoms.specs.Lists.{row_of}
use Rattle.lldb_atoms.specs.Sound.{sound_tiling, is_sound, heap_in}
use Rattle.lldb_blocks.specs.Laid.{Lays, AtRest}
use Rattle.lldb_blocks.proofs.Bridges.{laid_out}
use Rattle.lldb_alloc.specs.Reads.{HasContent}
use Rattle.lldb_alloc.specs.Told.{heap_told, Rested}

some_tiles : (o : Option (List Tile)) (m : Contents) → option_map (λ (tiles : List Tile). heap (row_of tiles)) o ≡ Some m → is_some o ≡ true
some_tiles None m is = absurd (cc)
some_tiles (Some tiles) m is = refl

sound_from : (b : ℕ) (c : List ℕ) (m : Contents) → heap_in (b ∷ c) ≡ Some m → is_sound (b ∷ c) ≡ true
unfolding heap_in
sound_from b c m is = some_tiles (sound_tiling (b ∷ c)) m is

pub rested : (b : ℕ) (c : List ℕ) (m : Contents) → heap_in (b ∷ c) ≡ Some m → Rested (b ∷ c) m
rested b c m is =
    let l = laid_out b c (sound_from b c m is) in
    let same : Some (heap l.row) ≡ Some m = sym l.heap_is ∙ is in
    record { row = l.row; lays = l.lays; rest = l.rest; heap_is = cc }

pub no_contents : heap_in [] ≡ Some []
unfolding heap_in
no_contents = refl

-- what is said of each live handle of a row at rest, of the heap that is told
each_handle : (P : Option (List ℕ) → Type 0) (handle : ℕ) (told : Option (List ℕ)) → P None → IfSome told (λ c. (row : List Extent) (u : List ℕ) → Lays c row → AtRest row → content_of handle (heap row) ≡ Some u → P (Some u)) → IfSome (heap_told told) (λ map. P (content_of handle map))
each_handle P handle None dead live = tt
each_handle P handle (Some []) dead live = subst (λ (o : Option Contents). IfSome o (λ map. P (content_of handle map))) (sym no_contents) dead
each_handle P handle (Some (b ∷ c)) dead live = by_heap (heap_in (b ∷ c)) refl
  where
    by_content : (m : Contents) (o : Option (List ℕ)) → heap_in (b ∷ c) ≡ Some m → content_of handle m ≡ o → P o
    by_content m None is here = dead
    by_content m (Some u) is here =
        let r = rested b c m is in
        live r.row u r.lays r.rest (ap (content_of handle) r.heap_is ∙ here)

    by_heap : (o : Option Contents) → heap_in (b ∷ c) ≡ o → IfSome o (λ map. P (content_of handle map))
    by_heap None is = tt
    by_heap (Some m) is = by_content m (content_of handle m) is refl

-- what was read of a heap
pub content_read : (told : Option (List ℕ)) (result : Result (Unit {0}) Trouble) (out : List ℕ) (handle : ℕ) → IfSome told (HasContent handle result out) → OnOk result (IfSome (heap_told told) (λ map. IfSome (content_of handle map) (λ content. out ≡ content)))
content_read told (Ok u) out handle has = each_handle (λ (o : Option (List ℕ)). IfSome o (λ content. out ≡ content)) handle told tt has
content_read told (Err t) out handle has = tt

-- a live handle is no damage
pub content_damaged : (told : Option (List ℕ)) (result : Result (Unit {0}) Trouble) (out : List ℕ) (handle : ℕ) → Refuses (λ _ _. ⊥) ⊤ result → IfSome told (HasContent handle result out) → Refuses (λ _ _. ⊥) (MayBeDead handle (heap_told told)) result
content_damaged told (Ok u) out handle refuses has = tt
content_damaged told (Err trouble.Failed) out handle refuses has = tt
content_damaged told (Err trouble.NoMemory) out handle refuses has = tt
content_damaged told (Err (trouble.Full a b)) out handle refuses has = refuses
content_damaged told (Err trouble.Damaged) out handle refuses has = each_handle (λ (o : Option (List ℕ)). o ≡ None) handle told refl (impossible told has)
  where
    impossible : (told : Option (List ℕ)) → IfSome told (HasContent handle (Err trouble.Damaged) out) → IfSome told (λ c. (row : List Extent) (u : List ℕ) → Lays c row → AtRest row → content_of handle (heap row) ≡ Some u → Some u ≡ None)
    impossible None has = tt
    impossible (Some c) has = λ row u lays rest is. absurd (has row u lays rest is)
