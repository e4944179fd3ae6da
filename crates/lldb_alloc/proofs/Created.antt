-- A content is added to a heap that is told.
use Rattle.std.proofs.Common.{◌≡◌, ℕ, ◌*◌, ◌/◌, ◌<◌, ◌≤◌, List, [], ◌∷◌, length, Option, Some, None, IfSome, Result, Ok, Err, IfOk, refl, sym, ◌∙◌, ap, subst, inl, inr, arith, get_or, option_map}
use Rattle.std.proofs.lemmas.Bool.{cases_lt}
use Rattle.std.proofs.lemmas.List.{get_or-replicate, get_or_past, length-replicate}
use Rattle.std.specs.Prelude.{replicate}
use Rattle.std.specs.Option.{IsSomeAnd}
use Rattle.lldb_base.specs.declared.trouble.Trouble.{Trouble}
use Rattle.lldb_base.specs.Batch.{put}
use Rattle.lldb_base.specs.Contents.{Contents}
use Rattle.lldb_atoms.specs.Blocks.{Extent, Free, Tile}
use Rattle.lldb_atoms.specs.Rows.{heap}
use Rattle.lldb_atoms.specs.Lists.{row_of}
use Rattle.lldb_atoms.specs.Sound.{sound_tiling, heap_in, tiling}
use Rattle.lldb_blocks.specs.Laid.{Lays, AtRest}
use Rattle.lldb_blocks.proofs.Looks.{found}
use Rattle.lldb_blocks.proofs.Lays.{lays_length}
use Rattle.lldb_blocks.proofs.Bridges.{lays_heap, sound_lays}
use Rattle.lldb_blocks.proofs.Places.{put_end}
use Rattle.lldb_blocks.proofs.Readings.{lays_new, rest_new}
use Rattle.lldb_alloc.specs.Changes.{Turns, LacksRow, LacksPart, WritesUsed, NewTable}
use Rattle.lldb_alloc.specs.Room.{FindsRoom, most_in, most_free_told}
use Rattle.lldb_alloc.specs.Told.{heap_told, Creates}
use Rattle.lldb_alloc.specs.Places.{Placed, Places}
use Rattle.lldb_alloc.proofs.ToldHeaps.{rested, no_contents}
use Rattle.lldb_alloc.proofs.Placed.{grown}

-- what is said of a heap that is told, by the row at rest that lies in its content
pub by_row : (P : Option Contents → Type 0) (b : ℕ) (c : List ℕ) → P None → ((row : List Extent) → Lays (b ∷ c) row → AtRest row → P (Some (heap row))) → P (heap_in (b ∷ c))
by_row P b c none some = at_heap (heap_in (b ∷ c)) refl
  where
    at_heap : (o : Option Contents) → heap_in (b ∷ c) ≡ o → P o
    at_heap None is = none
    at_heap (Some m) is =
        let r = rested b c m is in
        subst (λ (n : Contents). P (Some n)) r.heap_is (some r.row r.lays r.rest)

-- a content in which no row lies has no heap
pub unsound : (told : Option (List ℕ)) (size : ℕ) → IfSome told (λ c. length c ≡ size) → 128 ≤ size → ((c : List ℕ) (row : List Extent) → told ≡ Some c → Lays c row → AtRest row → ⊥) → heap_told told ≡ None
unsound None size long table not = refl
unsound (Some []) size long table not = absurd (omega (arith, long, table))
unsound (Some (b ∷ c)) size long table not = by_row (λ o. o ≡ None) b c refl (λ row l rest. absurd (not (b ∷ c) row refl l rest))

told_fact : (P : List ℕ → Type 0) (told : Option (List ℕ)) (c : List ℕ) → told ≡ Some c → IfSome told P → P c
told_fact P None c is fact = absurd (cc)
told_fact P (Some d) c is fact = let same : d ≡ c = cc in subst P same fact

pub rowless_unsound : (told : Option (List ℕ)) (size : ℕ) → IfSome told (λ c. length c ≡ size) → 128 ≤ size → IfSome told LacksRow → heap_told told ≡ None
rowless_unsound told size long table lacks = unsound told size long table (λ c row is l rest. told_fact LacksRow told c is lacks row l)

pub uneven_unsound : (told : Option (List ℕ)) (size : ℕ) → IfSome told (λ c. length c ≡ size) → (size ≡ 0 → ⊥) → (size / 16 * 16 ≡ size → 128 ≤ size → ⊥) → heap_told told ≡ None
uneven_unsound None size long some uneven = refl
uneven_unsound (Some []) size long some uneven = absurd (some (sym long))
uneven_unsound (Some (b ∷ c)) size long some uneven = by_row (λ o. o ≡ None) b c refl (λ row l rest.
    let all = lays_length (b ∷ c) row l in
    absurd (uneven (omega (arith, all, long)) (omega (arith, all, long))))

-- a found block has the part
pub part_unsound : (told : Option (List ℕ)) (size atoms at : ℕ) → IfSome told (λ c. length c ≡ size) → 128 ≤ size → IfSome told (FindsRoom atoms (Some at)) → IfSome told (LacksPart at atoms) → heap_told told ≡ None
part_unsound told size atoms at long table room lacks = unsound told size long table (λ c row is l rest.
    let r = told_fact (FindsRoom atoms (Some at)) told c is room row l in
    let f = found 8 row at (Free r.0) r.1 in
    told_fact (LacksPart at atoms) told c is lacks f.0 f.1 r.0 f.3 r.2 (subst (λ (z : List Extent). Lays c z) f.2 l))

-- a content that is placed is added
placed_creates : (d : List ℕ) (row : List Extent) (at : ℕ) (u : List ℕ) → Placed d row at u → Creates at u (Some (heap row)) (heap_in d)
placed_creates d row at u p = (p.fresh, p.first, lays_heap d p.now p.lays p.rest ∙ ap (λ (m : Contents). Some m) p.heap_is)

pub created_placed : (told after : Option (List ℕ)) (at size : ℕ) (u : List ℕ) → IfSome told (λ c. length c ≡ size) → (size ≡ 0 → ⊥) → Turns told after (Places at u) → Creates at u (heap_told told) (heap_told after)
created_placed None after at size u long some places = tt
created_placed (Some []) after at size u long some places = absurd (some (sym long))
created_placed (Some (b ∷ c)) None at size u long some places = absurd places
created_placed (Some (b ∷ c)) (Some d) at size u long some places = by_row (λ o. Creates at u o (heap_in d)) b c tt (λ row l rest. placed_creates d row at u (places row l rest))

pub created_more : (told after : Option (List ℕ)) (result : Result ℕ Trouble) (size : ℕ) (u : List ℕ) → IfSome told (λ c. length c ≡ size) → (size ≡ 0 → ⊥) → IfOk result (λ at. Turns told after (Places at u)) → IfOk result (λ at. Creates at u (heap_told told) (heap_told after))
created_more told after (Ok at) size u long some places = created_placed told after at size u long some places
created_more told after (Err t) size u long some places = tt

-- the first content
pub created_first : (told mid after : Option (List ℕ)) (u : List ℕ) → IfSome told (λ c. length c ≡ 0) → Turns told mid NewTable → Turns mid after (WritesUsed 8 u) → Creates 8 u (heap_told told) (heap_told after)
created_first None mid after u long table writes = tt
created_first (Some (b ∷ c)) mid after u long table writes = absurd (omega (arith, long))
created_first (Some []) None after u long table writes = absurd table
created_first (Some []) (Some d) None u long table writes = absurd writes
created_first (Some []) (Some d) (Some e) u long table writes =
    let all = lays_length d [] table in
    subst (λ (o : Option Contents). Creates 8 u o (heap_in e)) (sym no_contents) (placed_creates e [] 8 u (grown d e [] 8 u (omega (arith, all)) table rest_new writes))

-- no free block has room
pub none_free : (told : Option (List ℕ)) (atoms : ℕ) → 1 ≤ atoms → IfSome told (FindsRoom atoms None) → most_free_told told < atoms
none_free None atoms some room = some
none_free (Some c) atoms some room = at_tiles (sound_tiling c) refl
  where
    at_tiles : (o : Option (List Tile)) → sound_tiling c ≡ o → most_in o < atoms
    at_tiles None is = some
    at_tiles (Some tiles) is = room (row_of tiles) (sound_lays c tiles is).0

untiled : most_in (sound_tiling []) ≡ 0
unfolding sound_tiling tiling
untiled = refl

pub none_empty : (told : Option (List ℕ)) → IfSome told (λ c. length c ≡ 0) → most_free_told told ≡ 0
none_empty None long = refl
none_empty (Some []) long = untiled
none_empty (Some (b ∷ c)) long = absurd (omega (arith, long))

-- a table of zeros in an empty content
pub table_told : (before after : Option (List ℕ)) (t : List ℕ) → length t ≡ 128 → ((i : ℕ) → get_or t i 0 ≡ 0) → IfSome before (λ c. length c ≡ 0) → after ≡ option_map (put 0 t) before → Turns before after NewTable
table_told None after t long zeros none is = tt
table_told (Some (b ∷ c)) after t long zeros none is = absurd (omega (arith, none))
table_told (Some []) after t long zeros none is = subst (λ (o : Option (List ℕ)). IsSomeAnd o (λ d. NewTable [] d)) (sym is) (subst (λ (d : List ℕ). Lays d []) (sym (put_end [] t)) (lays_new t long zeros))

zeros : (n i : ℕ) → ◌≡◌ {A = ℕ} (get_or (replicate n 0) i 0) 0
zeros n i =
    let zero : ℕ = 0 in
    let long = length-replicate {A = ℕ} n 0 in
    elim (cases_lt i n) [
      | inl within ↦ get_or-replicate n i zero zero within
      | inr past ↦ get_or_past (replicate n zero) i zero (omega (arith, long, past))
    ]

pub table_zeros : (before after : Option (List ℕ)) (size : ℕ) → size ≡ 0 → IfSome before (λ c. length c ≡ size) → after ≡ option_map (put 0 (replicate 128 0)) before → Turns before after NewTable
table_zeros before after size none long is = table_told before after (replicate 128 0) (length-replicate {A = ℕ} 128 0) (zeros 128) (subst (λ (k : ℕ). IfSome before (λ c. length c ≡ k)) none long) is
