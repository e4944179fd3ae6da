-- The contents that an allocator holds.
use Rattle.std.proofs.Common.{◌≡◌, ℕ, suc, ◌+◌, ◌<◌, ◌≤◌, ◌^◌, Bool, true, false, List, [], ◌∷◌, length, map, drop, Option, Some, None, IfSome, All, refl, sym, ◌∙◌, ap, subst, inl, inr, arith, leb, le-leb}
use Rattle.std.specs.Prelude.{not, IsTrue, ◌↔◌}
use Rattle.std.proofs.lemmas.Bool.{cases_lt, lt-leb, false≢true}
use Rattle.std.proofs.lemmas.List.{length-map}
use Rattle.std.proofs.lemmas.List.Elements.{All-nil, All-cons, All-head, All-tail}
use Rattle.ql_edge.specs.Stops.{Leaves, Adds, IsSameBut}
use Rattle.ql_edge.specs.Told.{Told}
use Rattle.lldb_base.specs.Stops.{IsEnded, Seen, kept_of, seen_adds}
use Rattle.lldb_base.specs.Contents.{Contents, content_of, with_content, without, IsEntry, AreContents}
use Rattle.lldb_atoms.specs.Blocks.{Extent, Used, Moved}
use Rattle.lldb_atoms.specs.Rows.{atoms_in, extent_at, heap}
use Rattle.lldb_atoms.specs.Sound.{heap_in}
use Rattle.lldb_atoms.proofs.Rising.{handles_rise}
use Rattle.lldb_blocks.specs.Maps.{Rising}
use Rattle.lldb_blocks.specs.Laid.{Solid, Lays}
use Rattle.lldb_blocks.proofs.Looks.{atoms_append, found}
use Rattle.lldb_blocks.proofs.Lays.{lays_length}
use Rattle.lldb_blocks.proofs.Heaps.{Rising_heap}
use Rattle.lldb_blocks.proofs.Maps.{content_here, content_there, content_low}
use Rattle.lldb_blocks.proofs.Readings.{block_found}
use Rattle.lldb_blocks.proofs.Calls.{empty_row}
use Rattle.lldb_alloc.specs.Told.{heap_told, Creates}
use Rattle.lldb_alloc.specs.Handles.{Removes}
use Rattle.lldb_alloc.specs.Places.{Replaces}
use Rattle.lldb_alloc.specs.Frames.{KeepsStops, kept}
use Rattle.lldb_alloc.specs.Meant.{meant, meant_same, meant_ended}
use Rattle.lldb_alloc.proofs.Uses.{handle_says, spells_at}
use Rattle.lldb_alloc.proofs.ToldHeaps.{rested, no_contents}
use Rattle.lldb_alloc.proofs.Created.{by_row}

-- each entry of contents is one of its handles
all_entries : (f : ℕ) (m : Contents) → Rising f m → ((q : ℕ) (u : List ℕ) → content_of q m ≡ Some u → IsEntry (q, u)) → All IsEntry m
all_entries f [] rising each = All-nil IsEntry
all_entries f (e ∷ m) rising each =
    All-cons IsEntry e m (each e.0 e.1 (content_here e.0 e m refl))
    (all_entries (suc e.0) m rising.1 (λ q u is. each q u (content_there q e m (λ same. dead q u is same) ∙ is)))
  where
    dead : (q : ℕ) (u : List ℕ) → content_of q m ≡ Some u → q ≡ e.0 → ⊥
    dead q u is same =
        let none : content_of q m ≡ None = content_low (suc e.0) m q rising.1 (omega (arith, same)) in
        let two : ◌≡◌ {A = Option (List ℕ)} None (Some u) = sym none ∙ is in
        cc

-- a content in a row is one that a heap can hold
entry : (c : List ℕ) (row : List Extent) → Lays c row → length c ≤ 2 ^ 60 → (q : ℕ) (u : List ℕ) → content_of q (heap row) ≡ Some u → IsEntry (q, u)
entry c row l most q u live = elim (handle_says row q u l.spells.solid live).home [
  | inl own ↦ (let b = bounds q (Used u) own in (b.0, b.1, short q own))
  | inr away ↦ (let b = bounds q (Moved away.0) away.1 in (b.0, b.1, short away.0 away.2))
]
  where
    bounds : (q : ℕ) (e : Extent) → extent_at 8 row q ≡ Some e → (8 ≤ q) × (q < 2 ^ 64)
    bounds q e there =
        let f = found 8 row q e there in
        let place = f.3 in
        let all = lays_length c row l in
        let parts : atoms_in row ≡ atoms_in f.0 + atoms_in (e ∷ f.1) = ap atoms_in f.2 ∙ atoms_append f.0 (e ∷ f.1) in
        (omega (arith, place), omega (arith, place, all, parts, most))

    short : (q : ℕ) → extent_at 8 row q ≡ Some (Used u) → length u ≤ 65787
    short q there = spells_at c row l q (Used u) there (λ x y place s. (block_found l.head l.previous l.next c x (Used u) y q place s).block.room)

pub are_contents : (told : Option (List ℕ)) (bytes : ℕ) → IfSome told (λ c. length c ≡ bytes) → bytes ≤ 2 ^ 60 → IfSome (heap_told told) AreContents
are_contents None bytes long most = tt
are_contents (Some []) bytes long most = subst (λ (o : Option Contents). IfSome o AreContents) (sym no_contents) (record { rising = handles_rise [] [] no_contents; entries = All-nil IsEntry })
are_contents (Some (b ∷ c)) bytes long most = by_heap (heap_in (b ∷ c)) refl
  where
    by_heap : (o : Option Contents) → heap_in (b ∷ c) ≡ o → IfSome o AreContents
    by_heap None is = tt
    by_heap (Some m) is =
        let r = rested b c m is in
        let whole : length (b ∷ c) ≤ 2 ^ 60 = omega (arith, long, most) in
        record {
          rising = handles_rise (b ∷ c) m is;
          entries = subst (λ (n : Contents). All IsEntry n) r.heap_is (all_entries 8 (heap r.row) (Rising_heap r.row r.lays.spells.solid) (entry (b ∷ c) r.row r.lays whole));
        }

-- no handle is live where there is the table alone
nothing : (row : List Extent) → Solid row → atoms_in row ≡ 0 → row ≡ []
nothing [] solid none = refl
nothing (e ∷ row) solid none = let some = solid.0 in absurd (omega (arith, some, none))

pub empty_told : (told : Option (List ℕ)) (bytes : ℕ) → IfSome told (λ c. length c ≡ bytes) → IfSome (heap_told told) (λ m. (bytes ≤ 128 → m ≡ []) × (m ≡ [] → bytes ≤ 128))
empty_told None bytes long = tt
empty_told (Some []) bytes long = subst (λ (o : Option Contents). IfSome o (λ m. (bytes ≤ 128 → m ≡ []) × (m ≡ [] → bytes ≤ 128))) (sym no_contents) (λ small. refl, λ none. omega (arith, long))
empty_told (Some (b ∷ c)) bytes long = by_row (λ o. IfSome o (λ m. (bytes ≤ 128 → m ≡ []) × (m ≡ [] → bytes ≤ 128))) b c tt (λ row l rest.
    let all = lays_length (b ∷ c) row l in (
      λ small. ap heap (nothing row l.spells.solid (omega (arith, all, long, small))),
      λ none. (let empty : atoms_in row ≡ 0 = ap atoms_in (empty_row row l.spells.solid rest none) in omega (arith, all, long, empty)),
    ))

pub contents_meant : (refused sound : Bool) (told : Option (List ℕ)) (bytes : ℕ) → (refused ≡ false → sound ≡ true) → (IsTrue sound → IfSome told (λ c. length c ≡ bytes)) → bytes ≤ 2 ^ 60 → refused ≡ false → IfSome (meant sound told) AreContents
contents_meant refused false told bytes means long most ready = tt
contents_meant refused true told bytes means long most ready = are_contents told bytes (long refl) most

pub empty_meant : (sound : Bool) (told : Option (List ℕ)) (bytes : ℕ) → (IsTrue sound → IfSome told (λ c. length c ≡ bytes)) → IfSome (meant sound told) (λ m. (bytes ≤ 128 → m ≡ []) × (m ≡ [] → bytes ≤ 128))
empty_meant false told bytes long = tt
empty_meant true told bytes long = empty_told told bytes (long refl)

-- what is said of the contents that are told, of those that are meant
pub if_meant : (sound : Bool) (told : Option (List ℕ)) (P : Contents → Type 0) → IfSome (heap_told told) P → IfSome (meant sound told) P
if_meant true told P fact = fact
if_meant false told P fact = tt

pub none_meant : (sound : Bool) (told : Option (List ℕ)) → heap_told told ≡ None → meant sound told ≡ None
none_meant true told none = none
none_meant false told none = refl

-- a content is added
pub created_fresh : (sound : Bool) (told after : Option (List ℕ)) (handle : ℕ) (u : List ℕ) → Creates handle u (heap_told told) (heap_told after) → IfSome (meant sound told) (λ m. content_of handle m ≡ None)
created_fresh sound told after handle u creates = if_meant sound told (λ m. content_of handle m ≡ None) (more (heap_told told) creates)
  where
    more : (o : Option Contents) → Creates handle u o (heap_told after) → IfSome o (λ m. content_of handle m ≡ None)
    more None creates = tt
    more (Some m) creates = creates.0

pub created_start : (sound : Bool) (told after : Option (List ℕ)) (handle : ℕ) (u : List ℕ) → Creates handle u (heap_told told) (heap_told after) → meant sound told ≡ Some [] → handle ≡ 8
created_start false told after handle u creates is = absurd (cc)
created_start true told after handle u creates is = (subst (λ (o : Option Contents). Creates handle u o (heap_told after)) is creates).1 refl

pub created_meant : (sound now : Bool) (told after : Option (List ℕ)) (handle : ℕ) (u : List ℕ) → now ≡ sound → Creates handle u (heap_told told) (heap_told after) → IfSome (meant sound told) (λ m. meant now after ≡ Some (with_content handle u m))
created_meant false now told after handle u same creates = tt
created_meant true now told after handle u same creates = subst (λ (b : Bool). IfSome (heap_told told) (λ m. meant b after ≡ Some (with_content handle u m))) (sym same) (more (heap_told told) creates)
  where
    more : (o : Option Contents) → Creates handle u o (heap_told after) → IfSome o (λ m. heap_told after ≡ Some (with_content handle u m))
    more None creates = tt
    more (Some m) creates = creates.2

-- a content is replaced, or removed
pub replaced_meant : (sound now : Bool) (told after : Option (List ℕ)) (handle : ℕ) (u : List ℕ) → now ≡ sound → Replaces handle u (heap_told told) (heap_told after) → IfSome (meant sound told) (λ m. IfSome (content_of handle m) (λ _. meant now after ≡ Some (with_content handle u m)))
replaced_meant false now told after handle u same replaces = tt
replaced_meant true now told after handle u same replaces = subst (λ (b : Bool). IfSome (heap_told told) (λ m. IfSome (content_of handle m) (λ _. meant b after ≡ Some (with_content handle u m)))) (sym same) replaces

pub removed_meant : (sound now : Bool) (told after : Option (List ℕ)) (handle : ℕ) → now ≡ sound → Removes handle (heap_told told) (heap_told after) → IfSome (meant sound told) (λ m. IfSome (content_of handle m) (λ _. meant now after ≡ Some (without handle m)))
removed_meant false now told after handle same removes = tt
removed_meant true now told after handle same removes = subst (λ (b : Bool). IfSome (heap_told told) (λ m. IfSome (content_of handle m) (λ _. meant b after ≡ Some (without handle m)))) (sym same) removes

-- what the frame of a call says of levels and stops
pub meant_saved : (sound now : Bool) (saved after : List (Option (List ℕ))) → now ≡ sound → after ≡ saved → map (meant now) after ≡ map (meant sound) saved
meant_saved sound now saved after same is = ap (λ (b : Bool). map (meant b) after) same ∙ ap (map (meant sound)) is

pub meant_stops : {S : Type 0} {content_of : S → Option (List ℕ)} {saved_of : S → List (Option (List ℕ))} {leaves : S → Option (List ℕ) → Type 0} {moment_of : S → ℕ} {past : S → ℕ → ℕ → Option (List ℕ) → Type 0} {told_of : S → Told} {a b : S} (sound now : Bool) → now ≡ sound → KeepsStops content_of saved_of leaves moment_of past told_of a b
    → IsSameBut (kept_of (meant sound (content_of a)) (map (meant sound) (saved_of a))) (kept_of (meant now (content_of b)) (map (meant now) (saved_of b))) (Seen heap_told (leaves a)) (Seen heap_told (leaves b)) (moment_of a) (moment_of b) (λ t n. Seen heap_told (past a t n)) (λ t n. Seen heap_told (past b t n)) (told_of a) (told_of b)
meant_stops {content_of = content_of} {saved_of = saved_of} {a = a} {b = b} sound now same (kept stops told) = meant_same sound now same (content_of a) (content_of b) (saved_of a) (saved_of b) stops

pub dropped_meant : (sound now : Bool) (saved after : List (Option (List ℕ))) → now ≡ sound → after ≡ drop 1 saved → map (meant now) after ≡ drop 1 (map (meant sound) saved)
dropped_meant sound now [] after same is = ap (λ (b : Bool). map (meant b) after) same ∙ ap (map (meant sound)) is
dropped_meant sound now (s ∷ saved) after same is = ap (λ (b : Bool). map (meant b) after) same ∙ ap (map (meant sound)) is

-- the end of a level
pub ended_meant : (sound : Bool) (held : Option (List ℕ)) (saved : List (Option (List ℕ))) (left : Option (List ℕ) → Type 0) → sound ≡ true → Leaves left (IsEnded (kept_of held saved) held) → Leaves (Seen heap_told left) (IsEnded (kept_of (meant sound held) (map (meant sound) saved)) (meant sound held))
ended_meant false held saved left is leaves = absurd (cc)
ended_meant true held saved left is leaves = λ s b. subst (λ (z : Option Contents). IsEnded (kept_of (meant true held) (map (meant true) saved)) (heap_told held) z) (sym b.2) (meant_ended held b.0 saved (leaves b.0 b.1))

pub adds_meant : (sound : Bool) (held : Option (List ℕ)) (saved : List (Option (List ℕ))) {before now : ℕ} {past since : ℕ → ℕ → Option (List ℕ) → Type 0} {shown : ℕ → Type 0} → sound ≡ true → Adds before now past since (IsEnded (kept_of held saved) held) shown
    → Adds before now (λ t n. Seen heap_told (past t n)) (λ t n. Seen heap_told (since t n)) (IsEnded (kept_of (meant sound held) (map (meant sound) saved)) (meant sound held)) shown
adds_meant false held saved is adds = absurd (cc)
adds_meant true held saved is adds = seen_adds heap_told adds (λ below ended. meant_ended held below saved ended)

pub twice_not : (b : Bool) → not (not b) ≡ b
twice_not true = refl
twice_not false = refl

pub not_not : (refused b : Bool) → refused ≡ not b → not refused ≡ b
not_not refused b is = ap not is ∙ twice_not b

-- sizes that were saved
pub sizes_begun : (bytes : ℕ) (sizes : List ℕ) → bytes ≤ 2 ^ 60 → All (λ size. size ≤ 2 ^ 60) sizes → All (λ size. size ≤ 2 ^ 60) (bytes ∷ sizes)
sizes_begun bytes sizes small all = All-cons (λ size. size ≤ 2 ^ 60) bytes sizes small all

pub sizes_ended : (sizes : List ℕ) → All (λ size. size ≤ 2 ^ 60) sizes → All (λ size. size ≤ 2 ^ 60) (drop 1 sizes)
sizes_ended [] all = all
sizes_ended (s ∷ sizes) all = All-tail (λ size. size ≤ 2 ^ 60) s sizes all

pub sizes_front : (bytes : ℕ) (sizes before : List ℕ) → before ≡ bytes ∷ sizes → All (λ size. size ≤ 2 ^ 60) before → bytes ≤ 2 ^ 60
sizes_front bytes sizes before is all = All-head (λ size. size ≤ 2 ^ 60) bytes sizes (subst (λ (z : List ℕ). All (λ size. size ≤ 2 ^ 60) z) is all)

pub sizes_back : (bytes : ℕ) (sizes before : List ℕ) → before ≡ bytes ∷ sizes → All (λ size. size ≤ 2 ^ 60) before → All (λ size. size ≤ 2 ^ 60) sizes
sizes_back bytes sizes before is all = All-tail (λ size. size ≤ 2 ^ 60) bytes sizes (subst (λ (z : List ℕ). All (λ size. size ≤ 2 ^ 60) z) is all)

pub sizes_none : (sizes : List ℕ) (saved : List (Option (List ℕ))) → length sizes ≡ length saved → saved ≡ [] → All (λ size. size ≤ 2 ^ 60) sizes
sizes_none [] saved same none = All-nil (λ size. size ≤ 2 ^ 60)
sizes_none (s ∷ sizes) saved same none = let zero : length saved ≡ 0 = ap length none in absurd (omega (arith, same, zero))

pub empty_tells : (sound : Bool) (told : Option (List ℕ)) (bytes n : ℕ) → n ≡ bytes → (IsTrue sound → IfSome told (λ c. length c ≡ bytes)) → IfSome (meant sound told) (λ m. IsTrue (leb n 128) ↔ (m ≡ []))
empty_tells sound told bytes n is long = more (meant sound told) (empty_meant sound told bytes long)
  where
    small : leb n 128 ≡ true → bytes ≤ 128
    small t = elim (cases_lt 128 n) [
      | inl large ↦ absurd (false≢true (sym (lt-leb n 128 large) ∙ t))
      | inr low ↦ omega (arith, is, low)
    ]

    more : (o : Option Contents) → IfSome o (λ m. (bytes ≤ 128 → m ≡ []) × (m ≡ [] → bytes ≤ 128)) → IfSome o (λ m. IsTrue (leb n 128) ↔ (m ≡ []))
    more None both = tt
    more (Some m) both = (λ t. both.0 (small t), λ none. (let low = both.1 none in le-leb n 128 (omega (arith, is, low))))

pub not_false : (b sound : Bool) → b ≡ sound → not b ≡ false → sound ≡ true
not_false true sound is off = sym is
not_false false sound is off = absurd (cc)

pub more_levels : (sound : Bool) (saved : List (Option (List ℕ))) → 1 < length (map (meant sound) saved) → 1 < length saved
more_levels sound saved more = let same = length-map saved (meant sound) in omega (arith, same, more)

pub none_saved : (sound : Bool) (saved : List (Option (List ℕ))) → map (meant sound) saved ≡ [] → saved ≡ []
none_saved sound [] none = refl
none_saved sound (s ∷ saved) none = absurd (cc)
