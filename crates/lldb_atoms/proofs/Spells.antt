-- The bytes of a block are read as that block.
use Rattle.std.proofs.Common.{◌≡◌, ℕ, ◌+◌, ◌-◌, ◌*◌, ◌/◌, ◌^◌, ◌≤◌, ◌<◌, inl, inr, true, false, List, [], ◌∷◌, ◌++◌, length, take, drop, Some, option_and_then, refl, sym, ap, ◌∙◌, subst, append_assoc, length-append, arith, nat_eq, nat_le}
use Rattle.std.specs.List.{ends_with}
use Rattle.std.specs.Cmp.Lexicographic.{pointwise}
use Rattle.std.proofs.lemmas.Bool.{cases_Bool, cases_lt, le-leb, lt-leb, cond-true, cond-false, eqb-true, eqb-false}
use Rattle.std.proofs.lemmas.List.{take_at, drop_at, append-nil}
use Rattle.lldb_base.specs.Contents.{atoms_for}
use Rattle.lldb_atoms.specs.declared.block.Block.{Block}
use Rattle.lldb_atoms.specs.declared.block.Block.TheVariants as block
use Rattle.lldb_atoms.specs.Numbers.{as_bytes}
use Rattle.lldb_atoms.specs.Heads.{head_of, ending_of, atoms_of, IsValid, head_at}
use Rattle.lldb_atoms.specs.Blocks.{Extent, Used, Compressed, Moved, Free, Hole, size, Tile, unlinked, tile_for, tile_of, compressed_of, tile_on, tile_at, used_head, free_head, free_ending, HasRoom, IsBlock}
use Rattle.lldb_atoms.specs.Laws.{is_block, IsTile}
use Rattle.lldb_atoms.proofs.AsBytes.{length-as_bytes}
use Rattle.lldb_atoms.proofs.Judged.{ended}
use Rattle.lldb_atoms.proofs.Spoken.{head_reads}
use Rattle.lldb_atoms.proofs.ReadHeads.{headed}

-- bytes that end so
pub end_of : (front end : List ℕ) → drop (length (front ++ end) - length end) (front ++ end) ≡ end
end_of front end =
    let size = length-append front end in
    drop_at front end (length (front ++ end) - length end) (omega arith)

ends_so : (bytes front end : List ℕ) → bytes ≡ front ++ end → ends_with nat_eq bytes end ≡ true
ends_so bytes front end is = subst (λ z. ends_with nat_eq z end ≡ true) (sym is) (ended (front ++ end) end (end_of front end))

-- a block whose bytes begin with this head, where it takes so many atoms and ends so, is read
pub read_so : (tile : Tile) (b : Block) (bytes rest more : List ℕ) → IsValid b → bytes ≡ head_of b ++ more → length bytes ≡ 16 * atoms_of b → tile_on b bytes ≡ Some tile → tile_at (bytes ++ rest) ≡ Some tile
unfolding tile_at
read_so tile b bytes rest more valid is long on =
    let whole : bytes ++ rest ≡ head_of b ++ (more ++ rest) = ap (λ z. z ++ rest) is ∙ append_assoc (head_of b) more rest in
    let size = length-append bytes rest in
    let room : atoms_of b ≤ length (bytes ++ rest) / 16 = omega arith in
    let head : head_at (length (bytes ++ rest) / 16) (bytes ++ rest) ≡ Some b = head_reads (length (bytes ++ rest) / 16) (bytes ++ rest) b (headed (bytes ++ rest) b (more ++ rest) valid whole) room in
    let here : take (16 * atoms_of b) (bytes ++ rest) ≡ bytes = take_at bytes rest (16 * atoms_of b) long in
    ap (option_and_then (λ c. tile_on c (take (16 * atoms_of c) (bytes ++ rest)))) head ∙ ap (tile_on b) here ∙ on

-- the two heads of a used block alike
pub record IsUsedHead (b : Block) (n front : ℕ) : Type 0 where
  pub valid : IsValid b
  pub atoms : atoms_of b ≡ atoms_for n
  pub long : length (head_of b) ≡ front
  pub place : (front + n) + 1 ≤ 16 * atoms_for n
  pub ending : ending_of b ≡ 0 ∷ []
  pub used : (bytes : List ℕ) → tile_of b bytes ≡ unlinked (Used (take n (drop front bytes)))
  pub compressed : (bytes : List ℕ) → compressed_of b bytes ≡ Some (unlinked (Compressed (take n (drop front bytes))))

pub large_place : (n : ℕ) → 251 < n → (3 + n) + 1 ≤ 16 * atoms_for n
large_place n large =
    let is : atoms_for n ≡ (n + 3) / 16 + 1 = cond-false (nat_le n 251) ((n + 1) / 16 + 1) ((n + 3) / 16 + 1) (lt-leb n 251 large) in
    omega arith

pub small_place : (n : ℕ) → n ≤ 251 → (1 + n) + 1 ≤ 16 * atoms_for n
small_place n small =
    let is : atoms_for n ≡ (n + 1) / 16 + 1 = cond-true (nat_le n 251) ((n + 1) / 16 + 1) ((n + 3) / 16 + 1) (le-leb n 251 small) in
    omega arith

pub used_is : (n : ℕ) → n ≤ 65787 → (front : ℕ) × IsUsedHead (used_head n) n front
used_is n most =
    elim (cases_lt 251 n) [
      | inl large ↦
          let is : used_head n ≡ block.Long n = cond-false (nat_le n 251) (block.Short n) (block.Long n) (lt-leb n 251 large) in
          (3, subst (λ b. IsUsedHead b n 3) (sym is) (record { valid = (omega arith, most); atoms = refl; long = omega (arith, length-as_bytes 2 (n - 252)); place = large_place n large; ending = refl; used = λ bytes. refl; compressed = λ bytes. refl }))
      | inr small ↦
          let is : used_head n ≡ block.Short n = cond-true (nat_le n 251) (block.Short n) (block.Long n) (le-leb n 251 small) in
          (1, subst (λ b. IsUsedHead b n 1) (sym is) (record { valid = small; atoms = refl; long = refl; place = small_place n small; ending = refl; used = λ bytes. refl; compressed = λ bytes. refl }))
    ]

-- the content behind a head
content_at : (front n : ℕ) (head content rest : List ℕ) → length head ≡ front → length content ≡ n → take n (drop front ((head ++ content) ++ rest)) ≡ content
content_at front n head content rest long is =
    ap (λ z. take n (drop front z)) (append_assoc head content rest) ∙ ap (take n) (drop_at head (content ++ rest) front long) ∙ take_at content rest n is

-- which of the endings stands there
on_first : (b : Block) (bytes : List ℕ) → ends_with nat_eq bytes (ending_of b) ≡ true → tile_on b bytes ≡ Some (tile_of b bytes)
on_first b bytes test = cond-true _ _ _ test

on_second : (b : Block) (bytes : List ℕ) → ends_with nat_eq bytes (ending_of b) ≡ false → ends_with nat_eq bytes (1 ∷ []) ≡ true → tile_on b bytes ≡ compressed_of b bytes
on_second b bytes test other = cond-false _ _ _ test ∙ cond-true _ _ _ other

used_reads : (content any bytes rest : List ℕ) → bytes ≡ ((head_of (used_head (length content)) ++ content) ++ any) ++ 0 ∷ [] → length bytes ≡ 16 * atoms_for (length content) → length content ≤ 65787 → tile_at (bytes ++ rest) ≡ Some (unlinked (Used content))
used_reads content any bytes rest is whole room =
    let n : ℕ = length content in
    let b : Block = used_head n in
    let h = (used_is n room).1 in
    let front : ℕ = (used_is n room).0 in
    let test : ends_with nat_eq bytes (ending_of b) ≡ true = subst (λ z. ends_with nat_eq bytes z ≡ true) (sym h.ending) (ends_so bytes ((head_of b ++ content) ++ any) (0 ∷ []) is) in
    let apart : bytes ≡ (head_of b ++ content) ++ (any ++ 0 ∷ []) = is ∙ append_assoc (head_of b ++ content) any (0 ∷ []) in
    let inner : take n (drop front bytes) ≡ content = ap (λ z. take n (drop front z)) apart ∙ content_at front n (head_of b) content (any ++ 0 ∷ []) h.long refl in
    let on : tile_on b bytes ≡ Some (unlinked (Used content)) = on_first b bytes test ∙ ap (λ (z : Tile). Some z) (h.used bytes ∙ ap (λ z. unlinked (Used z)) inner) in
    read_so (unlinked (Used content)) b bytes rest (content ++ (any ++ 0 ∷ [])) h.valid (apart ∙ append_assoc (head_of b) content (any ++ 0 ∷ [])) (whole ∙ ap (λ k. 16 * k) (sym h.atoms)) on

ends_one : (bytes : List ℕ) → drop (length bytes - 1) bytes ≡ 1 ∷ [] → ends_with nat_eq bytes (0 ∷ []) ≡ false
ends_one bytes is = ap (pointwise nat_eq (0 ∷ [])) is

not_zero : (before : List ℕ) → ends_with nat_eq (before ++ 1 ∷ []) (0 ∷ []) ≡ false
not_zero before = ends_one (before ++ 1 ∷ []) (end_of before (1 ∷ []))

pub two_or_more : (n : ℕ) → 1 ≤ n → (n ≡ 1 → ⊥) → 2 ≤ n
two_or_more n some other =
    elim (cases_lt 1 n) [
      | inl more ↦ more
      | inr few ↦ absurd (other (omega arith))
    ]

compressed_reads : (content any bytes rest : List ℕ) → bytes ≡ ((head_of (used_head (length content)) ++ content) ++ any) ++ 1 ∷ [] → length bytes ≡ 16 * atoms_for (length content) → length content ≤ 65787 → tile_at (bytes ++ rest) ≡ Some (unlinked (Compressed content))
compressed_reads content any bytes rest is whole room =
    let n : ℕ = length content in
    let b : Block = used_head n in
    let h = (used_is n room).1 in
    let front : ℕ = (used_is n room).0 in
    let before : List ℕ = (head_of b ++ content) ++ any in
    let none : ends_with nat_eq bytes (0 ∷ []) ≡ false = subst (λ z. ends_with nat_eq z (0 ∷ []) ≡ false) (sym is) (not_zero before) in
    let test : ends_with nat_eq bytes (ending_of b) ≡ false = subst (λ z. ends_with nat_eq bytes z ≡ false) (sym h.ending) none in
    let apart : bytes ≡ (head_of b ++ content) ++ (any ++ 1 ∷ []) = is ∙ append_assoc (head_of b ++ content) any (1 ∷ []) in
    let inner : take n (drop front bytes) ≡ content = ap (λ z. take n (drop front z)) apart ∙ content_at front n (head_of b) content (any ++ 1 ∷ []) h.long refl in
    let on : tile_on b bytes ≡ Some (unlinked (Compressed content)) =
    on_second b bytes test (ends_so bytes before (1 ∷ []) is) ∙ h.compressed bytes ∙ ap (λ z. Some (unlinked (Compressed z))) inner in
    read_so (unlinked (Compressed content)) b bytes rest (content ++ (any ++ 1 ∷ [])) h.valid (apart ∙ append_assoc (head_of b) content (any ++ 1 ∷ [])) (whole ∙ ap (λ k. 16 * k) (sym h.atoms)) on

moved_ends : (target : ℕ) → ends_with nat_eq (head_of (block.Relocated target)) (0 ∷ []) ≡ true
unfolding as_bytes
moved_ends target = refl

moved_reads : (target : ℕ) (bytes rest : List ℕ) → bytes ≡ head_of (block.Relocated target) → length bytes ≡ 16 → target < 2 ^ 56 → tile_at (bytes ++ rest) ≡ Some (unlinked (Moved target))
moved_reads target bytes rest is whole small =
    let test : ends_with nat_eq bytes (0 ∷ []) ≡ true = subst (λ z. ends_with nat_eq z (0 ∷ []) ≡ true) (sym is) (moved_ends target) in
    read_so (unlinked (Moved target)) (block.Relocated target) bytes rest [] small (is ∙ sym (append-nil (head_of (block.Relocated target)))) whole (on_first (block.Relocated target) bytes test)

one_ends : (p n : ℕ) → ends_with nat_eq (head_of (block.FreeOne p n)) (254 ∷ []) ≡ true
unfolding as_bytes
one_ends p n = refl

length_one : (p n : ℕ) → length (head_of (block.FreeOne p n)) ≡ 16
unfolding as_bytes
length_one p n = refl

no_length : (ns : List ℕ) → length ns ≡ 0 → ns ≡ []
no_length [] is = refl
no_length (n ∷ ns) is = absurd (omega arith)

at_one : (p n : ℕ) (any bytes rest : List ℕ) → bytes ≡ (head_of (block.FreeOne p n) ++ any) ++ [] → length bytes ≡ 16 → p < 2 ^ 56 → n < 2 ^ 56 → tile_at (bytes ++ rest) ≡ Some (record { extent = Free 1; previous = p; next = n })
at_one p n any bytes rest is whole low high =
    let head : List ℕ = head_of (block.FreeOne p n) in
    let plain : bytes ≡ head ++ any = is ∙ append-nil (head ++ any) in
    let size = length-append head any in
    let count = length_one p n in
    let both : length bytes ≡ length (head ++ any) = ap length plain in
    let none : any ≡ [] = no_length any (omega arith) in
    let exact : bytes ≡ head = plain ∙ ap (λ z. head ++ z) none ∙ append-nil head in
    let test : ends_with nat_eq bytes (254 ∷ []) ≡ true = subst (λ z. ends_with nat_eq z (254 ∷ []) ≡ true) (sym exact) (one_ends p n) in
    read_so (record { extent = Free 1; previous = p; next = n }) (block.FreeOne p n) bytes rest any (low, high) plain whole (on_first (block.FreeOne p n) bytes test)

one_reads : (atoms p n : ℕ) (any bytes rest : List ℕ) → atoms ≡ 1 → bytes ≡ (head_of (free_head atoms p n) ++ any) ++ free_ending atoms → length bytes ≡ 16 * atoms → HasRoom p n (Free atoms) → tile_at (bytes ++ rest) ≡ Some (record { extent = Free atoms; previous = p; next = n })
one_reads atoms p n any bytes rest one is whole room =
    let P : ℕ → Type 0 = λ a. bytes ≡ (head_of (free_head a p n) ++ any) ++ free_ending a → length bytes ≡ 16 * a → tile_at (bytes ++ rest) ≡ Some (record { extent = Free a; previous = p; next = n }) in
    let at : P 1 = λ spelled long. at_one p n any bytes rest spelled long room.2 room.3 in
    subst P (sym one) at is whole

more_reads : (atoms p n : ℕ) (any bytes rest : List ℕ) → nat_eq atoms 1 ≡ false → bytes ≡ (head_of (free_head atoms p n) ++ any) ++ free_ending atoms → length bytes ≡ 16 * atoms → HasRoom p n (Free atoms) → tile_at (bytes ++ rest) ≡ Some (record { extent = Free atoms; previous = p; next = n })
more_reads atoms p n any bytes rest more is whole room =
    let b : Block = block.Free atoms p n in
    let end : List ℕ = as_bytes 7 atoms ++ 255 ∷ [] in
    let head_is : free_head atoms p n ≡ b = cond-false (nat_eq atoms 1) (block.FreeOne p n) b more in
    let end_is : free_ending atoms ≡ end = cond-false (nat_eq atoms 1) [] end more in
    let plain : bytes ≡ (head_of b ++ any) ++ end = is ∙ ap (λ z. (head_of z ++ any) ++ free_ending atoms) head_is ∙ ap (λ z. (head_of b ++ any) ++ z) end_is in
    let other = eqb-false atoms 1 more in
    let low = room.0 in
    let two : 2 ≤ atoms = two_or_more atoms low other in
    read_so (record { extent = Free atoms; previous = p; next = n }) b bytes rest (any ++ end) (two, room.1, room.2, room.3) (plain ∙ append_assoc (head_of b) any end) whole (on_first b bytes (ends_so bytes (head_of b ++ any) end plain))

free_reads : (atoms p n : ℕ) (any bytes rest : List ℕ) → bytes ≡ (head_of (free_head atoms p n) ++ any) ++ free_ending atoms → length bytes ≡ 16 * atoms → HasRoom p n (Free atoms) → tile_at (bytes ++ rest) ≡ Some (record { extent = Free atoms; previous = p; next = n })
free_reads atoms p n any bytes rest is whole room =
    elim (cases_Bool (nat_eq atoms 1)) [
      | inl one ↦ one_reads atoms p n any bytes rest (eqb-true atoms 1 one) is whole room
      | inr more ↦ more_reads atoms p n any bytes rest more is whole room
    ]

-- the bytes of a block are read as that block, whatever stands behind them
pub block_reads : (p n : ℕ) (e : Extent) (bytes rest : List ℕ) → IsBlock p n e bytes → is_block e ≡ true → tile_at (bytes ++ rest) ≡ Some (tile_for p n e)
block_reads p n (Used content) bytes rest is stands = used_reads content is.any bytes rest is.spelled is.whole is.room
block_reads p n (Compressed content) bytes rest is stands = compressed_reads content is.any bytes rest is.spelled is.whole is.room
block_reads p n (Moved target) bytes rest is stands = moved_reads target bytes rest is.spelled is.whole is.room
block_reads p n (Free atoms) bytes rest is stands = free_reads atoms p n is.any bytes rest is.spelled is.whole is.room
block_reads p n (Hole atoms) bytes rest is stands = absurd (cc)

pub tile_reads : (tile : Tile) (bytes rest : List ℕ) → IsTile tile bytes → tile_at (bytes ++ rest) ≡ Some tile
tile_reads tile bytes rest is = block_reads tile.previous tile.next tile.extent bytes rest is.spelled is.stands ∙ ap (λ (z : Tile). Some z) is.linked

some_tile : (t u : Tile) → Some t ≡ Some u → t ≡ u
some_tile t u is = cc

pub one_tile : (tile other : Tile) (bytes : List ℕ) → IsTile tile bytes → IsTile other bytes → tile ≡ other
one_tile tile other bytes first second = some_tile tile other (sym (tile_reads tile bytes [] first) ∙ tile_reads other bytes [] second)

-- the head of a block fixes where it ends
pub one_front : (tile other : Tile) (here there rest end : List ℕ) → here ++ rest ≡ there ++ end → IsTile tile here → IsTile other there → (tile ≡ other) × (here ≡ there)
one_front tile other here there rest end is first second =
    let same : tile ≡ other = some_tile tile other (sym (tile_reads tile here rest first) ∙ ap tile_at is ∙ tile_reads other there end second) in
    let count : length here ≡ 16 * size other.extent = first.spelled.whole ∙ ap (λ (z : Tile). 16 * size z.extent) same in
    (same, sym (take_at here rest (16 * size other.extent) count) ∙ ap (take (16 * size other.extent)) is ∙ take_at there end (16 * size other.extent) second.spelled.whole)
