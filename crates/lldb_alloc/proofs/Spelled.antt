-- The bytes of a used block as they are written.
use Rattle.std.proofs.Common.{◌≡◌, ℕ, ◌+◌, ◌-◌, ◌*◌, ◌/◌, ◌<◌, ◌≤◌, leb, List, [], ◌∷◌, ◌++◌, length, take, drop, Option, Some, None, option_map, refl, sym, ◌∙◌, ap, subst, inl, inr, arith, append_assoc, append-nil, length-append, take_at, le-leb}
use Rattle.std.proofs.lemmas.Bool.{cases_lt, cond-true, cond-false, lt-leb}
use Rattle.std.proofs.lemmas.List.{length-drop, length-take-le}
use Rattle.std.proofs.Math.ListN.{drop_of_length-le}
use Rattle.std.specs.Option.{IsSomeAnd}
use Rattle.lldb_base.specs.Batch.{put}
use Rattle.lldb_base.specs.Contents.{atoms_for}
use Rattle.lldb_atoms.specs.declared.block.Block.{Block}
use Rattle.lldb_atoms.specs.declared.block.Block.TheVariants as block
use Rattle.lldb_atoms.specs.Heads.{head_of}
use Rattle.lldb_atoms.specs.Blocks.{Used, used_head, IsBlock}
use Rattle.lldb_atoms.proofs.AsBytes.{length-as_bytes}
use Rattle.lldb_blocks.proofs.Places.{put_start, put_behind}
use Rattle.lldb_blocks.proofs.Readings.{used_spelled}
use Rattle.lldb_alloc.specs.Changes.{Turns, WritesUsed}

pub short_used : (n m : ℕ) → n ≡ m → m ≤ 251 → block.Short n ≡ used_head m
short_used n m is small = ap block.Short is ∙ sym (cond-true (leb m 251) (block.Short m) (block.Long m) (le-leb m 251 small))

pub long_used : (n m : ℕ) → n ≡ m → 251 < m → block.Long n ≡ used_head m
long_used n m is large = ap block.Long is ∙ sym (cond-false (leb m 251) (block.Short m) (block.Long m) (lt-leb m 251 large))

-- how many bytes a content takes
short_atoms : (n : ℕ) → n ≤ 251 → atoms_for n ≡ (n + 1) / 16 + 1
short_atoms n small = cond-true (leb n 251) ((n + 1) / 16 + 1) ((n + 3) / 16 + 1) (le-leb n 251 small)

long_atoms : (n : ℕ) → 251 < n → atoms_for n ≡ (n + 3) / 16 + 1
long_atoms n large = cond-false (leb n 251) ((n + 1) / 16 + 1) ((n + 3) / 16 + 1) (lt-leb n 251 large)

pub short_bytes : (n : ℕ) → n ≤ 251 → 16 * atoms_for n ≤ 256
short_bytes n small = let is = short_atoms n small in omega (arith, is, small)

pub long_bytes : (n : ℕ) → n ≤ 65787 → 16 * atoms_for n ≤ 65792
long_bytes n most = elim (cases_lt 251 n) [
  | inl large ↦ let is = long_atoms n large in omega (arith, is, most)
  | inr small ↦ let is = short_atoms n small in omega (arith, is, small)
]

head_length : (n : ℕ) → length (head_of (used_head n)) + n + 1 ≤ 16 * atoms_for n
head_length n = elim (cases_lt 251 n) [
  | inl large ↦
      let is = long_atoms n large in
      let two = length-as_bytes 2 (n - 252) in
      let three : length (head_of (used_head n)) ≡ length (head_of (block.Long n)) = ap (λ (b : Block). length (head_of b)) (sym (long_used n n refl large)) in
      omega (arith, is, two, three)
  | inr small ↦
      let is = short_atoms n small in
      let one : length (head_of (used_head n)) ≡ 1 = ap (λ (b : Block). length (head_of b)) (sym (short_used n n refl small)) in
      omega (arith, is, one)
]

pub head_room : (n count : ℕ) → count ≡ length (head_of (used_head n)) → count + n + 1 ≤ 16 * atoms_for n
head_room n count is = let fits = head_length n in omega (arith, is, fits)

-- head, content and a last byte, laid over other bytes
pub block_spelled : (u z b piece b1 b2 b3 : List ℕ) (k last : ℕ) → length u ≤ 65787 → k ≡ length (head_of (used_head (length u))) → piece ≡ take k (head_of (used_head (length u)) ++ z) → length b ≡ 16 * atoms_for (length u) → b1 ≡ put 0 piece b → b2 ≡ put k u b1 → last + 1 ≡ 16 * atoms_for (length u) → b3 ≡ put last (0 ∷ []) b2 → IsBlock 0 0 (Used u) b3
block_spelled u z b piece b1 b2 b3 k last most count head whole first second final third =
    let h : List ℕ = head_of (used_head (length u)) in
    let t : List ℕ = drop (length h) b in
    let r : List ℕ = drop (length u) t in
    let fits = head_length (length u) in
    let front : piece ≡ h = head ∙ take_at h z k (sym count) in
    let one : b1 ≡ h ++ t = first ∙ ap (λ (p : List ℕ). put 0 p b) front ∙ put_start h b in
    let at_head : k ≡ length h + 0 = omega (arith, count) in
    let two : b2 ≡ h ++ (u ++ r) = second ∙ ap (λ (w : List ℕ). put k u w) one ∙ ap (λ (n : ℕ). put n u (h ++ t)) at_head ∙ put_behind h t u 0 ∙ ap (λ (w : List ℕ). h ++ w) (put_start u t) in
    let flat : b2 ≡ (h ++ u) ++ r = two ∙ sym (append_assoc h u r) in
    let long_t : length t ≡ length b - length h = length-drop (length h) b in
    let long_r : length r ≡ length t - length u = length-drop (length u) t in
    let long_hu : length (h ++ u) ≡ length h + length u = length-append h u in
    let j : ℕ = length r - 1 in
    let place : last ≡ length (h ++ u) + j = omega (arith, fits, long_t, long_r, long_hu, whole, final) in
    let end_is : j + 1 ≡ length r = omega (arith, fits, long_t, long_r, whole) in
    let any : List ℕ = take j r in
    let long_any : length any ≡ j = length-take-le j r (omega (arith, end_is)) in
    let tail : put j (0 ∷ []) r ≡ any ++ 0 ∷ [] = ap (λ (w : List ℕ). (any ++ 0 ∷ []) ++ w) (drop_of_length-le r (omega (arith, end_is))) ∙ append-nil (any ++ 0 ∷ []) in
    let three : b3 ≡ (h ++ u) ++ (any ++ 0 ∷ []) = third ∙ ap (λ (w : List ℕ). put last (0 ∷ []) w) flat ∙ ap (λ (n : ℕ). put n (0 ∷ []) ((h ++ u) ++ r)) place ∙ put_behind (h ++ u) r (0 ∷ []) j ∙ ap (λ (w : List ℕ). (h ++ u) ++ w) tail in
    let done : b3 ≡ ((h ++ u) ++ any) ++ 0 ∷ [] = three ∙ sym (append_assoc (h ++ u) any (0 ∷ [])) in
    let sum : length h + length u + length any + 1 ≡ 16 * atoms_for (length u) = omega (arith, fits, long_t, long_r, long_any, end_is, whole) in
    subst (λ (w : List ℕ). IsBlock 0 0 (Used u) w) (sym done) (used_spelled 0 0 u any most sum)

-- what is told once it is written
pub used_told : (before after : Option (List ℕ)) (at : ℕ) (u piece : List ℕ) → IsBlock 0 0 (Used u) piece → after ≡ option_map (put (16 * at) piece) before → Turns before after (WritesUsed at u)
used_told None after at u piece spelled is = tt
used_told (Some c) after at u piece spelled is = subst (λ (o : Option (List ℕ)). IsSomeAnd o (λ d. WritesUsed at u c d)) (sym is) (piece, spelled, refl)
