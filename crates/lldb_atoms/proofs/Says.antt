-- What is read as a block is spelled so.
use Rattle.std.proofs.Common.{◌≡◌, ℕ, ◌+◌, ◌-◌, ◌*◌, ◌/◌, ◌^◌, ◌≤◌, ◌<◌, ◌⊎◌, inl, inr, Bool, true, false, cond, List, [], ◌∷◌, ◌++◌, length, take, drop, Option, Some, None, refl, sym, ap, ◌∙◌, subst, append_assoc, length-append, length-drop, arith, nat_eq, nat_le}
use Rattle.std.specs.List.{ends_with}
use Rattle.std.proofs.lemmas.Bool.{cond_both, cond-true, cond-false, le-leb, lt-leb, ne_eqb}
use Rattle.std.proofs.lemmas.List.{take-append-drop, length-take-le, append-nil, drop_at}
use Rattle.std.proofs.lemmas.Option.{option_and_then_some}
use Rattle.std.proofs.Math.Seq.{take-append-add, drop-append-add}
use Rattle.lldb_base.specs.Contents.{atoms_for}
use Rattle.lldb_atoms.specs.declared.block.Block.{Block}
use Rattle.lldb_atoms.specs.declared.block.Block.TheVariants as block
use Rattle.lldb_atoms.specs.Numbers.{as_bytes}
use Rattle.lldb_atoms.specs.Heads.{head_of, atoms_of, IsValid, HasHead, head_at}
use Rattle.lldb_atoms.specs.Blocks.{Used, Compressed, Moved, Free, Tile, unlinked, tile_of, compressed_of, tile_on, tile_at, used_head, free_head, free_ending, IsBlock}
use Rattle.lldb_atoms.specs.Laws.{IsTile}
use Rattle.lldb_atoms.proofs.AsBytes.{length-as_bytes}
use Rattle.lldb_atoms.proofs.Judged.{ends, split_head}
use Rattle.lldb_atoms.proofs.Spoken.{head_says}
use Rattle.lldb_atoms.proofs.Spells.{small_place, large_place}

pub atoms_some : (n : ℕ) → 1 ≤ atoms_for n
atoms_some n = cond_both (nat_le n 251) ((n + 1) / 16 + 1) ((n + 3) / 16 + 1) (λ k. 1 ≤ k) (λ test. omega arith) (λ test. omega arith)

-- a head lies within its block
head_fits : (b : Block) → IsValid b → length (head_of b) ≤ 16 * atoms_of b
head_fits (block.Short n) valid = let some = atoms_some n in omega arith
head_fits (block.Long n) valid = let some = atoms_some n in omega (arith, length-as_bytes 2 (n - 252))
head_fits (block.Relocated t) valid = simp length-append (omega (arith, length-as_bytes 7 t))
head_fits (block.FreeOne p n) valid = simp length-append (omega (arith, length-as_bytes 7 p, length-as_bytes 7 n))
head_fits (block.Free a p n) valid = simp length-append (omega (arith, valid.0, length-as_bytes 7 a, length-as_bytes 7 p, length-as_bytes 7 n))

-- a front, and an ending behind what is between
last_of : (head more here end : List ℕ) → here ≡ head ++ more → length end ≤ length more → drop (length here - length end) here ≡ end → here ≡ (head ++ take (length more - length end) more) ++ end
last_of head more here end is short last =
    let k : ℕ = length more - length end in
    let size = length-append head more in
    let long : length here ≡ length (head ++ more) = ap length is in
    let place : length here - length end ≡ length head + k = omega arith in
    let moved : drop (length here - length end) here ≡ drop k more = ap (drop (length here - length end)) is ∙ ap (λ j. drop j (head ++ more)) place ∙ drop-append-add head more k in
    let parts : more ≡ take k more ++ end = sym (take-append-drop k more) ∙ ap (λ z. take k more ++ z) (sym moved ∙ last) in
    is ∙ ap (λ z. head ++ z) parts ∙ sym (append_assoc head (take k more) end)

either_end : (a b : Bool) (x : Tile) (y : Option Tile) (t : Tile) → cond a (Some x) (cond b y None) ≡ Some t → ((a ≡ true) × (x ≡ t)) ⊎ ((b ≡ true) × (y ≡ Some t))
either_end true b x y t is = inl (refl, cc)
either_end false true x y t is = inr (refl, is)
either_end false false x y t is = absurd (cc)

-- the parts of a used block: its content, what may be any, and the last byte
record HasParts (b : Block) (n front last : ℕ) (here : List ℕ) : Type 0 where
  any : List ℕ
  long : length (take n (drop front here)) ≡ n
  spelled : here ≡ ((head_of b ++ take n (drop front here)) ++ any) ++ last ∷ []

parts_of : (b : Block) (n front last : ℕ) (here more : List ℕ) → length (head_of b) ≡ front → (front + n) + 1 ≤ 16 * atoms_for n → here ≡ head_of b ++ more → length here ≡ 16 * atoms_for n → ends_with nat_eq here (last ∷ []) ≡ true
    → HasParts b n front last here
parts_of b n front last here more long place is whole test =
    let size = length-append (head_of b) more in
    let total : length here ≡ length (head_of b ++ more) = ap length is in
    let behind : drop front here ≡ more = ap (drop front) is ∙ drop_at (head_of b) more front long in
    let content : List ℕ = take n more in
    let same : take n (drop front here) ≡ content = ap (take n) behind in
    let rest : List ℕ = drop n more in
    let left = length-drop n more in
    let apart : here ≡ (head_of b ++ content) ++ rest = is ∙ ap (λ z. head_of b ++ z) (sym (take-append-drop n more)) ∙ sym (append_assoc (head_of b) content rest) in
    let end = ends here (last ∷ []) test in
    let ended : here ≡ ((head_of b ++ content) ++ take (length rest - 1) rest) ++ last ∷ [] = last_of (head_of b ++ content) rest here (last ∷ []) apart (omega arith) end in
    record {
      any = take (length rest - 1) rest;
      long = ap length same ∙ length-take-le n more (omega arith);
      spelled = ended ∙ ap (λ z. ((head_of b ++ z) ++ take (length rest - 1) rest) ++ last ∷ []) (sym same);
    }

used_block : (b : Block) (n front : ℕ) (here : List ℕ) → b ≡ used_head n → n ≤ 65787 → HasParts b n front 0 here → length here ≡ 16 * atoms_for n → IsTile (unlinked (Used (take n (drop front here)))) here
used_block b n front here is most parts whole =
    let content : List ℕ = take n (drop front here) in
    let head : head_of b ≡ head_of (used_head (length content)) = ap head_of is ∙ ap (λ k. head_of (used_head k)) (sym parts.long) in
    let block : IsBlock 0 0 (Used content) here = record {
      any = parts.any;
      spelled = parts.spelled ∙ ap (λ z. ((z ++ content) ++ parts.any) ++ 0 ∷ []) head;
      whole = whole ∙ ap (λ k. 16 * atoms_for k) (sym parts.long);
      room = subst (λ k. k ≤ 65787) (sym parts.long) most;
    } in
    record { spelled = block; stands = refl; linked = refl }

compressed_block : (b : Block) (n front : ℕ) (here : List ℕ) → b ≡ used_head n → n ≤ 65787 → HasParts b n front 1 here → length here ≡ 16 * atoms_for n → IsTile (unlinked (Compressed (take n (drop front here)))) here
compressed_block b n front here is most parts whole =
    let content : List ℕ = take n (drop front here) in
    let head : head_of b ≡ head_of (used_head (length content)) = ap head_of is ∙ ap (λ k. head_of (used_head k)) (sym parts.long) in
    let block : IsBlock 0 0 (Compressed content) here = record {
      any = parts.any;
      spelled = parts.spelled ∙ ap (λ z. ((z ++ content) ++ parts.any) ++ 1 ∷ []) head;
      whole = whole ∙ ap (λ k. 16 * atoms_for k) (sym parts.long);
      room = subst (λ k. k ≤ 65787) (sym parts.long) most;
    } in
    record { spelled = block; stands = refl; linked = refl }

some_tile : (t u : Tile) → Some t ≡ Some u → t ≡ u
some_tile t u is = cc

no_tile : (t : Tile) → None ≡ Some t → ⊥
no_tile t is = cc

length_free : (a p n : ℕ) → length (head_of (block.Free a p n)) ≡ 22
unfolding as_bytes
length_free a p n = refl

no_length : (ns : List ℕ) → length ns ≡ 0 → ns ≡ []
no_length [] is = refl
no_length (n ∷ ns) is = absurd (omega arith)

length_relocated : (target : ℕ) → length (head_of (block.Relocated target)) ≡ 16
unfolding as_bytes
length_relocated target = refl

moved_block : (target : ℕ) (here more : List ℕ) → target < 2 ^ 56 → here ≡ head_of (block.Relocated target) ++ more → length here ≡ 16 → IsTile (unlinked (Moved target)) here
moved_block target here more small is whole =
    let head : List ℕ = head_of (block.Relocated target) in
    let size = length-append head more in
    let count = length_relocated target in
    let total : length here ≡ length (head ++ more) = ap length is in
    let none : more ≡ [] = no_length more (omega arith) in
    let block : IsBlock 0 0 (Moved target) here = record { any = []; spelled = is ∙ ap (λ z. head ++ z) none ∙ append-nil head; whole = whole; room = small } in
    record { spelled = block; stands = refl; linked = refl }

one_block : (p n : ℕ) (here more : List ℕ) → (p < 2 ^ 56) × (n < 2 ^ 56) → here ≡ head_of (block.FreeOne p n) ++ more → length here ≡ 16 → IsTile (record { extent = Free 1; previous = p; next = n }) here
one_block p n here more small is whole =
    let block : IsBlock p n (Free 1) here = record { any = more; spelled = is ∙ sym (append-nil (head_of (block.FreeOne p n) ++ more)); whole = whole; room = (omega arith, omega arith, small.0, small.1) } in
    record { spelled = block; stands = refl; linked = refl }

free_block : (a p n : ℕ) (here more : List ℕ) → (2 ≤ a) × (a < 2 ^ 56) × (p < 2 ^ 56) × (n < 2 ^ 56) → here ≡ head_of (block.Free a p n) ++ more → length here ≡ 16 * a
    → ends_with nat_eq here (as_bytes 7 a ++ 255 ∷ []) ≡ true → IsTile (record { extent = Free a; previous = p; next = n }) here
free_block a p n here more small is whole test =
    let head : List ℕ = head_of (block.Free a p n) in
    let end : List ℕ = as_bytes 7 a ++ 255 ∷ [] in
    let size = length-append head more in
    let total : length here ≡ length (head ++ more) = ap length is in
    let count = length_free a p n in
    let eight : length end ≡ 8 = length-append (as_bytes 7 a) (255 ∷ []) ∙ ap (λ k. k + 1) (length-as_bytes 7 a) in
    let low = small.0 in
    let many : nat_eq a 1 ≡ false = ne_eqb a 1 (λ one. absurd (omega arith)) in
    let head_is : head ≡ head_of (free_head a p n) = ap head_of (sym (cond-false (nat_eq a 1) (block.FreeOne p n) (block.Free a p n) many)) in
    let end_is : end ≡ free_ending a = sym (cond-false (nat_eq a 1) [] end many) in
    let any : List ℕ = take (length more - length end) more in
    let ended : here ≡ (head ++ any) ++ end = last_of head more here end is (omega arith) (ends here end test) in
    let block : IsBlock p n (Free a) here = record {
      any = any;
      spelled = ended ∙ ap (λ z. (z ++ any) ++ end) head_is ∙ ap (λ z. (head_of (free_head a p n) ++ any) ++ z) end_is;
      whole = whole;
      room = (omega arith, small.1, small.2, small.3);
    } in
    record { spelled = block; stands = refl; linked = refl }

-- what bytes with a head are, by how they end
on_says : (b : Block) (here more : List ℕ) (t : Tile) → IsValid b → here ≡ head_of b ++ more → length here ≡ 16 * atoms_of b → tile_on b here ≡ Some t → IsTile t here
on_says (block.Short n) here more t valid is whole on =
    let b : Block = block.Short n in
    let head : b ≡ used_head n = sym (cond-true (nat_le n 251) (block.Short n) (block.Long n) (le-leb n 251 valid)) in
    elim (either_end (ends_with nat_eq here (0 ∷ [])) (ends_with nat_eq here (1 ∷ [])) (tile_of b here) (compressed_of b here) t on) [
      | inl used ↦ subst (λ z. IsTile z here) used.1 (used_block b n 1 here head (omega arith) (parts_of b n 1 0 here more refl (small_place n valid) is whole used.0) whole)
      | inr other ↦ subst (λ z. IsTile z here) (some_tile _ _ other.1) (compressed_block b n 1 here head (omega arith) (parts_of b n 1 1 here more refl (small_place n valid) is whole other.0) whole)
    ]
on_says (block.Long n) here more t valid is whole on =
    let b : Block = block.Long n in
    let large : 251 < n = omega arith in
    let head : b ≡ used_head n = sym (cond-false (nat_le n 251) (block.Short n) (block.Long n) (lt-leb n 251 large)) in
    let three : length (head_of b) ≡ 3 = omega (arith, length-as_bytes 2 (n - 252)) in
    elim (either_end (ends_with nat_eq here (0 ∷ [])) (ends_with nat_eq here (1 ∷ [])) (tile_of b here) (compressed_of b here) t on) [
      | inl used ↦ subst (λ z. IsTile z here) used.1 (used_block b n 3 here head valid.1 (parts_of b n 3 0 here more three (large_place n large) is whole used.0) whole)
      | inr other ↦ subst (λ z. IsTile z here) (some_tile _ _ other.1) (compressed_block b n 3 here head valid.1 (parts_of b n 3 1 here more three (large_place n large) is whole other.0) whole)
    ]
on_says (block.Relocated target) here more t valid is whole on =
    let b : Block = block.Relocated target in
    elim (either_end (ends_with nat_eq here (0 ∷ [])) (ends_with nat_eq here (1 ∷ [])) (tile_of b here) (compressed_of b here) t on) [
      | inl used ↦ subst (λ z. IsTile z here) used.1 (moved_block target here more valid is whole)
      | inr other ↦ absurd (no_tile t other.1)
    ]
on_says (block.FreeOne p n) here more t valid is whole on =
    let b : Block = block.FreeOne p n in
    elim (either_end (ends_with nat_eq here (254 ∷ [])) (ends_with nat_eq here (1 ∷ [])) (tile_of b here) (compressed_of b here) t on) [
      | inl used ↦ subst (λ z. IsTile z here) used.1 (one_block p n here more valid is whole)
      | inr other ↦ absurd (no_tile t other.1)
    ]
on_says (block.Free a p n) here more t valid is whole on =
    let b : Block = block.Free a p n in
    elim (either_end (ends_with nat_eq here (as_bytes 7 a ++ 255 ∷ [])) (ends_with nat_eq here (1 ∷ [])) (tile_of b here) (compressed_of b here) t on) [
      | inl used ↦ subst (λ z. IsTile z here) used.1 (free_block a p n here more valid is whole used.0)
      | inr other ↦ absurd (no_tile t other.1)
    ]

-- a front of bytes that is a block, and what stands behind it
pub record Front (bytes : List ℕ) (tile : Tile) : Type 0 where
  pub here : List ℕ
  pub rest : List ℕ
  pub is : bytes ≡ here ++ rest
  pub tile_is : IsTile tile here

head_on : (bytes : List ℕ) (b : Block) (t : Tile) → HasHead bytes b × (atoms_of b ≤ length bytes / 16) → tile_on b (take (16 * atoms_of b) bytes) ≡ Some t → Front bytes t
head_on bytes b t says on =
    let count : ℕ = 16 * atoms_of b in
    let room = says.1 in
    let head = says.0 in
    let here : List ℕ = take count bytes in
    let front : ℕ = length (head_of b) in
    let fits : front ≤ count = head_fits b head.valid in
    let behind : List ℕ = drop front bytes in
    let long : length here ≡ count = length-take-le count bytes (omega arith) in
    let sum : count ≡ front + (count - front) = omega arith in
    let is : here ≡ head_of b ++ take (count - front) behind =
    ap (take count) (split_head bytes b head) ∙ ap (λ k. take k (head_of b ++ behind)) sum ∙ take-append-add (head_of b) behind (count - front) in
    record { here = here; rest = drop count bytes; is = sym (take-append-drop count bytes); tile_is = on_says b here (take (count - front) behind) t head.valid is long on }

pub tile_says : (tile : Tile) (bytes : List ℕ) → tile_at bytes ≡ Some tile → Front bytes tile
unfolding tile_at
tile_says tile bytes is =
    option_and_then_some (λ b. tile_on b (take (16 * atoms_of b) bytes)) (head_at (length bytes / 16) bytes) tile is
    (λ b found on. head_on bytes b tile (head_says (length bytes / 16) bytes b found) on)
