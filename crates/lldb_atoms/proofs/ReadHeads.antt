-- What the bytes of a head say, by the first one.
use Rattle.std.proofs.Common.{◌≡◌, ℕ, ◌+◌, ◌^◌, ◌≤◌, ◌<◌, true, false, List, [], ◌∷◌, ◌++◌, length, take, drop, get_or, slice_index, Some, None, refl, sym, ap, ◌∙◌, subst, append_assoc, length-drop, arith, nat_eq}
use Rattle.std.specs.List.{starts_with}
use Rattle.std.proofs.lemmas.Bool.{both_ways}
use Rattle.std.proofs.lemmas.List.{take_all, take-append-drop}
use Rattle.std.proofs.Math.Seq.{take-append_seam}
use borrow.Rule.Slice.PartMut.{mid_of}
use Rattle.lldb_atoms.specs.declared.block.Block.{Block}
use Rattle.lldb_atoms.specs.declared.block.Block.TheVariants as block
use Rattle.lldb_atoms.specs.Numbers.{as_bytes, number_in}
use Rattle.lldb_atoms.specs.Heads.{head_of, atoms_of, IsValid, HasHead, spoken_by, head_at}
use Rattle.lldb_atoms.proofs.AsBytes.{same_number}
use Rattle.lldb_atoms.proofs.Judged.{begins, begun, split_head}
use Rattle.lldb_atoms.proofs.Spoken.{spoken, one_head, head_reads, no_head}

pub headed : (bytes : List ℕ) (b : Block) (rest : List ℕ) → IsValid b → bytes ≡ head_of b ++ rest → HasHead bytes b
headed bytes b rest valid is = record { valid = valid; written = ap (take (length (head_of b))) is ∙ take-append_seam (head_of b) rest }

-- a slice to the end
to_end : (xs : List ℕ) (at count : ℕ) → length xs ≡ at + count → mid_of at count xs ≡ drop at xs
to_end xs at count long = let size = length-drop at xs in take_all count (drop at xs) (omega arith)

-- seven bytes behind the first one, and those behind them
behind_first : (head piece zs : List ℕ) (first : ℕ) → slice_index head 0 ≡ first → length head ≡ 32 → piece ≡ take 7 (mid_of 1 31 head) → mid_of 8 24 head ≡ zs → head ≡ ((first ∷ []) ++ piece) ++ zs
behind_first [] piece zs first is long spelled rest = absurd (omega arith)
behind_first (h ∷ tail) piece zs first is long spelled rest =
    let seven : piece ≡ take 7 tail = spelled ∙ ap (take 7) (to_end (h ∷ tail) 1 31 long) in
    let more : drop 7 tail ≡ zs = sym (to_end (h ∷ tail) 8 24 long) ∙ rest in
    let parts : tail ≡ piece ++ zs = sym (take-append-drop 7 tail) ∙ ap (λ (z : List ℕ). z ++ drop 7 tail) (sym seven) ∙ ap (λ (z : List ℕ). piece ++ z) more in
    ap (λ (z : ℕ). z ∷ tail) is ∙ ap (λ (z : List ℕ). first ∷ z) parts

abbrev zeros : List ℕ
zeros = 0 ∷ 0 ∷ 0 ∷ 0 ∷ 0 ∷ 0 ∷ 0 ∷ 0 ∷ []

pub relocated_head : (head : List ℕ) (target : ℕ) → slice_index head 0 ≡ 253 → length head ≡ 32 → target < 2 ^ 56 → as_bytes 7 target ≡ take 7 (mid_of 1 31 head) → starts_with nat_eq (mid_of 8 24 head) zeros ≡ true
    → HasHead head (block.Relocated target)
relocated_head head target first long small spelled test =
    let rest : List ℕ = mid_of 8 24 head in
    let begin : take 8 rest ≡ zeros = begins rest zeros test in
    let more : rest ≡ zeros ++ drop 8 rest = sym (take-append-drop 8 rest) ∙ ap (λ (z : List ℕ). z ++ drop 8 rest) begin in
    headed head (block.Relocated target) (drop 8 rest) small
    (behind_first head (as_bytes 7 target) (zeros ++ drop 8 rest) 253 first long spelled more ∙ sym (append_assoc ((253 ∷ []) ++ as_bytes 7 target) zeros (drop 8 rest)))

-- the block with whose head bytes begin, by the first byte
by_first : (head : List ℕ) (b : Block) (first : ℕ) → slice_index head 0 ≡ first → HasHead head b → HasHead head (spoken_by first head)
by_first head b first is has =
    let same : b ≡ spoken_by first head = sym (spoken head b has) ∙ ap (λ (n : ℕ). spoken_by n head) is in
    subst (HasHead head) same has

drop_relocated : (t : ℕ) (rest : List ℕ) → drop 8 (head_of (block.Relocated t) ++ rest) ≡ zeros ++ rest
unfolding as_bytes
drop_relocated t rest = refl

pub not_relocated : (head : List ℕ) → slice_index head 0 ≡ 253 → length head ≡ 32 → starts_with nat_eq (mid_of 8 24 head) zeros ≡ false → (b : Block) → HasHead head b → ⊥
not_relocated head first long test b has =
    let target : ℕ = number_in 7 (drop 1 head) in
    let here : HasHead head (block.Relocated target) = by_first head b 253 first has in
    let rest : List ℕ = drop (length (head_of (block.Relocated target))) head in
    let is : mid_of 8 24 head ≡ zeros ++ rest = to_end head 8 24 long ∙ ap (drop 8) (split_head head (block.Relocated target) here) ∙ drop_relocated target rest in
    both_ways _ test (begun (mid_of 8 24 head) zeros (ap (take 8) is))

fifteenth : (p n : ℕ) (rest : List ℕ) → get_or (head_of (block.FreeOne p n) ++ rest) 15 0 ≡ 254
unfolding as_bytes
fifteenth p n rest = refl

pub not_one : (head : List ℕ) → slice_index head 0 ≡ 254 → (get_or head 15 0 ≡ 254 → ⊥) → (b : Block) → HasHead head b → ⊥
not_one head first test b has =
    let p : ℕ = number_in 7 (drop 1 head) in
    let n : ℕ = number_in 7 (drop 8 head) in
    let here : HasHead head (block.FreeOne p n) = by_first head b 254 first has in
    let rest : List ℕ = drop (length (head_of (block.FreeOne p n))) head in
    test (ap (λ (z : List ℕ). get_or z 15 0) (split_head head (block.FreeOne p n) here) ∙ fifteenth p n rest)

seven_of_free : (a p n : ℕ) (rest : List ℕ) → take 7 (drop 1 (head_of (block.Free a p n) ++ rest)) ≡ as_bytes 7 a
unfolding as_bytes
seven_of_free a p n rest = refl

pub not_free : (head : List ℕ) (atoms : ℕ) → slice_index head 0 ≡ 255 → length head ≡ 32 → atoms < 2 → as_bytes 7 atoms ≡ take 7 (mid_of 1 31 head) → (b : Block) → HasHead head b → ⊥
not_free head atoms first long few spelled b has =
    let a : ℕ = number_in 7 (drop 1 head) in
    let p : ℕ = number_in 7 (drop 8 head) in
    let n : ℕ = number_in 7 (drop 15 head) in
    let here : HasHead head (block.Free a p n) = by_first head b 255 first has in
    let rest : List ℕ = drop (length (head_of (block.Free a p n))) head in
    let is : as_bytes 7 atoms ≡ as_bytes 7 a =
    spelled ∙ ap (take 7) (to_end head 1 31 long) ∙ ap (λ (z : List ℕ). take 7 (drop 1 z)) (split_head head (block.Free a p n) here) ∙ seven_of_free a p n rest in
    let valid = here.valid in
    let same : atoms ≡ a = same_number 7 atoms a (omega arith) valid.1 is in
    omega (arith, valid.0)

-- the block that was read, and room for it
pub read_some : (left : ℕ) (head : List ℕ) (b : Block) → HasHead head b → atoms_of b ≤ left → Some b ≡ head_at left head
read_some left head b has room = sym (head_reads left head b has room)

pub read_only : (head : List ℕ) (b c : Block) → HasHead head b → HasHead head c → Some b ≡ Some c
read_only head b c first second = ap (λ (z : Block). Some z) (one_head head b c first second)

no_room : (left : ℕ) (head : List ℕ) (b c : Block) → HasHead head b → left < atoms_of b → HasHead head c → atoms_of c ≤ left → ⊥
no_room left head b c has over other room =
    let P : Block → Type 0 = λ z. atoms_of z ≤ left in
    let here : atoms_of b ≤ left = subst P (sym (one_head head b c has other)) room in
    omega arith

pub read_none : (left : ℕ) (head : List ℕ) (b : Block) → HasHead head b → left < atoms_of b → None ≡ head_at left head
read_none left head b has over = no_head left head (λ c other room. no_room left head b c has over other room)

pub none_only : (left : ℕ) (head : List ℕ) (b : Block) → HasHead head b → left < atoms_of b → (c : Block) → HasHead head c → atoms_of c ≤ left → None ≡ Some c
none_only left head b has over c other room = absurd (no_room left head b c has over other room)

pub nothing_read : (left : ℕ) (head : List ℕ) → ((b : Block) → HasHead head b → ⊥) → None ≡ head_at left head
nothing_read left head none = no_head left head (λ b has room. none b has)
