-- A block is seen by its head and its last eight bytes.
use Rattle.std.proofs.Common.{◌≡◌, ℕ, ◌+◌, ◌-◌, ◌*◌, ◌/◌, ◌≤◌, ◌<◌, min, Bool, true, false, cond, List, [], ◌∷◌, ◌++◌, length, take, drop, Option, Some, None, IfSome, option_and_then, option_map, refl, sym, ◌∙◌, ap, arith, length-append, length-drop, nat_eq, nat_le}
use Rattle.std.specs.List.{ends_with}
use Rattle.std.specs.Cmp.Lexicographic.{pointwise}
use Rattle.std.proofs.lemmas.Bool.{cond_both, leb-true}
use Rattle.std.proofs.lemmas.List.{take-take, drop-take, drop-drop, length-take-le}
use Rattle.lldb_base.specs.Contents.{atoms_for}
use Rattle.lldb_atoms.specs.declared.block.Block.{Block}
use Rattle.lldb_atoms.specs.declared.block.Block.TheVariants as block
use Rattle.lldb_atoms.specs.Numbers.{as_bytes}
use Rattle.lldb_atoms.specs.Heads.{head_of, ending_of, atoms_of, IsValid, head_at}
use Rattle.lldb_atoms.specs.Blocks.{Tile, tile_of, compressed_of, tile_on, tile_at}
use Rattle.lldb_atoms.proofs.AsBytes.{length-as_bytes}
use Rattle.lldb_atoms.proofs.Says.{atoms_some}
use Rattle.lldb_atoms.proofs.Spoken.{head_says, head_reads}
use Rattle.std.proofs.Math.Seq.{take-append_seam}
use Rattle.lldb_verify.specs.Reads.{seen_of, seen_atoms, plain_of, compressed_as}
use Rattle.lldb_verify.specs.declared.seen.Seen.{Seen}
use Rattle.lldb_verify.specs.declared.seen.Seen.TheVariants as seen

-- the bytes of a content that its head tells lie within its block
content_long : (n front : ℕ) (z : List ℕ) → n + front ≤ length z → length (take n (drop front z)) ≡ n
content_long n front z room =
    let left = length-drop front z in
    length-take-le n (drop front z) (omega (arith, left, room))

short_room : (n : ℕ) → n ≤ 251 → n + 1 ≤ 16 * atoms_for n
short_room n low = cond_both (nat_le n 251) ((n + 1) / 16 + 1) ((n + 3) / 16 + 1) (λ k. n + 1 ≤ 16 * k) (λ test. omega arith) (λ test. omega arith)

long_room : (n : ℕ) → 252 ≤ n → n + 3 ≤ 16 * atoms_for n
long_room n high = cond_both (nat_le n 251) ((n + 1) / 16 + 1) ((n + 3) / 16 + 1) (λ k. n + 3 ≤ 16 * k) (λ test. let low = leb-true n 251 test in omega (arith, high, low)) (λ test. omega arith)

-- a block that ends as its head wants
plain_seen : (b : Block) (z : List ℕ) → IsValid b → length z ≡ 16 * atoms_of b → seen_of (tile_of b z) ≡ plain_of b
plain_seen (block.Short n) z valid whole = let room = short_room n valid in ap (λ (k : ℕ). seen.Used (atoms_for k)) (content_long n 1 z (omega (arith, room, whole)))
plain_seen (block.Long n) z valid whole = let room = long_room n valid.0 in ap (λ (k : ℕ). seen.Used (atoms_for k)) (content_long n 3 z (omega (arith, room, whole)))
plain_seen (block.Relocated t) z valid whole = refl
plain_seen (block.FreeOne p n) z valid whole = refl
plain_seen (block.Free s p n) z valid whole = refl

-- a block that ends in a 1
compressed_seen : (b : Block) (z : List ℕ) → IsValid b → length z ≡ 16 * atoms_of b → option_map seen_of (compressed_of b z) ≡ compressed_as b
compressed_seen (block.Short n) z valid whole = let room = short_room n valid in ap (λ (k : ℕ). Some (seen.Compressed (atoms_for k))) (content_long n 1 z (omega (arith, room, whole)))
compressed_seen (block.Long n) z valid whole = let room = long_room n valid.0 in ap (λ (k : ℕ). Some (seen.Compressed (atoms_for k))) (content_long n 3 z (omega (arith, room, whole)))
compressed_seen (block.Relocated t) z valid whole = refl
compressed_seen (block.FreeOne p n) z valid whole = refl
compressed_seen (block.Free s p n) z valid whole = refl

-- a block has an atom
pub atoms_above : (b : Block) → IsValid b → 1 ≤ atoms_of b
atoms_above (block.Short n) valid = atoms_some n
atoms_above (block.Long n) valid = atoms_some n
atoms_above (block.Relocated t) valid = omega arith
atoms_above (block.FreeOne p n) valid = omega arith
atoms_above (block.Free s p n) valid = let some = valid.0 in omega (arith, some)

-- an ending has eight bytes at most
pub ending_short : (b : Block) → length (ending_of b) ≤ 8
ending_short (block.Short n) = omega arith
ending_short (block.Long n) = omega arith
ending_short (block.Relocated t) = omega arith
ending_short (block.FreeOne p n) = omega arith
ending_short (block.Free s p n) =
    let long = length-append (as_bytes 7 s) (255 ∷ []) in
    omega (arith, long, length-as_bytes 7 s)

-- how bytes end is seen at the last eight
end_same : (z e : List ℕ) → length e ≤ 8 → 8 ≤ length z → ends_with nat_eq (drop (length z - 8) z) e ≡ ends_with nat_eq z e
end_same z e short long =
    let last = length-drop (length z - 8) z in
    let eight : length (drop (length z - 8) z) ≡ 8 = omega (arith, last, long) in
    let sum : (length z - 8) + (length (drop (length z - 8) z) - length e) ≡ length z - length e = omega (arith, eight, short, long) in
    let there : drop (length (drop (length z - 8) z) - length e) (drop (length z - 8) z) ≡ drop (length z - length e) z =
    drop-drop (length (drop (length z - 8) z) - length e) (length z - 8) z ∙ ap (λ (k : ℕ). drop k z) sum in
    ap (λ (xs : List ℕ). pointwise nat_eq e xs) there

-- the three ways in which a block may end
chosen : (own one : Bool) (t : Tile) (o : Option Tile) (a : Bool) → a ≡ own → a ≡ true → option_map seen_of (cond own (Some t) (cond one o None)) ≡ Some (seen_of t)
chosen true one t o a same is = refl
chosen false one t o a same is = absurd (cc)

chosen_one : (own one : Bool) (t : Tile) (o : Option Tile) (a b : Bool) → a ≡ own → a ≡ false → b ≡ one → b ≡ true → option_map seen_of (cond own (Some t) (cond one o None)) ≡ option_map seen_of o
chosen_one true one t o a b same is same_one is_one = absurd (cc)
chosen_one false true t o a b same is same_one is_one = refl
chosen_one false false t o a b same is same_one is_one = absurd (cc)

chosen_none : (own one : Bool) (t : Tile) (o : Option Tile) (a b : Bool) → a ≡ own → a ≡ false → b ≡ one → b ≡ false → option_map seen_of (cond own (Some t) (cond one o None)) ≡ None
chosen_none true one t o a b same is same_one is_one = absurd (cc)
chosen_none false true t o a b same is same_one is_one = absurd (cc)
chosen_none false false t o a b same is same_one is_one = refl

same_end : (b : Block) (end z e : List ℕ) (r : Bool) → IsValid b → length e ≤ 8 → length z ≡ 16 * atoms_of b → end ≡ drop (length z - 8) z → r ≡ ends_with nat_eq end e → r ≡ ends_with nat_eq z e
same_end b end z e r valid short whole is test =
    let some = atoms_above b valid in
    test ∙ ap (λ (x : List ℕ). ends_with nat_eq x e) is ∙ end_same z e short (omega (arith, some, whole))

pub ends_plain : (b : Block) (end z : List ℕ) (s : Seen) (r : Bool) → IsValid b → s ≡ plain_of b → r ≡ ends_with nat_eq end (ending_of b) → r ≡ true → length z ≡ 16 * atoms_of b → end ≡ drop (length z - 8) z → Some s ≡ option_map seen_of (tile_on b z)
ends_plain b end z s r valid seen test own whole is =
    let same = same_end b end z (ending_of b) r valid (ending_short b) whole is test in
    ap (λ (x : Seen). Some x) (seen ∙ sym (plain_seen b z valid whole)) ∙ sym (chosen (ends_with nat_eq z (ending_of b)) (ends_with nat_eq z (1 ∷ [])) (tile_of b z) (compressed_of b z) r same own)

pub ends_one : (b : Block) (end z : List ℕ) (o : Option Seen) (r t : Bool) → IsValid b → o ≡ compressed_as b → r ≡ ends_with nat_eq end (ending_of b) → r ≡ false → t ≡ ends_with nat_eq end (1 ∷ []) → t ≡ true → length z ≡ 16 * atoms_of b → end ≡ drop (length z - 8) z → o ≡ option_map seen_of (tile_on b z)
ends_one b end z o r t valid seen test own one_test one whole is =
    let same = same_end b end z (ending_of b) r valid (ending_short b) whole is test in
    let same_one = same_end b end z (1 ∷ []) t valid (omega arith) whole is one_test in
    seen ∙ sym (compressed_seen b z valid whole) ∙ sym (chosen_one (ends_with nat_eq z (ending_of b)) (ends_with nat_eq z (1 ∷ [])) (tile_of b z) (compressed_of b z) r t same own same_one one)

pub ends_other : (b : Block) (end z : List ℕ) (r t : Bool) → IsValid b → r ≡ ends_with nat_eq end (ending_of b) → r ≡ false → t ≡ ends_with nat_eq end (1 ∷ []) → t ≡ false → length z ≡ 16 * atoms_of b → end ≡ drop (length z - 8) z → None ≡ option_map seen_of (tile_on b z)
ends_other b end z r t valid test own one_test one whole is =
    let same = same_end b end z (ending_of b) r valid (ending_short b) whole is test in
    let same_one = same_end b end z (1 ∷ []) t valid (omega arith) whole is one_test in
    sym (chosen_none (ends_with nat_eq z (ending_of b)) (ends_with nat_eq z (1 ∷ [])) (tile_of b z) (compressed_of b z) r t same own same_one one)

-- the bytes of an ending that were written into others
pub ending_taken : (e old out : List ℕ) (count : ℕ) → count ≡ length e → out ≡ e ++ drop (length e) old → take count out ≡ e
ending_taken e old out count is written = ap (λ (k : ℕ). take k out) is ∙ ap (take (length e)) written ∙ take-append_seam e (drop (length e) old)

-- a head has 22 bytes at most, and lies within its block
head_fits : (b : Block) → IsValid b → length (head_of b) ≤ min 32 (16 * atoms_of b)
head_fits (block.Short n) valid = let some = atoms_some n in omega (arith, some)
head_fits (block.Long n) valid = let some = atoms_some n in omega (arith, some, length-as_bytes 2 (n - 252))
head_fits (block.Relocated t) valid = simp length-append (omega (arith, length-as_bytes 7 t))
head_fits (block.FreeOne p n) valid = simp length-append (omega (arith, length-as_bytes 7 p, length-as_bytes 7 n))
head_fits (block.Free a p n) valid = simp length-append (omega (arith, valid.0, length-as_bytes 7 a, length-as_bytes 7 p, length-as_bytes 7 n))

same_front : (k n : ℕ) (a b : List ℕ) → k ≤ n → take n a ≡ take n b → take k a ≡ take k b
same_front k n a b below same = sym (take-take k n a below) ∙ ap (λ (u : List ℕ). take k u) same ∙ take-take k n b below

-- a head that is read in bytes is read in others that begin so
head_over : (left n : ℕ) (x y : List ℕ) (b : Block) → 16 * left ≤ n → take (min 32 n) x ≡ take (min 32 n) y → head_at left x ≡ Some b → head_at left y ≡ Some b
head_over left n x y b room same is =
    let says = head_says left x b is in
    let fits = head_fits b says.0.valid in
    let within = says.1 in
    let written = sym (same_front (length (head_of b)) (min 32 n) x y (omega (arith, fits, within, room)) same) ∙ says.0.written in
    head_reads left y b (record { valid = says.0.valid; written = written }) says.1

same_option : (a b : Option Block) → ((t : Block) → a ≡ Some t → b ≡ Some t) → ((t : Block) → b ≡ Some t → a ≡ Some t) → a ≡ b
same_option (Some t) b there back = sym (there t refl)
same_option None (Some t) there back = back t refl
same_option None None there back = refl

head_same : (left n : ℕ) (x y : List ℕ) → 16 * left ≤ n → take (min 32 n) x ≡ take (min 32 n) y → head_at left x ≡ head_at left y
head_same left n x y room same = same_option (head_at left x) (head_at left y) (λ b. head_over left n x y b room same) (λ b. head_over left n y x b room (sym same))

-- how many atoms are left
left_atoms : (c : List ℕ) (atom size : ℕ) → length c ≡ size → length (drop (16 * atom) c) / 16 ≡ size / 16 - atom
left_atoms c atom size long = let left = length-drop (16 * atom) c in omega (arith, left, long)

-- the block at an atom by its head
tile_by_head : (c front : List ℕ) (atom size : ℕ) (o : Option Block) → length c ≡ size → atom < size / 16 → take (min 32 (size - 16 * atom)) front ≡ take (min 32 (size - 16 * atom)) (drop (16 * atom) c) → o ≡ head_at (size / 16 - atom) front
    → tile_at (drop (16 * atom) c) ≡ option_and_then (λ b. tile_on b (take (16 * atoms_of b) (drop (16 * atom) c))) o
unfolding tile_at
tile_by_head c front atom size o long within same is =
    let head : head_at (length (drop (16 * atom) c) / 16) (drop (16 * atom) c) ≡ o =
    ap (λ (k : ℕ). head_at k (drop (16 * atom) c)) (left_atoms c atom size long) ∙ sym (head_same (size / 16 - atom) (size - 16 * atom) front (drop (16 * atom) c) (omega arith) same) ∙ sym is in
    ap (option_and_then (λ b. tile_on b (take (16 * atoms_of b) (drop (16 * atom) c)))) head

-- no block, where no head stands
pub sees_none : (told : Option (List ℕ)) (front : List ℕ) (atom size : ℕ) → IfSome told (λ c. length c ≡ size) → atom < size / 16 → IfSome told (λ c. take (min 32 (size - 16 * atom)) front ≡ take (min 32 (size - 16 * atom)) (drop (16 * atom) c)) → None ≡ head_at (size / 16 - atom) front
    → IfSome told (λ c. None ≡ option_map seen_of (tile_at (drop (16 * atom) c)))
sees_none None front atom size long within same is = tt
sees_none (Some c) front atom size long within same is = sym (ap (option_map seen_of) (tile_by_head c front atom size None long within same is))

-- the last eight bytes of a block
last_eight : (c end : List ℕ) (atom n : ℕ) → 1 ≤ n → 16 * (atom + n) ≤ length c → end ≡ take 8 (drop (16 * (atom + n) - 8) c) → end ≡ drop (length (take (16 * n) (drop (16 * atom) c)) - 8) (take (16 * n) (drop (16 * atom) c))
last_eight c end atom n some room is =
    let left = length-drop (16 * atom) c in
    let whole : length (take (16 * n) (drop (16 * atom) c)) ≡ 16 * n = length-take-le (16 * n) (drop (16 * atom) c) (omega (arith, left, room)) in
    let k : ℕ = 16 * n - 8 in
    let place : 16 * (atom + n) - 8 ≡ 16 * atom + k = omega (arith, some) in
    let parts : 16 * n ≡ k + 8 = omega (arith, some) in
    let start : length (take (16 * n) (drop (16 * atom) c)) - 8 ≡ k = omega (arith, whole) in
    is ∙ ap (λ (j : ℕ). take 8 (drop j c)) place ∙ ap (take 8) (sym (drop-drop k (16 * atom) c))
    ∙ sym (drop-take k 8 (drop (16 * atom) c))
    ∙ ap (λ (j : ℕ). drop k (take j (drop (16 * atom) c))) (sym parts)
    ∙ ap (λ (j : ℕ). drop j (take (16 * n) (drop (16 * atom) c))) (sym start)

-- the block with a head, by its last eight bytes
pub sees_block : (told : Option (List ℕ)) (front end : List ℕ) (atom size n : ℕ) (b : Block) (s : Option Seen) → IfSome told (λ c. length c ≡ size) → atom < size / 16 → IfSome told (λ c. take (min 32 (size - 16 * atom)) front ≡ take (min 32 (size - 16 * atom)) (drop (16 * atom) c)) → Some b ≡ head_at (size / 16 - atom) front
    → n ≡ atoms_of b → IfSome told (λ c. end ≡ take 8 (drop (16 * (atom + n) - 8) c))
    → ((z : List ℕ) → length z ≡ 16 * atoms_of b → end ≡ drop (length z - 8) z → s ≡ option_map seen_of (tile_on b z))
    → IfSome told (λ c. s ≡ option_map seen_of (tile_at (drop (16 * atom) c)))
sees_block None front end atom size n b s long within same is count last judged = tt
sees_block (Some c) front end atom size n b s long within same is count last judged =
    let says = head_says (size / 16 - atom) front b (sym is) in
    let room = says.1 in
    let some = atoms_above b says.0.valid in
    let fits : 16 * (atom + atoms_of b) ≤ length c = omega (arith, room, within, long) in
    let left = length-drop (16 * atom) c in
    let z : List ℕ = take (16 * atoms_of b) (drop (16 * atom) c) in
    let whole : length z ≡ 16 * atoms_of b = length-take-le (16 * atoms_of b) (drop (16 * atom) c) (omega (arith, left, fits)) in
    let there : end ≡ take 8 (drop (16 * (atom + atoms_of b) - 8) c) = last ∙ ap (λ (k : ℕ). take 8 (drop (16 * (atom + k) - 8) c)) count in
    judged z whole (last_eight c end atom (atoms_of b) some fits there) ∙ sym (ap (option_map seen_of) (tile_by_head c front atom size (Some b) long within same is))

-- a block that is seen lies within the content
pub sees_within : (s : Option Seen) (b : Block) (atom size : ℕ) → IfSome s (λ x. seen_atoms x ≡ atoms_of b) → IsValid b → atoms_of b ≤ size / 16 - atom → atom < size / 16 → IfSome s (λ x. (1 ≤ seen_atoms x) × (atom + seen_atoms x ≤ size / 16))
sees_within None b atom size is valid room within = tt
sees_within (Some x) b atom size is valid room within =
    let some = atoms_above b valid in
    (omega (arith, is, some), omega (arith, is, room, within))

-- bytes of a content that are held
pub read_held : (told : Option (List ℕ)) (bytes out : List ℕ) (start held at n k : ℕ) → IfSome told (λ c. take held bytes ≡ take held (drop start c)) → start ≤ at → at + n ≤ start + held → k ≡ n → out ≡ take k (drop (at - start) bytes) → IfSome told (λ c. out ≡ take n (drop at c))
read_held None bytes out start held at n k same low high count is = tt
read_held (Some c) bytes out start held at n k same low high count is =
    let j : ℕ = at - start in
    let m : ℕ = held - j in
    let all : held ≡ j + m = omega (arith, low, high) in
    let short : n ≤ m = omega (arith, low, high) in
    let parts : take m (drop j bytes) ≡ take m (drop j (drop start c)) =
    sym (drop-take j m bytes) ∙ ap (λ (i : ℕ). drop j (take i bytes)) (sym all) ∙ ap (drop j) same ∙ ap (λ (i : ℕ). drop j (take i (drop start c))) all ∙ drop-take j m (drop start c) in
    let place : drop j (drop start c) ≡ drop at c = drop-drop j start c ∙ ap (λ (i : ℕ). drop i c) (omega (arith, low)) in
    is ∙ ap (λ (i : ℕ). take i (drop j bytes)) count ∙ sym (take-take n m (drop j bytes) short) ∙ ap (take n) parts ∙ take-take n m (drop j (drop start c)) short ∙ ap (take n) place
