-- A head is the only one that bytes begin with.
use Rattle.std.proofs.Common.{◌≡◌, ℕ, ◌+◌, ◌-◌, ◌≤◌, List, [], ◌∷◌, ◌++◌, length, drop, slice_index, Option, Some, None, refl, sym, ap, ◌∙◌, subst, append_assoc, arith}
use Rattle.std.proofs.lemmas.Bool.{le-leb, cond-true}
use Rattle.lldb_atoms.specs.declared.block.Block.{Block}
use Rattle.lldb_atoms.specs.declared.block.Block.TheVariants as block
use Rattle.lldb_atoms.specs.Numbers.{as_bytes, number_in}
use Rattle.lldb_atoms.specs.Heads.{head_of, atoms_of, IsValid, HasHead, spoken_by, head_at}
use Rattle.lldb_atoms.proofs.AsBytes.{reads_back, two_read}
use Rattle.lldb_atoms.proofs.Judged.{checked_says, checked_reads, split_head}

grouped : (a b c d : List ℕ) → ((a ++ b) ++ c) ++ d ≡ a ++ (b ++ (c ++ d))
grouped a b c d = simp append_assoc

same_two : (f : ℕ → ℕ → Block) (a b c d : ℕ) → a ≡ c → b ≡ d → f a b ≡ f c d
same_two f a b c d left right = ap (λ (z : ℕ). f z b) left ∙ ap (f c) right

same_three : (f : ℕ → ℕ → ℕ → Block) (a b c d e g : ℕ) → a ≡ d → b ≡ e → c ≡ g → f a b c ≡ f d e g
same_three f a b c d e g one two three = ap (λ (z : ℕ). f z b c) one ∙ same_two (f d) b c e g two three

twice : (a b : ℕ) (rest : List ℕ) → drop 14 (as_bytes 7 a ++ (as_bytes 7 b ++ rest)) ≡ rest
unfolding as_bytes
twice a b rest = refl

said : (b : Block) (rest : List ℕ) → IsValid b → spoken_by (slice_index (head_of b ++ rest) 0) (head_of b ++ rest) ≡ b
said (block.Short length) rest valid = cond-true _ _ _ (le-leb length 251 valid)
said (block.Long length) rest valid =
    let back : number_in 2 (as_bytes 2 (length - 252) ++ rest) ≡ length - 252 = reads_back 2 (length - 252) rest (omega arith) in
    let sum : 252 + number_in 2 (as_bytes 2 (length - 252) ++ rest) ≡ length = omega arith in
    ap (λ (z : ℕ). block.Long z) sum
said (block.Relocated target) rest valid =
    let zeros : List ℕ = 0 ∷ 0 ∷ 0 ∷ 0 ∷ 0 ∷ 0 ∷ 0 ∷ 0 ∷ [] in
    ap (λ (z : ℕ). block.Relocated z) (ap (number_in 7) (append_assoc (as_bytes 7 target) zeros rest) ∙ reads_back 7 target (zeros ++ rest) valid)
said (block.FreeOne prev next) rest valid =
    let r = two_read prev next ((254 ∷ []) ++ rest) _ (grouped (as_bytes 7 prev) (as_bytes 7 next) (254 ∷ []) rest) valid.0 valid.1 in
    same_two (λ p n. block.FreeOne p n) _ _ prev next r.0 r.1
said (block.Free atoms prev next) rest valid =
    let all : List ℕ = ((as_bytes 7 atoms ++ as_bytes 7 prev) ++ as_bytes 7 next) ++ rest in
    let is : all ≡ as_bytes 7 atoms ++ (as_bytes 7 prev ++ (as_bytes 7 next ++ rest)) = grouped (as_bytes 7 atoms) (as_bytes 7 prev) (as_bytes 7 next) rest in
    let r = two_read atoms prev (as_bytes 7 next ++ rest) all is valid.1 valid.2 in
    let after : drop 14 all ≡ as_bytes 7 next ++ rest = ap (drop 14) is ∙ twice atoms prev (as_bytes 7 next ++ rest) in
    same_three (λ a p n. block.Free a p n) _ _ _ atoms prev next r.0 r.1 (ap (number_in 7) after ∙ reads_back 7 next rest valid.3)

-- the block with whose head bytes begin is the one that they speak of
pub spoken : (bytes : List ℕ) (b : Block) → HasHead bytes b → spoken_by (slice_index bytes 0) bytes ≡ b
spoken bytes b head =
    let P : List ℕ → Type 0 = λ z. spoken_by (slice_index z 0) z ≡ b in
    subst P (sym (split_head bytes b head)) (said b (drop (length (head_of b)) bytes) head.valid)

pub one_head : (bytes : List ℕ) (b c : Block) → HasHead bytes b → HasHead bytes c → b ≡ c
one_head bytes b c first second = sym (spoken bytes b first) ∙ spoken bytes c second

pub head_says : (left : ℕ) (bytes : List ℕ) (b : Block) → head_at left bytes ≡ Some b → HasHead bytes b × (atoms_of b ≤ left)
unfolding head_at
head_says left bytes b is = checked_says left bytes (spoken_by (slice_index bytes 0) bytes) b is

pub head_reads : (left : ℕ) (bytes : List ℕ) (b : Block) → HasHead bytes b → atoms_of b ≤ left → head_at left bytes ≡ Some b
unfolding head_at
head_reads left bytes b head room = rw (spoken bytes b head) (checked_reads left bytes b head room)

nothing_is : (o : Option Block) → ((b : Block) → o ≡ Some b → ⊥) → None ≡ o
nothing_is None none = refl
nothing_is (Some b) none = absurd (none b refl)

pub no_head : (left : ℕ) (bytes : List ℕ) → ((b : Block) → HasHead bytes b → atoms_of b ≤ left → ⊥) → None ≡ head_at left bytes
no_head left bytes none = nothing_is (head_at left bytes) (λ b is. none b (head_says left bytes b is).0 (head_says left bytes b is).1)
