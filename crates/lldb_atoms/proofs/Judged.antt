-- What the tests of heads mean.
use Rattle.std.proofs.Common.{◌≡◌, ℕ, ◌-◌, ◌^◌, ◌≤◌, subst, Bool, true, false, cond, List, ◌++◌, length, take, drop, Some, None, refl, sym, ap, ◌∙◌, nat_eq}
use Rattle.std.specs.List.{starts_with, ends_with}
use Rattle.std.proofs.lemmas.Bool.{and_parts, and_from, leb-true, le-leb, lt-ltb, ltb-true}
use Rattle.std.proofs.lemmas.Bool.Decides.{Decides-eqb}
use Rattle.std.proofs.lemmas.List.{take-append-drop}
use Rattle.std.proofs.lemmas.Slice.Eq.{slice_eq-Decides}
use Rattle.lldb_atoms.specs.declared.block.Block.{Block}
use Rattle.lldb_atoms.specs.declared.block.Block.TheVariants as block
use Rattle.lldb_atoms.specs.Heads.{head_of, atoms_of, IsValid, is_valid, HasHead, checked}

pub begins : (bytes front : List ℕ) → starts_with nat_eq bytes front ≡ true → take (length front) bytes ≡ front
begins bytes front test = sym ((slice_eq-Decides Decides-eqb front (take (length front) bytes) _ refl).0 test)

pub begun : (bytes front : List ℕ) → take (length front) bytes ≡ front → starts_with nat_eq bytes front ≡ true
begun bytes front is = (slice_eq-Decides Decides-eqb front (take (length front) bytes) _ refl).1 (sym is)

pub ends : (bytes end : List ℕ) → ends_with nat_eq bytes end ≡ true → drop (length bytes - length end) bytes ≡ end
ends bytes end test = sym ((slice_eq-Decides Decides-eqb end (drop (length bytes - length end) bytes) _ refl).0 test)

pub ended : (bytes end : List ℕ) → drop (length bytes - length end) bytes ≡ end → ends_with nat_eq bytes end ≡ true
ended bytes end is = (slice_eq-Decides Decides-eqb end (drop (length bytes - length end) bytes) _ refl).1 (sym is)

pub valid_says : (b : Block) → is_valid b ≡ true → IsValid b
valid_says (block.Short length) test = leb-true length 251 test
valid_says (block.Long length) test =
    let parts = and_parts _ _ test in
    (leb-true 252 length parts.0, leb-true length 65787 parts.1)
valid_says (block.Relocated target) test = ltb-true target (2 ^ 56) test
valid_says (block.FreeOne prev next) test =
    let parts = and_parts _ _ test in
    (ltb-true prev (2 ^ 56) parts.0, ltb-true next (2 ^ 56) parts.1)
valid_says (block.Free atoms prev next) test =
    let one = and_parts _ _ test in
    let two = and_parts _ _ one.1 in
    let three = and_parts _ _ two.1 in
    (leb-true 2 atoms one.0, ltb-true atoms (2 ^ 56) two.0, ltb-true prev (2 ^ 56) three.0, ltb-true next (2 ^ 56) three.1)

pub valid_tests : (b : Block) → IsValid b → is_valid b ≡ true
valid_tests (block.Short length) valid = le-leb length 251 valid
valid_tests (block.Long length) valid = and_from _ _ (le-leb 252 length valid.0) (le-leb length 65787 valid.1)
valid_tests (block.Relocated target) valid = lt-ltb target (2 ^ 56) valid
valid_tests (block.FreeOne prev next) valid = and_from _ _ (lt-ltb prev (2 ^ 56) valid.0) (lt-ltb next (2 ^ 56) valid.1)
valid_tests (block.Free atoms prev next) valid =
    and_from _ _ (le-leb 2 atoms valid.0) (and_from _ _ (lt-ltb atoms (2 ^ 56) valid.1) (and_from _ _ (lt-ltb prev (2 ^ 56) valid.2) (lt-ltb next (2 ^ 56) valid.3)))

chosen : (test : Bool) (b c : Block) → cond test (Some b) None ≡ Some c → (test ≡ true) × (b ≡ c)
chosen true b c is = (refl, cc)
chosen false b c is = absurd (cc)

pub checked_says : (left : ℕ) (bytes : List ℕ) (b c : Block) → checked left bytes b ≡ Some c → HasHead bytes c × (atoms_of c ≤ left)
checked_says left bytes b c is =
    let tests = chosen _ b c is in
    let one = and_parts _ _ tests.0 in
    let two = and_parts _ _ one.1 in
    let P : Block → Type 0 = λ b. HasHead bytes b × (atoms_of b ≤ left) in
    subst P tests.1 (record { valid = valid_says b one.0; written = begins bytes (head_of b) two.1 }, leb-true (atoms_of b) left two.0)

pub checked_reads : (left : ℕ) (bytes : List ℕ) (b : Block) → HasHead bytes b → atoms_of b ≤ left → checked left bytes b ≡ Some b
checked_reads left bytes b head room =
    rw (and_from _ _ (valid_tests b head.valid) (and_from _ _ (le-leb (atoms_of b) left room) (begun bytes (head_of b) head.written))) refl

-- bytes with a head, and those behind it
pub split_head : (bytes : List ℕ) (b : Block) → HasHead bytes b → bytes ≡ head_of b ++ drop (length (head_of b)) bytes
split_head bytes b head = sym (take-append-drop (length (head_of b)) bytes) ∙ ap (λ (z : List ℕ). z ++ drop (length (head_of b)) bytes) head.written
