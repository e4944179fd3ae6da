-- Bytes as a row of blocks, taken apart and put together.
use Rattle.std.proofs.Common.{◌≡◌, ℕ, ◌+◌, ◌*◌, ◌<◌, ◌≤◌, List, [], ◌∷◌, ◌++◌, length, refl, sym, ◌∙◌, ap, subst, arith, append_assoc, length-append}
use Rattle.lldb_atoms.specs.Blocks.{Extent, size, IsBlock}
use Rattle.lldb_atoms.specs.Rows.{atoms_in}
use Rattle.lldb_blocks.specs.Laid.{Solid, Tiles}

pub relinked : (p n p2 n2 : ℕ) (e : Extent) (x : List ℕ) → p2 ≡ p → n2 ≡ n → IsBlock p n e x → IsBlock p2 n2 e x
relinked p n p2 n2 e x first second is = subst (λ (a : ℕ). IsBlock a n2 e x) (sym first) (subst (λ (a : ℕ). IsBlock p a e x) (sym second) is)

-- links that are the same from an atom on
pub Tiles_same : (p n p2 n2 : ℕ → ℕ) (f : ℕ) (row : List Extent) (c : List ℕ) → ((q : ℕ) → f ≤ q → (p2 q ≡ p q) × (n2 q ≡ n q)) → Tiles p n f row c → Tiles p2 n2 f row c
Tiles_same p n p2 n2 f [] c same tiles = tiles
Tiles_same p n p2 n2 f (e ∷ row) c same (here, rest, is, block, more) =
    let two = same f (omega arith) in
    (here, rest, is, relinked (p f) (n f) (p2 f) (n2 f) e here two.0 two.1 block, Tiles_same p n p2 n2 (f + size e) row rest (λ q from. same q (omega (arith, from))) more)

-- links that are the same below the end of a row of which no block is without atoms
pub Tiles_same_below : (p n p2 n2 : ℕ → ℕ) (f : ℕ) (row : List Extent) (c : List ℕ) → Solid row → ((q : ℕ) → f ≤ q → q < f + atoms_in row → (p2 q ≡ p q) × (n2 q ≡ n q)) → Tiles p n f row c → Tiles p2 n2 f row c
Tiles_same_below p n p2 n2 f [] c solid same tiles = tiles
Tiles_same_below p n p2 n2 f (e ∷ row) c solid same (here, rest, is, block, more) =
    let some = solid.0 in
    let two = same f (omega arith) (omega (arith, some)) in
    (here, rest, is, relinked (p f) (n f) (p2 f) (n2 f) e here two.0 two.1 block, Tiles_same_below p n p2 n2 (f + size e) row rest solid.1 (λ q from below. same q (omega (arith, from)) (omega (arith, below))) more)

pub Tiles_length : (p n : ℕ → ℕ) (f : ℕ) (row : List Extent) (c : List ℕ) → Tiles p n f row c → length c ≡ 16 * atoms_in row
Tiles_length p n f [] c tiles = ap length tiles
Tiles_length p n f (e ∷ row) c (here, rest, is, block, more) =
    let behind = Tiles_length p n (f + size e) row rest more in
    let first = block.whole in
    ap length is ∙ length-append here rest ∙ omega (arith, behind, first)

pub Tiles_join : (p n : ℕ → ℕ) (f : ℕ) (x y : List Extent) (a b : List ℕ) → Tiles p n f x a → Tiles p n (f + atoms_in x) y b → Tiles p n f (x ++ y) (a ++ b)
Tiles_join p n f [] y a b first second =
    subst (λ (u : List ℕ). Tiles p n f y (u ++ b)) (sym first) (subst (λ (g : ℕ). Tiles p n g y b) (omega arith) second)
Tiles_join p n f (e ∷ x) y a b (here, rest, is, block, more) second = (
  here,
  rest ++ b,
  ap (λ (u : List ℕ). u ++ b) is ∙ append_assoc here rest b,
  block,
  Tiles_join p n (f + size e) x y rest b more (subst (λ (g : ℕ). Tiles p n g y b) (omega arith) second),
)

pub Tiles_split : (p n : ℕ → ℕ) (f : ℕ) (x y : List Extent) (c : List ℕ) → Tiles p n f (x ++ y) c → (a : List ℕ) × (b : List ℕ) × (c ≡ a ++ b) × Tiles p n f x a × Tiles p n (f + atoms_in x) y b
Tiles_split p n f [] y c tiles = ([], c, refl, refl, subst (λ (g : ℕ). Tiles p n g y c) (omega arith) tiles)
Tiles_split p n f (e ∷ x) y c (here, rest, is, block, more) =
    let parts = Tiles_split p n (f + size e) x y rest more in (
      here ++ parts.0,
      parts.1,
      is ∙ ap (λ (u : List ℕ). here ++ u) parts.2 ∙ sym (append_assoc here parts.0 parts.1),
      (here, parts.0, refl, block, parts.3),
      subst (λ (g : ℕ). Tiles p n g y parts.1) (omega arith) parts.4,
    )

-- a block of a row, with the bytes before and behind it
pub record Opened (p n : ℕ → ℕ) (f : ℕ) (x : List Extent) (e : Extent) (y : List Extent) (c : List ℕ) : Type 0 where
  pub front : List ℕ
  pub here : List ℕ
  pub rest : List ℕ
  pub is : c ≡ front ++ (here ++ rest)
  pub before : Tiles p n f x front
  pub block : IsBlock (p (f + atoms_in x)) (n (f + atoms_in x)) e here
  pub behind : Tiles p n ((f + atoms_in x) + size e) y rest

pub opened : (p n : ℕ → ℕ) (f : ℕ) (x : List Extent) (e : Extent) (y : List Extent) (c : List ℕ) → Tiles p n f (x ++ e ∷ y) c → Opened p n f x e y c
opened p n f x e y c tiles =
    let parts = Tiles_split p n f x (e ∷ y) c tiles in
    let own = parts.4 in
    record { front = parts.0; here = own.0; rest = own.1; is = parts.2 ∙ ap (λ (u : List ℕ). parts.0 ++ u) own.2; before = parts.3; block = own.3; behind = own.4 }

-- the same with another block of the same size, and with other links for it alone
pub closed : (p n p2 n2 : ℕ → ℕ) (f : ℕ) (x : List Extent) (e d : Extent) (y : List Extent) (front here2 rest : List ℕ) → Solid x → 1 ≤ size e → size d ≡ size e → ((q : ℕ) → (q ≡ f + atoms_in x → ⊥) → (p2 q ≡ p q) × (n2 q ≡ n q)) → Tiles p n f x front → IsBlock (p2 (f + atoms_in x)) (n2 (f + atoms_in x)) d here2 → Tiles p n ((f + atoms_in x) + size e) y rest → Tiles p2 n2 f (x ++ d ∷ y) (front ++ (here2 ++ rest))
closed p n p2 n2 f x e d y front here2 rest solid some same others before block behind =
    Tiles_join p2 n2 f x (d ∷ y) front (here2 ++ rest)
    (Tiles_same_below p n p2 n2 f x front solid (λ q from below. others q (λ is. absurd (omega (arith, is, below)))) before) (
      here2,
      rest,
      refl,
      block,
      subst (λ (s : ℕ). Tiles p2 n2 ((f + atoms_in x) + s) y rest) (sym same)
          (Tiles_same p n p2 n2 ((f + atoms_in x) + size e) y rest (λ q from. others q (λ is. absurd (omega (arith, is, from, some)))) behind),
    )
