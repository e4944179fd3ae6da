-- What a stop may leave, now and at each moment since an earlier one. What is left is a pair of files here, and a content,
-- a map or a database in the layers above.
use Rattle.std.specs.Prelude.{◌≡◌, ℕ, ◌≤◌, ◌⊎◌, length, IfSome}
use Rattle.ql_edge.specs.Told.{Told}

-- all that is left has P
abbrev pub Leaves : {C : Type 0} → (C → Type 0) → (C → Type 0) → Type 0
Leaves {C} left P = (c : C) → left c → P c

-- what a step makes of something that was left
abbrev pub After : {C : Type 0} → (C → C → Type 0) → (C → Type 0) → C → Type 0
After {C} step left c = (d : C) × left d × step d c

-- n bytes are shown, where it is told
abbrev pub HasShown : Told → ℕ → Type 0
HasShown told n = IfSome told (λ t. n ≡ length t.0)

-- n is a number of shown bytes between two states, where they are told
pub record IsBetween (before now : Told) (n : ℕ) : Type 0 where
  pub least : IfSome before (λ t. length t.0 ≤ n)
  pub most : IfSome now (λ t. n ≤ length t.0)

-- Time goes on. Each moment stays one, and at each further one R holds of the number of shown bytes and of what is left.
pub record AddsAt {C : Type 0} (before now : ℕ) (past since : ℕ → ℕ → C → Type 0) (R : ℕ → C → Type 0) : Type 0 where
  pub later : before ≤ now
  pub keeps : (t n : ℕ) (c : C) → past t n c → since t n c
  pub adds : (t n : ℕ) (c : C) → t ≤ before → since t n c → past t n c ⊎ R n c

-- The same, where what is left has P and the number of shown bytes has another property.
pub record Adds {C : Type 0} (before now : ℕ) (past since : ℕ → ℕ → C → Type 0) (P : C → Type 0) (shown : ℕ → Type 0) : Type 0 where
  pub later : before ≤ now
  pub keeps : (t n : ℕ) (c : C) → past t n c → since t n c
  pub adds : (t n : ℕ) (c : C) → t ≤ before → since t n c → past t n c ⊎ (P c × shown n)

-- The meanings of a layer in two states that are the same beside what is shown and warned.
pub record IsSameBut {C H : Type 0} (held_old held_new : H) (left_old left_new : C → Type 0) (before now : ℕ) (past since : ℕ → ℕ → C → Type 0) (told_old told_new : Told) : Type 0 where
  pub held : held_new ≡ held_old
  pub stops : Leaves left_new left_old
  pub stops_back : Leaves left_old left_new
  pub moments : Adds before now past since left_new (IsBetween told_old told_new)
