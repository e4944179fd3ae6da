-- What a device has shown and warned, where it tells its bytes.
use Rattle.std.specs.Prelude.{◌≡◌, ℕ, ◌≤◌, List, ◌++◌, length, take, Option, Some, None, option_map}

-- the bytes shown and the bytes warned, or nothing where they are not told
abbrev pub Told : Type 0
Told = Option (List ℕ × List ℕ)

-- the same with a piece more shown
abbrev pub with_shown : List ℕ → Told → Told
with_shown piece None = None
with_shown piece (Some t) = Some (t.0 ++ piece, t.1)

-- the same with a piece more warned
abbrev pub with_warned : List ℕ → Told → Told
with_warned piece None = None
with_warned piece (Some t) = Some (t.0, t.1 ++ piece)

-- the bytes shown, where they are told
abbrev pub shown_of : Told → Option (List ℕ)
shown_of told = option_map (λ t. t.0) told

-- the bytes warned, where they are told
abbrev pub warned_of : Told → Option (List ℕ)
warned_of told = option_map (λ t. t.1) told

-- a front of a text was shown, and nothing else
pub record ShowsFront (text : List ℕ) (before now : Told) : Type 0 where
  pub count : ℕ
  pub within : count ≤ length text
  pub told : now ≡ with_shown (take count text) before
