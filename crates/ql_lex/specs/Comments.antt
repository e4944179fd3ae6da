-- Comments between `/*` and `*/`, from behind the opening on.
use Rattle.std.specs.Prelude.{◌≡◌, ℕ, ◌≤◌, List, ◌++◌, length, codes}

-- the text has a `*/`, and none comes before the one that `rest` stands behind
pub record ClosesComment (text rest : List ℕ) : Type 0 where
  pub inside : List ℕ
  pub whole : text ≡ inside ++ (codes "*/" ++ rest)
  pub next : (before behind : List ℕ) → text ≡ before ++ (codes "*/" ++ behind) → length inside ≤ length before

-- the text has no `*/`
abbrev pub NeverCloses : List ℕ → Type 0
NeverCloses text = (before behind : List ℕ) → text ≡ before ++ (codes "*/" ++ behind) → ⊥
