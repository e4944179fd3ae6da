-- What holds of findings.
use Rattle.std.specs.Prelude.{◌≡◌, ℕ, true, List, [], ◌⊎◌}
use Rattle.lldb_atoms.specs.Sound.{is_sound}
use Rattle.lldb_verify.specs.Findings.{findings}

-- a content is as it should be
abbrev pub IsClean : List ℕ → Type 0
IsClean content = (content ≡ []) ⊎ (is_sound content ≡ true)

-- nothing is found exactly where a content is empty or sound
pub record FindingsLaws : Type 0 where
  pub clean : (content : List ℕ) → findings content ≡ [] → IsClean content
  pub none : (content : List ℕ) → IsClean content → findings content ≡ []
