-- Logs of findings.
use Rattle.std.specs.Prelude.{ℕ, Bool, true, nat_lt, List, [], ◌∷◌, Option, Some, None}
use Rattle.lldb_verify.specs.declared.finding.Finding.{Finding}

-- whether a list of so many findings is shorter than its bound, where it has one
abbrev pub has_room : Option ℕ → ℕ → Bool
has_room None told = true
has_room (Some bound) told = nat_lt told bound

-- the finding that is kept, as a list
abbrev pub kept_one : Option Finding → List Finding
kept_one None = []
kept_one (Some finding) = finding ∷ []
