-- Contents by handle.
use Rattle.std.specs.Prelude.{ℕ, suc, ◌≤◌, [], ◌∷◌}
use Rattle.lldb_base.specs.Contents.{Contents}

-- handles rise, from one on
abbrev pub Rising : ℕ → Contents → Type 0
Rising from [] = Unit {0}
Rising from (entry ∷ contents) = (from ≤ entry.0) × Rising (suc entry.0) contents
