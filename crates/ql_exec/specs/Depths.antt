-- Which statements ask for an open level.
use Rattle.std.specs.Prelude.{◌≡◌, ℕ, ◌<◌, Option}
use Rattle.ql_syntax.specs.declared.statement.Statement.{Statement}
use Rattle.ql_syntax.specs.declared.statement.Statement.TheVariants as s
use Rattle.ql_rel.specs.declared.db.Db.{Db}

-- so many levels are enough for a statement: none for a SELECT, and one for every other
abbrev pub IsDeepEnough : Statement → ℕ → Type 0
IsDeepEnough (s.Query select) levels = Unit {0}
IsDeepEnough _ levels = 0 < levels

-- a SELECT leaves the database, whatever it answers
abbrev pub LeavesDb : Statement → (before now : Option Db) → Type 0
LeavesDb (s.Query select) before now = now ≡ before
LeavesDb _ before now = Unit {0}
