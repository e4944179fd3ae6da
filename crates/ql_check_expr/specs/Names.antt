-- What the checker's names and places stand for.
use Rattle.std.specs.Prelude.{◌≡◌, ℕ, List, [], ◌∷◌, Option, Some, None}
use Rattle.std.specs.Borrow.{Bor}
use Rattle.ql_syntax.specs.declared.typed.Typed.TheVariants as t
use Rattle.ql_syntax.specs.declared.checked.Checked.{Checked}
use Rattle.ql_syntax.specs.declared.scope.RowPlace.{RowPlace}
use Rattle.ql_syntax.specs.Checked.{of_type}
use Rattle.ql_check_expr.specs.declared.scope.Hit.{Hit}
use Rattle.ql_check_expr.specs.declared.scope.Hit.TheVariants as hit

-- the bytes of a name, if there is one
abbrev pub bytes_of : Option (Bor (List ℕ)) → Option (List ℕ)
bytes_of None = None
bytes_of (Some name) = Some name.now

-- an expression that is a place
abbrev pub place_of : RowPlace → Checked
place_of f = of_type f.typing (t.Place f.at)

-- two places or more
abbrev pub AreSeveral : List RowPlace → Type 0
AreSeveral (f ∷ g ∷ more) = Unit {0}
AreSeveral _ = ⊥

-- how many places there are, and the only one
abbrev pub Hits : Hit → List RowPlace → Type 0
Hits hit.Nothing list = list ≡ []
Hits (hit.One found) list = list ≡ found ∷ []
Hits hit.Several list = AreSeveral list
