use Rattle.std.proofs.Common.{◌≡◌, ◌++◌, [], ◌∷◌, ℕ, List, take}
use Rattle.std.specs.Prelude.{codes, map}
use Rattle.ql_syntax.specs.Ink.{listed, name, text_of}
use Rattle.ql_print.proofs.print_statements.add_names.Given as goal

abbrev pub invariant-names : goal.invariant-names
invariant-names l = l.out ≡ l.fn.out ++ codes " (" ++ text_of (listed (map (λ (x : List ℕ). name x ∷ []) (take l.i l.names)))
