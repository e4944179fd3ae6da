use Rattle.std.proofs.Common.{◌≡◌, ◌++◌, [], ◌∷◌, take}
use Rattle.std.specs.Prelude.{map}
use Rattle.ql_syntax.specs.Ink.{space, text_of, between}
use Rattle.ql_syntax.specs.Printing.{ink_of_un}
use Rattle.ql_print.proofs.spelling.add_ops.Given as goal

abbrev pub invariant-ops : goal.invariant-ops
invariant-ops l = l.out ≡ l.fn.out ++ text_of (between (space ∷ []) (map (λ op. ink_of_un op ∷ []) (take l.i l.ops)))
