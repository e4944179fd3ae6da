use Rattle.std.proofs.Common.{refl, length, [], ◌∷◌, arith}
use Rattle.lldb_atoms.specs.Blocks.{Hole}
use Rattle.lldb_atoms.proofs.Says.{atoms_some}
use Rattle.lldb_blocks.proofs.Rests.{unnamed}
use Rattle.lldb_blocks.proofs.Calls.{rest_parts, rest_used, rest_moved}
use Rattle.lldb_blocks.proofs.Moves.{Named_emptied, Named_replaced, Named_pointed, Named_unpointed}
use Rattle.lldb_blocks.proofs.laws.rest_laws.Goals as goal

pub returns : goal.returns
returns c = record {
  parts = rest_parts;
  used = rest_used;
  moved = rest_moved;
  emptied = Named_emptied;
  replaced = λ x c d r y solid some same named. Named_replaced x c d (Hole r ∷ []) y (refl, tt) solid (some, tt) (atoms_some (length d)) (omega (arith, same)) named;
  pointed = Named_pointed;
  unpointed = Named_unpointed;
  not_named = unnamed;
}
