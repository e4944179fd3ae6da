use Rattle.std.proofs.Common.{refl, length, [], ◌∷◌, arith}
use Rattle.lldb_atoms.specs.Blocks.{Hole}
use Rattle.lldb_atoms.proofs.Says.{atoms_some}
use Rattle.lldb_blocks.proofs.Contents.{heap_emptied, heap_pointed, heap_unpointed}
use Rattle.lldb_blocks.proofs.Calls.{made_whole, made_part, made_last, empty_row, largest_below}
use Rattle.lldb_blocks.proofs.Moves.{heap_replaced, heap_target_replaced}
use Rattle.lldb_blocks.proofs.laws.heap_laws.Goals as goal

pub returns : goal.returns
returns c = record {
  made_whole = made_whole;
  made_part = λ x u r y more solid rest. made_part x u r y more solid rest (atoms_some (length u));
  made_last = λ x u solid rest. made_last x u solid rest (atoms_some (length u));
  first = empty_row;
  emptied = heap_emptied;
  replaced = λ x c d r y solid some same lacks. heap_replaced x c d (Hole r ∷ []) y (refl, tt) solid (some, tt) (atoms_some (length d)) (omega (arith, same)) lacks;
  target_replaced = λ x c d r y solid some same home from names distinct. heap_target_replaced x c d (Hole r ∷ []) y (refl, tt) solid (some, tt) (atoms_some (length d)) (omega (arith, same)) home from names distinct;
  pointed = heap_pointed;
  unpointed = heap_unpointed;
  largest_below = largest_below;
}
