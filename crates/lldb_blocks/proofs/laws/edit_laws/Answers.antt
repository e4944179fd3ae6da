use Rattle.std.proofs.Common.{sym, ◌∙◌}
use Rattle.lldb_atoms.specs.Lists.{class_of}
use Rattle.lldb_atoms.proofs.Listed.{class_below}
use Rattle.lldb_blocks.proofs.Bridges.{head_read}
use Rattle.lldb_blocks.proofs.Lays.{lays_unlinked, lays_linked, lays_emptied, lays_joined, lays_parted, lays_filled, lays_cut, lays_grown, lays_length}
use Rattle.lldb_blocks.proofs.Rests.{released}
use Rattle.lldb_blocks.proofs.laws.edit_laws.Goals as goal

pub returns : goal.returns
returns c = record {
  unlinked = lays_unlinked;
  linked = λ x s y at old b c d e place is backward free sets l.
      lays_linked x s y at old b c d e place (class_below s) (λ h p n row spells. sym (head_read h p n b row (class_of s) (class_below s) spells) ∙ sym is) backward free sets l;
  emptied = lays_emptied;
  joined = lays_joined;
  parted = lays_parted;
  filled = lays_filled;
  cut = lays_cut;
  grown = lays_grown;
  length_is = lays_length;
  released = released;
}
