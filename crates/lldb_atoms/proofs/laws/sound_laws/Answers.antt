use Rattle.lldb_atoms.proofs.Listed.{free_listed, only_listed}
use Rattle.lldb_atoms.proofs.Rising.{handles_rise}
use Rattle.lldb_atoms.proofs.Examples.{empty}
use Rattle.lldb_atoms.proofs.laws.sound_laws.Goals as goal

pub returns : goal.returns
returns c = record { empty = empty; rising = handles_rise; listed = free_listed; only = only_listed }
