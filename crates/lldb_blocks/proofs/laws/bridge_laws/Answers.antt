use Rattle.lldb_blocks.proofs.Bridges.{sound_lays, lays_sound, lays_heap}
use Rattle.lldb_blocks.proofs.laws.bridge_laws.Goals as goal

pub returns : goal.returns
returns c = record { lays = sound_lays; sound = lays_sound; heap_is = lays_heap }
