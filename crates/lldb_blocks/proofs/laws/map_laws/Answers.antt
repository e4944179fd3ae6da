use Rattle.lldb_blocks.proofs.Heaps.{Rising_heap}
use Rattle.lldb_blocks.proofs.Moves.{moved_map, repointed_map, removed_map}
use Rattle.lldb_blocks.proofs.laws.map_laws.Goals as goal

pub returns : goal.returns
returns c = record { rises = Rising_heap; moved = moved_map; repointed = repointed_map; removed = removed_map }
