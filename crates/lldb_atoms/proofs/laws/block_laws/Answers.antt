use Rattle.lldb_atoms.proofs.Spells.{tile_reads, one_front, one_tile}
use Rattle.lldb_atoms.proofs.Says.{tile_says}
use Rattle.lldb_atoms.proofs.laws.block_laws.Goals as goal

pub returns : goal.returns
returns c = record {
  read = tile_reads;
  spelled = λ tile bytes is. let front = tile_says tile bytes is in (front.here, front.rest, front.is, front.tile_is);
  one_front = one_front;
  one_block = one_tile;
}
