use Rattle.std.proofs.Common.{length, arith}
use Rattle.lldb_atoms.proofs.Tiled.{found_tiles, tiles_found, one_tiling}
use Rattle.lldb_atoms.proofs.laws.tiling_laws.Goals as goal

pub returns : goal.returns
returns c = record {
  tiled = λ tiles bytes are. tiles_found (length bytes) bytes tiles are (omega arith);
  found = λ tiles bytes is. found_tiles (length bytes) bytes tiles is;
  one_tiling = one_tiling;
}
