use Rattle.lldb_blocks.proofs.Readings.{tile_found, head_found, before_found, block_ends, one_known, more_known, lays_new, fits_nowhere}
use Rattle.lldb_blocks.proofs.laws.read_laws.Goals as goal

pub returns : goal.returns
returns c = record { tile = tile_found; head = head_found; before = before_found; ends = block_ends; one = one_known; more = more_known; new = lays_new; nowhere = fits_nowhere }
