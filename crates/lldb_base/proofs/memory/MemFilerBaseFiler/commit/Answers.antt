use Rattle.lldb_base.proofs.Pieces.{end_within}
use Rattle.lldb_base.proofs.memory.MemFilerBaseFiler.commit.Goals as goal

pub end-need-requires : goal.end-need-requires
end-need-requires c = end_within 0 _ _ _ _ c.requires.fits c.args.self.now.bytes_within
