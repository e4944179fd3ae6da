use Rattle.std.proofs.Common.{arith}
use Rattle.lldb_alloc.proofs.Removed.{gap_past}
use Rattle.lldb_alloc.proofs.release.discard.Goals as goal

pub returns-then-size-at-clause-refuses : goal.returns-then-size-at-clause-refuses
returns-then-size-at-clause-refuses g c = gap_past (g.F.Filer.content c.args.filer.now) c.args.at c.args.atoms (g.F.Filer.size_of c.args.filer.now) (g.met.F.Filer.told_size c.args.filer.now c.requires.sound) (omega arith)
