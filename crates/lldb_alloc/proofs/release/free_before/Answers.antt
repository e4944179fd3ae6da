use Rattle.lldb_alloc.proofs.Gaps.{ends_some}
use Rattle.lldb_alloc.proofs.release.free_before.Goals as goal

pub returns-clause-before : goal.returns-clause-before
returns-clause-before g c = ends_some (g.F.Filer.content c.args.filer.now) c.read_bytes.new.out c.args.at (g.F.Filer.size_of c.args.filer.now) c.ended_by.result (g.met.F.Filer.told_size c.args.filer.now c.requires.sound) c.requires.within c.requires.start c.in_ok-read_bytes.ensures.read c.ended_by.ensures.atoms
