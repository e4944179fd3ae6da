use Rattle.std.proofs.Common.{ap}
use Rattle.lldb_verify.specs.Reads.{one_moved}
use Rattle.lldb_verify.proofs.Aims.{found_other}
use Rattle.lldb_verify.proofs.targets.target_found.Goals as goal

pub returns-in-Used-clause-found : goal.returns-in-Used-clause-found
returns-in-Used-clause-found g c = found_other (g.F.Filer.content c.args.filer.now) c.args.atom c.args.scratch.now c.args.seen.now (ap one_moved c.in-Used.is)

pub returns-in-Compressed-clause-found : goal.returns-in-Compressed-clause-found
returns-in-Compressed-clause-found g c = found_other (g.F.Filer.content c.args.filer.now) c.args.atom c.args.scratch.now c.args.seen.now (ap one_moved c.in-Compressed.is)

pub returns-in-Free-clause-found : goal.returns-in-Free-clause-found
returns-in-Free-clause-found g c = found_other (g.F.Filer.content c.args.filer.now) c.args.atom c.args.scratch.now c.args.seen.now (ap one_moved c.in-Free.is)
