use Rattle.std.proofs.Common.{arith}
use Rattle.lldb_alloc.proofs.Gaps.{gives_listed}
use Rattle.lldb_alloc.proofs.release.give_up.Goals as goal

pub returns-clause-given : goal.returns-clause-given
returns-clause-given g c = gives_listed (g.F.Filer.content c.args.filer.now) (g.F.Filer.content c.link.new.filer) c.args.at c.args.atoms (g.F.Filer.size_of c.args.filer.now) (g.met.F.Filer.told_size c.args.filer.now c.requires.sound) (λ same. omega (arith, same)) c.in_ok-link.ensures.listed
