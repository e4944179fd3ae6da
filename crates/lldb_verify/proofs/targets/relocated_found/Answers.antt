use Rattle.lldb_verify.proofs.Aims.{found_right, found_wrong}
use Rattle.lldb_verify.proofs.targets.relocated_found.Goals as goal

pub returns-then-right-clause-found : goal.returns-then-right-clause-found
returns-then-right-clause-found g c = found_right (g.F.Filer.content c.args.filer.now) c.args.atom c.args.target c.args.scratch.now c.take_target.new.scratch c.in_ok-right.right c.if-right.true c.in_ok-right.ensures.taken

pub returns-else-right-clause-found : goal.returns-else-right-clause-found
returns-else-right-clause-found g c = found_wrong (g.F.Filer.content c.args.filer.now) c.args.atom c.args.target c.args.scratch.now c.take_target.new.scratch c.in_ok-right.right c.if-right.false c.in_ok-right.ensures.taken
