use Rattle.std.proofs.Common.{◌≡◌, ◌-◌, ◌/◌, Some, None, arith, ◌≤◌}
use Rattle.lldb_atoms.specs.Heads.{head_at}
use Rattle.lldb_alloc.proofs.Heads.{head_given, head_missing, head_outside}
use Rattle.lldb_alloc.proofs.front.read_block.Goals as goal

pub returns-then-at-atoms-clause-block : goal.returns-then-at-atoms-clause-block
returns-then-at-atoms-clause-block g c =
    let past : g.F.Filer.size_of c.args.filer.now / 16 ≤ c.args.at = omega arith in
    head_outside (g.F.Filer.content c.args.filer.now) c.args.at (g.F.Filer.size_of c.args.filer.now) (g.met.F.Filer.told_size c.args.filer.now c.requires.sound) past

pub returns-in-Some-clause-block : goal.returns-in-Some-clause-block
returns-in-Some-clause-block g c =
    let is : Some c.in-Some.block ≡ head_at (g.F.Filer.size_of c.args.filer.now / 16 - c.args.at) c.in_ok-front.front = cc in
    head_given (g.F.Filer.content c.args.filer.now) c.in_ok-front.front c.args.at (g.F.Filer.size_of c.args.filer.now) c.in-Some.block (g.met.F.Filer.told_size c.args.filer.now c.requires.sound) c.in_ok-front.ensures.read is

pub returns-in-None-clause-block : goal.returns-in-None-clause-block
returns-in-None-clause-block g c =
    let is : None ≡ head_at (g.F.Filer.size_of c.args.filer.now / 16 - c.args.at) c.in_ok-front.front = cc in
    head_missing (g.F.Filer.content c.args.filer.now) c.in_ok-front.front c.args.at (g.F.Filer.size_of c.args.filer.now) (g.met.F.Filer.told_size c.args.filer.now c.requires.sound) c.in_ok-front.ensures.read is
