use Rattle.std.proofs.Common.{arith}
use Rattle.lldb_alloc.proofs.Fits.{moved_fits}
use Rattle.lldb_alloc.proofs.replace.point.Goals as goal

pub write_front-requires-clause-within : goal.write_front-requires-clause-within
write_front-requires-clause-within g c =
    let long = moved_fits c.args.target in
    let within = c.requires.within in
    omega (arith, long, within)
