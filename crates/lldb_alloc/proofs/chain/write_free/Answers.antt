use Rattle.std.proofs.Common.{arith}
use Rattle.lldb_alloc.proofs.Fits.{head_fits}
use Rattle.lldb_alloc.proofs.chain.write_free.Goals as goal

pub write_front-requires-clause-within : goal.write_front-requires-clause-within
write_front-requires-clause-within g c =
    let fits = head_fits c.args.at c.args.atoms 0 c.args.next c.requires.some in
    rw c.first_free-block.ensures.head (omega (arith, fits))
