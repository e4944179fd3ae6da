use Rattle.std.proofs.Common.{◌+◌, ◌-◌, length, arith}
use Rattle.lldb_verify.proofs.Sees.{read_held}
use Rattle.lldb_verify.proofs.reading.read_through.Goals as goal

pub returns-clause-read : goal.returns-clause-read
returns-clause-read g c =
    read_held (g.F.Filer.content c.args.filer.now) c.reach.new.window.bytes c.copy_from_slice.new.self c.reach.new.window.span.start c.reach.new.window.span.held c.args.at (length c.args.out.now) ((c.args.at - c.reach.new.window.span.start) + length c.args.out.now - (c.args.at - c.reach.new.window.span.start)) c.in_ok-reach.ensures.holds c.in_ok-reach.ensures.start c.in_ok-reach.ensures.end (omega arith) c.copy_from_slice.ensures.after
