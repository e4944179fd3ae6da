use Rattle.lldb_alloc.proofs.Uses.{short_read, long_read}
use Rattle.lldb_alloc.proofs.content.read_used.Goals as goal

pub returns-in-Short-clause-read : goal.returns-in-Short-clause-read
returns-in-Short-clause-read g c = rw c.in-Short.is (short_read (g.F.Filer.content c.args.filer.now) c.fetch_short.result c.fetch_short.new.out c.args.at c.in-Short.length c.fetch_short.ensures.refuses c.fetch_short.ensures.read)

pub returns-in-Long-clause-read : goal.returns-in-Long-clause-read
returns-in-Long-clause-read g c = rw c.in-Long.is (long_read (g.F.Filer.content c.args.filer.now) c.fetch_long.result c.fetch_long.new.out c.args.at c.in-Long.length c.fetch_long.ensures.refuses c.fetch_long.ensures.read)
