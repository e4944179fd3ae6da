use Rattle.lldb_alloc.proofs.Created.{table_zeros}
use Rattle.lldb_alloc.proofs.create.write_table.Goals as goal

pub returns-clause-written : goal.returns-clause-written
returns-clause-written g c = table_zeros (g.F.Filer.content c.args.filer.now) (g.F.Filer.content c.write_bytes.new.filer) (g.F.Filer.size_of c.args.filer.now) c.requires.empty (g.met.F.Filer.told_size c.args.filer.now c.requires.sound) c.in_ok-write_bytes.ensures.written
