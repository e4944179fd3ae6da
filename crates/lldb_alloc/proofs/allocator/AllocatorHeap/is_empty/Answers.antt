use Rattle.lldb_alloc.proofs.Held.{empty_tells}
use Rattle.lldb_alloc.proofs.allocator.AllocatorHeap.is_empty.Goals as goal

pub returns : goal.returns
returns g c = empty_tells (g.F.Filer.is_sound c.args.self.now.filer) (g.F.Filer.content c.args.self.now.filer) (g.F.Filer.size_of c.args.self.now.filer) c.size.result c.size.ensures (g.met.F.Filer.told_size c.args.self.now.filer)
