use Rattle.std.proofs.Common.{◌≡◌, ◌≤◌, ◌^◌, true, false, arith}
use Rattle.lldb_alloc.proofs.Held.{contents_meant, sizes_front, sizes_back, not_false}
use Rattle.std.specs.Prelude.{not}
use Rattle.lldb_alloc.proofs.allocator.AllocatorHeap.rollback.Goals as goal

pub invariant_of-self : goal.invariant_of-self
invariant_of-self g c =
    let old = c.args.self.now in
    let now = c.rollback.new.self in
    let same = c.rollback.ensures.limit in
    let old_limit = old.limit in
    let size : g.F.Filer.size_of now ≤ 2 ^ 60 = sizes_front (g.F.Filer.size_of now) (g.F.Filer.saved_sizes now) (g.F.Filer.saved_sizes old.filer) c.rollback.ensures.saved_sizes old.sizes in
    let sound : not c.sound.result ≡ false → g.F.Filer.is_sound now ≡ true = not_false c.sound.result (g.F.Filer.is_sound now) c.sound.ensures in
    record {
      size = size;
      limit = omega (arith, same, old_limit);
      sizes = sizes_back (g.F.Filer.size_of now) (g.F.Filer.saved_sizes now) (g.F.Filer.saved_sizes old.filer) c.rollback.ensures.saved_sizes old.sizes;
      sound = sound;
      contents = λ off. contents_meant (not c.sound.result) (g.F.Filer.is_sound now) (g.F.Filer.content now) (g.F.Filer.size_of now) sound (g.met.F.Filer.told_size now) size off;
    }
