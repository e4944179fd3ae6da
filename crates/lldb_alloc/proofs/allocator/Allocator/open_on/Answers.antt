use Rattle.std.proofs.Common.{◌≡◌, ◌≤◌, ◌^◌, true, false, refl, ◌∙◌, arith}
use Rattle.lldb_alloc.proofs.Held.{contents_meant, sizes_none}
use Rattle.lldb_alloc.proofs.allocator.Allocator.open_on.Goals as goal

pub invariant_of-result : goal.invariant_of-result
invariant_of-result g c =
    let now = c.read_table.new.filer in
    let kept = c.in-Ok.ensures.content in
    let frame = c.in-Ok.ensures.frame in
    let same_size = kept.size in
    let same_limit = frame.limit in
    let size_in = c.requires.size in
    let limit_in = c.requires.limit in
    let sound : g.F.Filer.is_sound now ≡ true = frame.sound ∙ c.requires.sound in
    let size : g.F.Filer.size_of now ≤ 2 ^ 60 = omega (arith, same_size, size_in) in
    record {
      size = size;
      limit = omega (arith, same_limit, limit_in);
      sizes = sizes_none (g.F.Filer.saved_sizes now) (g.F.Filer.saved now) (g.met.F.Filer.sizes now).2 (frame.saved ∙ c.requires.depth);
      sound = λ _. sound;
      contents = λ _. contents_meant false (g.F.Filer.is_sound now) (g.F.Filer.content now) (g.F.Filer.size_of now) (λ _. sound) (g.met.F.Filer.told_size now) size refl;
    }
