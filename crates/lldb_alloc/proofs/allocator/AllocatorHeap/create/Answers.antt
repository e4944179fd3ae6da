use Rattle.std.proofs.Common.{◌≡◌, ℕ, ◌≤◌, ◌^◌, true, false, List, All, refl, sym, ◌∙◌, subst, arith}
use Rattle.lldb_alloc.specs.Meant.{ready_sound}
use Rattle.lldb_alloc.proofs.Held.{contents_meant, meant_stops}
use Rattle.lldb_alloc.proofs.allocator.AllocatorHeap.create.Goals as goal

pub returns-in_err-handle-clause-stops : goal.returns-in_err-handle-clause-stops
returns-in_err-handle-clause-stops g c =
    meant_stops (g.F.Filer.is_sound c.args.self.now.filer) (g.F.Filer.is_sound c.create_content.new.filer) c.in_err-handle.ensures.frame.sound c.in_err-handle.ensures.stops

pub returns-clause-stops : goal.returns-clause-stops
returns-clause-stops g c =
    meant_stops (g.F.Filer.is_sound c.args.self.now.filer) (g.F.Filer.is_sound c.create_content.new.filer) c.in_ok-handle.ensures.frame.sound c.in_ok-handle.ensures.stops

pub invariant_of-self-2 : goal.invariant_of-self-2
invariant_of-self-2 g c =
    let old = c.args.self.now in
    let frame = c.in_ok-handle.ensures.frame in
    let same = frame.limit in
    let bound = c.in_ok-handle.ensures.fits in
    let old_size = old.size in
    let old_limit = old.limit in
    let sound : g.F.Filer.is_sound c.create_content.new.filer ≡ true = frame.sound ∙ ready_sound old.refused (g.F.Filer.is_sound old.filer) old.sound c.requires.ready in
    let size : g.F.Filer.size_of c.create_content.new.filer ≤ 2 ^ 60 = omega (arith, bound, old_size, old_limit) in
    record {
      size = size;
      limit = omega (arith, same, old_limit);
      sizes = subst (λ (z : List ℕ). All (λ n. n ≤ 2 ^ 60) z) (sym frame.saved_sizes) old.sizes;
      sound = λ _. sound;
      contents = λ _. contents_meant false (g.F.Filer.is_sound c.create_content.new.filer) (g.F.Filer.content c.create_content.new.filer) (g.F.Filer.size_of c.create_content.new.filer) (λ _. sound) (g.met.F.Filer.told_size c.create_content.new.filer) size refl;
    }
