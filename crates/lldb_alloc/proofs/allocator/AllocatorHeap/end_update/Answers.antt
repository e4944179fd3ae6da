use Rattle.std.proofs.Common.{◌≡◌, sym, ◌∙◌}
use Rattle.lldb_alloc.specs.Meant.{ready_sound, meant_same}
use Rattle.lldb_alloc.proofs.Held.{ended_meant, adds_meant, more_levels}
use Rattle.lldb_alloc.proofs.allocator.AllocatorHeap.end_update.Goals as goal

pub returns-clause-stops : goal.returns-clause-stops
returns-clause-stops g c =
    let old = c.args.self.now in
    ended_meant (g.F.Filer.is_sound old.filer) (g.F.Filer.content old.filer) (g.F.Filer.saved old.filer) (g.F.Filer.may_leave c.end_update-result.new.self)
    (ready_sound old.refused (g.F.Filer.is_sound old.filer) old.sound c.requires.ready) c.end_update-result.ensures.stops

pub returns-clause-time : goal.returns-clause-time
returns-clause-time g c =
    let old = c.args.self.now in
    adds_meant (g.F.Filer.is_sound old.filer) (g.F.Filer.content old.filer) (g.F.Filer.saved old.filer)
    (ready_sound old.refused (g.F.Filer.is_sound old.filer) old.sound c.requires.ready) c.end_update-result.ensures.time

pub returns-clause-inner_stops : goal.returns-clause-inner_stops
returns-clause-inner_stops g c = λ more.
    let old = c.args.self.now in
    let now = c.end_update-result.new.self in
    let levels = more_levels (g.F.Filer.is_sound old.filer) (g.F.Filer.saved old.filer) more in
    let same : g.F.Filer.is_sound now ≡ g.F.Filer.is_sound old.filer = c.end_update-result.ensures.inner levels ∙ sym (ready_sound old.refused (g.F.Filer.is_sound old.filer) old.sound c.requires.ready) in
    meant_same (g.F.Filer.is_sound old.filer) (g.F.Filer.is_sound now) same (g.F.Filer.content old.filer) (g.F.Filer.content now) (g.F.Filer.saved old.filer) (g.F.Filer.saved now) (c.end_update-result.ensures.inner_stops levels)
