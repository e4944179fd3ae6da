use Rattle.std.proofs.Common.{◌≡◌, ℕ, ◌+◌, ◌*◌, ◌/◌, List, length, Option, Some, Result, refl, arith}
use Rattle.lldb_base.specs.declared.trouble.Trouble.{Trouble}
use Rattle.lldb_base.specs.Contents.{atoms_for}
use Rattle.lldb_base.specs.Heaps.{IsFull}
use Rattle.lldb_base.specs.Trouble.{Refuses}
use Rattle.lldb_atoms.proofs.Says.{atoms_some}
use Rattle.lldb_alloc.specs.Room.{most_free_told}
use Rattle.lldb_alloc.proofs.Uses.{by_error}
use Rattle.lldb_alloc.proofs.Fulls.{over_full}
use Rattle.lldb_alloc.proofs.Created.{none_free}
use Rattle.lldb_alloc.proofs.Placed.{placed_behind}
use Rattle.lldb_alloc.proofs.create.create_behind.Goals as goal

pub returns-in_err-write_used-clause-refuses : goal.returns-in_err-write_used-clause-refuses
returns-in_err-write_used-clause-refuses g c =
    let told : Option (List ℕ) = g.F.Filer.content c.args.filer.now in
    let size : ℕ = g.F.Filer.size_of c.args.filer.now in
    let now : ℕ = g.F.Filer.size_of c.write_used.new.filer in
    let limit : ℕ = g.F.Filer.limit_of c.args.filer.now in
    let atoms : ℕ = atoms_for (length c.args.content.now) in
    let at_size : c.size-at.result ≡ size = c.size-at.ensures in
    let same : now ≡ size = c.in_err-write_used.ensures.size_kept in
    let P : Result ℕ Trouble → Type 0 = λ r. Refuses (IsFull atoms (most_free_told told) size now (Some limit)) ⊥ r in
    by_error P c.from_residual.result c.in_err-write_used.field-0.0 c.from_residual.ensures.1
    (over_full (Unit {0}) ℕ ⊥ atoms (most_free_told told) size now size limit limit (16 * (c.size-at.result / 16) + 16 * atoms)
    (none_free told atoms (atoms_some (length c.args.content.now)) c.requires.room) same refl (omega (arith, same, at_size)) c.in_err-write_used.field-0.0 c.in_err-write_used.ensures.refuses)

pub returns-clause-placed : goal.returns-clause-placed
returns-clause-placed g c =
    let size : ℕ = g.F.Filer.size_of c.args.filer.now in
    let at_size : c.size-at.result ≡ size = c.size-at.ensures in
    let whole = c.requires.whole in
    placed_behind (g.F.Filer.content c.args.filer.now) (g.F.Filer.content c.write_used.new.filer) (c.size-at.result / 16) size c.args.content.now (g.met.F.Filer.told_size c.args.filer.now c.requires.sound)
    (omega (arith, at_size, whole)) c.in_ok-write_used.ensures.written
