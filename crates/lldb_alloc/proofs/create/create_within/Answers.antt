use Rattle.std.proofs.Common.{◌≡◌, ℕ, ◌+◌, ◌*◌, List, length, Option, Some, None, Result, IfSome, sym, subst, arith}
use Rattle.lldb_base.specs.declared.trouble.Trouble.{Trouble}
use Rattle.lldb_base.specs.Contents.{atoms_for}
use Rattle.lldb_base.specs.Trouble.{Refuses}
use Rattle.lldb_alloc.specs.Changes.{Turns, LacksPart, TakesPart}
use Rattle.lldb_alloc.specs.Room.{FindsRoom}
use Rattle.lldb_alloc.specs.Told.{heap_told}
use Rattle.lldb_alloc.proofs.Uses.{by_error}
use Rattle.lldb_alloc.proofs.Lists.{refuses_more}
use Rattle.lldb_alloc.proofs.Fulls.{not_over}
use Rattle.lldb_alloc.proofs.Created.{part_unsound}
use Rattle.lldb_alloc.proofs.Placed.{placed_within}
use Rattle.lldb_alloc.proofs.create.create_within.Goals as goal

pub returns-in_err-take_part-clause-refuses : goal.returns-in_err-take_part-clause-refuses
returns-in_err-take_part-clause-refuses g c =
    let told : Option (List ℕ) = g.F.Filer.content c.args.filer.now in
    let size : ℕ = g.F.Filer.size_of c.args.filer.now in
    let atoms : ℕ = c.atoms_taken-atoms.result in
    let is : atoms ≡ atoms_for (length c.args.content.now) = c.atoms_taken-atoms.ensures in
    let room : IfSome told (FindsRoom atoms (Some c.args.at)) = subst (λ (k : ℕ). IfSome told (FindsRoom k (Some c.args.at))) (sym is) c.requires.room in
    let P : Result ℕ Trouble → Type 0 = λ r. Refuses (λ _ _. ⊥) (heap_told told ≡ None) r in
    by_error P c.from_residual.result c.in_err-take_part.field-0.0 c.from_residual.ensures.1
    (refuses_more (Unit {0}) ℕ (IfSome told (LacksPart c.args.at atoms)) (heap_told told ≡ None)
    (part_unsound told size atoms c.args.at (g.met.F.Filer.told_size c.args.filer.now c.requires.sound) c.requires.table room) c.in_err-take_part.field-0.0 c.in_err-take_part.ensures.refuses)

pub returns-in_err-write_used-clause-refuses : goal.returns-in_err-write_used-clause-refuses
returns-in_err-write_used-clause-refuses g c =
    let told : Option (List ℕ) = g.F.Filer.content c.args.filer.now in
    let is : c.atoms_taken-atoms.result ≡ atoms_for (length c.args.content.now) = c.atoms_taken-atoms.ensures in
    let within = c.in_ok-take_part.ensures.within.1 in
    let same = c.in_ok-take_part.ensures.size in
    let P : Result ℕ Trouble → Type 0 = λ r. Refuses (λ _ _. ⊥) (heap_told told ≡ None) r in
    by_error P c.from_residual-in_err-write_used.result c.in_err-write_used.field-0.0 c.from_residual-in_err-write_used.ensures.1
    (not_over (Unit {0}) ℕ (heap_told told ≡ None) (g.F.Filer.size_of c.take_part.new.filer) (g.F.Filer.limit_of c.take_part.new.filer) (16 * c.args.at + 16 * atoms_for (length c.args.content.now))
    (omega (arith, within, same, is)) c.in_err-write_used.field-0.0 c.in_err-write_used.ensures.refuses)

pub returns-clause-placed : goal.returns-clause-placed
returns-clause-placed g c =
    let told : Option (List ℕ) = g.F.Filer.content c.args.filer.now in
    let mid : Option (List ℕ) = g.F.Filer.content c.take_part.new.filer in
    let takes : Turns told mid (TakesPart c.args.at (atoms_for (length c.args.content.now))) = subst (λ (k : ℕ). Turns told mid (TakesPart c.args.at k)) c.atoms_taken-atoms.ensures c.in_ok-take_part.ensures.taken in
    placed_within told mid (g.F.Filer.content c.write_used.new.filer) c.args.at c.args.content.now c.requires.room takes c.in_ok-write_used.ensures.written
