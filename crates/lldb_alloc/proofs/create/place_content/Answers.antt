use Rattle.std.proofs.Common.{◌≡◌, ℕ, ◌≤◌, List, length, Option, Some, None, Result, Err, IfSome, arith}
use Rattle.lldb_base.specs.declared.trouble.Trouble.{Trouble}
use Rattle.lldb_base.specs.Contents.{atoms_for}
use Rattle.lldb_base.specs.Heaps.{IsFull}
use Rattle.lldb_base.specs.Trouble.{Refuses}
use Rattle.lldb_alloc.specs.Changes.{LacksRow}
use Rattle.lldb_alloc.specs.Room.{most_free_told}
use Rattle.lldb_alloc.specs.Told.{heap_told}
use Rattle.lldb_alloc.proofs.Uses.{by_error}
use Rattle.lldb_alloc.proofs.Lists.{refuses_more}
use Rattle.lldb_alloc.proofs.Fulls.{never_full}
use Rattle.lldb_alloc.proofs.Created.{rowless_unsound, uneven_unsound}
use Rattle.lldb_alloc.proofs.create.place_content.Goals as goal

pub returns-then-size-lt128-clause-refuses : goal.returns-then-size-lt128-clause-refuses
returns-then-size-lt128-clause-refuses g c =
    uneven_unsound (g.F.Filer.content c.args.filer.now) (g.F.Filer.size_of c.args.filer.now) (g.met.F.Filer.told_size c.args.filer.now c.requires.sound) c.requires.some (λ even table. omega (arith, even, table))

pub returns-then-whole-size-clause-refuses : goal.returns-then-whole-size-clause-refuses
returns-then-whole-size-clause-refuses g c =
    uneven_unsound (g.F.Filer.content c.args.filer.now) (g.F.Filer.size_of c.args.filer.now) (g.met.F.Filer.told_size c.args.filer.now c.requires.sound) c.requires.some (λ even table. omega (arith, even, table))

pub returns-in_err-found-clause-refuses : goal.returns-in_err-found-clause-refuses
returns-in_err-found-clause-refuses g c =
    let told : Option (List ℕ) = g.F.Filer.content c.args.filer.now in
    let size : ℕ = g.F.Filer.size_of c.args.filer.now in
    let F : ℕ → ℕ → Type 0 = IsFull (atoms_for (length c.args.content.now)) (most_free_told told) size (g.F.Filer.size_of c.find_room.new.filer) (Some (g.F.Filer.limit_of c.args.filer.now)) in
    let P : Result ℕ Trouble → Type 0 = λ r. Refuses F (heap_told told ≡ None) r in
    let table : 128 ≤ size = omega arith in
    by_error P c.from_residual.result c.in_err-found.field-0.0 c.from_residual.ensures.1
    (never_full ℕ F (heap_told told ≡ None) (Err c.in_err-found.field-0.0)
    (refuses_more (Option ℕ) ℕ (IfSome told LacksRow) (heap_told told ≡ None) (rowless_unsound told size (g.met.F.Filer.told_size c.args.filer.now c.requires.sound) table) c.in_err-found.field-0.0 c.in_err-found.ensures.refuses))
