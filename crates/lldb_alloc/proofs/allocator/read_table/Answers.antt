use Rattle.std.proofs.Common.{◌≡◌, ℕ, List, Option, None, Result, IfSome, arith}
use Rattle.lldb_base.specs.declared.trouble.Trouble.{Trouble}
use Rattle.lldb_base.specs.Trouble.{Refuses}
use Rattle.lldb_alloc.specs.Changes.{LacksRow}
use Rattle.lldb_alloc.specs.Told.{heap_told}
use Rattle.lldb_alloc.proofs.Uses.{by_error}
use Rattle.lldb_alloc.proofs.Lists.{refuses_more}
use Rattle.lldb_alloc.proofs.Created.{rowless_unsound, uneven_unsound}
use Rattle.lldb_alloc.proofs.allocator.read_table.Goals as goal

pub returns-then-size-lt128-clause-refuses : goal.returns-then-size-lt128-clause-refuses
returns-then-size-lt128-clause-refuses g c =
    uneven_unsound (g.F.Filer.content c.args.filer.now) (g.F.Filer.size_of c.args.filer.now) (g.met.F.Filer.told_size c.args.filer.now c.requires.sound) (λ none. omega (arith, none)) (λ even table. omega (arith, even, table))

pub returns-then-whole-size-clause-refuses : goal.returns-then-whole-size-clause-refuses
returns-then-whole-size-clause-refuses g c =
    uneven_unsound (g.F.Filer.content c.args.filer.now) (g.F.Filer.size_of c.args.filer.now) (g.met.F.Filer.told_size c.args.filer.now c.requires.sound) (λ none. omega (arith, none)) (λ even table. omega (arith, even, table))

pub returns-in_err-first_from-clause-refuses : goal.returns-in_err-first_from-clause-refuses
returns-in_err-first_from-clause-refuses g c =
    let told : Option (List ℕ) = g.F.Filer.content c.args.filer.now in
    let P : Result (Unit {0}) Trouble → Type 0 = λ r. Refuses (λ _ _. ⊥) (heap_told told ≡ None) r in
    by_error P c.from_residual.result c.in_err-first_from.field-0.0 c.from_residual.ensures.1
    (refuses_more (Option ℕ) (Unit {0}) (IfSome told LacksRow) (heap_told told ≡ None) (rowless_unsound told (g.F.Filer.size_of c.args.filer.now) (g.met.F.Filer.told_size c.args.filer.now c.requires.sound) (omega arith)) c.in_err-first_from.field-0.0 c.in_err-first_from.ensures.refuses)
