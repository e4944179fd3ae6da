use Rattle.std.proofs.Common.{◌≡◌, ℕ, ◌+◌, ◌*◌, cond, eqb, List, length, Option, Some, Result, IfSome, refl, subst, arith, eq-eqb}
use Rattle.std.proofs.lemmas.Bool.{cond-true}
use Rattle.lldb_base.specs.declared.trouble.Trouble.{Trouble}
use Rattle.lldb_base.specs.Contents.{atoms_for}
use Rattle.lldb_base.specs.Heaps.{IsFull}
use Rattle.lldb_base.specs.Trouble.{Refuses}
use Rattle.lldb_atoms.proofs.Says.{atoms_some}
use Rattle.lldb_alloc.specs.Room.{most_free_told}
use Rattle.lldb_alloc.proofs.Uses.{by_error}
use Rattle.lldb_alloc.proofs.Fulls.{over_full}
use Rattle.lldb_alloc.proofs.Created.{created_first, none_empty}
use Rattle.lldb_alloc.proofs.create.create_first.Goals as goal

pub returns-in_err-write_table-clause-refuses : goal.returns-in_err-write_table-clause-refuses
returns-in_err-write_table-clause-refuses g c =
    let told : Option (List ℕ) = g.F.Filer.content c.args.filer.now in
    let size : ℕ = g.F.Filer.size_of c.args.filer.now in
    let now : ℕ = g.F.Filer.size_of c.write_table.new.filer in
    let limit : ℕ = g.F.Filer.limit_of c.args.filer.now in
    let atoms : ℕ = atoms_for (length c.args.content.now) in
    let long : IfSome told (λ b. length b ≡ 0) = subst (λ (k : ℕ). IfSome told (λ b. length b ≡ k)) c.requires.empty (g.met.F.Filer.told_size c.args.filer.now c.requires.sound) in
    let most = none_empty told long in
    let some = atoms_some (length c.args.content.now) in
    let table : ◌≡◌ {A = ℕ} (cond (eqb size 0) 128 0) 128 = cond-true (eqb size 0) 128 0 (eq-eqb size 0 c.requires.empty) in
    let P : Result ℕ Trouble → Type 0 = λ r. Refuses (IsFull atoms (most_free_told told) size now (Some limit)) ⊥ r in
    by_error P c.from_residual.result c.in_err-write_table.field-0.0 c.from_residual.ensures.1
    (over_full (Unit {0}) ℕ ⊥ atoms (most_free_told told) size now 0 limit limit 128
    (omega (arith, most, some)) c.in_err-write_table.ensures.size_kept refl (omega (arith, table)) c.in_err-write_table.field-0.0 c.in_err-write_table.ensures.refuses)

pub returns-in_err-write_used-clause-refuses : goal.returns-in_err-write_used-clause-refuses
returns-in_err-write_used-clause-refuses g c =
    let told : Option (List ℕ) = g.F.Filer.content c.args.filer.now in
    let size : ℕ = g.F.Filer.size_of c.args.filer.now in
    let here : ℕ = g.F.Filer.size_of c.write_table.new.filer in
    let now : ℕ = g.F.Filer.size_of c.write_used.new.filer in
    let limit : ℕ = g.F.Filer.limit_of c.args.filer.now in
    let atoms : ℕ = atoms_for (length c.args.content.now) in
    let long : IfSome told (λ b. length b ≡ 0) = subst (λ (k : ℕ). IfSome told (λ b. length b ≡ k)) c.requires.empty (g.met.F.Filer.told_size c.args.filer.now c.requires.sound) in
    let most = none_empty told long in
    let some = atoms_some (length c.args.content.now) in
    let table : ◌≡◌ {A = ℕ} (cond (eqb size 0) 128 0) 128 = cond-true (eqb size 0) 128 0 (eq-eqb size 0 c.requires.empty) in
    let same : now ≡ here = c.in_err-write_used.ensures.size_kept in
    let full : here ≡ 128 = c.in_ok-write_table.ensures.size in
    let P : Result ℕ Trouble → Type 0 = λ r. Refuses (IsFull atoms (most_free_told told) size now (Some limit)) ⊥ r in
    by_error P c.from_residual-in_err-write_used.result c.in_err-write_used.field-0.0 c.from_residual-in_err-write_used.ensures.1
    (over_full (Unit {0}) ℕ ⊥ atoms (most_free_told told) size now here limit (g.F.Filer.limit_of c.write_table.new.filer) (16 * 8 + 16 * atoms)
    (omega (arith, most, some)) same c.in_ok-write_table.ensures.frame.limit (omega (arith, table, same, full)) c.in_err-write_used.field-0.0 c.in_err-write_used.ensures.refuses)

pub returns-clause-created : goal.returns-clause-created
returns-clause-created g c =
    let told : Option (List ℕ) = g.F.Filer.content c.args.filer.now in
    let long : IfSome told (λ b. length b ≡ 0) = subst (λ (k : ℕ). IfSome told (λ b. length b ≡ k)) c.requires.empty (g.met.F.Filer.told_size c.args.filer.now c.requires.sound) in
    created_first told (g.F.Filer.content c.write_table.new.filer) (g.F.Filer.content c.write_used.new.filer) c.args.content.now long c.in_ok-write_table.ensures.written c.in_ok-write_used.ensures.written
