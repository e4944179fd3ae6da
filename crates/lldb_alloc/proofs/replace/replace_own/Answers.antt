use Rattle.std.proofs.Common.{ℕ, ◌<◌, List, length, Option, Some, Result, IfSome, arith}
use Rattle.lldb_base.specs.declared.trouble.Trouble.{Trouble}
use Rattle.lldb_base.specs.Trouble.{Refuses}
use Rattle.lldb_base.specs.Contents.{atoms_for}
use Rattle.lldb_base.specs.Heaps.{IsFull}
use Rattle.lldb_alloc.specs.Room.{most_free_told}
use Rattle.lldb_alloc.specs.Handles.{LacksHandle}
use Rattle.lldb_alloc.specs.Places.{LacksUsedAtoms, HasFewer}
use Rattle.lldb_alloc.proofs.Uses.{by_error}
use Rattle.lldb_alloc.proofs.Fulls.{full_more}
use Rattle.lldb_alloc.proofs.Replaced.{own_unwritten, own_fewer}
use Rattle.lldb_alloc.proofs.replace.replace_own.Goals as goal

pub returns-in_err-rewrite-clause-refuses : goal.returns-in_err-rewrite-clause-refuses
returns-in_err-rewrite-clause-refuses g c =
    let told : Option (List ℕ) = g.F.Filer.content c.args.filer.now in
    let n : ℕ = atoms_for (length c.args.content.now) in
    let dead : Type 0 = IfSome told (LacksHandle c.args.handle) in
    let full : ℕ → ℕ → Type 0 = IsFull n (most_free_told told) (g.F.Filer.size_of c.args.filer.now) (g.F.Filer.size_of c.rewrite.new.filer) (Some (g.F.Filer.limit_of c.args.filer.now)) in
    let grown : ℕ → ℕ → Type 0 = λ need most. IfSome told (HasFewer c.args.handle n) × full need most in
    let P : Result (Unit {0}) Trouble → Type 0 = λ r. Refuses grown dead r in
    by_error P c.from_residual.result c.in_err-rewrite.field-0.0 c.from_residual.ensures.1
    (full_more (Unit {0}) (Unit {0}) (λ _ _. ⊥) grown (IfSome told (LacksUsedAtoms c.args.handle c.args.atoms)) dead (λ need most is. absurd is) (own_unwritten told c.args.handle c.args.atoms c.requires.found) c.in_err-rewrite.field-0.0 c.in_err-rewrite.ensures.refuses)

pub returns-in_err-move_home-clause-refuses : goal.returns-in_err-move_home-clause-refuses
returns-in_err-move_home-clause-refuses g c =
    let told : Option (List ℕ) = g.F.Filer.content c.args.filer.now in
    let n : ℕ = atoms_for (length c.args.content.now) in
    let dead : Type 0 = IfSome told (LacksHandle c.args.handle) in
    let full : ℕ → ℕ → Type 0 = IsFull n (most_free_told told) (g.F.Filer.size_of c.args.filer.now) (g.F.Filer.size_of c.move_home.new.filer) (Some (g.F.Filer.limit_of c.args.filer.now)) in
    let grown : ℕ → ℕ → Type 0 = λ need most. IfSome told (HasFewer c.args.handle n) × full need most in
    let P : Result (Unit {0}) Trouble → Type 0 = λ r. Refuses grown dead r in
    let more : c.args.atoms < n = omega arith in
    by_error P c.from_residual-in_err-move_home.result c.in_err-move_home.field-0.0 c.from_residual-in_err-move_home.ensures.1
    (full_more (Unit {0}) (Unit {0}) full grown dead dead (λ need most is. (own_fewer told c.args.handle c.args.atoms n c.requires.found more, is)) (λ is. is) c.in_err-move_home.field-0.0 c.in_err-move_home.ensures.refuses)
