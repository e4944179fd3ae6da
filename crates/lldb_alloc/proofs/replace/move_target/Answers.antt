use Rattle.std.proofs.Common.{◌≡◌, ℕ, List, length, Option, Some, None, Result, IfSome}
use Rattle.lldb_base.specs.declared.trouble.Trouble.{Trouble}
use Rattle.lldb_base.specs.Trouble.{Refuses}
use Rattle.lldb_base.specs.Contents.{atoms_for}
use Rattle.lldb_base.specs.Heaps.{IsFull}
use Rattle.lldb_alloc.specs.Releases.{LacksGap}
use Rattle.lldb_alloc.specs.Room.{most_free_told}
use Rattle.lldb_alloc.specs.Told.{heap_told}
use Rattle.lldb_alloc.specs.Handles.{LacksHandle}
use Rattle.lldb_alloc.proofs.Uses.{by_error}
use Rattle.lldb_alloc.proofs.Fulls.{full_more}
use Rattle.lldb_alloc.proofs.Replaced.{none_live, again_sane}
use Rattle.lldb_alloc.proofs.replace.move_target.Goals as goal

pub returns-in_err-next-clause-refuses : goal.returns-in_err-next-clause-refuses
returns-in_err-next-clause-refuses g c =
    let told : Option (List ℕ) = g.F.Filer.content c.args.filer.now in
    let size : ℕ = g.F.Filer.size_of c.args.filer.now in
    let dead : Type 0 = IfSome told (LacksHandle c.args.handle) in
    let full : ℕ → ℕ → Type 0 = IsFull (atoms_for (length c.args.content.now)) (most_free_told told) size (g.F.Filer.size_of c.place_content.new.filer) (Some (g.F.Filer.limit_of c.args.filer.now)) in
    let P : Result (Unit {0}) Trouble → Type 0 = λ r. Refuses full dead r in
    by_error P c.from_residual.result c.in_err-next.field-0.0 c.from_residual.ensures.1
    (full_more ℕ (Unit {0}) full full (heap_told told ≡ None) dead (λ need most is. is) (none_live told c.args.handle) c.in_err-next.field-0.0 c.in_err-next.ensures.refuses)

pub returns-in_err-point-clause-refuses : goal.returns-in_err-point-clause-refuses
returns-in_err-point-clause-refuses g c =
    let told : Option (List ℕ) = g.F.Filer.content c.args.filer.now in
    let size : ℕ = g.F.Filer.size_of c.args.filer.now in
    let dead : Type 0 = IfSome told (LacksHandle c.args.handle) in
    let full : ℕ → ℕ → Type 0 = IsFull (atoms_for (length c.args.content.now)) (most_free_told told) size (g.F.Filer.size_of c.point.new.filer) (Some (g.F.Filer.limit_of c.args.filer.now)) in
    let P : Result (Unit {0}) Trouble → Type 0 = λ r. Refuses full dead r in
    by_error P c.from_residual-in_err-point.result c.in_err-point.field-0.0 c.from_residual-in_err-point.ensures.1
    (full_more (Unit {0}) (Unit {0}) (λ _ _. ⊥) full ⊥ dead (λ need most is. absurd is) (λ is. absurd is) c.in_err-point.field-0.0 c.in_err-point.ensures.refuses)

pub returns-in_err-discard-clause-refuses : goal.returns-in_err-discard-clause-refuses
returns-in_err-discard-clause-refuses g c =
    let told : Option (List ℕ) = g.F.Filer.content c.args.filer.now in
    let size : ℕ = g.F.Filer.size_of c.args.filer.now in
    let dead : Type 0 = IfSome told (LacksHandle c.args.handle) in
    let full : ℕ → ℕ → Type 0 = IsFull (atoms_for (length c.args.content.now)) (most_free_told told) size (g.F.Filer.size_of c.discard.new.filer) (Some (g.F.Filer.limit_of c.args.filer.now)) in
    let P : Result (Unit {0}) Trouble → Type 0 = λ r. Refuses full dead r in
    let mid : Option (List ℕ) = g.F.Filer.content c.place_content.new.filer in
    let two : Option (List ℕ) = g.F.Filer.content c.point.new.filer in
    by_error P c.from_residual-in_err-discard.result c.in_err-discard.field-0.0 c.from_residual-in_err-discard.ensures.1
    (full_more (Unit {0}) (Unit {0}) (λ _ _. ⊥) full (IfSome two (LacksGap c.args.at c.args.atoms)) dead (λ need most is. absurd is)
    (again_sane told mid two c.args.handle c.args.at c.args.atoms c.in_ok-next.next c.args.content.now c.requires.found c.in_ok-next.ensures.placed c.in_ok-point.ensures.pointed) c.in_err-discard.field-0.0 c.in_err-discard.ensures.refuses)
