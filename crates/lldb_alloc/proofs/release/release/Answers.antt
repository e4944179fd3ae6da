use Rattle.std.proofs.Common.{ℕ, List, Option, Result, IfSome}
use Rattle.lldb_base.specs.declared.trouble.Trouble.{Trouble}
use Rattle.lldb_base.specs.Trouble.{Refuses}
use Rattle.lldb_alloc.specs.Changes.{LacksHole}
use Rattle.lldb_alloc.specs.Releases.{LacksGap}
use Rattle.lldb_alloc.specs.declared.release.Gap.{Gap}
use Rattle.lldb_alloc.proofs.Uses.{by_error}
use Rattle.lldb_alloc.proofs.Lists.{refuses_more}
use Rattle.lldb_alloc.proofs.Gaps.{release_behind, release_last}
use Rattle.lldb_alloc.proofs.release.release.Goals as goal

pub returns-in_err-gap-clause-refuses : goal.returns-in_err-gap-clause-refuses
returns-in_err-gap-clause-refuses g c =
    let told : Option (List ℕ) = g.F.Filer.content c.args.filer.now in
    let total : ℕ = c.in_ok-total.total in
    let mid : Option (List ℕ) = g.F.Filer.content c.take_behind.new.filer in
    let P : Result (Unit {0}) Trouble → Type 0 = λ r. Refuses (λ _ _. ⊥) (IfSome told (LacksGap c.args.at c.args.atoms)) r in
    by_error P c.from_residual-in_err-gap.result c.in_err-gap.field-0.0 c.from_residual-in_err-gap.ensures.1
    (refuses_more Gap (Unit {0}) (IfSome mid (LacksGap c.args.at total)) (IfSome told (LacksGap c.args.at c.args.atoms))
    (release_behind told mid c.args.at c.args.atoms total c.in_ok-total.ensures.taken) c.in_err-gap.field-0.0 c.in_err-gap.ensures.refuses)

pub returns-in_err-give_up-clause-refuses : goal.returns-in_err-give_up-clause-refuses
returns-in_err-give_up-clause-refuses g c =
    let told : Option (List ℕ) = g.F.Filer.content c.args.filer.now in
    let total : ℕ = c.in_ok-total.total in
    let gap : Gap = c.in_ok-gap.gap in
    let mid : Option (List ℕ) = g.F.Filer.content c.take_behind.new.filer in
    let two : Option (List ℕ) = g.F.Filer.content c.take_before.new.filer in
    let P : Result (Unit {0}) Trouble → Type 0 = λ r. Refuses (λ _ _. ⊥) (IfSome told (LacksGap c.args.at c.args.atoms)) r in
    by_error P c.from_residual-in_err-give_up.result c.in_err-give_up.field-0.0 c.from_residual-in_err-give_up.ensures.1
    (refuses_more (Unit {0}) (Unit {0}) (IfSome two (LacksHole gap.from gap.atoms)) (IfSome told (LacksGap c.args.at c.args.atoms))
    (release_last told mid two c.args.at c.args.atoms total gap.from gap.atoms c.in_ok-total.ensures.taken c.in_ok-gap.ensures.taken) c.in_err-give_up.field-0.0 c.in_err-give_up.ensures.refuses)
