use Rattle.std.proofs.Common.{◌≡◌, ℕ, ◌+◌, Bool, true, List, Option, Result, IfSome, subst, arith}
use Rattle.lldb_base.specs.declared.trouble.Trouble.{Trouble}
use Rattle.lldb_base.specs.Trouble.{Refuses}
use Rattle.lldb_alloc.specs.Changes.{LacksListed}
use Rattle.lldb_alloc.specs.Releases.{LacksBlock, LacksGap, TellsFree}
use Rattle.lldb_alloc.proofs.Uses.{by_error}
use Rattle.lldb_alloc.proofs.Lists.{refuses_more}
use Rattle.lldb_alloc.proofs.Gaps.{behind_blockless, behind_unlisted, behind_taken}
use Rattle.lldb_alloc.proofs.release.take_behind.Goals as goal

pub returns-in_err-free-clause-refuses : goal.returns-in_err-free-clause-refuses
returns-in_err-free-clause-refuses g c =
    let told : Option (List ℕ) = g.F.Filer.content c.args.filer.now in
    let size : ℕ = g.F.Filer.size_of c.args.filer.now in
    let P : Result ℕ Trouble → Type 0 = λ r. Refuses (λ _ _. ⊥) (IfSome told (LacksGap c.args.at c.args.atoms)) r in
    by_error P c.from_residual.result c.in_err-free.field-0.0 c.from_residual.ensures.1
    (refuses_more Bool ℕ (IfSome told (LacksBlock (c.args.at + c.args.atoms))) (IfSome told (LacksGap c.args.at c.args.atoms))
    (behind_blockless told c.args.at c.args.atoms size (g.met.F.Filer.told_size c.args.filer.now c.requires.sound) (λ same. omega (arith, same))) c.in_err-free.field-0.0 c.in_err-free.ensures.refuses)

pub returns-in_err-more-clause-refuses : goal.returns-in_err-more-clause-refuses
returns-in_err-more-clause-refuses g c =
    let told : Option (List ℕ) = g.F.Filer.content c.args.filer.now in
    let here : Option (List ℕ) = g.F.Filer.content c.is_free_at.new.filer in
    let size : ℕ = g.F.Filer.size_of c.args.filer.now in
    let free : c.in_ok-free.free ≡ true = cc in
    let tells : IfSome told (TellsFree (c.args.at + c.args.atoms) true) = subst (λ (b : Bool). IfSome told (TellsFree (c.args.at + c.args.atoms) b)) free c.in_ok-free.ensures.free in
    let P : Result ℕ Trouble → Type 0 = λ r. Refuses (λ _ _. ⊥) (IfSome told (LacksGap c.args.at c.args.atoms)) r in
    by_error P c.from_residual-in_err-more.result c.in_err-more.field-0.0 c.from_residual-in_err-more.ensures.1
    (refuses_more ℕ ℕ (IfSome here (LacksListed (c.args.at + c.args.atoms))) (IfSome told (LacksGap c.args.at c.args.atoms))
    (behind_unlisted told here c.args.at c.args.atoms size (g.met.F.Filer.told_size c.args.filer.now c.requires.sound) (λ same. omega (arith, same)) tells c.in_ok-free.ensures.content.content) c.in_err-more.field-0.0 c.in_err-more.ensures.refuses)

pub returns-clause-taken : goal.returns-clause-taken
returns-clause-taken g c =
    let told : Option (List ℕ) = g.F.Filer.content c.args.filer.now in
    let here : Option (List ℕ) = g.F.Filer.content c.is_free_at.new.filer in
    let size : ℕ = g.F.Filer.size_of c.args.filer.now in
    let free : c.in_ok-free.free ≡ true = cc in
    let tells : IfSome told (TellsFree (c.args.at + c.args.atoms) true) = subst (λ (b : Bool). IfSome told (TellsFree (c.args.at + c.args.atoms) b)) free c.in_ok-free.ensures.free in
    behind_taken told here (g.F.Filer.content c.unlink.new.filer) c.args.at c.args.atoms c.in_ok-more.more size (g.met.F.Filer.told_size c.args.filer.now c.requires.sound) (λ same. omega (arith, same)) tells c.in_ok-free.ensures.content.content c.in_ok-more.ensures.taken
