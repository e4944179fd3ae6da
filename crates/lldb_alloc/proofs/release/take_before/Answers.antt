use Rattle.std.proofs.Common.{ℕ, ◌-◌, List, Option, Result, IfSome, arith}
use Rattle.lldb_base.specs.declared.trouble.Trouble.{Trouble}
use Rattle.lldb_base.specs.Trouble.{Refuses}
use Rattle.lldb_alloc.specs.Changes.{LacksListed}
use Rattle.lldb_alloc.specs.Releases.{LacksGap}
use Rattle.lldb_alloc.specs.declared.release.Gap.{Gap}
use Rattle.lldb_alloc.proofs.Uses.{by_error}
use Rattle.lldb_alloc.proofs.Lists.{refuses_more}
use Rattle.lldb_alloc.proofs.Gaps.{before_unlisted, before_other, before_taken}
use Rattle.lldb_alloc.proofs.release.take_before.Goals as goal

pub returns-in_err-count-clause-refuses : goal.returns-in_err-count-clause-refuses
returns-in_err-count-clause-refuses g c =
    let told : Option (List ℕ) = g.F.Filer.content c.args.filer.now in
    let here : Option (List ℕ) = g.F.Filer.content c.free_before.new.filer in
    let more : ℕ = c.in_ok-more.more in
    let P : Result Gap Trouble → Type 0 = λ r. Refuses (λ _ _. ⊥) (IfSome told (LacksGap c.args.at c.args.atoms)) r in
    by_error P c.from_residual-in_err-count.result c.in_err-count.field-0.0 c.from_residual-in_err-count.ensures.1
    (refuses_more ℕ Gap (IfSome here (LacksListed (c.args.at - more))) (IfSome told (LacksGap c.args.at c.args.atoms))
    (before_unlisted told here c.args.at c.args.atoms more c.in_ok-more.ensures.content.content c.in_ok-more.ensures.before c.in_ok-more.ensures.first (λ none. omega (arith, none))) c.in_err-count.field-0.0 c.in_err-count.ensures.refuses)

pub returns-clause-taken : goal.returns-clause-taken
returns-clause-taken g c =
    let told : Option (List ℕ) = g.F.Filer.content c.args.filer.now in
    let here : Option (List ℕ) = g.F.Filer.content c.free_before.new.filer in
    before_taken told here (g.F.Filer.content c.unlink.new.filer) c.args.at c.args.atoms c.in_ok-more.more c.in_ok-count.count c.in_ok-more.ensures.content.content c.in_ok-more.ensures.before (λ none. omega (arith, none)) (omega arith) (omega arith) c.in_ok-count.ensures.taken

pub returns-then-count-more-clause-refuses : goal.returns-then-count-more-clause-refuses
returns-then-count-more-clause-refuses g c =
    let told : Option (List ℕ) = g.F.Filer.content c.args.filer.now in
    let here : Option (List ℕ) = g.F.Filer.content c.free_before.new.filer in
    before_other told here (g.F.Filer.content c.unlink.new.filer) c.args.at c.args.atoms c.in_ok-more.more c.in_ok-count.count c.in_ok-more.ensures.content.content c.in_ok-more.ensures.before c.in_ok-more.ensures.first (λ none. omega (arith, none)) (λ same. omega (arith, same)) c.in_ok-count.ensures.taken
