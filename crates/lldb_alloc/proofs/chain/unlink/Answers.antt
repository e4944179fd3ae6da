use Rattle.std.proofs.Common.{◌≡◌, ℕ, List, Option, Result, IfSome, subst}
use Rattle.lldb_base.specs.declared.trouble.Trouble.{Trouble}
use Rattle.lldb_base.specs.Trouble.{Refuses}
use Rattle.lldb_blocks.specs.Steps.{Forward}
use Rattle.lldb_alloc.specs.Changes.{Turns, LacksFree, LacksListed}
use Rattle.lldb_alloc.specs.declared.links.FreeBlock.{FreeBlock}
use Rattle.lldb_alloc.proofs.Uses.{by_error}
use Rattle.lldb_alloc.proofs.Lists.{refuses_more, unlisted, forward_sane, backward_sane, unlinked_told}
use Rattle.lldb_alloc.proofs.chain.unlink.Goals as goal

pub returns-in_err-free-clause-refuses : goal.returns-in_err-free-clause-refuses
returns-in_err-free-clause-refuses g c =
    let told : Option (List ℕ) = g.F.Filer.content c.args.filer.now in
    let P : Result ℕ Trouble → Type 0 = λ r. Refuses (λ _ _. ⊥) (IfSome told (LacksListed c.args.at)) r in
    by_error P c.from_residual.result c.in_err-free.field-0.0 c.from_residual.ensures.1
    (refuses_more FreeBlock ℕ (IfSome told (LacksFree c.args.at)) (IfSome told (LacksListed c.args.at)) (unlisted told c.args.at) c.in_err-free.field-0.0 c.in_err-free.ensures.refuses)

pub returns-in_err-pass_forward-clause-refuses : goal.returns-in_err-pass_forward-clause-refuses
returns-in_err-pass_forward-clause-refuses g c =
    let told : Option (List ℕ) = g.F.Filer.content c.args.filer.now in
    let free : FreeBlock = c.in_ok-free.free in
    let here : Option (List ℕ) = g.F.Filer.content c.read_free.new.filer in
    let P : Result ℕ Trouble → Type 0 = λ r. Refuses (λ _ _. ⊥) (IfSome told (LacksListed c.args.at)) r in
    by_error P c.from_residual-in_err-pass_forward.result c.in_err-pass_forward.field-0.0 c.from_residual-in_err-pass_forward.ensures.1
    (refuses_more (Unit {0}) ℕ ((free.previous ≡ 0 → ⊥) × IfSome here (LacksFree free.previous)) (IfSome told (LacksListed c.args.at))
    (λ lacks. forward_sane told c.args.at free c.in_ok-free.ensures.free (lacks.0, subst (λ (o : Option (List ℕ)). IfSome o (LacksFree free.previous)) c.in_ok-free.ensures.content.content lacks.1))
    c.in_err-pass_forward.field-0.0 c.in_err-pass_forward.ensures.refuses)

pub returns-in_err-pass_backward-clause-refuses : goal.returns-in_err-pass_backward-clause-refuses
returns-in_err-pass_backward-clause-refuses g c =
    let told : Option (List ℕ) = g.F.Filer.content c.args.filer.now in
    let free : FreeBlock = c.in_ok-free.free in
    let mid : Option (List ℕ) = g.F.Filer.content c.pass_forward.new.filer in
    let forward : Turns told mid (Forward c.class_of.result free.previous free.next) = subst (λ (o : Option (List ℕ)). Turns o mid (Forward c.class_of.result free.previous free.next)) c.in_ok-free.ensures.content.content c.in_ok-pass_forward.ensures.passed in
    let P : Result ℕ Trouble → Type 0 = λ r. Refuses (λ _ _. ⊥) (IfSome told (LacksListed c.args.at)) r in
    by_error P c.from_residual-in_err-pass_backward.result c.in_err-pass_backward.field-0.0 c.from_residual-in_err-pass_backward.ensures.1
    (refuses_more (Unit {0}) ℕ ((free.next ≡ 0 → ⊥) × IfSome mid (LacksFree free.next)) (IfSome told (LacksListed c.args.at))
    (λ lacks. backward_sane told mid c.args.at c.class_of.result free c.in_ok-free.ensures.free forward lacks)
    c.in_err-pass_backward.field-0.0 c.in_err-pass_backward.ensures.refuses)

pub returns-clause-taken : goal.returns-clause-taken
returns-clause-taken g c =
    let told : Option (List ℕ) = g.F.Filer.content c.args.filer.now in
    let free : FreeBlock = c.in_ok-free.free in
    let mid : Option (List ℕ) = g.F.Filer.content c.pass_forward.new.filer in
    let forward : Turns told mid (Forward c.class_of.result free.previous free.next) = subst (λ (o : Option (List ℕ)). Turns o mid (Forward c.class_of.result free.previous free.next)) c.in_ok-free.ensures.content.content c.in_ok-pass_forward.ensures.passed in
    unlinked_told told mid (g.F.Filer.content c.pass_backward.new.filer) c.args.at c.class_of.result free c.class_of.ensures.value c.in_ok-free.ensures.free forward c.in_ok-pass_backward.ensures.passed
