use Rattle.std.proofs.Common.{◌≡◌, ℕ, ◌<◌, List, Option, Result, IfSome, subst, arith}
use Rattle.lldb_base.specs.declared.trouble.Trouble.{Trouble}
use Rattle.lldb_base.specs.Trouble.{Refuses}
use Rattle.lldb_blocks.specs.Steps.{Backward}
use Rattle.lldb_alloc.specs.Changes.{Turns, LacksFree, LacksHole, LacksRow}
use Rattle.lldb_alloc.proofs.Uses.{by_error}
use Rattle.lldb_alloc.proofs.Lists.{refuses_more}
use Rattle.lldb_alloc.proofs.Joins.{rowless, link_sane, linked_told}
use Rattle.lldb_alloc.proofs.chain.link.Goals as goal

pub returns-in_err-first-clause-refuses : goal.returns-in_err-first-clause-refuses
returns-in_err-first-clause-refuses g c =
    let told : Option (List ℕ) = g.F.Filer.content c.args.filer.now in
    let P : Result (Unit {0}) Trouble → Type 0 = λ r. Refuses (λ _ _. ⊥) (IfSome told (LacksHole c.args.at c.args.atoms)) r in
    by_error P c.from_residual.result c.in_err-first.field-0.0 c.from_residual.ensures.1
    (refuses_more ℕ (Unit {0}) (IfSome told LacksRow) (IfSome told (LacksHole c.args.at c.args.atoms)) (rowless told c.args.at c.args.atoms) c.in_err-first.field-0.0 c.in_err-first.ensures.refuses)

pub returns-in_err-pass_backward-clause-refuses : goal.returns-in_err-pass_backward-clause-refuses
returns-in_err-pass_backward-clause-refuses g c =
    let told : Option (List ℕ) = g.F.Filer.content c.args.filer.now in
    let first : ℕ = c.in_ok-first.first in
    let here : Option (List ℕ) = g.F.Filer.content c.read_list.new.filer in
    let most = c.class_of-class.ensures.class.most in
    let below : c.class_of-class.result < 16 = omega (arith, most) in
    let P : Result (Unit {0}) Trouble → Type 0 = λ r. Refuses (λ _ _. ⊥) (IfSome told (LacksHole c.args.at c.args.atoms)) r in
    by_error P c.from_residual-in_err-pass_backward.result c.in_err-pass_backward.field-0.0 c.from_residual-in_err-pass_backward.ensures.1
    (refuses_more (Unit {0}) (Unit {0}) ((first ≡ 0 → ⊥) × IfSome here (LacksFree first)) (IfSome told (LacksHole c.args.at c.args.atoms))
    (λ lacks. link_sane told c.args.at c.args.atoms c.class_of-class.result first below c.in_ok-first.ensures.list (lacks.0, subst (λ (o : Option (List ℕ)). IfSome o (LacksFree first)) c.in_ok-first.ensures.content.content lacks.1))
    c.in_err-pass_backward.field-0.0 c.in_err-pass_backward.ensures.refuses)

pub returns-clause-listed : goal.returns-clause-listed
returns-clause-listed g c =
    let told : Option (List ℕ) = g.F.Filer.content c.args.filer.now in
    let first : ℕ = c.in_ok-first.first in
    let mid : Option (List ℕ) = g.F.Filer.content c.pass_backward.new.filer in
    let made : Option (List ℕ) = g.F.Filer.content c.write_free.new.filer in
    let backward : Turns told mid (Backward c.args.at first) = subst (λ (o : Option (List ℕ)). Turns o mid (Backward c.args.at first)) c.in_ok-first.ensures.content.content c.in_ok-pass_backward.ensures.passed in
    linked_told told mid made (g.F.Filer.content c.set_head.new.filer) c.args.at c.args.atoms c.class_of-class.result first c.class_of-class.ensures.value c.in_ok-first.ensures.list backward c.in_ok-write_free.ensures.written c.in_ok-set_head.ensures.set
