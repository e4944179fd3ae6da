use Rattle.std.proofs.Common.{ℕ, List, Option, Result, IfSome, subst}
use Rattle.lldb_base.specs.declared.trouble.Trouble.{Trouble}
use Rattle.lldb_base.specs.Trouble.{Refuses}
use Rattle.lldb_base.specs.Heaps.{MayBeDead}
use Rattle.lldb_alloc.specs.Told.{heap_told}
use Rattle.lldb_alloc.specs.Handles.{LacksHandle}
use Rattle.lldb_alloc.specs.declared.site.Site.{Site}
use Rattle.lldb_alloc.proofs.Uses.{by_error}
use Rattle.lldb_alloc.proofs.Lists.{refuses_more}
use Rattle.lldb_alloc.proofs.Removed.{dead_told}
use Rattle.lldb_alloc.proofs.remove.remove_content.Goals as goal

pub returns-in_err-site-clause-refuses : goal.returns-in_err-site-clause-refuses
returns-in_err-site-clause-refuses g c =
    let told : Option (List ℕ) = g.F.Filer.content c.args.filer.now in
    let P : Result (Unit {0}) Trouble → Type 0 = λ r. Refuses (λ _ _. ⊥) (MayBeDead c.args.handle (heap_told told)) r in
    by_error P c.from_residual.result c.in_err-site.field-0.0 c.from_residual.ensures.1
    (refuses_more Site (Unit {0}) (IfSome told (LacksHandle c.args.handle)) (MayBeDead c.args.handle (heap_told told)) (dead_told told c.args.handle) c.in_err-site.field-0.0 c.in_err-site.ensures.refuses)

pub returns-in_err-give_up_content-clause-refuses : goal.returns-in_err-give_up_content-clause-refuses
returns-in_err-give_up_content-clause-refuses g c =
    let told : Option (List ℕ) = g.F.Filer.content c.args.filer.now in
    let here : Option (List ℕ) = g.F.Filer.content c.find_content.new.filer in
    let P : Result (Unit {0}) Trouble → Type 0 = λ r. Refuses (λ _ _. ⊥) (MayBeDead c.args.handle (heap_told told)) r in
    by_error P c.from_residual-in_err-give_up_content.result c.in_err-give_up_content.field-0.0 c.from_residual-in_err-give_up_content.ensures.1
    (refuses_more (Unit {0}) (Unit {0}) (IfSome here (LacksHandle c.args.handle)) (MayBeDead c.args.handle (heap_told told))
    (λ lacks. dead_told told c.args.handle (subst (λ (o : Option (List ℕ)). IfSome o (LacksHandle c.args.handle)) c.in_ok-site.ensures.content.content lacks)) c.in_err-give_up_content.field-0.0 c.in_err-give_up_content.ensures.refuses)
