use Rattle.std.proofs.Common.{ℕ, List, Option, Result, IfSome, subst}
use Rattle.lldb_base.specs.declared.trouble.Trouble.{Trouble}
use Rattle.lldb_base.specs.Trouble.{Refuses}
use Rattle.lldb_alloc.specs.Releases.{LacksGap}
use Rattle.lldb_alloc.specs.Handles.{HasSite, LacksHandle}
use Rattle.lldb_alloc.specs.declared.site.Site.{Site}
use Rattle.lldb_alloc.specs.declared.site.Site.TheVariants as site
use Rattle.lldb_alloc.proofs.Uses.{by_error}
use Rattle.lldb_alloc.proofs.Lists.{refuses_more}
use Rattle.lldb_alloc.proofs.Removed.{own_unlive, away_unlive, away_unlive_behind}
use Rattle.lldb_alloc.proofs.remove.give_up_content.Goals as goal

pub returns-in_err-discard-in-Own-clause-refuses : goal.returns-in_err-discard-in-Own-clause-refuses
returns-in_err-discard-in-Own-clause-refuses g c =
    let told : Option (List ℕ) = g.F.Filer.content c.args.filer.now in
    let atoms : ℕ = c.in-Own.atoms in
    let found : IfSome told (HasSite c.args.handle (site.Own atoms)) = subst (λ (s : Site). IfSome told (HasSite c.args.handle s)) c.in-Own.is c.requires.found in
    let P : Result (Unit {0}) Trouble → Type 0 = λ r. Refuses (λ _ _. ⊥) (IfSome told (LacksHandle c.args.handle)) r in
    by_error P c.from_residual.result c.in_err-discard-in-Own.field-0.0 c.from_residual.ensures.1
    (refuses_more (Unit {0}) (Unit {0}) (IfSome told (LacksGap c.args.handle atoms)) (IfSome told (LacksHandle c.args.handle)) (own_unlive told c.args.handle atoms found) c.in_err-discard-in-Own.field-0.0 c.in_err-discard-in-Own.ensures.refuses)

pub returns-in_err-discard-in-Away-clause-refuses : goal.returns-in_err-discard-in-Away-clause-refuses
returns-in_err-discard-in-Away-clause-refuses g c =
    let told : Option (List ℕ) = g.F.Filer.content c.args.filer.now in
    let at : ℕ = c.in-Away.at in
    let atoms : ℕ = c.in-Away.atoms in
    let found : IfSome told (HasSite c.args.handle (site.Away at atoms)) = subst (λ (s : Site). IfSome told (HasSite c.args.handle s)) c.in-Away.is c.requires.found in
    let P : Result (Unit {0}) Trouble → Type 0 = λ r. Refuses (λ _ _. ⊥) (IfSome told (LacksHandle c.args.handle)) r in
    by_error P c.from_residual-in_err-discard-in-Away.result c.in_err-discard-in-Away.field-0.0 c.from_residual-in_err-discard-in-Away.ensures.1
    (refuses_more (Unit {0}) (Unit {0}) (IfSome told (LacksGap c.args.handle 1)) (IfSome told (LacksHandle c.args.handle)) (away_unlive told c.args.handle at atoms found) c.in_err-discard-in-Away.field-0.0 c.in_err-discard-in-Away.ensures.refuses)

pub returns-in_err-discard-in-Away-2-clause-refuses : goal.returns-in_err-discard-in-Away-2-clause-refuses
returns-in_err-discard-in-Away-2-clause-refuses g c =
    let told : Option (List ℕ) = g.F.Filer.content c.args.filer.now in
    let mid : Option (List ℕ) = g.F.Filer.content c.discard-in-Away.new.filer in
    let at : ℕ = c.in-Away.at in
    let atoms : ℕ = c.in-Away.atoms in
    let found : IfSome told (HasSite c.args.handle (site.Away at atoms)) = subst (λ (s : Site). IfSome told (HasSite c.args.handle s)) c.in-Away.is c.requires.found in
    let P : Result (Unit {0}) Trouble → Type 0 = λ r. Refuses (λ _ _. ⊥) (IfSome told (LacksHandle c.args.handle)) r in
    by_error P c.from_residual-in_err-discard-in-Away-2.result c.in_err-discard-in-Away-2.field-0.0 c.from_residual-in_err-discard-in-Away-2.ensures.1
    (refuses_more (Unit {0}) (Unit {0}) (IfSome mid (LacksGap at atoms)) (IfSome told (LacksHandle c.args.handle)) (away_unlive_behind told mid c.args.handle at atoms found c.in_ok-discard-in-Away.ensures.released) c.in_err-discard-in-Away-2.field-0.0 c.in_err-discard-in-Away-2.ensures.refuses)
