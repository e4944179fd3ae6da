use Rattle.std.proofs.Common.{ℕ, List, length, Option, Some, Result, IfSome, subst}
use Rattle.lldb_base.specs.declared.trouble.Trouble.{Trouble}
use Rattle.lldb_base.specs.Trouble.{Refuses}
use Rattle.lldb_base.specs.Contents.{atoms_for}
use Rattle.lldb_base.specs.Heaps.{MayBeDead, IsGrown, IsFull}
use Rattle.lldb_alloc.specs.Room.{most_free_told}
use Rattle.lldb_alloc.specs.Told.{heap_told}
use Rattle.lldb_alloc.specs.Handles.{LacksHandle}
use Rattle.lldb_alloc.specs.Places.{HasFewer}
use Rattle.lldb_alloc.specs.declared.site.Site.{Site}
use Rattle.lldb_alloc.proofs.Uses.{by_error}
use Rattle.lldb_alloc.proofs.Fulls.{full_more}
use Rattle.lldb_alloc.proofs.Removed.{dead_told}
use Rattle.lldb_alloc.proofs.Replaced.{grown_full}
use Rattle.lldb_alloc.proofs.replace.replace_content.Goals as goal

pub returns-in_err-site-clause-refuses : goal.returns-in_err-site-clause-refuses
returns-in_err-site-clause-refuses g c =
    let told : Option (List ℕ) = g.F.Filer.content c.args.filer.now in
    let n : ℕ = atoms_for (length c.args.content.now) in
    let grown : ℕ → ℕ → Type 0 = λ need most. IsGrown c.args.handle n (heap_told told) × IsFull n (most_free_told told) (g.F.Filer.size_of c.args.filer.now) (g.F.Filer.size_of c.find_content.new.filer) (Some (g.F.Filer.limit_of c.args.filer.now)) need most in
    let P : Result (Unit {0}) Trouble → Type 0 = λ r. Refuses grown (MayBeDead c.args.handle (heap_told told)) r in
    by_error P c.from_residual.result c.in_err-site.field-0.0 c.from_residual.ensures.1
    (full_more Site (Unit {0}) (λ _ _. ⊥) grown (IfSome told (LacksHandle c.args.handle)) (MayBeDead c.args.handle (heap_told told)) (λ need most is. absurd is) (dead_told told c.args.handle) c.in_err-site.field-0.0 c.in_err-site.ensures.refuses)

pub returns-in_err-replace_at-clause-refuses : goal.returns-in_err-replace_at-clause-refuses
returns-in_err-replace_at-clause-refuses g c =
    let told : Option (List ℕ) = g.F.Filer.content c.args.filer.now in
    let mid : Option (List ℕ) = g.F.Filer.content c.find_content.new.filer in
    let n : ℕ = atoms_for (length c.args.content.now) in
    let size : ℕ = g.F.Filer.size_of c.args.filer.now in
    let size_mid : ℕ = g.F.Filer.size_of c.find_content.new.filer in
    let now : ℕ = g.F.Filer.size_of c.replace_at.new.filer in
    let limit : ℕ = g.F.Filer.limit_of c.args.filer.now in
    let limit_mid : ℕ = g.F.Filer.limit_of c.find_content.new.filer in
    let here : ℕ → ℕ → Type 0 = λ need most. IfSome mid (HasFewer c.args.handle n) × IsFull n (most_free_told mid) size_mid now (Some limit_mid) need most in
    let grown : ℕ → ℕ → Type 0 = λ need most. IsGrown c.args.handle n (heap_told told) × IsFull n (most_free_told told) size now (Some limit) need most in
    let P : Result (Unit {0}) Trouble → Type 0 = λ r. Refuses grown (MayBeDead c.args.handle (heap_told told)) r in
    by_error P c.from_residual-in_err-replace_at.result c.in_err-replace_at.field-0.0 c.from_residual-in_err-replace_at.ensures.1
    (full_more (Unit {0}) (Unit {0}) here grown (IfSome mid (LacksHandle c.args.handle)) (MayBeDead c.args.handle (heap_told told))
    (grown_full told mid c.args.handle n size size_mid now limit limit_mid c.in_ok-site.ensures.content.content c.in_ok-site.ensures.content.size c.in_ok-site.ensures.frame.limit)
    (λ lacks. dead_told told c.args.handle (subst (λ (o : Option (List ℕ)). IfSome o (LacksHandle c.args.handle)) c.in_ok-site.ensures.content.content lacks)) c.in_err-replace_at.field-0.0 c.in_err-replace_at.ensures.refuses)
