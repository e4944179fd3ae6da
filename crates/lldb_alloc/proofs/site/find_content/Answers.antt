use Rattle.std.proofs.Common.{ℕ, List, Option, Result, Ok, IfSome, subst}
use Rattle.lldb_base.specs.declared.trouble.Trouble.{Trouble}
use Rattle.lldb_base.specs.Trouble.{Refuses}
use Rattle.lldb_atoms.specs.declared.block.Block.{Block}
use Rattle.lldb_atoms.specs.declared.block.Block.TheVariants as block
use Rattle.lldb_alloc.specs.Reads.{HasBlock}
use Rattle.lldb_alloc.specs.Handles.{HasUsedAtoms, LacksUsed, LacksHandle}
use Rattle.lldb_alloc.specs.declared.site.Site.{Site}
use Rattle.lldb_alloc.proofs.Uses.{by_error}
use Rattle.lldb_alloc.proofs.Lists.{refuses_more}
use Rattle.lldb_alloc.proofs.Sites.{handle_refused, away_dead, away_found, own_found, own_dead}
use Rattle.lldb_alloc.proofs.site.find_content.Goals as goal

pub returns-in_err-home-clause-refuses : goal.returns-in_err-home-clause-refuses
returns-in_err-home-clause-refuses g c =
    let told : Option (List ℕ) = g.F.Filer.content c.args.filer.now in
    let P : Result Site Trouble → Type 0 = λ r. Refuses (λ _ _. ⊥) (IfSome told (LacksHandle c.args.handle)) r in
    by_error P c.from_residual.result c.in_err-home.field-0.0 c.from_residual.ensures.1 (handle_refused Site told c.args.handle c.in_err-home.field-0.0 c.in_err-home.ensures.refuses c.in_err-home.ensures.block)

pub returns-in_err-atoms-in-Some-clause-refuses : goal.returns-in_err-atoms-in-Some-clause-refuses
returns-in_err-atoms-in-Some-clause-refuses g c =
    let told : Option (List ℕ) = g.F.Filer.content c.args.filer.now in
    let here : Option (List ℕ) = g.F.Filer.content c.read_block.new.filer in
    let t : ℕ = c.in-Some.target in
    let home : IfSome told (HasBlock c.args.handle (Ok (block.Relocated t))) = subst (λ (b : Block). IfSome told (HasBlock c.args.handle (Ok b))) c.in-Some.ensures c.in_ok-home.ensures.block in
    let P : Result Site Trouble → Type 0 = λ r. Refuses (λ _ _. ⊥) (IfSome told (LacksHandle c.args.handle)) r in
    by_error P c.from_residual-in_err-atoms-in-Some.result c.in_err-atoms-in-Some.field-0.0 c.from_residual-in_err-atoms-in-Some.ensures.1
    (refuses_more ℕ Site (IfSome here (LacksUsed t)) (IfSome told (LacksHandle c.args.handle))
    (λ lacks. away_dead told c.args.handle t home (subst (λ (o : Option (List ℕ)). IfSome o (LacksUsed t)) c.in_ok-home.ensures.content.content lacks)) c.in_err-atoms-in-Some.field-0.0 c.in_err-atoms-in-Some.ensures.refuses)

pub returns-in_ok-atoms-in-Some-clause-found : goal.returns-in_ok-atoms-in-Some-clause-found
returns-in_ok-atoms-in-Some-clause-found g c =
    let told : Option (List ℕ) = g.F.Filer.content c.args.filer.now in
    let t : ℕ = c.in-Some.target in
    let atoms : ℕ = c.in_ok-atoms-in-Some.atoms in
    let home : IfSome told (HasBlock c.args.handle (Ok (block.Relocated t))) = subst (λ (b : Block). IfSome told (HasBlock c.args.handle (Ok b))) c.in-Some.ensures c.in_ok-home.ensures.block in
    away_found told c.args.handle t atoms home (subst (λ (o : Option (List ℕ)). IfSome o (HasUsedAtoms t atoms)) c.in_ok-home.ensures.content.content c.in_ok-atoms-in-Some.ensures.atoms)

pub returns-in-Some-used_atoms-clause-found : goal.returns-in-Some-used_atoms-clause-found
returns-in-Some-used_atoms-clause-found g c = own_found (g.F.Filer.content c.args.filer.now) c.args.handle c.in-Some-used_atoms.atoms c.in_ok-home.home c.in-None.ensures c.in-Some-used_atoms.ensures.atoms c.in_ok-home.ensures.block

pub returns-in-None-used_atoms-clause-refuses : goal.returns-in-None-used_atoms-clause-refuses
returns-in-None-used_atoms-clause-refuses g c = own_dead (g.F.Filer.content c.args.filer.now) c.args.handle c.in_ok-home.home c.in-None.ensures c.in-None-used_atoms.ensures.atoms c.in_ok-home.ensures.block
