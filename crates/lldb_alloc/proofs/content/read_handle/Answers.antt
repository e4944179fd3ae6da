use Rattle.std.proofs.Common.{ℕ, List, Option, Result, Ok, Err, IfSome, ◌∙◌, subst}
use Rattle.lldb_base.specs.declared.trouble.Trouble.{Trouble}
use Rattle.lldb_atoms.specs.declared.block.Block.{Block}
use Rattle.lldb_atoms.specs.declared.block.Block.TheVariants as block
use Rattle.lldb_alloc.specs.Reads.{HasBlock, HasUsed, HasContent}
use Rattle.lldb_alloc.proofs.Uses.{home_read, target_read, home_refused, target_refused, by_error}
use Rattle.lldb_alloc.proofs.content.read_handle.Goals as goal

pub returns-in_err-home-clause-read : goal.returns-in_err-home-clause-read
returns-in_err-home-clause-read g c =
    let P : Result (Unit {0}) Trouble → Type 0 = λ r. IfSome (g.F.Filer.content c.args.filer.now) (HasContent c.args.handle r c.args.out.now) in
    by_error P c.from_residual.result c.in_err-home.field-0.0 c.from_residual.ensures.1 (home_refused (g.F.Filer.content c.args.filer.now) c.args.handle c.in_err-home.field-0.0 c.args.out.now c.in_err-home.ensures.block)

pub returns-in_err-block-in-Some-clause-read : goal.returns-in_err-block-in-Some-clause-read
returns-in_err-block-in-Some-clause-read g c =
    let told : Option (List ℕ) = g.F.Filer.content c.args.filer.now in
    let P : Result (Unit {0}) Trouble → Type 0 = λ r. IfSome told (HasContent c.args.handle r c.args.out.now) in
    let home : IfSome told (HasBlock c.args.handle (Ok (block.Relocated c.in-Some.target))) = subst (λ (b : Block). IfSome told (HasBlock c.args.handle (Ok b))) c.in-Some.ensures c.in_ok-home.ensures.block in
    let head : IfSome told (HasBlock c.in-Some.target (Err c.in_err-block-in-Some.field-0.0)) = subst (λ (o : Option (List ℕ)). IfSome o (HasBlock c.in-Some.target (Err c.in_err-block-in-Some.field-0.0))) c.in_ok-home.ensures.content.content c.in_err-block-in-Some.ensures.block in
    by_error P c.from_residual-in_err-block-in-Some.result c.in_err-block-in-Some.field-0.0 c.from_residual-in_err-block-in-Some.ensures.1 (target_refused told c.args.handle c.in-Some.target c.in_err-block-in-Some.field-0.0 c.args.out.now home head)

pub returns-in_ok-block-in-Some-clause-read : goal.returns-in_ok-block-in-Some-clause-read
returns-in_ok-block-in-Some-clause-read g c =
    let told : Option (List ℕ) = g.F.Filer.content c.args.filer.now in
    let home : IfSome told (HasBlock c.args.handle (Ok (block.Relocated c.in-Some.target))) = subst (λ (b : Block). IfSome told (HasBlock c.args.handle (Ok b))) c.in-Some.ensures c.in_ok-home.ensures.block in
    let head : IfSome told (HasBlock c.in-Some.target (Ok c.in_ok-block-in-Some.block)) = subst (λ (o : Option (List ℕ)). IfSome o (HasBlock c.in-Some.target (Ok c.in_ok-block-in-Some.block))) c.in_ok-home.ensures.content.content c.in_ok-block-in-Some.ensures.block in
    let used : IfSome told (HasUsed c.in-Some.target c.in_ok-block-in-Some.block c.read_used.result c.read_used.new.out) = subst (λ (o : Option (List ℕ)). IfSome o (HasUsed c.in-Some.target c.in_ok-block-in-Some.block c.read_used.result c.read_used.new.out)) (c.in_ok-block-in-Some.ensures.content.content ∙ c.in_ok-home.ensures.content.content) c.read_used.ensures.read in
    target_read told c.args.handle c.in-Some.target c.in_ok-block-in-Some.block c.read_used.result c.read_used.new.out home head used

pub returns-in-None-clause-read : goal.returns-in-None-clause-read
returns-in-None-clause-read g c =
    let told : Option (List ℕ) = g.F.Filer.content c.args.filer.now in
    let used : IfSome told (HasUsed c.args.handle c.in_ok-home.home c.read_used-in-None.result c.read_used-in-None.new.out) = subst (λ (o : Option (List ℕ)). IfSome o (HasUsed c.args.handle c.in_ok-home.home c.read_used-in-None.result c.read_used-in-None.new.out)) c.in_ok-home.ensures.content.content c.read_used-in-None.ensures.read in
    home_read told c.args.handle c.in_ok-home.home c.read_used-in-None.result c.read_used-in-None.new.out c.in-None.ensures c.in_ok-home.ensures.block used
