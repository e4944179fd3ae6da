use Rattle.std.proofs.Common.{ℕ, List, Option, Result, IfSome}
use Rattle.lldb_base.specs.declared.trouble.Trouble.{Trouble}
use Rattle.lldb_base.specs.Trouble.{Refuses}
use Rattle.lldb_alloc.specs.Handles.{LacksUsed}
use Rattle.lldb_alloc.proofs.Uses.{by_error}
use Rattle.lldb_alloc.proofs.Sites.{used_refused, used_counted, used_none}
use Rattle.lldb_alloc.proofs.site.read_used_atoms.Goals as goal

pub returns-in_err-block-clause-refuses : goal.returns-in_err-block-clause-refuses
returns-in_err-block-clause-refuses g c =
    let told : Option (List ℕ) = g.F.Filer.content c.args.filer.now in
    let P : Result ℕ Trouble → Type 0 = λ r. Refuses (λ _ _. ⊥) (IfSome told (LacksUsed c.args.at)) r in
    by_error P c.from_residual.result c.in_err-block.field-0.0 c.from_residual.ensures.1 (used_refused told c.args.at c.in_err-block.field-0.0 c.in_err-block.ensures.refuses c.in_err-block.ensures.block)

pub returns-in-Some-clause-atoms : goal.returns-in-Some-clause-atoms
returns-in-Some-clause-atoms g c = used_counted (g.F.Filer.content c.args.filer.now) c.args.at c.in-Some.atoms c.in_ok-block.block c.in-Some.ensures.atoms c.in_ok-block.ensures.block

pub returns-in-None-clause-refuses : goal.returns-in-None-clause-refuses
returns-in-None-clause-refuses g c = used_none (g.F.Filer.content c.args.filer.now) c.args.at c.in_ok-block.block c.in-None.ensures.atoms c.in_ok-block.ensures.block
