use Rattle.std.proofs.Common.{Result, IfSome}
use Rattle.lldb_base.specs.declared.trouble.Trouble.{Trouble}
use Rattle.lldb_base.specs.Trouble.{Refuses}
use Rattle.lldb_alloc.specs.Changes.{LacksFree}
use Rattle.lldb_alloc.specs.declared.links.FreeBlock.{FreeBlock}
use Rattle.lldb_alloc.proofs.Uses.{by_error}
use Rattle.lldb_alloc.proofs.Singles.{free_given, none_given, refused_given}
use Rattle.lldb_alloc.proofs.links.read_free.Goals as goal

pub returns-in_err-block-clause-refuses : goal.returns-in_err-block-clause-refuses
returns-in_err-block-clause-refuses g c =
    let P : Result FreeBlock Trouble → Type 0 = λ r. Refuses (λ _ _. ⊥) (IfSome (g.F.Filer.content c.args.filer.now) (LacksFree c.args.at)) r in
    by_error P c.from_residual.result c.in_err-block.field-0.0 c.from_residual.ensures.1 (refused_given (g.F.Filer.content c.args.filer.now) c.args.at c.in_err-block.field-0.0 c.in_err-block.ensures.refuses c.in_err-block.ensures.block)

pub returns-in-Some-clause-free : goal.returns-in-Some-clause-free
returns-in-Some-clause-free g c = free_given (g.F.Filer.content c.args.filer.now) c.args.at c.in_ok-block.block c.in-Some.free c.in-Some.ensures.head c.in_ok-block.ensures.block

pub returns-in-None-clause-refuses : goal.returns-in-None-clause-refuses
returns-in-None-clause-refuses g c = none_given (g.F.Filer.content c.args.filer.now) c.args.at c.in_ok-block.block c.in-None.ensures.head c.in_ok-block.ensures.block
