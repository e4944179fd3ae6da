use Rattle.std.proofs.Common.{Bool, Result, IfSome}
use Rattle.lldb_base.specs.declared.trouble.Trouble.{Trouble}
use Rattle.lldb_base.specs.Trouble.{Refuses}
use Rattle.lldb_alloc.specs.Releases.{LacksBlock}
use Rattle.lldb_alloc.proofs.Uses.{by_error}
use Rattle.lldb_alloc.proofs.Gaps.{refused_block}
use Rattle.lldb_alloc.proofs.release.is_free_at.Goals as goal

pub returns-in_err-block-clause-refuses : goal.returns-in_err-block-clause-refuses
returns-in_err-block-clause-refuses g c =
    let P : Result Bool Trouble → Type 0 = λ r. Refuses (λ _ _. ⊥) (IfSome (g.F.Filer.content c.args.filer.now) (LacksBlock c.args.at)) r in
    by_error P c.from_residual.result c.in_err-block.field-0.0 c.from_residual.ensures.1 (refused_block (g.F.Filer.content c.args.filer.now) c.args.at c.in_err-block.field-0.0 c.in_err-block.ensures.refuses c.in_err-block.ensures.block)
