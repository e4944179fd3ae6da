use Rattle.std.proofs.Common.{ℕ, ◌+◌, ◌-◌, ◌<◌, List, Option, Result, IfSome, arith}
use Rattle.lldb_base.specs.declared.trouble.Trouble.{Trouble}
use Rattle.lldb_base.specs.Trouble.{Refuses}
use Rattle.lldb_alloc.specs.Changes.{LacksListed, LacksHole, LacksPart}
use Rattle.lldb_alloc.proofs.Uses.{by_error}
use Rattle.lldb_alloc.proofs.Lists.{refuses_more}
use Rattle.lldb_alloc.proofs.Parts.{part_unlisted, part_sane}
use Rattle.lldb_alloc.proofs.room.take_part.Goals as goal

pub returns-in_err-count-clause-refuses : goal.returns-in_err-count-clause-refuses
returns-in_err-count-clause-refuses g c =
    let told : Option (List ℕ) = g.F.Filer.content c.args.filer.now in
    let P : Result (Unit {0}) Trouble → Type 0 = λ r. Refuses (λ _ _. ⊥) (IfSome told (LacksPart c.args.at c.args.atoms)) r in
    by_error P c.from_residual.result c.in_err-count.field-0.0 c.from_residual.ensures.1
    (refuses_more ℕ (Unit {0}) (IfSome told (LacksListed c.args.at)) (IfSome told (LacksPart c.args.at c.args.atoms)) (part_unlisted told c.args.at c.args.atoms) c.in_err-count.field-0.0 c.in_err-count.ensures.refuses)

pub returns-in_err-link-clause-refuses : goal.returns-in_err-link-clause-refuses
returns-in_err-link-clause-refuses g c =
    let told : Option (List ℕ) = g.F.Filer.content c.args.filer.now in
    let count : ℕ = c.in_ok-count.count in
    let mid : Option (List ℕ) = g.F.Filer.content c.unlink.new.filer in
    let more : c.args.atoms < count = omega arith in
    let P : Result (Unit {0}) Trouble → Type 0 = λ r. Refuses (λ _ _. ⊥) (IfSome told (LacksPart c.args.at c.args.atoms)) r in
    by_error P c.from_residual-in_err-link.result c.in_err-link.field-0.0 c.from_residual-in_err-link.ensures.1
    (refuses_more (Unit {0}) (Unit {0}) (IfSome mid (LacksHole (c.args.at + c.args.atoms) (count - c.args.atoms))) (IfSome told (LacksPart c.args.at c.args.atoms))
    (part_sane told mid c.args.at c.args.atoms count c.requires.some more c.in_ok-count.ensures.taken) c.in_err-link.field-0.0 c.in_err-link.ensures.refuses)
