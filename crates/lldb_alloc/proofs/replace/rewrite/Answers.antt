use Rattle.std.proofs.Common.{◌≡◌, ℕ, ◌+◌, ◌-◌, ◌*◌, List, length, Option, Result, IfSome, subst, arith}
use Rattle.lldb_base.specs.declared.trouble.Trouble.{Trouble}
use Rattle.lldb_base.specs.Trouble.{Refuses}
use Rattle.lldb_base.specs.Contents.{atoms_for}
use Rattle.lldb_alloc.specs.Changes.{Turns}
use Rattle.lldb_alloc.specs.Releases.{LacksGap}
use Rattle.lldb_alloc.specs.Places.{Trims, LacksUsedAtoms}
use Rattle.lldb_alloc.proofs.Uses.{by_error}
use Rattle.lldb_alloc.proofs.Lists.{refuses_more}
use Rattle.lldb_alloc.proofs.Fulls.{not_over}
use Rattle.lldb_alloc.proofs.Replaced.{rewritten_told, rewrite_sane}
use Rattle.lldb_alloc.proofs.replace.rewrite.Goals as goal

pub returns-in_err-write_used-clause-refuses : goal.returns-in_err-write_used-clause-refuses
returns-in_err-write_used-clause-refuses g c =
    let told : Option (List ℕ) = g.F.Filer.content c.args.filer.now in
    let room = c.requires.room in
    let within = c.requires.within in
    let P : Result (Unit {0}) Trouble → Type 0 = λ r. Refuses (λ _ _. ⊥) (IfSome told (LacksUsedAtoms c.args.at c.args.atoms)) r in
    by_error P c.from_residual.result c.in_err-write_used.field-0.0 c.from_residual.ensures.1
    (not_over (Unit {0}) (Unit {0}) (IfSome told (LacksUsedAtoms c.args.at c.args.atoms)) (g.F.Filer.size_of c.args.filer.now) (g.F.Filer.limit_of c.args.filer.now) (16 * c.args.at + 16 * atoms_for (length c.args.content.now))
    (omega (arith, room, within)) c.in_err-write_used.field-0.0 c.in_err-write_used.ensures.refuses)

pub returns-in_err-trim-clause-refuses : goal.returns-in_err-trim-clause-refuses
returns-in_err-trim-clause-refuses g c =
    let told : Option (List ℕ) = g.F.Filer.content c.args.filer.now in
    let mid : Option (List ℕ) = g.F.Filer.content c.write_used.new.filer in
    let n : ℕ = c.atoms_taken-taken.result in
    let is : n ≡ atoms_for (length c.args.content.now) = c.atoms_taken-taken.ensures in
    let P : Result (Unit {0}) Trouble → Type 0 = λ r. Refuses (λ _ _. ⊥) (IfSome told (LacksUsedAtoms c.args.at c.args.atoms)) r in
    by_error P c.from_residual-in_err-trim.result c.in_err-trim.field-0.0 c.from_residual-in_err-trim.ensures.1
    (refuses_more (Unit {0}) (Unit {0}) ((c.args.atoms - n ≡ 0 → ⊥) × IfSome mid (LacksGap (c.args.at + n) (c.args.atoms - n))) (IfSome told (LacksUsedAtoms c.args.at c.args.atoms))
    (λ lacks. rewrite_sane told mid c.args.at c.args.atoms c.args.content.now c.requires.room c.in_ok-write_used.ensures.written
    (subst (λ (k : ℕ). (c.args.atoms - k ≡ 0 → ⊥) × IfSome mid (LacksGap (c.args.at + k) (c.args.atoms - k))) is lacks)) c.in_err-trim.field-0.0 c.in_err-trim.ensures.refuses)

pub returns-clause-rewritten : goal.returns-clause-rewritten
returns-clause-rewritten g c =
    let told : Option (List ℕ) = g.F.Filer.content c.args.filer.now in
    let mid : Option (List ℕ) = g.F.Filer.content c.write_used.new.filer in
    let after : Option (List ℕ) = g.F.Filer.content c.trim.new.filer in
    let trims : Turns mid after (Trims (c.args.at + atoms_for (length c.args.content.now)) (c.args.atoms - atoms_for (length c.args.content.now))) = subst (λ (k : ℕ). Turns mid after (Trims (c.args.at + k) (c.args.atoms - k))) c.atoms_taken-taken.ensures c.in_ok-trim.ensures.trimmed in
    rewritten_told told mid after c.args.at c.args.atoms c.args.content.now c.requires.room c.in_ok-write_used.ensures.written trims
