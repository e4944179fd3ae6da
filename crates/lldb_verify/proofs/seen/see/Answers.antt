use Rattle.std.proofs.Common.{arith, ◌≡◌, ℕ, ◌+◌, ◌-◌, ◌*◌, ◌/◌, List, take, drop, Option, Some, None, IfSome, subst}
use Rattle.lldb_atoms.specs.Heads.{head_at}
use Rattle.lldb_verify.proofs.Sees.{sees_none, sees_block, sees_within}
use Rattle.lldb_verify.proofs.seen.see.Goals as goal

pub returns-in_ok-read_through-in-Some-clause-seen : goal.returns-in_ok-read_through-in-Some-clause-seen
returns-in_ok-read_through-in-Some-clause-seen g c =
    let told : Option (List ℕ) = g.F.Filer.content c.args.filer.now in
    let is : Some c.in-Some.block ≡ head_at (g.F.Filer.size_of c.args.filer.now / 16 - c.args.atom) c.in_ok-head.head = cc in
    let last : IfSome told (λ b. c.read_through.new.out ≡ take 8 (drop (16 * (c.args.atom + c.atoms_of.result) - 8) b)) =
    subst (λ (o : Option (List ℕ)). IfSome o (λ b. c.read_through.new.out ≡ take 8 (drop (16 * (c.args.atom + c.atoms_of.result) - 8) b))) c.in_ok-head.ensures.frame.content c.in_ok-read_through-in-Some.ensures.read in
    sees_block told c.in_ok-head.head c.read_through.new.out c.args.atom (g.F.Filer.size_of c.args.filer.now) c.atoms_of.result c.in-Some.block c.judged.result (g.met.F.Filer.told_size c.args.filer.now c.requires.sound) c.requires.within c.in_ok-head.ensures.read is c.atoms_of.ensures last c.judged.ensures.seen

pub returns-in_ok-read_through-in-Some-clause-within : goal.returns-in_ok-read_through-in-Some-clause-within
returns-in_ok-read_through-in-Some-clause-within g c =
    sees_within c.judged.result c.in-Some.block c.args.atom (g.F.Filer.size_of c.args.filer.now) c.judged.ensures.atoms c.in-Some.ensures.found.valid (let room = c.in-Some.ensures.room in let size = c.size.ensures in omega (arith, room, size)) c.requires.within

pub returns-in-None-clause-seen : goal.returns-in-None-clause-seen
returns-in-None-clause-seen g c =
    let is : None ≡ head_at (g.F.Filer.size_of c.args.filer.now / 16 - c.args.atom) c.in_ok-head.head = cc in
    sees_none (g.F.Filer.content c.args.filer.now) c.in_ok-head.head c.args.atom (g.F.Filer.size_of c.args.filer.now) (g.met.F.Filer.told_size c.args.filer.now c.requires.sound) c.requires.within c.in_ok-head.ensures.read is
