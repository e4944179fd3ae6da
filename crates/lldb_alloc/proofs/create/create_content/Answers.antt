use Rattle.std.proofs.Common.{arith}
use Rattle.lldb_alloc.proofs.Created.{created_more}
use Rattle.lldb_alloc.proofs.create.create_content.Goals as goal

pub returns-else-size-eq0-clause-created : goal.returns-else-size-eq0-clause-created
returns-else-size-eq0-clause-created g c =
    created_more (g.F.Filer.content c.args.filer.now) (g.F.Filer.content c.place_content.new.filer) c.place_content.result (g.F.Filer.size_of c.args.filer.now) c.args.content.now (g.met.F.Filer.told_size c.args.filer.now c.requires.sound) (λ none. omega (arith, none)) c.place_content.ensures.placed
