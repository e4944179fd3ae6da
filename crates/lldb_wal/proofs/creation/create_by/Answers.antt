use Rattle.lldb_wal.proofs.Created.{found_empty, found_unmade}
use Rattle.lldb_wal.proofs.creation.create_by.Goals as goal

pub create_empty-requires-clause-empty : goal.create_empty-requires-clause-empty
create_empty-requires-clause-empty g c = found_empty c.args.size (g.V.Volume.files c.args.volume.now) c.requires.size c.if-size-eq0.true

pub complete-requires-clause-unmade : goal.complete-requires-clause-unmade
complete-requires-clause-unmade g c = found_unmade c.args.magic.now c.args.size (g.V.Volume.files c.args.volume.now) c.requires.size c.requires.found c.if-size-eq0.false
