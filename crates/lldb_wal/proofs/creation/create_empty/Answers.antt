use Rattle.lldb_wal.specs.Kept.{with_log}
use Rattle.lldb_wal.specs.Spelling.{log_header}
use Rattle.lldb_wal.proofs.Created.{log_created, made_unmade, created_before, empty_made, created_rest}
use Rattle.lldb_wal.proofs.Times.{adds_weaker, adds_then}
use Rattle.lldb_wal.proofs.creation.create_empty.Goals as goal

pub returns-in_err-make_log-clause-stops : goal.returns-in_err-make_log-clause-stops
returns-in_err-make_log-clause-stops g c = λ d left. log_created c.args.magic.now (g.V.Volume.files c.args.volume.now) d c.requires.empty (c.in_err-make_log.ensures.stops d left)

pub returns-in_err-make_log-clause-time : goal.returns-in_err-make_log-clause-time
returns-in_err-make_log-clause-time g c = adds_weaker c.in_err-make_log.ensures.time (λ d left. log_created c.args.magic.now (g.V.Volume.files c.args.volume.now) d c.requires.empty left)

pub write_magic-requires-clause-unmade : goal.write_magic-requires-clause-unmade
write_magic-requires-clause-unmade g c = made_unmade (g.V.Volume.files c.args.volume.now) _ c.requires.empty c.in_ok-make_log.ensures.made

pub returns-in_err-write_magic-clause-stops : goal.returns-in_err-write_magic-clause-stops
returns-in_err-write_magic-clause-stops g c = λ d left. created_before (with_log (log_header 0)) c.args.magic.now (g.V.Volume.files c.args.volume.now) _ d c.in_ok-make_log.ensures.made (c.in_err-write_magic.ensures.stops d left)

pub returns-in_err-write_magic-clause-time : goal.returns-in_err-write_magic-clause-time
returns-in_err-write_magic-clause-time g c = adds_then c.in_ok-make_log.ensures.time c.in_err-write_magic.ensures.time c.in_ok-make_log.ensures.frame.0 (λ d left. log_created c.args.magic.now (g.V.Volume.files c.args.volume.now) d c.requires.empty left) (λ d left. created_before (with_log (log_header 0)) c.args.magic.now (g.V.Volume.files c.args.volume.now) _ d c.in_ok-make_log.ensures.made left)

pub returns-clause-stops : goal.returns-clause-stops
returns-clause-stops g c = λ d left. created_before (with_log (log_header 0)) c.args.magic.now (g.V.Volume.files c.args.volume.now) _ d c.in_ok-make_log.ensures.made (c.in_ok-write_magic.ensures.stops d left)

pub returns-clause-time : goal.returns-clause-time
returns-clause-time g c = adds_then c.in_ok-make_log.ensures.time c.in_ok-write_magic.ensures.time c.in_ok-make_log.ensures.frame.0 (λ d left. log_created c.args.magic.now (g.V.Volume.files c.args.volume.now) d c.requires.empty left) (λ d left. created_before (with_log (log_header 0)) c.args.magic.now (g.V.Volume.files c.args.volume.now) _ d c.in_ok-make_log.ensures.made left)

pub returns-clause-created : goal.returns-clause-created
returns-clause-created g c = empty_made c.args.magic.now (g.V.Volume.files c.args.volume.now) _ _ c.in_ok-make_log.ensures.made c.in_ok-write_magic.ensures.written

pub returns-clause-at_rest : goal.returns-clause-at_rest
returns-clause-at_rest g c = created_rest c.args.magic.now (g.V.Volume.files c.args.volume.now) _ _ (empty_made c.args.magic.now (g.V.Volume.files c.args.volume.now) _ _ c.in_ok-make_log.ensures.made c.in_ok-write_magic.ensures.written) c.in_ok-write_magic.ensures.durable
