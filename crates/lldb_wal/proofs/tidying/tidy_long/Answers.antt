use Rattle.std.proofs.Common.{take}
use Rattle.lldb_wal.proofs.Tidied.{tidy_over, short_cut, tidied_long, tidied_named, durable_rest}
use Rattle.lldb_wal.proofs.Times.{adds_then}
use Rattle.lldb_wal.proofs.tidying.tidy_long.Goals as goal

pub returns-then-named-clause-tidied : goal.returns-then-named-clause-tidied
returns-then-named-clause-tidied g c = tidied_named (g.V.Volume.files c.args.volume.now) _ (c.requires.named c.if-named.true) c.in_ok-shorten_log.ensures.cut

pub returns-then-named-clause-at_rest : goal.returns-then-named-clause-at_rest
returns-then-named-clause-at_rest g c = durable_rest (g.V.Volume.files c.args.volume.now) _ _ (tidied_named (g.V.Volume.files c.args.volume.now) _ (c.requires.named c.if-named.true) c.in_ok-shorten_log.ensures.cut) c.in_ok-shorten_log.ensures.durable

pub write_header-requires-clause-short : goal.write_header-requires-clause-short
write_header-requires-clause-short g c = short_cut (g.V.Volume.files c.args.volume.now) _ c.in_ok-shorten_log.ensures.cut

pub returns-in_err-write_header-clause-stops : goal.returns-in_err-write_header-clause-stops
returns-in_err-write_header-clause-stops g c = λ d left. tidy_over (take 16) (g.V.Volume.files c.args.volume.now) _ d c.in_ok-shorten_log.ensures.cut (c.in_err-write_header.ensures.stops d left)

pub returns-in_err-write_header-clause-time : goal.returns-in_err-write_header-clause-time
returns-in_err-write_header-clause-time g c = adds_then c.in_ok-shorten_log.ensures.time c.in_err-write_header.ensures.time c.in_ok-shorten_log.ensures.frame.0 (λ d left. left) (λ d left. tidy_over (take 16) (g.V.Volume.files c.args.volume.now) _ d c.in_ok-shorten_log.ensures.cut (left))

pub returns-clause-stops : goal.returns-clause-stops
returns-clause-stops g c = λ d left. tidy_over (take 16) (g.V.Volume.files c.args.volume.now) _ d c.in_ok-shorten_log.ensures.cut (c.in_ok-write_header.ensures.stops d left)

pub returns-clause-time : goal.returns-clause-time
returns-clause-time g c = adds_then c.in_ok-shorten_log.ensures.time c.in_ok-write_header.ensures.time c.in_ok-shorten_log.ensures.frame.0 (λ d left. left) (λ d left. tidy_over (take 16) (g.V.Volume.files c.args.volume.now) _ d c.in_ok-shorten_log.ensures.cut (left))

pub returns-clause-tidied : goal.returns-clause-tidied
returns-clause-tidied g c = tidied_long (g.V.Volume.files c.args.volume.now) _ _ c.in_ok-shorten_log.ensures.cut c.in_ok-write_header.ensures.written

pub returns-clause-at_rest : goal.returns-clause-at_rest
returns-clause-at_rest g c = durable_rest (g.V.Volume.files c.args.volume.now) _ _ (tidied_long (g.V.Volume.files c.args.volume.now) _ _ c.in_ok-shorten_log.ensures.cut c.in_ok-write_header.ensures.written) c.in_ok-write_header.ensures.durable
