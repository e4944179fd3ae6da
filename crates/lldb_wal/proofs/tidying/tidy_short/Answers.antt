use Rattle.lldb_wal.proofs.Logged.{closed_rest, shut_all}
use Rattle.lldb_wal.proofs.Tidied.{header_cut, shut_tidied, header_within, tidied_short}
use Rattle.lldb_wal.proofs.Times.{adds_then}
use Rattle.lldb_wal.proofs.tidying.tidy_short.Goals as goal

pub cut-requires-clause-within : goal.cut-requires-clause-within
cut-requires-clause-within g c = header_within (g.V.Volume.files c.args.volume.now) _ c.in_ok-write_header.ensures.written

pub returns-in_err-cut-clause-stops : goal.returns-in_err-cut-clause-stops
returns-in_err-cut-clause-stops g c = λ d left. shut_tidied (g.V.Volume.files c.args.volume.now) d (header_cut (g.V.Volume.files c.args.volume.now) _ (g.V.Volume.may_leave c.write_header.new.volume) d c.in_ok-write_header.ensures.written c.in_ok-write_header.ensures.durable (c.in_err-cut.ensures.stops d left))

pub returns-in_err-cut-clause-time : goal.returns-in_err-cut-clause-time
returns-in_err-cut-clause-time g c = adds_then c.in_ok-write_header.ensures.time c.in_err-cut.ensures.time c.in_ok-write_header.ensures.frame.0 (λ d left. left) (λ d left. shut_tidied (g.V.Volume.files c.args.volume.now) d (header_cut (g.V.Volume.files c.args.volume.now) _ (g.V.Volume.may_leave c.write_header.new.volume) d c.in_ok-write_header.ensures.written c.in_ok-write_header.ensures.durable (c.in_err-cut.ensures.stops d left)))

pub returns-clause-stops : goal.returns-clause-stops
returns-clause-stops g c = λ d left. shut_tidied (g.V.Volume.files c.args.volume.now) d (header_cut (g.V.Volume.files c.args.volume.now) _ (g.V.Volume.may_leave c.write_header.new.volume) d c.in_ok-write_header.ensures.written c.in_ok-write_header.ensures.durable (c.in_ok-cut.ensures.stops d left))

pub returns-clause-time : goal.returns-clause-time
returns-clause-time g c = adds_then c.in_ok-write_header.ensures.time c.in_ok-cut.ensures.time c.in_ok-write_header.ensures.frame.0 (λ d left. left) (λ d left. shut_tidied (g.V.Volume.files c.args.volume.now) d (header_cut (g.V.Volume.files c.args.volume.now) _ (g.V.Volume.may_leave c.write_header.new.volume) d c.in_ok-write_header.ensures.written c.in_ok-write_header.ensures.durable (c.in_ok-cut.ensures.stops d left)))

pub returns-clause-tidied : goal.returns-clause-tidied
returns-clause-tidied g c = tidied_short (g.V.Volume.files c.args.volume.now) _ _ c.in_ok-write_header.ensures.written c.in_ok-cut.ensures.cut

pub returns-clause-at_rest : goal.returns-clause-at_rest
returns-clause-at_rest g c = closed_rest (g.V.Volume.files c.args.volume.now) _ _ (tidied_short (g.V.Volume.files c.args.volume.now) _ _ c.in_ok-write_header.ensures.written c.in_ok-cut.ensures.cut) (shut_all (g.V.Volume.files c.args.volume.now) _ (λ d left. header_cut (g.V.Volume.files c.args.volume.now) _ (g.V.Volume.may_leave c.write_header.new.volume) d c.in_ok-write_header.ensures.written c.in_ok-write_header.ensures.durable (c.in_ok-cut.ensures.stops d left)))
