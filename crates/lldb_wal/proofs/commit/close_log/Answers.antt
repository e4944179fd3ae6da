use Rattle.lldb_wal.proofs.Logged.{gate_closes, gate_shut, cut_shut, shut_logged, long_log, gate_within, log_closed, closed_rest, shut_all}
use Rattle.lldb_wal.proofs.Times.{adds_weaker, adds_then}
use Rattle.lldb_wal.proofs.commit.close_log.Goals as goal

pub write_synced-requires-clause-within : goal.write_synced-requires-clause-within
write_synced-requires-clause-within g c = gate_within (g.V.Volume.files c.args.volume.now) c.requires.gate

pub returns-in_err-write_synced-clause-stops : goal.returns-in_err-write_synced-clause-stops
returns-in_err-write_synced-clause-stops g c = λ d left. gate_closes (g.V.Volume.files c.args.volume.now) (g.V.Volume.may_leave c.args.volume.now) d c.requires.magic c.requires.gate c.requires.durable (c.in_err-write_synced.ensures.stops d left)

pub returns-in_err-write_synced-clause-time : goal.returns-in_err-write_synced-clause-time
returns-in_err-write_synced-clause-time g c = adds_weaker c.in_err-write_synced.ensures.time (λ d after. gate_closes (g.V.Volume.files c.args.volume.now) (g.V.Volume.may_leave c.args.volume.now) d c.requires.magic c.requires.gate c.requires.durable after)

pub cut-requires-clause-within : goal.cut-requires-clause-within
cut-requires-clause-within g c = long_log (g.V.Volume.files c.args.volume.now) _ c.requires.magic c.requires.gate c.in_ok-write_synced.ensures.written

pub returns-in_err-cut-clause-stops : goal.returns-in_err-cut-clause-stops
returns-in_err-cut-clause-stops g c = λ d left. shut_logged (g.V.Volume.files c.args.volume.now) d (cut_shut (g.V.Volume.files c.args.volume.now) (g.V.Volume.may_leave c.write_synced.new.volume) d (gate_shut (g.V.Volume.files c.args.volume.now) _ (g.V.Volume.may_leave c.args.volume.now) (g.V.Volume.may_leave c.write_synced.new.volume) c.requires.magic c.requires.gate c.requires.durable c.in_ok-write_synced.ensures.written c.in_ok-write_synced.ensures.durable c.in_ok-write_synced.ensures.stops) (c.in_err-cut.ensures.stops d left))

pub returns-in_err-cut-clause-time : goal.returns-in_err-cut-clause-time
returns-in_err-cut-clause-time g c =
    adds_then c.in_ok-write_synced.ensures.time c.in_err-cut.ensures.time c.in_ok-write_synced.ensures.frame.0 (λ d after. gate_closes (g.V.Volume.files c.args.volume.now) (g.V.Volume.may_leave c.args.volume.now) d c.requires.magic c.requires.gate c.requires.durable after)
    (λ d left. shut_logged (g.V.Volume.files c.args.volume.now) d (cut_shut (g.V.Volume.files c.args.volume.now) (g.V.Volume.may_leave c.write_synced.new.volume) d (gate_shut (g.V.Volume.files c.args.volume.now) _ (g.V.Volume.may_leave c.args.volume.now) (g.V.Volume.may_leave c.write_synced.new.volume) c.requires.magic c.requires.gate c.requires.durable c.in_ok-write_synced.ensures.written c.in_ok-write_synced.ensures.durable c.in_ok-write_synced.ensures.stops) (c.in_err-cut.ensures.stops d left)))

pub returns-clause-closed : goal.returns-clause-closed
returns-clause-closed g c = log_closed (g.V.Volume.files c.args.volume.now) _ _ c.requires.magic c.in_ok-write_synced.ensures.written c.in_ok-cut.ensures.cut

pub returns-clause-at_rest : goal.returns-clause-at_rest
returns-clause-at_rest g c =
    closed_rest (g.V.Volume.files c.args.volume.now) _ _ (log_closed (g.V.Volume.files c.args.volume.now) _ _ c.requires.magic c.in_ok-write_synced.ensures.written c.in_ok-cut.ensures.cut)
    (shut_all (g.V.Volume.files c.args.volume.now) _ (λ d left. cut_shut (g.V.Volume.files c.args.volume.now) (g.V.Volume.may_leave c.write_synced.new.volume) d (gate_shut (g.V.Volume.files c.args.volume.now) _ (g.V.Volume.may_leave c.args.volume.now) (g.V.Volume.may_leave c.write_synced.new.volume) c.requires.magic c.requires.gate c.requires.durable c.in_ok-write_synced.ensures.written c.in_ok-write_synced.ensures.durable c.in_ok-write_synced.ensures.stops) (c.in_ok-cut.ensures.stops d left)))

pub returns-clause-stops : goal.returns-clause-stops
returns-clause-stops g c = λ d left. shut_logged (g.V.Volume.files c.args.volume.now) d (cut_shut (g.V.Volume.files c.args.volume.now) (g.V.Volume.may_leave c.write_synced.new.volume) d (gate_shut (g.V.Volume.files c.args.volume.now) _ (g.V.Volume.may_leave c.args.volume.now) (g.V.Volume.may_leave c.write_synced.new.volume) c.requires.magic c.requires.gate c.requires.durable c.in_ok-write_synced.ensures.written c.in_ok-write_synced.ensures.durable c.in_ok-write_synced.ensures.stops) (c.in_ok-cut.ensures.stops d left))

pub returns-clause-time : goal.returns-clause-time
returns-clause-time g c =
    adds_then c.in_ok-write_synced.ensures.time c.in_ok-cut.ensures.time c.in_ok-write_synced.ensures.frame.0 (λ d after. gate_closes (g.V.Volume.files c.args.volume.now) (g.V.Volume.may_leave c.args.volume.now) d c.requires.magic c.requires.gate c.requires.durable after)
    (λ d left. shut_logged (g.V.Volume.files c.args.volume.now) d (cut_shut (g.V.Volume.files c.args.volume.now) (g.V.Volume.may_leave c.write_synced.new.volume) d (gate_shut (g.V.Volume.files c.args.volume.now) _ (g.V.Volume.may_leave c.args.volume.now) (g.V.Volume.may_leave c.write_synced.new.volume) c.requires.magic c.requires.gate c.requires.durable c.in_ok-write_synced.ensures.written c.in_ok-write_synced.ensures.durable c.in_ok-write_synced.ensures.stops) (c.in_ok-cut.ensures.stops d left)))
