use Rattle.lldb_wal.proofs.Logged.{first_logged, first_stable, gate_opens, batch_logged, logged_stable}
use Rattle.lldb_wal.proofs.Times.{adds_weaker, adds_then}
use Rattle.lldb_wal.proofs.commit.log_batch.Goals as goal

pub returns-in_err-write_synced-clause-stops : goal.returns-in_err-write_synced-clause-stops
returns-in_err-write_synced-clause-stops g c = λ d left. first_logged (g.V.Volume.files c.args.volume.now) (g.V.Volume.may_leave c.args.volume.now) c.args.batch.now d c.requires.at_rest (c.in_err-write_synced.ensures.stops d left)

pub returns-in_err-write_synced-clause-time : goal.returns-in_err-write_synced-clause-time
returns-in_err-write_synced-clause-time g c = adds_weaker c.in_err-write_synced.ensures.time (λ d after. first_logged (g.V.Volume.files c.args.volume.now) (g.V.Volume.may_leave c.args.volume.now) c.args.batch.now d c.requires.at_rest after)

pub returns-in_err-write_synced-2-clause-stops : goal.returns-in_err-write_synced-2-clause-stops
returns-in_err-write_synced-2-clause-stops g c = λ d left.
    gate_opens (g.V.Volume.files c.args.volume.now) (g.V.Volume.may_leave c.write_synced.new.volume) c.args.batch.now d
    (first_stable _ _ (g.V.Volume.may_leave c.args.volume.now) _ c.args.batch.now c.requires.at_rest c.in_ok-write_synced.ensures.written c.in_ok-write_synced.ensures.durable c.in_ok-write_synced.ensures.stops)
    (c.in_err-write_synced-2.ensures.stops d left)

pub returns-in_err-write_synced-2-clause-time : goal.returns-in_err-write_synced-2-clause-time
returns-in_err-write_synced-2-clause-time g c =
    adds_then c.in_ok-write_synced.ensures.time c.in_err-write_synced-2.ensures.time c.in_ok-write_synced.ensures.frame.0
    (λ d after. first_logged (g.V.Volume.files c.args.volume.now) (g.V.Volume.may_leave c.args.volume.now) c.args.batch.now d c.requires.at_rest after)
    (λ d after. gate_opens (g.V.Volume.files c.args.volume.now) (g.V.Volume.may_leave c.write_synced.new.volume) c.args.batch.now d
    (first_stable _ _ (g.V.Volume.may_leave c.args.volume.now) _ c.args.batch.now c.requires.at_rest c.in_ok-write_synced.ensures.written c.in_ok-write_synced.ensures.durable c.in_ok-write_synced.ensures.stops) after)

pub returns-clause-opened : goal.returns-clause-opened
returns-clause-opened g c = batch_logged _ _ _ (g.V.Volume.may_leave c.args.volume.now) c.args.batch.now c.requires.at_rest c.in_ok-write_synced.ensures.written c.in_ok-write_synced-2.ensures.written

pub returns-clause-durable : goal.returns-clause-durable
returns-clause-durable g c =
    logged_stable (g.V.Volume.files c.args.volume.now) _ (g.V.Volume.may_leave c.write_synced.new.volume) _ c.args.batch.now
    (first_stable _ _ (g.V.Volume.may_leave c.args.volume.now) _ c.args.batch.now c.requires.at_rest c.in_ok-write_synced.ensures.written c.in_ok-write_synced.ensures.durable c.in_ok-write_synced.ensures.stops)
    (batch_logged _ _ _ (g.V.Volume.may_leave c.args.volume.now) c.args.batch.now c.requires.at_rest c.in_ok-write_synced.ensures.written c.in_ok-write_synced-2.ensures.written)
    c.in_ok-write_synced-2.ensures.durable c.in_ok-write_synced-2.ensures.stops

pub returns-clause-stops : goal.returns-clause-stops
returns-clause-stops g c = λ d left.
    gate_opens (g.V.Volume.files c.args.volume.now) (g.V.Volume.may_leave c.write_synced.new.volume) c.args.batch.now d
    (first_stable _ _ (g.V.Volume.may_leave c.args.volume.now) _ c.args.batch.now c.requires.at_rest c.in_ok-write_synced.ensures.written c.in_ok-write_synced.ensures.durable c.in_ok-write_synced.ensures.stops)
    (c.in_ok-write_synced-2.ensures.stops d left)

pub returns-clause-time : goal.returns-clause-time
returns-clause-time g c =
    adds_then c.in_ok-write_synced.ensures.time c.in_ok-write_synced-2.ensures.time c.in_ok-write_synced.ensures.frame.0
    (λ d after. first_logged (g.V.Volume.files c.args.volume.now) (g.V.Volume.may_leave c.args.volume.now) c.args.batch.now d c.requires.at_rest after)
    (λ d after. gate_opens (g.V.Volume.files c.args.volume.now) (g.V.Volume.may_leave c.write_synced.new.volume) c.args.batch.now d
    (first_stable _ _ (g.V.Volume.may_leave c.args.volume.now) _ c.args.batch.now c.requires.at_rest c.in_ok-write_synced.ensures.written c.in_ok-write_synced.ensures.durable c.in_ok-write_synced.ensures.stops) after)
