use Rattle.std.proofs.Common.{◌∙◌, List, ℕ}
use Rattle.ql_edge.specs.Disk.{Torn, Cut}
use Rattle.lldb_wal.specs.Spelling.{log_header}
use Rattle.lldb_wal.proofs.Created.{data_self, data_log, data_stable}
use Rattle.lldb_wal.proofs.Tidied.{header_within, tidied_short}
use Rattle.lldb_wal.proofs.Times.{adds_weaker, adds_then}
use Rattle.lldb_wal.proofs.creation.make_log.Goals as goal

pub returns-in_err-write_at-clause-stops : goal.returns-in_err-write_at-clause-stops
returns-in_err-write_at-clause-stops g c = λ d left. data_log (Torn 0 16) (g.V.Volume.files c.args.volume.now) (g.V.Volume.may_leave c.args.volume.now) d (λ e left. data_self (g.V.Volume.files c.args.volume.now) (g.V.Volume.may_leave c.args.volume.now) e c.requires.durable left) (c.in_err-write_at.ensures.stops d left)

pub returns-in_err-write_at-clause-time : goal.returns-in_err-write_at-clause-time
returns-in_err-write_at-clause-time g c = adds_weaker c.in_err-write_at.ensures.time (λ d left. data_log (Torn 0 16) (g.V.Volume.files c.args.volume.now) (g.V.Volume.may_leave c.args.volume.now) d (λ e left. data_self (g.V.Volume.files c.args.volume.now) (g.V.Volume.may_leave c.args.volume.now) e c.requires.durable left) (c.in_err-write_at.ensures.stops d left))

pub cut-requires-clause-within : goal.cut-requires-clause-within
cut-requires-clause-within g c = header_within (g.V.Volume.files c.args.volume.now) _ c.in_ok-write_at.ensures.written

pub returns-in_err-cut-clause-stops : goal.returns-in_err-cut-clause-stops
returns-in_err-cut-clause-stops g c = λ d left. data_log (Cut 16) (g.V.Volume.files c.args.volume.now) (g.V.Volume.may_leave c.write_at.new.self) d (λ e left. data_log (Torn 0 16) (g.V.Volume.files c.args.volume.now) (g.V.Volume.may_leave c.args.volume.now) e (λ e left. data_self (g.V.Volume.files c.args.volume.now) (g.V.Volume.may_leave c.args.volume.now) e c.requires.durable left) (c.in_ok-write_at.ensures.stops e left)) (c.in_err-cut.ensures.stops d left)

pub returns-in_err-cut-clause-time : goal.returns-in_err-cut-clause-time
returns-in_err-cut-clause-time g c = adds_then c.in_ok-write_at.ensures.time c.in_err-cut.ensures.time c.in_ok-write_at.ensures.frame.0 (λ d left. data_log (Torn 0 16) (g.V.Volume.files c.args.volume.now) (g.V.Volume.may_leave c.args.volume.now) d (λ e left. data_self (g.V.Volume.files c.args.volume.now) (g.V.Volume.may_leave c.args.volume.now) e c.requires.durable left) (c.in_ok-write_at.ensures.stops d left)) (λ d left. data_log (Cut 16) (g.V.Volume.files c.args.volume.now) (g.V.Volume.may_leave c.write_at.new.self) d (λ e left. data_log (Torn 0 16) (g.V.Volume.files c.args.volume.now) (g.V.Volume.may_leave c.args.volume.now) e (λ e left. data_self (g.V.Volume.files c.args.volume.now) (g.V.Volume.may_leave c.args.volume.now) e c.requires.durable left) (c.in_ok-write_at.ensures.stops e left)) (c.in_err-cut.ensures.stops d left))

pub returns-in_err-sync-clause-stops : goal.returns-in_err-sync-clause-stops
returns-in_err-sync-clause-stops g c = λ d left. data_log (Cut 16) (g.V.Volume.files c.args.volume.now) (g.V.Volume.may_leave c.write_at.new.self) d (λ e left. data_log (Torn 0 16) (g.V.Volume.files c.args.volume.now) (g.V.Volume.may_leave c.args.volume.now) e (λ e left. data_self (g.V.Volume.files c.args.volume.now) (g.V.Volume.may_leave c.args.volume.now) e c.requires.durable left) (c.in_ok-write_at.ensures.stops e left)) (c.in_ok-cut.ensures.stops d (c.in_err-sync.ensures.stops d left))

pub returns-in_err-sync-clause-time : goal.returns-in_err-sync-clause-time
returns-in_err-sync-clause-time g c = adds_then (adds_then c.in_ok-write_at.ensures.time c.in_ok-cut.ensures.time c.in_ok-write_at.ensures.frame.0 (λ d left. data_log (Torn 0 16) (g.V.Volume.files c.args.volume.now) (g.V.Volume.may_leave c.args.volume.now) d (λ e left. data_self (g.V.Volume.files c.args.volume.now) (g.V.Volume.may_leave c.args.volume.now) e c.requires.durable left) (c.in_ok-write_at.ensures.stops d left)) (λ d left. data_log (Cut 16) (g.V.Volume.files c.args.volume.now) (g.V.Volume.may_leave c.write_at.new.self) d (λ e left. data_log (Torn 0 16) (g.V.Volume.files c.args.volume.now) (g.V.Volume.may_leave c.args.volume.now) e (λ e left. data_self (g.V.Volume.files c.args.volume.now) (g.V.Volume.may_leave c.args.volume.now) e c.requires.durable left) (c.in_ok-write_at.ensures.stops e left)) (c.in_ok-cut.ensures.stops d left)))
    c.in_err-sync.ensures.time (c.in_ok-cut.ensures.frame.0 ∙ c.in_ok-write_at.ensures.frame.0) (λ d left. left) (λ d left. data_log (Cut 16) (g.V.Volume.files c.args.volume.now) (g.V.Volume.may_leave c.write_at.new.self) d (λ e left. data_log (Torn 0 16) (g.V.Volume.files c.args.volume.now) (g.V.Volume.may_leave c.args.volume.now) e (λ e left. data_self (g.V.Volume.files c.args.volume.now) (g.V.Volume.may_leave c.args.volume.now) e c.requires.durable left) (c.in_ok-write_at.ensures.stops e left)) (c.in_ok-cut.ensures.stops d left))

pub returns-clause-stops : goal.returns-clause-stops
returns-clause-stops g c = λ d left. data_log (Cut 16) (g.V.Volume.files c.args.volume.now) (g.V.Volume.may_leave c.write_at.new.self) d (λ e left. data_log (Torn 0 16) (g.V.Volume.files c.args.volume.now) (g.V.Volume.may_leave c.args.volume.now) e (λ e left. data_self (g.V.Volume.files c.args.volume.now) (g.V.Volume.may_leave c.args.volume.now) e c.requires.durable left) (c.in_ok-write_at.ensures.stops e left)) (c.in_ok-cut.ensures.stops d (c.in_ok-sync.ensures.stops d left))

pub returns-clause-time : goal.returns-clause-time
returns-clause-time g c = adds_then (adds_then c.in_ok-write_at.ensures.time c.in_ok-cut.ensures.time c.in_ok-write_at.ensures.frame.0 (λ d left. data_log (Torn 0 16) (g.V.Volume.files c.args.volume.now) (g.V.Volume.may_leave c.args.volume.now) d (λ e left. data_self (g.V.Volume.files c.args.volume.now) (g.V.Volume.may_leave c.args.volume.now) e c.requires.durable left) (c.in_ok-write_at.ensures.stops d left)) (λ d left. data_log (Cut 16) (g.V.Volume.files c.args.volume.now) (g.V.Volume.may_leave c.write_at.new.self) d (λ e left. data_log (Torn 0 16) (g.V.Volume.files c.args.volume.now) (g.V.Volume.may_leave c.args.volume.now) e (λ e left. data_self (g.V.Volume.files c.args.volume.now) (g.V.Volume.may_leave c.args.volume.now) e c.requires.durable left) (c.in_ok-write_at.ensures.stops e left)) (c.in_ok-cut.ensures.stops d left)))
    c.in_ok-sync.ensures.time (c.in_ok-cut.ensures.frame.0 ∙ c.in_ok-write_at.ensures.frame.0) (λ d left. left) (λ d left. data_log (Cut 16) (g.V.Volume.files c.args.volume.now) (g.V.Volume.may_leave c.write_at.new.self) d (λ e left. data_log (Torn 0 16) (g.V.Volume.files c.args.volume.now) (g.V.Volume.may_leave c.args.volume.now) e (λ e left. data_self (g.V.Volume.files c.args.volume.now) (g.V.Volume.may_leave c.args.volume.now) e c.requires.durable left) (c.in_ok-write_at.ensures.stops e left)) (c.in_ok-cut.ensures.stops d left))

pub returns-clause-made : goal.returns-clause-made
returns-clause-made g c = tidied_short (g.V.Volume.files c.args.volume.now) _ _ c.in_ok-write_at.ensures.written (c.in_ok-sync.ensures.files ∙ c.in_ok-cut.ensures.cut)

pub returns-clause-durable : goal.returns-clause-durable
returns-clause-durable g c = data_stable (λ (l : List ℕ). log_header 0) (g.V.Volume.files c.args.volume.now) _ _ (tidied_short (g.V.Volume.files c.args.volume.now) _ _ c.in_ok-write_at.ensures.written (c.in_ok-sync.ensures.files ∙ c.in_ok-cut.ensures.cut)) (λ d left. data_log (Cut 16) (g.V.Volume.files c.args.volume.now) (g.V.Volume.may_leave c.write_at.new.self) d (λ e left. data_log (Torn 0 16) (g.V.Volume.files c.args.volume.now) (g.V.Volume.may_leave c.args.volume.now) e (λ e left. data_self (g.V.Volume.files c.args.volume.now) (g.V.Volume.may_leave c.args.volume.now) e c.requires.durable left) (c.in_ok-write_at.ensures.stops e left)) (c.in_ok-cut.ensures.stops d (c.in_ok-sync.ensures.stops d left))) c.in_ok-sync.ensures.durable
