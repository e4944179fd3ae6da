use Rattle.std.proofs.Common.{◌≡◌, ℕ, List, length, option_map, subst}
use Rattle.ql_edge.specs.Disk.{with_piece, Torn, OnFile}
use Rattle.ql_edge.specs.Stops.{After}
use Rattle.ql_edge.specs.declared.volume.Which.TheVariants as which
use Rattle.lldb_wal.proofs.Created.{magic_torn, magic_written, magic_stable}
use Rattle.lldb_wal.proofs.Times.{adds_weaker}
use Rattle.lldb_wal.proofs.creation.write_magic.Goals as goal

pub returns-in_err-write_synced-clause-stops : goal.returns-in_err-write_synced-clause-stops
returns-in_err-write_synced-clause-stops g c = λ d left. magic_torn c.args.magic.now (g.V.Volume.files c.args.volume.now) (g.V.Volume.may_leave c.args.volume.now) d c.requires.sixteen c.requires.unmade c.requires.durable (subst (λ (bs : List ℕ). After (OnFile which.Data (Torn 0 (length bs))) (g.V.Volume.may_leave c.args.volume.now) d) c.as_slice.ensures (c.in_err-write_synced.ensures.stops d left))

pub returns-in_err-write_synced-clause-time : goal.returns-in_err-write_synced-clause-time
returns-in_err-write_synced-clause-time g c = adds_weaker c.in_err-write_synced.ensures.time (λ d left. magic_torn c.args.magic.now (g.V.Volume.files c.args.volume.now) (g.V.Volume.may_leave c.args.volume.now) d c.requires.sixteen c.requires.unmade c.requires.durable (subst (λ (bs : List ℕ). After (OnFile which.Data (Torn 0 (length bs))) (g.V.Volume.may_leave c.args.volume.now) d) c.as_slice.ensures left))

pub returns-clause-stops : goal.returns-clause-stops
returns-clause-stops g c = λ d left. magic_torn c.args.magic.now (g.V.Volume.files c.args.volume.now) (g.V.Volume.may_leave c.args.volume.now) d c.requires.sixteen c.requires.unmade c.requires.durable (subst (λ (bs : List ℕ). After (OnFile which.Data (Torn 0 (length bs))) (g.V.Volume.may_leave c.args.volume.now) d) c.as_slice.ensures (c.in_ok-write_synced.ensures.stops d left))

pub returns-clause-time : goal.returns-clause-time
returns-clause-time g c = adds_weaker c.in_ok-write_synced.ensures.time (λ d left. magic_torn c.args.magic.now (g.V.Volume.files c.args.volume.now) (g.V.Volume.may_leave c.args.volume.now) d c.requires.sixteen c.requires.unmade c.requires.durable (subst (λ (bs : List ℕ). After (OnFile which.Data (Torn 0 (length bs))) (g.V.Volume.may_leave c.args.volume.now) d) c.as_slice.ensures left))

pub returns-clause-written : goal.returns-clause-written
returns-clause-written g c = magic_written c.args.magic.now (g.V.Volume.files c.args.volume.now) _ c.requires.sixteen c.requires.unmade (subst (λ (bs : List ℕ). g.V.Volume.files c.write_synced.new.volume ≡ option_map (with_piece which.Data 0 bs) (g.V.Volume.files c.args.volume.now)) c.as_slice.ensures c.in_ok-write_synced.ensures.written)

pub returns-clause-durable : goal.returns-clause-durable
returns-clause-durable g c = magic_stable c.args.magic.now (g.V.Volume.files c.args.volume.now) _ (g.V.Volume.may_leave c.args.volume.now) _ c.requires.durable (magic_written c.args.magic.now (g.V.Volume.files c.args.volume.now) _ c.requires.sixteen c.requires.unmade (subst (λ (bs : List ℕ). g.V.Volume.files c.write_synced.new.volume ≡ option_map (with_piece which.Data 0 bs) (g.V.Volume.files c.args.volume.now)) c.as_slice.ensures c.in_ok-write_synced.ensures.written)) c.in_ok-write_synced.ensures.durable (λ d left. subst (λ (bs : List ℕ). After (OnFile which.Data (Torn 0 (length bs))) (g.V.Volume.may_leave c.args.volume.now) d) c.as_slice.ensures (c.in_ok-write_synced.ensures.stops d left))
