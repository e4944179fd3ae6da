use Rattle.std.proofs.Common.{◌≤◌, ◌+◌, arith}
use Rattle.lldb_wal.specs.Fields.{longest}
use Rattle.lldb_wal.proofs.Filed.{end_fits, stored_again}
use Rattle.lldb_wal.proofs.Passed.{keeps_data, left_either, left_after, rest_after, time_either}
use Rattle.lldb_wal.proofs.filer.WalFilerBaseFiler.commit.Goals as goal
use Rattle.lldb_wal.proofs.filer.WalFilerBaseFiler.commit.Goals.{else-need-self-via-then-need-self+else-need-self-2, else-need-self-via-else-need-self}

pub overflow_add-need : goal.overflow_add-need
overflow_add-need g c =
    let fits = end_fits c.args.shift c.args.self.now.size c.args.batch.now c.length.ensures.batch c.requires.fits c.args.self.now.size_within in
    omega (arith, fits, c.length.ensures.value)

pub invariant_of-self-2-clause-stored : goal.invariant_of-self-2-clause-stored
invariant_of-self-2-clause-stored g c = λ sound.
    let within : c.args.shift + c.length.result ≤ longest = elim c.else-need-self.branch [
      | else-need-self-via-then-need-self+else-need-self-2 w ↦ omega (arith, w.if-need-self-2.false, c.args.self.now.limit_within)
      | else-need-self-via-else-need-self w ↦ omega (arith, w.if-need-self.false, c.args.self.now.size_within)
    ] in
    rw c.length.ensures.value (stored_again c.args.self.now.magic c.args.shift c.args.self.now.size c.args.batch.now _ _ (c.args.self.now.stored c.requires.sound) c.in_ok-store_batch.ensures.stored
    c.length.ensures.batch c.requires.fits (omega (arith, within, c.length.ensures.value)))

pub returns-then-is_idle-clause-stops_new : goal.returns-then-is_idle-clause-stops_new
returns-then-is_idle-clause-stops_new g c =
    let idle = c.is_idle.ensures.yes c.if-is_idle.true in
    rest_after c.args.self.now.magic c.args.shift c.args.self.now.size c.args.batch.now (g.V.Volume.files c.args.self.now.volume) (g.V.Volume.may_leave c.args.self.now.volume) (c.args.self.now.stored c.requires.sound) idle.0 idle.1 (c.args.self.now.keeps c.requires.sound)

pub returns-in_err-store_batch-clause-stops : goal.returns-in_err-store_batch-clause-stops
returns-in_err-store_batch-clause-stops g c =
    left_either c.args.self.now.magic c.args.shift c.args.self.now.size c.args.batch.now (g.V.Volume.files c.args.self.now.volume) _ (c.args.self.now.stored c.requires.sound) c.in_err-store_batch.ensures.stops

pub returns-in_err-store_batch-clause-time : goal.returns-in_err-store_batch-clause-time
returns-in_err-store_batch-clause-time g c =
    time_either c.args.self.now.magic c.args.shift c.args.self.now.size c.args.batch.now (g.V.Volume.files c.args.self.now.volume) (c.args.self.now.stored c.requires.sound) c.in_err-store_batch.ensures.time

pub returns-clause-stops : goal.returns-clause-stops
returns-clause-stops g c =
    left_either c.args.self.now.magic c.args.shift c.args.self.now.size c.args.batch.now (g.V.Volume.files c.args.self.now.volume) _ (c.args.self.now.stored c.requires.sound) c.in_ok-store_batch.ensures.stops

pub returns-clause-stops_new : goal.returns-clause-stops_new
returns-clause-stops_new g c =
    left_after c.args.self.now.magic c.args.shift c.args.self.now.size c.args.batch.now (g.V.Volume.files c.args.self.now.volume) _ (c.args.self.now.stored c.requires.sound) c.in_ok-store_batch.ensures.stops_new

pub returns-clause-time : goal.returns-clause-time
returns-clause-time g c =
    time_either c.args.self.now.magic c.args.shift c.args.self.now.size c.args.batch.now (g.V.Volume.files c.args.self.now.volume) (c.args.self.now.stored c.requires.sound) c.in_ok-store_batch.ensures.time

pub invariant_of-self-2-clause-keeps : goal.invariant_of-self-2-clause-keeps
invariant_of-self-2-clause-keeps g c = λ sound.
    let within : c.args.shift + c.length.result ≤ longest = elim c.else-need-self.branch [
      | else-need-self-via-then-need-self+else-need-self-2 w ↦ omega (arith, w.if-need-self-2.false, c.args.self.now.limit_within)
      | else-need-self-via-else-need-self w ↦ omega (arith, w.if-need-self.false, c.args.self.now.size_within)
    ] in
    keeps_data c.args.self.now.magic (c.args.shift + c.length.result) _ _
    (rw c.length.ensures.value (stored_again c.args.self.now.magic c.args.shift c.args.self.now.size c.args.batch.now _ _ (c.args.self.now.stored c.requires.sound) c.in_ok-store_batch.ensures.stored
    c.length.ensures.batch c.requires.fits (omega (arith, within, c.length.ensures.value)))) within c.in_ok-store_batch.ensures.at_rest
