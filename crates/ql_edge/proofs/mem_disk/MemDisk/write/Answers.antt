use Rattle.std.proofs.Common.{◌≤◌, length, refl}
use Rattle.ql_edge.specs.Events.{on_file}
use Rattle.ql_edge.specs.declared.event.Step.TheVariants as step
use Rattle.ql_edge.specs.declared.volume.Which.TheVariants as which
use Rattle.ql_edge.proofs.Records.{quiet_read, changed_read, either_valid, wrote_valid}
use Rattle.ql_edge.proofs.mem_disk.MemDisk.write.Goals as goal

pub invariant_of-self : goal.invariant_of-self
invariant_of-self c =
    let old = c.args.self.now in
    let within : c.args.at ≤ length old.data_bytes = rw c.in-Data.is at c.requires in
    record {
      data_read = changed_read c.write_noted.result which.Data _ _ (on_file which.Data (step.Wrote c.args.at c.args.piece.now) c.args.shown) _ _ _ c.write_noted.ensures.noted c.write_noted.ensures.events c.write_noted.ensures.written c.write_noted.ensures.file old.data_read;
      log_read = quiet_read c.write_noted.result which.Log _ _ (on_file which.Data (step.Wrote c.args.at c.args.piece.now) c.args.shown) _ _ c.write_noted.ensures.noted c.write_noted.ensures.events refl old.log_read;
      data_valid = either_valid c.write_noted.result which.Data _ _ (on_file which.Data (step.Wrote c.args.at c.args.piece.now) c.args.shown) _ _ c.write_noted.ensures.noted c.write_noted.ensures.events old.data_read old.data_valid (wrote_valid c.args.at c.args.piece.now old.data_bytes within);
      log_valid = either_valid c.write_noted.result which.Log _ _ (on_file which.Data (step.Wrote c.args.at c.args.piece.now) c.args.shown) _ _ c.write_noted.ensures.noted c.write_noted.ensures.events old.log_read old.log_valid refl;
    }

pub invariant_of-self-in-Log : goal.invariant_of-self-in-Log
invariant_of-self-in-Log c =
    let old = c.args.self.now in
    let within : c.args.at ≤ length old.log_bytes = rw c.in-Log.is at c.requires in
    record {
      log_read = changed_read c.write_noted-in-Log.result which.Log _ _ (on_file which.Log (step.Wrote c.args.at c.args.piece.now) c.args.shown) _ _ _ c.write_noted-in-Log.ensures.noted c.write_noted-in-Log.ensures.events c.write_noted-in-Log.ensures.written c.write_noted-in-Log.ensures.file old.log_read;
      data_read = quiet_read c.write_noted-in-Log.result which.Data _ _ (on_file which.Log (step.Wrote c.args.at c.args.piece.now) c.args.shown) _ _ c.write_noted-in-Log.ensures.noted c.write_noted-in-Log.ensures.events refl old.data_read;
      log_valid = either_valid c.write_noted-in-Log.result which.Log _ _ (on_file which.Log (step.Wrote c.args.at c.args.piece.now) c.args.shown) _ _ c.write_noted-in-Log.ensures.noted c.write_noted-in-Log.ensures.events old.log_read old.log_valid (wrote_valid c.args.at c.args.piece.now old.log_bytes within);
      data_valid = either_valid c.write_noted-in-Log.result which.Data _ _ (on_file which.Log (step.Wrote c.args.at c.args.piece.now) c.args.shown) _ _ c.write_noted-in-Log.ensures.noted c.write_noted-in-Log.ensures.events old.data_read old.data_valid refl;
    }
