use Rattle.std.proofs.Common.{◌≤◌, length, refl, sym, ◌∙◌}
use Rattle.ql_edge.specs.Events.{on_file}
use Rattle.ql_edge.specs.declared.event.Step.TheVariants as step
use Rattle.ql_edge.specs.declared.volume.Which.TheVariants as which
use Rattle.ql_edge.proofs.Records.{recorded_read, recorded_valid, cut_valid}
use Rattle.ql_edge.proofs.mem_disk.MemDisk.cut.Goals as goal

pub invariant_of-self-in-Data : goal.invariant_of-self-in-Data
invariant_of-self-in-Data c =
    let old = c.args.self.now in
    let within : c.args.to ≤ length old.data_bytes = rw c.in-Data.is at c.requires in
    record {
      data_read = recorded_read which.Data _ _ (on_file which.Data (step.Cut c.args.to) c.args.shown) _ _ c.in_ok-push-in-Data.ensures.ok old.data_read ∙ sym c.truncate.ensures;
      log_read = recorded_read which.Log _ _ (on_file which.Data (step.Cut c.args.to) c.args.shown) _ _ c.in_ok-push-in-Data.ensures.ok old.log_read;
      data_valid = recorded_valid which.Data _ _ (on_file which.Data (step.Cut c.args.to) c.args.shown) _ _ c.in_ok-push-in-Data.ensures.ok old.data_read old.data_valid (cut_valid c.args.to old.data_bytes within);
      log_valid = recorded_valid which.Log _ _ (on_file which.Data (step.Cut c.args.to) c.args.shown) _ _ c.in_ok-push-in-Data.ensures.ok old.log_read old.log_valid refl;
    }

pub invariant_of-self-in-Log : goal.invariant_of-self-in-Log
invariant_of-self-in-Log c =
    let old = c.args.self.now in
    let within : c.args.to ≤ length old.log_bytes = rw c.in-Log.is at c.requires in
    record {
      log_read = recorded_read which.Log _ _ (on_file which.Log (step.Cut c.args.to) c.args.shown) _ _ c.in_ok-push-in-Log.ensures.ok old.log_read ∙ sym c.truncate-in-Log.ensures;
      data_read = recorded_read which.Data _ _ (on_file which.Log (step.Cut c.args.to) c.args.shown) _ _ c.in_ok-push-in-Log.ensures.ok old.data_read;
      log_valid = recorded_valid which.Log _ _ (on_file which.Log (step.Cut c.args.to) c.args.shown) _ _ c.in_ok-push-in-Log.ensures.ok old.log_read old.log_valid (cut_valid c.args.to old.log_bytes within);
      data_valid = recorded_valid which.Data _ _ (on_file which.Log (step.Cut c.args.to) c.args.shown) _ _ c.in_ok-push-in-Log.ensures.ok old.data_read old.data_valid refl;
    }
