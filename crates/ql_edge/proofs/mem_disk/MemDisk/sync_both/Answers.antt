use Rattle.std.proofs.Common.{refl}
use Rattle.ql_edge.specs.Events.{on_both}
use Rattle.ql_edge.specs.declared.event.Step.TheVariants as step
use Rattle.ql_edge.specs.declared.volume.Which.TheVariants as which
use Rattle.ql_edge.proofs.Records.{quiet_read, either_valid}
use Rattle.ql_edge.proofs.mem_disk.MemDisk.sync_both.Goals as goal

pub invariant_of-self : goal.invariant_of-self
invariant_of-self c =
    let old = c.args.self.now in
    record {
      data_read = quiet_read c.push.result which.Data _ _ (on_both step.Synced c.args.shown) _ _ c.push.ensures.ok c.push.ensures.err refl old.data_read;
      log_read = quiet_read c.push.result which.Log _ _ (on_both step.Synced c.args.shown) _ _ c.push.ensures.ok c.push.ensures.err refl old.log_read;
      data_valid = either_valid c.push.result which.Data _ _ (on_both step.Synced c.args.shown) _ _ c.push.ensures.ok c.push.ensures.err old.data_read old.data_valid refl;
      log_valid = either_valid c.push.result which.Log _ _ (on_both step.Synced c.args.shown) _ _ c.push.ensures.ok c.push.ensures.err old.log_read old.log_valid refl;
    }
