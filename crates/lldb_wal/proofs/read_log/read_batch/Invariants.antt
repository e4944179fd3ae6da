use Rattle.std.proofs.Common.{◌≡◌, ◌≤◌, ◌-◌, ◌+◌, length}
use Rattle.std.specs.Prelude.{IfSome}
use Rattle.ql_edge.specs.Frame.{Stays}
use Rattle.lldb_wal.specs.Log.{Follow}
use Rattle.lldb_wal.specs.Parts.{IsPart}
use Rattle.lldb_wal.proofs.read_log.read_batch.Given as goal

abbrev pub invariant-loop-read : goal.invariant-loop-read
invariant-loop-read g l = record {
  from : l.window.from ≤ l.reading.at;
  inside : l.reading.at ≤ l.window.from + length l.window.bytes.items;
  whole : l.window.total ≡ l.total;
  part : IfSome (g.V.Volume.files l.fn.volume) (λ f. IsPart f.1 l.window.bytes.items l.window.from);
  count : length l.reading.batch.pieces ≡ l.read;
  most : l.read ≤ l.count;
  pieces : IfSome (g.V.Volume.files l.fn.volume) (λ f. Follow l.size f.1 l.reading.last l.reading.at 0 24 l.reading.batch.pieces);
  files : g.V.Volume.files l.volume ≡ g.V.Volume.files l.fn.volume;
  same : g.V.Shows.same l.fn.volume l.volume;
  frame : Stays g.V.Shows.told g.V.Shows.left g.V.Shows.fixed g.V.Volume.attached l.fn.volume l.volume;
  faults : g.V.Shows.faults l.volume ≡ g.V.Shows.faults l.fn.volume;
}

abbrev pub decreases-loop-read : goal.decreases-loop-read
decreases-loop-read g l = l.count - l.read
