use Rattle.std.proofs.Common.{◌≡◌, drop}
use Rattle.ql_edge.specs.Frame.{Stays}
use Rattle.ql_edge.specs.Stops.{Adds, HasShown}
use Rattle.lldb_wal.specs.Kept.{Beside, IsCompleted}
use Rattle.lldb_wal.proofs.Writing.{Writing}
use Rattle.lldb_wal.proofs.commit.write_pieces.Given as goal

abbrev pub invariant-loop-piece : goal.invariant-loop-piece
invariant-loop-piece g l = record {
  writing : Writing l.shift l.batch (g.V.Volume.files l.fn.volume) (g.V.Volume.files l.volume) (g.V.Volume.may_leave l.volume) (drop l.piece-index l.pieces);
  time : Adds (g.V.Volume.moment l.fn.volume) (g.V.Volume.moment l.volume) (g.V.Volume.left_since l.fn.volume) (g.V.Volume.left_since l.volume) (Beside (g.V.Volume.files l.fn.volume) (IsCompleted l.shift l.batch)) (HasShown (g.V.Shows.told l.fn.volume));
  frame : Stays g.V.Shows.told g.V.Shows.left g.V.Shows.fixed g.V.Volume.attached l.fn.volume l.volume;
  faults : g.V.Shows.faults l.volume ≡ g.V.Shows.faults l.fn.volume;
}
