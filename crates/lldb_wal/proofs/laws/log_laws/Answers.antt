use Rattle.lldb_wal.proofs.Held.{held_by}
use Rattle.lldb_wal.proofs.OneState.{one_state}
use Rattle.lldb_wal.specs.declared.state.LogState.TheVariants.{Closed, Open, Faulty}
use Rattle.lldb_wal.proofs.laws.log_laws.Goals as goal

pub returns : goal.returns
returns c = record {
  one = one_state;
  closed = λ magic bytes l ours is. held_by magic bytes l Closed ours is;
  batched = λ magic bytes l batch ours is. held_by magic bytes l (Open batch) ours is;
  faulty = λ magic bytes l at ours is. held_by magic bytes l (Faulty at) ours is;
}
