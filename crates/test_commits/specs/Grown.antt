-- What is known of the pieces of a batch that grows.
use Rattle.std.specs.Prelude.{◌≡◌, ℕ, List}
use Rattle.lldb_base.specs.declared.batch.Piece.{Piece}
use Rattle.lldb_base.specs.Batch.{LeaveNoGap, cost, end_of, reach}

-- pieces that leave no gap in a content, how far it reaches with them, where the last one ends, and how many bytes they take in a log
pub record IsGrown (shift size far end spent : ℕ) (pieces : List Piece) : Type 0 where
  pub reaches : far ≡ reach shift size pieces
  pub ends : end ≡ end_of 0 pieces
  pub takes : spent ≡ cost pieces
  pub gapless : LeaveNoGap 16 shift size pieces
