-- The head of a free block fits into its atoms.
use Rattle.std.proofs.Common.{◌≡◌, ℕ, ◌+◌, ◌*◌, ◌≤◌, [], ◌∷◌, length, length-append, arith}
use Rattle.lldb_atoms.specs.declared.block.Block.TheVariants as block
use Rattle.lldb_atoms.specs.Numbers.{as_bytes}
use Rattle.lldb_atoms.specs.Heads.{head_of}
use Rattle.lldb_atoms.specs.Blocks.{free_head}
use Rattle.lldb_atoms.proofs.AsBytes.{length-as_bytes}
use Rattle.lldb_blocks.proofs.Writes.{free_fits}

pub head_fits : (at s p n : ℕ) → 1 ≤ s → 16 * at + length (head_of (free_head s p n)) ≤ 16 * (at + s)
head_fits at s p n some = let fits = free_fits s p n some in omega (arith, fits)

pub moved_fits : (t : ℕ) → length (head_of (block.Relocated t)) ≡ 16
moved_fits t =
    let seven = length-as_bytes 7 t in
    let all = length-append (as_bytes 7 t) (0 ∷ 0 ∷ 0 ∷ 0 ∷ 0 ∷ 0 ∷ 0 ∷ 0 ∷ []) in
    omega (arith, seven, all)
