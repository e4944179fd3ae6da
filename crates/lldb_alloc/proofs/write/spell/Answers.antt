use Rattle.std.proofs.Common.{◌≡◌, ℕ, ◌-◌, List, ◌++◌, length, take, drop, replicate, ◌∙◌, ap, arith}
use Rattle.lldb_atoms.specs.declared.block.Block.{Block}
use Rattle.lldb_atoms.specs.Heads.{head_of}
use Rattle.lldb_atoms.specs.Blocks.{used_head}
use Rattle.lldb_alloc.proofs.Spelled.{head_room, block_spelled}
use Rattle.lldb_alloc.proofs.write.spell.Goals as goal

pub lay-requires-2 : goal.lay-requires-2
lay-requires-2 c =
    let n : ℕ = length c.args.content.now in
    let count : c.write_head-count.result ≡ length (head_of (used_head n)) = c.write_head-count.ensures.count ∙ ap (λ (b : Block). length (head_of b)) c.used_head-block.ensures.head in
    let room = head_room n c.write_head-count.result count in
    let kept = c.lay.auto.buffer in
    let whole = c.requires.whole in
    omega (arith, room, kept, whole)

pub returns : goal.returns
returns c =
    let u : List ℕ = c.args.content.now in
    let k : ℕ = c.write_head-count.result in
    let z : List ℕ = drop (length (head_of c.used_head-block.result)) (replicate 32 0) in
    let count : k ≡ length (head_of (used_head (length u))) = c.write_head-count.ensures.count ∙ ap (λ (b : Block). length (head_of b)) c.used_head-block.ensures.head in
    let front : c.write_head-count.new.head ≡ head_of (used_head (length u)) ++ z = c.write_head-count.ensures.written ∙ ap (λ (b : Block). head_of b ++ z) c.used_head-block.ensures.head in
    let one = c.lay.auto.buffer in
    let two = c.lay-2.auto.buffer in
    let whole = c.requires.whole in
    let room = head_room (length u) k count in
    block_spelled u z c.args.buffer.now (take k c.write_head-count.new.head) c.lay.new.buffer c.lay-2.new.buffer c.lay-3.new.buffer k (length c.lay-2.new.buffer - 1)
    c.requires.most count (ap (take k) front) c.requires.whole c.lay.ensures c.lay-2.ensures (omega (arith, one, two, whole, room)) c.lay-3.ensures
