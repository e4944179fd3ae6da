use Rattle.std.proofs.Common.{rules}
use Rattle.std.proofs.lemmas.List.Sorted.{IsPartitionPoint-from_clause}
use Rattle.ql_mem_rel.proofs.PieceLemmas.{ends_until, pieces_parted, pieces_parted_at}
use Rattle.ql_mem_rel.proofs.row_pieces.piece_after.Goals as goal

pub returns : goal.returns
returns c =
    let parts = pieces_parted c.args.id c.args.pieces.now c.requires.filled c.requires.rise in
    let point = IsPartitionPoint-from_clause (ends_until c.args.id) _ _ c.partition_point.ensures.partitioned parts (λ a r q k. search rules) in
    pieces_parted_at c.args.id c.args.pieces.now c.partition_point.result c.partition_point.ensures.bound point
