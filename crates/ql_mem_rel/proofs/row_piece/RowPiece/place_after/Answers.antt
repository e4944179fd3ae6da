use Rattle.std.proofs.Common.{◌≡◌, List, ◌∙◌, ap, rules}
use Rattle.std.proofs.lemmas.List.Sorted.{IsPartitionPoint-from_clause}
use Rattle.ql_rel.specs.declared.db.Row.{Row}
use Rattle.ql_mem_rel.specs.Places.{place_after, is_until}
use Rattle.ql_mem_rel.proofs.PlaceLemmas.{parted_as, parted_at}
use Rattle.ql_mem_rel.proofs.row_piece.RowPiece.place_after.Goals as goal

pub returns : goal.returns
returns c =
    let same : c.as_slice.result.now ≡ c.args.self.now = c.as_slice.ensures.value ∙ c.self.view_is in
    let parts = parted_as c.args.id c.as_slice.result.now c.args.self.now same c.requires in
    let point = IsPartitionPoint-from_clause (is_until c.args.id) _ _ c.partition_point.ensures.partitioned parts (λ a r q k. search rules) in
    parted_at c.args.id c.as_slice.result.now c.partition_point.result c.partition_point.ensures.bound point ∙ ap (λ (xs : List Row). place_after c.args.id xs) same
