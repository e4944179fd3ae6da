use Rattle.std.proofs.Common.{◌≡◌, ◌≤◌, length, vec_len, ap, ◌∙◌, rules, arith}
use Rattle.ql_mem_rel.specs.Pieces.{rows_of, piece_after}
use Rattle.ql_mem_rel.proofs.PieceLemmas.{removed_as, removed_none}
use Rattle.ql_mem_rel.proofs.row_pieces.remove.Goals as goal

pub returns-then-at-len-clause-rows : goal.returns-then-at-len-clause-rows
returns-then-at-len-clause-rows c =
    let counts : vec_len c.args.pieces.now ≡ length c.args.pieces.now.items = search rules in
    let place : c.piece_after-at.result ≡ piece_after c.saturating_sub.result c.args.pieces.now.items = c.piece_after-at.ensures ∙ ap (piece_after c.saturating_sub.result) c.as_slice.ensures.value in
    c.drop_empty.ensures.rows ∙ ap rows_of c.remove_at.ensures.pieces ∙ removed_as c.args.id c.args.pieces.now.items c.saturating_sub.result c.piece_after-at.result c.requires.filled c.requires.rise c.saturating_sub.ensures place

pub returns-else-at-len-clause-rows : goal.returns-else-at-len-clause-rows
returns-else-at-len-clause-rows c =
    let counts : vec_len c.args.pieces.now ≡ length c.args.pieces.now.items = search rules in
    let place : c.piece_after-at.result ≡ piece_after c.saturating_sub.result c.args.pieces.now.items = c.piece_after-at.ensures ∙ ap (piece_after c.saturating_sub.result) c.as_slice.ensures.value in
    let past : length c.args.pieces.now.items ≤ c.piece_after-at.result = omega (arith, c.if-at-len.false, c.len.ensures) in
    removed_none c.args.id c.args.pieces.now.items c.saturating_sub.result c.piece_after-at.result c.requires.filled c.requires.rise c.saturating_sub.ensures place past
