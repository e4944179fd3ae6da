use Rattle.std.proofs.Common.{◌≡◌, ◌<◌, ◌≤◌, length, vec_len, subst, sym, ap, ◌∙◌, rules, arith}
use Rattle.ql_mem_rel.specs.Pieces.{rows_of, piece_after, AllFilled}
use Rattle.ql_mem_rel.proofs.PieceLemmas.{rise_here, changed_as, changed_none, changed_set, filled_changed}
use Rattle.ql_mem_rel.proofs.row_pieces.change.Goals as goal

pub change-requires : goal.change-requires
change-requires c =
    let counts : vec_len c.args.pieces.now ≡ length c.args.pieces.now.items = search rules in
    rise_here c.args.pieces.now.items c.piece_after-at.result c.index_mut.result.now c.requires.filled c.requires.rise (omega (arith, c.if-at-len.true, c.len.ensures)) c.index_mut.ensures.value

pub returns-then-at-len-clause-rows : goal.returns-then-at-len-clause-rows
returns-then-at-len-clause-rows c =
    let counts : vec_len c.args.pieces.now ≡ length c.args.pieces.now.items = search rules in
    let place : c.piece_after-at.result ≡ piece_after c.saturating_sub.result c.args.pieces.now.items = c.piece_after-at.ensures ∙ ap (piece_after c.saturating_sub.result) c.as_slice.ensures.value in
    let within : c.piece_after-at.result < length c.args.pieces.now.items = omega (arith, c.if-at-len.true, c.len.ensures) in
    ap rows_of (changed_set c.args.id c.args.values c.args.pieces.now.items c.piece_after-at.result c.index_mut.result.now c.change.new.self within c.index_mut.ensures.value c.change.ensures)
    ∙ changed_as c.args.id c.args.values c.args.pieces.now.items c.saturating_sub.result c.piece_after-at.result c.requires.filled c.requires.rise c.saturating_sub.ensures place

pub returns-then-at-len-clause-filled : goal.returns-then-at-len-clause-filled
returns-then-at-len-clause-filled c =
    let counts : vec_len c.args.pieces.now ≡ length c.args.pieces.now.items = search rules in
    let within : c.piece_after-at.result < length c.args.pieces.now.items = omega (arith, c.if-at-len.true, c.len.ensures) in
    subst AllFilled (sym (changed_set c.args.id c.args.values c.args.pieces.now.items c.piece_after-at.result c.index_mut.result.now c.change.new.self within c.index_mut.ensures.value c.change.ensures)) (filled_changed c.piece_after-at.result c.args.id c.args.values c.args.pieces.now.items c.requires.filled)

pub returns-else-at-len-clause-rows : goal.returns-else-at-len-clause-rows
returns-else-at-len-clause-rows c =
    let counts : vec_len c.args.pieces.now ≡ length c.args.pieces.now.items = search rules in
    let place : c.piece_after-at.result ≡ piece_after c.saturating_sub.result c.args.pieces.now.items = c.piece_after-at.ensures ∙ ap (piece_after c.saturating_sub.result) c.as_slice.ensures.value in
    let past : length c.args.pieces.now.items ≤ c.piece_after-at.result = omega (arith, c.if-at-len.false, c.len.ensures) in
    changed_none c.args.id c.args.values c.args.pieces.now.items c.saturating_sub.result c.piece_after-at.result c.requires.filled c.requires.rise c.saturating_sub.ensures place past
