use Rattle.std.proofs.Common.{◌≡◌, length, vec_len, subst, sym, ap, ◌∙◌, rules, arith}
use Rattle.ql_mem_rel.specs.Pieces.{rows_of, AllFilled}
use Rattle.ql_mem_rel.proofs.PieceLemmas.{rows_dropped, filled_left, filled_kept}
use Rattle.ql_mem_rel.proofs.row_pieces.drop_empty.Goals as goal

pub returns-then-len-eq0-clause-rows : goal.returns-then-len-eq0-clause-rows
returns-then-len-eq0-clause-rows c =
    let counts : vec_len c.args.pieces.now ≡ length c.args.pieces.now.items = search rules in
    ap rows_of c.remove.ensures.items ∙ rows_dropped c.args.pieces.now.items c.args.at c.index.result.now c.len.result (omega (arith, c.requires.within)) c.index.ensures c.len.ensures c.if-len-eq0.true

pub returns-then-len-eq0-clause-filled : goal.returns-then-len-eq0-clause-filled
returns-then-len-eq0-clause-filled c =
    let counts : vec_len c.args.pieces.now ≡ length c.args.pieces.now.items = search rules in
    subst AllFilled (sym c.remove.ensures.items) (filled_left c.args.at c.args.pieces.now.items c.requires.filled (omega (arith, c.requires.within)))

pub returns-else-len-eq0-clause-filled : goal.returns-else-len-eq0-clause-filled
returns-else-len-eq0-clause-filled c =
    let counts : vec_len c.args.pieces.now ≡ length c.args.pieces.now.items = search rules in
    filled_kept c.args.pieces.now.items c.args.at c.index.result.now c.len.result c.requires.filled (omega (arith, c.requires.within)) c.index.ensures c.len.ensures c.if-len-eq0.false
