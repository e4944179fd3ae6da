use Rattle.std.proofs.Common.{◌≡◌, ◌+◌, ◌-◌, ◌<◌, length, vec_len, rules, arith}
use Rattle.ql_mem_rel.proofs.PieceLemmas.{rows_pushed, filled_pushed}
use Rattle.ql_mem_rel.proofs.TableLemmas.{on_ok}
use Rattle.ql_mem_rel.proofs.row_pieces.push_last.Goals as goal

pub returns-clause-ok : goal.returns-clause-ok
returns-clause-ok c =
    let counts : vec_len c.args.pieces.now ≡ length c.args.pieces.now.items = search rules in
    let last : length c.args.pieces.now.items ≡ c.len-last.result - 1 + 1 = omega (arith, c.requires.some, c.len-last.ensures) in
    on_ok c.push.result (rows_pushed c.args.pieces.now.items (c.len-last.result - 1) c.index_mut.result.now c.push.new.self c.args.row last c.index_mut.ensures.value) c.push.ensures.ok

pub returns-clause-filled : goal.returns-clause-filled
returns-clause-filled c =
    let counts : vec_len c.args.pieces.now ≡ length c.args.pieces.now.items = search rules in
    let last : c.len-last.result - 1 < length c.args.pieces.now.items = omega (arith, c.requires.some, c.len-last.ensures) in
    filled_pushed c.push.result c.args.pieces.now.items (c.len-last.result - 1) c.index_mut.result.now c.push.new.self c.args.row c.requires.filled last c.index_mut.ensures.value c.push.ensures.ok c.push.ensures.err
