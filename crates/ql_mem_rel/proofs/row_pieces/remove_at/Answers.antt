use Rattle.std.proofs.Common.{◌≡◌, length, vec_len, filter, subst, sym, rules, arith}
use Rattle.ql_rel.specs.Changes.{is_other}
use Rattle.ql_mem_rel.specs.Pieces.{AllFilledBut}
use Rattle.ql_mem_rel.proofs.PieceLemmas.{rise_here, filled_but}
use Rattle.ql_mem_rel.proofs.TableLemmas.{set-as}
use Rattle.ql_mem_rel.proofs.row_pieces.remove_at.Goals as goal

pub remove-requires : goal.remove-requires
remove-requires c =
    let counts : vec_len c.args.pieces.now ≡ length c.args.pieces.now.items = search rules in
    rise_here c.args.pieces.now.items c.args.at c.index_mut.result.now c.requires.filled c.requires.rise (omega (arith, c.requires.within)) c.index_mut.ensures.value

pub returns-clause-pieces : goal.returns-clause-pieces
returns-clause-pieces c =
    let counts : vec_len c.args.pieces.now ≡ length c.args.pieces.now.items = search rules in
    set-as (filter (is_other c.args.id)) c.args.pieces.now.items c.args.at c.index_mut.result.now c.remove.new.self (omega (arith, c.requires.within)) c.index_mut.ensures.value c.remove.ensures

pub returns-clause-filled : goal.returns-clause-filled
returns-clause-filled c =
    let counts : vec_len c.args.pieces.now ≡ length c.args.pieces.now.items = search rules in
    let set = set-as (filter (is_other c.args.id)) c.args.pieces.now.items c.args.at c.index_mut.result.now c.remove.new.self (omega (arith, c.requires.within)) c.index_mut.ensures.value c.remove.ensures in
    subst (AllFilledBut c.args.at) (sym set) (filled_but c.args.at (filter (is_other c.args.id)) c.args.pieces.now.items c.requires.filled)
