use Rattle.std.proofs.Common.{◌≡◌, length, vec_len, filter, rules, arith}
use Rattle.ql_rel.specs.Changes.{is_other}
use Rattle.ql_mem_rel.proofs.TableLemmas.{set-as}
use Rattle.ql_mem_rel.proofs.plain_rows.remove_row.Goals as goal

pub returns-clause-removed : goal.returns-clause-removed
returns-clause-removed c =
    let counts : vec_len c.args.rows.now ≡ length c.args.rows.now.items = search rules in
    set-as (filter (is_other c.args.id)) c.args.rows.now.items c.args.table c.index_mut.result.now c.remove.new.self (omega arith) c.index_mut.ensures.value c.remove.ensures
