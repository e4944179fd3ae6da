use Rattle.std.proofs.Common.{◌≡◌, length, vec_len, rules, arith}
use Rattle.ql_rel.specs.Changes.{no_rows}
use Rattle.ql_mem_rel.proofs.TableLemmas.{set-as}
use Rattle.ql_mem_rel.proofs.plain_rows.clear_rows.Goals as goal

pub returns-clause-cleared : goal.returns-clause-cleared
returns-clause-cleared c =
    let counts : vec_len c.args.rows.now ≡ length c.args.rows.now.items = search rules in
    set-as (no_rows) c.args.rows.now.items c.args.table c.index_mut.result.now c.clear.new.self (omega arith) c.index_mut.ensures.value c.clear.ensures
