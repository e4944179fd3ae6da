use Rattle.std.proofs.Common.{◌≡◌, length, vec_len, map, rules, arith}
use Rattle.ql_rel.specs.Changes.{with_values}
use Rattle.ql_mem_rel.proofs.TableLemmas.{set-as}
use Rattle.ql_mem_rel.proofs.plain_rows.change_row.Goals as goal

pub returns-clause-changed : goal.returns-clause-changed
returns-clause-changed c =
    let counts : vec_len c.args.rows.now ≡ length c.args.rows.now.items = search rules in
    set-as (map (with_values c.args.id c.args.values)) c.args.rows.now.items c.args.table c.index_mut.result.now c.change.new.self (omega arith) c.index_mut.ensures.value c.change.ensures
