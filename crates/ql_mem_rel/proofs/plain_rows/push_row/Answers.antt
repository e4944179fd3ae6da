use Rattle.std.proofs.Common.{◌≡◌, ◌<◌, length, vec_len, rules, arith}
use Rattle.ql_rel.specs.Changes.{with_row}
use Rattle.ql_mem_rel.proofs.TableLemmas.{set-as, on_ok}
use Rattle.ql_mem_rel.proofs.plain_rows.push_row.Goals as goal

pub returns-clause-ok : goal.returns-clause-ok
returns-clause-ok c =
    let counts : vec_len c.args.rows.now ≡ length c.args.rows.now.items = search rules in
    let within : c.args.table < length c.args.rows.now.items = omega arith in
    on_ok c.push.result (set-as (with_row c.args.row) c.args.rows.now.items c.args.table c.index_mut.result.now c.push.new.self within c.index_mut.ensures.value) c.push.ensures.ok
