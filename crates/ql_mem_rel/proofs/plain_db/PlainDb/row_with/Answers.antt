use Rattle.std.proofs.Common.{List, find, sym, ap, ◌∙◌}
use Rattle.ql_rel.specs.declared.db.Row.{Row}
use Rattle.ql_rel.specs.Rels.{has_id}
use Rattle.ql_mem_rel.proofs.TableLemmas.{kept_at, rows_kept, found_fits, found_id}
use Rattle.ql_mem_rel.proofs.plain_db.PlainDb.row_with.Goals as goal

pub with_id-requires : goal.with_id-requires
with_id-requires c =
    let kept = kept_at c.args.self.now.next_id c.args.self.now.schema.tables c.args.self.now.rows.items c.args.table c.index.result.now c.args.self.now.held c.requires c.index.ensures in kept.rise

pub returns-clause-row : goal.returns-clause-row
returns-clause-row c = c.with_id.ensures ∙ ap (λ (rs : List Row). find (has_id c.args.id) rs) (sym (rows_kept c.args.self.now.next_id c.args.self.now.schema c.args.self.now.rows.items c.args.table c.index.result.now c.args.self.now.held c.requires c.index.ensures))

pub returns-clause-asked : goal.returns-clause-asked
returns-clause-asked c = found_id c.args.id c.index.result.now c.with_id.result c.with_id.ensures

pub returns-clause-fits : goal.returns-clause-fits
returns-clause-fits c =
    let kept = kept_at c.args.self.now.next_id c.args.self.now.schema.tables c.args.self.now.rows.items c.args.table c.index.result.now c.args.self.now.held c.requires c.index.ensures in
    found_fits _ (has_id c.args.id) c.index.result.now c.with_id.result kept.fit c.with_id.ensures
