use Rattle.std.proofs.Common.{List, find, sym, ap, ◌∙◌}
use Rattle.ql_rel.specs.declared.db.Row.{Row}
use Rattle.ql_rel.specs.Rels.{is_after}
use Rattle.ql_mem_rel.proofs.TableLemmas.{kept_at, rows_kept, found_fits, found_over}
use Rattle.ql_mem_rel.proofs.plain_db.PlainDb.row_after.Goals as goal

pub first_after-requires : goal.first_after-requires
first_after-requires c =
    let kept = kept_at c.args.self.now.next_id c.args.self.now.schema.tables c.args.self.now.rows.items c.args.table c.index.result.now c.args.self.now.held c.requires c.index.ensures in kept.rise

pub returns-clause-row : goal.returns-clause-row
returns-clause-row c = c.first_after.ensures ∙ ap (λ (rs : List Row). find (is_after c.args.after) rs) (sym (rows_kept c.args.self.now.next_id c.args.self.now.schema c.args.self.now.rows.items c.args.table c.index.result.now c.args.self.now.held c.requires c.index.ensures))

pub returns-clause-over : goal.returns-clause-over
returns-clause-over c = found_over c.args.after c.index.result.now c.first_after.result c.first_after.ensures

pub returns-clause-fits : goal.returns-clause-fits
returns-clause-fits c =
    let kept = kept_at c.args.self.now.next_id c.args.self.now.schema.tables c.args.self.now.rows.items c.args.table c.index.result.now c.args.self.now.held c.requires c.index.ensures in
    found_fits _ (is_after c.args.after) c.index.result.now c.first_after.result kept.fit c.first_after.ensures
