use Rattle.ql_rel.proofs.ColumnForms.{well_added}
use Rattle.ql_rel.proofs.FormLemmas.{well_empty, well_inserted, well_changed, well_removed, well_truncated}
use Rattle.ql_rel.proofs.NarrowForms.{well_narrowed}
use Rattle.ql_rel.proofs.TableForms.{well_created, well_dropped}
use Rattle.ql_rel.proofs.laws.form_laws.Goals as goal

pub returns : goal.returns
returns c = record {
  empty = well_empty;
  insert = well_inserted;
  change = well_changed;
  remove = well_removed;
  truncate = well_truncated;
  create_table = well_created;
  drop_table = well_dropped;
  add_column = well_added;
  drop_column = well_narrowed;
}
