use Rattle.std.proofs.Common.{refl}
use Rattle.ql_rel.proofs.ChangeLemmas.{schema_kept, others_kept, fresh_id, have_inserted, have_values, have_removed, have_truncated}
use Rattle.ql_rel.proofs.OtherLemmas.{leaves_created, leaves_dropped, leaves_widened, leaves_narrowed, those_dropped, those_narrowed, leaves_indexed, leaves_unindexed}
use Rattle.ql_rel.proofs.laws.change_laws.Goals as goal

pub returns : goal.returns
returns c = record {
  schema = schema_kept;
  others = others_kept;
  next = λ table change db. refl;
  fresh = fresh_id;
  insert = have_inserted;
  change = have_values;
  remove = have_removed;
  truncate = have_truncated;
  create_table = λ table db. (leaves_created table db, refl, refl);
  drop_table = λ table db. (leaves_dropped table db, those_dropped table db, refl);
  add_column = λ table column db. (leaves_widened table column db, refl, refl);
  drop_column = λ table column db. (leaves_narrowed table column db, those_narrowed table column db, refl);
  create_index = λ index db. (leaves_indexed index db, refl, refl);
  drop_index = λ place index db there. (leaves_unindexed place index db there, refl, refl);
}
