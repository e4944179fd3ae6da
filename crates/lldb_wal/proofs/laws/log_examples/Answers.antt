use Rattle.std.proofs.Common.{refl}
use Rattle.lldb_wal.proofs.laws.log_examples.Goals as goal

pub returns : goal.returns
returns c = record {
  long = refl;
  open_log = refl;
  open_content = refl;
  cut_log = refl;
  no_content = refl;
  closed_log = refl;
  other_file = refl;
  being_made = refl;
}
