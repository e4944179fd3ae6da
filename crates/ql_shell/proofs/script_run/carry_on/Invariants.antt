use Rattle.std.proofs.Common.{◌≡◌, ◌+◌, ◌≤◌, ◌<◌, ◌^◌, length}
use Rattle.std.specs.Prelude.{All}
use Rattle.std.specs.Vec.Iter.{into_iter_items, into_iter_len}
use Rattle.ql_syntax.specs.ReadsBack.{IsReadBack}
use Rattle.ql_rel.specs.Sessions.{State, session}
use Rattle.ql_shell.specs.Goings.{IsAt, LeavesRest, MayGoOn}
use Rattle.ql_shell.specs.Pieces.{RunsFrom}
use Rattle.ql_shell.proofs.script_run.carry_on.Given as goal

abbrev pub invariant-statements : goal.invariant-statements
invariant-statements g l = record {
  can_next : (goal.iterator-statements g).can_next l.statement-iterator;
  is_finite : (goal.iterator-statements g).is_finite l.statement-iterator;
  items : into_iter_len l.statement-iterator ≡ length (into_iter_items l.statement-iterator);
  counted : l.number + into_iter_len l.statement-iterator ≡ length l.fn.statements;
  small : length l.fn.statements < 2 ^ 63;
  commits : l.script.commits ≤ l.number;
  on : MayGoOn (g.R.Rel.is_ready l.script.rel) (g.R.Rel.saved l.script.rel) l.script.base;
  read : All IsReadBack (into_iter_items l.statement-iterator);
  runs : (st : State) → IsAt (g.R.Rel.db l.fn.script.rel) (g.R.Rel.saved l.fn.script.rel) l.fn.script.commits l.fn.script.base st
      → RunsFrom l.fn.script.with_names l.fn.script.ack (session l.fn.script.with_names l.fn.script.ack 1 l.fn.statements st) st.kept (g.R.Shows.told l.fn.script.rel) (g.R.Shows.told l.script.rel) (l.number + 1) (into_iter_items l.statement-iterator)
      (g.R.Rel.db l.script.rel) (g.R.Rel.saved l.script.rel) l.script.commits l.script.base;
  ack : l.script.ack ≡ l.fn.script.ack;
  with_names : l.script.with_names ≡ l.fn.script.with_names;
  leaves : LeavesRest g.R.Rel.limit g.R.Shows.left g.R.Shows.fixed l.fn.script.rel l.script.rel;
  faults : g.R.Shows.faults l.script.rel ≡ g.R.Shows.faults l.fn.script.rel;
}
