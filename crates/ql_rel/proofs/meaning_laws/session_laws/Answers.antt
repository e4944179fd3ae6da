use Rattle.std.proofs.Common.{refl}
use Rattle.ql_rel.proofs.SessionLemmas.{opened_levelled, step_levelled, back_again, step_told, finish_told, commit_once}
use Rattle.ql_rel.proofs.meaning_laws.session_laws.Goals as goal

pub returns : goal.returns
returns c = record {
  first = opened_levelled;
  levelled = step_levelled;
  back = back_again;
  inner = λ ack outer d st. refl;
  told = step_told;
  end_told = finish_told;
  gone = λ st. refl;
  kept = λ st. refl;
  once = commit_once;
}
