use Rattle.ql_rel.proofs.EventLemmas.{places_rise, places_each, told_none, told_all, told_more, texts_join, commits_join, kept_join}
use Rattle.ql_rel.proofs.meaning_laws.event_laws.Goals as goal

pub returns : goal.returns
returns c = record {
  rise = places_rise;
  each = places_each;
  none = told_none;
  all = told_all;
  more = told_more;
  texts = texts_join;
  commits = commits_join;
  kept = kept_join;
}
