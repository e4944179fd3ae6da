use Rattle.ql_rel.proofs.CreateLemmas.{has_plan, created_made}
use Rattle.ql_rel.proofs.meaning_laws.plan_laws.Goals as goal

pub returns : goal.returns
returns c = record {
  create = λ t db p made r e past. created_made t db made r (has_plan t _ p e) past;
}
