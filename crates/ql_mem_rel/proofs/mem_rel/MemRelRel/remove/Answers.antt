use Rattle.ql_mem_rel.proofs.FormedLemmas.{removed_formed}
use Rattle.ql_mem_rel.proofs.mem_rel.MemRelRel.remove.Goals as goal

pub invariant_of-self : goal.invariant_of-self
invariant_of-self c = record {
  few = c.args.self.now.few;
  formed = removed_formed c.form_laws.ensures c.args.table c.args.id c.args.self.now.present c.remove.new.self c.args.self.now.formed c.remove.ensures.db;
  saved_formed = c.args.self.now.saved_formed;
}
