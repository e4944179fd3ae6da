use Rattle.ql_mem_rel.proofs.FormedLemmas.{added_formed}
use Rattle.ql_mem_rel.proofs.mem_rel.MemRelRel.add_column.Goals as goal

pub invariant_of-self-2 : goal.invariant_of-self-2
invariant_of-self-2 c = record {
  few = c.args.self.now.few;
  formed = added_formed c.form_laws.ensures c.args.table c.args.column.now c.args.self.now.present c.add_column.new.self c.args.self.now.formed c.requires.made c.in_ok-add_column.ensures.refused c.in_ok-add_column.ensures.db;
  saved_formed = c.args.self.now.saved_formed;
}
