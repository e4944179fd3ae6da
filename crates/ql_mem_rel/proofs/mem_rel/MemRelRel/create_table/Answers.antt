use Rattle.ql_mem_rel.proofs.FormedLemmas.{created_formed}
use Rattle.ql_mem_rel.proofs.mem_rel.MemRelRel.create_table.Goals as goal

pub invariant_of-self-2 : goal.invariant_of-self-2
invariant_of-self-2 c = record {
  few = c.args.self.now.few;
  formed = created_formed c.form_laws.ensures c.args.table.now c.args.self.now.present c.create_table.new.self c.args.self.now.formed c.requires.some c.requires.free c.requires.made c.in_ok-create_table.ensures.refused c.in_ok-create_table.ensures.db;
  saved_formed = c.args.self.now.saved_formed;
}
