use Rattle.lldb_atoms.proofs.Classes.{class_by_log}
use Rattle.lldb_atoms.proofs.class.class_of.Goals as goal

pub returns-clause-class : goal.returns-clause-class
returns-clause-class c = class_by_log c.args.atoms c.ilog2.result c.min.result c.ilog2.ensures.power_le c.ilog2.ensures.next_power_gt c.min.ensures
