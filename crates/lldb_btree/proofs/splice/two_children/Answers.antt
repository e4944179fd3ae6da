use Rattle.lldb_btree.specs.Splicing.{entry_of}
use Rattle.lldb_btree.proofs.Splices.{two_pushed}
use Rattle.lldb_btree.proofs.splice.two_children.Goals as goal

pub returns-clause-two : goal.returns-clause-two
returns-clause-two c = λ leaf es fs a some b more. two_pushed c.new-all.result c.push_child.new.entries c.push_child-2.new.entries (entry_of es c.args.handle) (entry_of fs c.args.more) c.new-all.ensures (c.in_ok-push_child.ensures.pushed leaf es a some) (c.in_ok-push_child-2.ensures.pushed leaf fs b more)
