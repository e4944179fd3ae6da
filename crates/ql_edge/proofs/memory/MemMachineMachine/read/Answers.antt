use Rattle.ql_edge.proofs.memory.MemMachineMachine.read.Goals as goal

pub returns-clause-same : goal.returns-clause-same
returns-clause-same c = record { name = c.note.ensures.same.name; rises = c.note.ensures.same.rises; volume = c.note.ensures.same.volume }
