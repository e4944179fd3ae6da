use Rattle.std.proofs.Common.{IsSome}
use Rattle.ql_edge.specs.HostMachine.{name_of}
use Rattle.test_volume.proofs.carry_out.Given as goal

abbrev pub invariant-loop-word : goal.invariant-loop-word
invariant-loop-word l = IsSome (name_of l.machine)
