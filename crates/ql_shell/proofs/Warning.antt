-- The line that is warned behind what ended the run.
use Rattle.std.proofs.Common.{ℕ, inl, inr, List, Option, arith, ◌∙◌}
use Rattle.ql_edge.specs.Cause.{Rose}
use Rattle.ql_shell.specs.Cause.{IsCausedStatus}
use Rattle.ql_shell.specs.Run.{WarnsLine, Warns, RoseTwice}
use Rattle.ql_shell.specs.declared.status.Status.{Status}
use Rattle.ql_shell.specs.declared.status.Status.TheVariants.{Done, Script, Refused, Usage, Fault, NoMemory}

rose_twice : (a b c : ℕ) → Rose a b → Rose b c → RoseTwice a c
rose_twice a b c h k = omega (arith, h, k)

pub warns : (s : Status) (before now : Option (List ℕ)) (start faults end : ℕ) → IsCausedStatus s start faults → WarnsLine s before now faults end → Warns s before now start end
warns NoMemory before now start faults end cause line = tt
warns Fault before now start faults end cause (inl w) = inl (w.0, let same = w.1 in omega (arith, cause, same))
warns Fault before now start faults end cause (inr w) = inr (w.0, rose_twice start faults end cause w.1)
warns Done before now start faults end cause line = (line.0, line.1 ∙ cause)
warns (Script _) before now start faults end cause line = rw (← cause) line
warns (Refused _ _) before now start faults end cause line = rw (← cause) line
warns (Usage _) before now start faults end cause line = rw (← cause) line
