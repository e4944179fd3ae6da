use Rattle.std.proofs.Common.{◌≡◌, take}
use Rattle.ql_value.specs.Print.{shown_bytes}
use Rattle.ql_value.proofs.print.plain_front.Given as goal

abbrev pub invariant-loop-i : goal.invariant-loop-i
invariant-loop-i l = shown_bytes l.in_blob (take l.i l.bytes) ≡ take l.i l.bytes
