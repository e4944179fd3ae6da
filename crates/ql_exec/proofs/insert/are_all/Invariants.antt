use Rattle.std.proofs.Common.{◌≡◌, drop}
use Rattle.ql_exec.specs.Selections.{counts_from}
use Rattle.ql_exec.proofs.insert.are_all.Given as goal

-- the numbers so far count up
abbrev pub invariant-numbers : goal.invariant-numbers
invariant-numbers l = record {
  place : l.place ≡ l.number-index;
  counts : counts_from l.place (drop l.number-index l.numbers) ≡ counts_from 0 l.numbers;
}
