use Rattle.std.proofs.Common.{List, ℕ, ◌++◌, ap, ◌∙◌, w64}
use Rattle.std.specs.Int.{to_be_bytes}
use Rattle.lldb_btree.specs.Nodes.{entry_bytes}
use Rattle.lldb_btree.proofs.splice.push_last.Goals as goal

pub returns-then-ends-clause-pushed : goal.returns-then-ends-clause-pushed
returns-then-ends-clause-pushed c = λ leaf es a some last. c.in_ok-push_entry.ensures ∙ ap (λ (t : List ℕ). c.args.entries.now ++ entry_bytes (record { key = c.args.key.now; tail = t })) c.to_be_bytes.ensures ∙ ap (λ (k : List ℕ). c.args.entries.now ++ entry_bytes (record { key = k; tail = to_be_bytes w64 c.args.handle })) (last c.if-ends.true)
