use Rattle.std.proofs.Common.{List, ℕ, ◌++◌, ap, ◌∙◌, w64}
use Rattle.std.specs.Int.{to_be_bytes}
use Rattle.lldb_btree.specs.Nodes.{entry_bytes}
use Rattle.lldb_btree.proofs.splice.push_child.Goals as goal

pub returns-in_default-clause-refuses : goal.returns-in_default-clause-refuses
returns-in_default-clause-refuses c = λ leaf es a some. c.in_default.ensures.last leaf es a some

pub returns-clause-pushed : goal.returns-clause-pushed
returns-clause-pushed c = λ leaf es a some. c.in_ok-push_entry.ensures ∙ ap (λ (t : List ℕ). c.args.entries.now ++ entry_bytes (record { key = c.in-Some.key.now; tail = t })) c.to_be_bytes.ensures ∙ ap (λ (k : List ℕ). c.args.entries.now ++ entry_bytes (record { key = k; tail = to_be_bytes w64 c.args.handle })) (c.in-Some.ensures.last leaf es a some)
