use Rattle.std.proofs.Common.{List, ℕ, ◌++◌, ap, ◌∙◌}
use Rattle.lldb_btree.proofs.Decodes.{on_ok}
use Rattle.lldb_btree.proofs.Splices.{entry_added}
use Rattle.lldb_btree.proofs.splice.push_entry.Goals as goal

pub returns : goal.returns
returns c = on_ok c.extend-3.result
    (λ three. entry_added c.args.out.now c.extend-3.new.self c.args.key.now c.args.tail.now
    (three ∙ ap (λ (x : List ℕ). x ++ c.args.tail.now) (c.in_ok-extend-2.ensures.ok ∙ ap (λ (x : List ℕ). x ++ c.args.key.now) (c.in_ok-extend.ensures.ok ∙ ap (λ (x : List ℕ). c.args.out.now ++ x) c.to_be_bytes.ensures))))
    c.extend-3.ensures.ok
