use Rattle.std.proofs.Common.{◌++◌, sym, ap, ◌∙◌, rules}
use Rattle.lldb_base.proofs.Entries.{copied_on}
use Rattle.lldb_base.proofs.maps.copy_map.Goals as goal

pub loop-handle-preserved : goal.loop-handle-preserved
loop-handle-preserved c =
    copied_on c.loop-handle.copy.entries c.put_entry.new.map.entries c.next.new.self c.args.map.now.entries c.in-Some.handle.now c.in-Some.content.now c.iter-handle-items.ensures.ordered (ap (λ xs. c.loop-handle.copy.entries ++ xs) (sym c.in-Some.ensures.steps) ∙ c.loop-handle.invariant) (search rules)
