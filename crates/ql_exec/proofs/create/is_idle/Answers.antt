-- A table that is there does not stand behind the last one.
use Rattle.std.proofs.Common.{ap, ◌∙◌}
use Rattle.ql_rel.specs.declared.schema.Schema.{Schema}
use Rattle.ql_exec.proofs.Dropped.{there_is}
use Rattle.ql_exec.proofs.create.is_idle.Goals as goal

pub returns-then-quiet : goal.returns-then-quiet
returns-then-quiet g c =
    rw c.if-quiet.true (there_is c.args.name.now c.place_named.result c.as_slice-tables.result.now (g.R.Rel.schema c.args.rel.now) c.place_named.ensures (c.as_slice-tables.ensures ∙ ap (λ (s : Schema). s.tables) c.schema.ensures))
