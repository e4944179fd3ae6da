-- The place of a table is a small number.
use Rattle.std.proofs.Common.{ap, ◌∙◌, arith}
use Rattle.ql_rel.specs.declared.schema.Schema.{Schema}
use Rattle.ql_exec.proofs.Planned.{small_place}
use Rattle.ql_exec.proofs.insert.table_named.Goals as goal

pub overflow_cast-result : goal.overflow_cast-result
overflow_cast-result g c =
    let named = c.as_slice.ensures ∙ ap (λ (s : Schema). s.tables) c.schema.ensures in
    let small = small_place c.place_named.result c.args.name.now c.as_slice.result.now (g.R.Rel.schema c.args.rel.now) c.place_named.ensures named c.requires (g.met.R.Rel.within c.args.rel.now) in
    record { fits = omega (arith, small) }
