-- The plan has types over the record sets that are opened.
use Rattle.std.proofs.Common.{List, sym, subst}
use Rattle.ql_syntax.specs.declared.typing.Typing.{Typing}
use Rattle.ql_rel.specs.PlanTypes.{SelectTyped}
use Rattle.ql_rel.proofs.SelectFits.{select_typed}
use Rattle.ql_exec.proofs.select.add_shown.Goals as goal

pub count_of-requires : goal.count_of-requires
count_of-requires g c = (select_typed (g.R.Rel.schema c.args.rel.now) c.args.select.now c.args.plan.now c.requires.plan).limit

pub count_of-requires-2 : goal.count_of-requires-2
count_of-requires-2 g c = (select_typed (g.R.Rel.schema c.args.rel.now) c.args.select.now c.args.plan.now c.requires.plan).offset

pub add_result-requires-clause-typed : goal.add_result-requires-clause-typed
add_result-requires-clause-typed g c =
    subst (λ (types : List Typing). SelectTyped types c.args.plan.now) (sym c.in-Some.ensures.types) (select_typed (g.R.Rel.schema c.args.rel.now) c.args.select.now c.args.plan.now c.requires.plan)
