-- The plan has types over the record sets that are opened.
use Rattle.std.proofs.Common.{List, sym, subst}
use Rattle.ql_syntax.specs.declared.typing.Typing.{Typing}
use Rattle.ql_rel.specs.PlanTypes.{SelectTyped}
use Rattle.ql_exec.proofs.gather.gather_in_turn.Goals as goal

pub count_of-requires : goal.count_of-requires
count_of-requires g c = c.requires.typed.limit

pub count_of-requires-2 : goal.count_of-requires-2
count_of-requires-2 g c = c.requires.typed.offset

pub gather_result-requires-clause-typed : goal.gather_result-requires-clause-typed
gather_result-requires-clause-typed g c = subst (λ (types : List Typing). SelectTyped types c.args.plan.now) (sym c.in-Some.ensures.types) c.requires.typed
