use Rattle.std.proofs.Common.{◌≡◌, []}
use Rattle.ql_value.specs.declared.value.Kind.TheVariants as k
use Rattle.ql_syntax.specs.declared.typing.Typing.TheVariants.{OfKind}
use Rattle.ql_syntax.specs.Typing.{type_of}
use Rattle.test_language.proofs.evaluation.nested.Given as goal

abbrev pub invariant-loop : goal.invariant-loop
invariant-loop g l = type_of [] l.expr ≡ OfKind k.Int64
