-- The questions to two strings.
use Rattle.std.specs.Prelude.{ℕ, Bool, List}
use Rattle.ql_syntax.specs.Values.{contains, has_prefix, has_suffix}
use Rattle.ql_eval.specs.declared.function.Question.{Question}
use Rattle.ql_eval.specs.declared.function.Question.TheVariants as q

-- what a question tests
abbrev pub test_of : Question → List ℕ → List ℕ → Bool
test_of q.Contains = contains
test_of q.HasPrefix = has_prefix
test_of q.HasSuffix = has_suffix
