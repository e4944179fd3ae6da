-- Groups of kinds, as the tests that the definitions take.
use Rattle.std.specs.Prelude.{Bool, true, false, ◌||◌, not}
use Rattle.ql_value.specs.declared.value.Kind.{Kind}
use Rattle.ql_value.specs.Kinds.{is_integer, is_truth, is_text, is_byte_list}
use Rattle.ql_syntax.specs.declared.typing.Typing.{Typing}
use Rattle.ql_syntax.specs.declared.typing.Typing.TheVariants.{OfKind}
use Rattle.ql_syntax.specs.Typing.{converts}
use Rattle.ql_check_expr.specs.declared.table.Group.{Group}
use Rattle.ql_check_expr.specs.declared.table.Group.TheVariants as group

-- the kinds of a group
abbrev pub test_of : Group → Kind → Bool
test_of group.Integers = is_integer
test_of group.Truths = is_truth
test_of group.Ordered = λ kind. not (is_truth kind)
test_of group.Sums = λ kind. is_integer kind || is_text kind
test_of group.Strings = is_text
test_of group.ByteLists = is_byte_list
test_of (group.Into kind) = converts kind

-- an expression of its own kind
abbrev pub has_kind_of : Bool → Typing → Bool
has_kind_of false (OfKind kind) = true
has_kind_of _ _ = false
