-- The columns that the values of a statement are for.
use Rattle.std.specs.Prelude.{ℕ, suc, ◌==◌, if◌then◌else◌, List, [], ◌∷◌, ◌++◌, length, map, Option, Some, None, Ok}
use Rattle.std.specs.Str.{bytes_eq}
use Rattle.ql_value.specs.Kinds.{same_kind}
use Rattle.ql_value.specs.declared.refusal.TheConstants.{NO_COLUMN, AMBIGUOUS, COUNT}
use Rattle.ql_value.specs.declared.value.Kind.{Kind}
use Rattle.ql_syntax.specs.declared.checked.Checked.{Checked}
use Rattle.ql_syntax.specs.declared.statement.ColumnDef.{ColumnDef}
use Rattle.ql_syntax.specs.declared.typed.Typed.{Typed}
use Rattle.ql_syntax.specs.declared.typing.Typing.TheVariants.{OfKind}
use Rattle.ql_syntax.specs.Answers.{Answer, refused, refused_at, then_with}
use Rattle.ql_syntax.specs.Checked.{meet_type, require_type}
use Rattle.ql_syntax.specs.Typing.{among}
use Rattle.ql_rel.specs.declared.change.Target.{Target}
use Rattle.ql_rel.specs.Names.{has_name}

-- the column with a name; the first one has this number
abbrev pub target_named : List ℕ → ℕ → List ColumnDef → Option Target
target_named name at [] = None
target_named name at (c ∷ columns) = if bytes_eq c.name name then Some (record { at = at; kind = c.kind }) else target_named name (suc at) columns

-- a column that is there, and else 2
abbrev pub target_there : List ℕ → Option Target → Answer Target
target_there name None = refused_at NO_COLUMN name
target_there name (Some target) = Ok target

-- a column that is named behind others: 3 where it is one of them
abbrev pub named_once : List ℕ → List (List ℕ) → Answer (Unit {0})
named_once name before = if has_name name before then refused_at AMBIGUOUS name else Ok tt

-- a column that values are for, named behind others: 2, then 3
abbrev pub new_target : List ColumnDef → List (List ℕ) → List ℕ → Answer Target
new_target columns before name = then_with (target_there name (target_named name 0 columns)) (λ target. then_with (named_once name before) (λ _. Ok target))

-- all columns of a table, in their order; the first one has this number
abbrev pub all_targets : ℕ → List ColumnDef → List Target
all_targets at [] = []
all_targets at (c ∷ columns) = record { at = at; kind = c.kind } ∷ all_targets (suc at) columns

-- columns that are named, behind others with these names, from left to right
abbrev pub named_targets : List ColumnDef → List (List ℕ) → List (List ℕ) → Answer (List Target)
named_targets columns before [] = Ok []
named_targets columns before (name ∷ names) =
    then_with (new_target columns before name) (λ target. then_with (named_targets columns (before ++ name ∷ []) names) (λ targets. Ok (target ∷ targets)))

-- the columns of an INSERT: those that are named, or all
abbrev pub targets_of : List ColumnDef → List (List ℕ) → Answer (List Target)
targets_of columns [] = Ok (all_targets 0 columns)
targets_of columns (name ∷ names) = named_targets columns [] (name ∷ names)

-- the numbers and the kinds of the columns
abbrev pub numbers_of : List Target → List ℕ
numbers_of targets = map (λ (t : Target). t.at) targets

abbrev pub kinds_of : List Target → List Kind
kinds_of targets = map (λ (t : Target). t.kind) targets

-- a value for a column of a kind: an untyped one takes the kind, 7 where it is outside, and another has it, else 5
abbrev pub for_kind : Kind → Checked → Answer Typed
for_kind kind c =
    then_with (meet_type (OfKind kind) c) (λ met. then_with (require_type (among (same_kind kind) met.typing)) (λ _. Ok met.tree))

-- values for columns, from left to right
abbrev pub for_targets : List Target → List Checked → Answer (List Typed)
for_targets (target ∷ targets) (c ∷ parts) = then_with (for_kind target.kind c) (λ tree. then_with (for_targets targets parts) (λ trees. Ok (tree ∷ trees)))
for_targets _ _ = Ok []

-- as many values as columns, else 6
abbrev pub counted_for : List Target → List Checked → Answer (List Typed)
counted_for targets parts = if length parts == length targets then for_targets targets parts else refused COUNT
