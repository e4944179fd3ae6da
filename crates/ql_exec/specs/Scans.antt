-- The types of a table's rows, and text that is added.
use Rattle.std.specs.Prelude.{◌≡◌, ℕ, List, ◌∷◌, ◌++◌, map, Result, Ok, Err}
use Rattle.ql_value.specs.declared.value.Kind.TheVariants as k
use Rattle.ql_syntax.specs.declared.statement.ColumnDef.{ColumnDef}
use Rattle.ql_syntax.specs.declared.typing.Typing.{Typing}
use Rattle.ql_syntax.specs.declared.typing.Typing.TheVariants.{OfKind}
use Rattle.ql_syntax.specs.Answers.{Answer}
use Rattle.ql_exec.specs.declared.fault.ExecFault.{ExecFault}
use Rattle.ql_exec.specs.declared.fault.ExecFault.TheVariants as fault

-- the types of a table's rows as expressions see them: that of the id, then those of the columns
abbrev pub table_types : List ColumnDef → List Typing
table_types columns = OfKind k.Int64 ∷ map (λ (c : ColumnDef). OfKind c.kind) columns

-- a text was added behind another one
pub record Added (answer : Answer (List ℕ)) (before now : List ℕ) : Type 0 where
  pub text : List ℕ
  pub is : answer ≡ Ok text
  pub grown : now ≡ before ++ text

-- a text is added, or has this refusal, or trouble comes in place of either
abbrev pub AddsText : {T : Type 0} → Answer (List ℕ) → Result T ExecFault → (before now : List ℕ) → Type 0
AddsText answer (Ok _) before now = Added answer before now
AddsText answer (Err (fault.Refused r)) before now = answer ≡ Err r
AddsText answer (Err (fault.Trouble _)) before now = Unit {0}
