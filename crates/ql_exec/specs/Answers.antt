-- How the answer of a part of a statement stands to what is defined.
use Rattle.std.specs.Prelude.{◌≡◌, List, [], Result, Ok, Err}
use Rattle.std.specs.List.{AllByRecursion}
use Rattle.lldb_base.specs.declared.trouble.Trouble.TheVariants as trouble
use Rattle.ql_value.specs.declared.value.Value.{Value}
use Rattle.ql_syntax.specs.declared.typed.Typed.{Typed}
use Rattle.ql_syntax.specs.Typing.{WellTyped}
use Rattle.ql_syntax.specs.Answers.{Answer}
use Rattle.ql_rel.specs.declared.fault.RelFault.{RelFault}
use Rattle.ql_rel.specs.declared.fault.RelFault.TheVariants as rel
use Rattle.ql_value.specs.declared.refusal.TheConstants.{ROW_TOO_LONG, KEY_TOO_LONG, IDS_SPENT, TABLE_LIMIT_REFUSAL}
use Rattle.ql_check_expr.specs.declared.fault.CheckFault.{CheckFault}
use Rattle.ql_check_expr.specs.declared.fault.CheckFault.TheVariants as check
use Rattle.ql_exec.specs.declared.fault.ExecFault.{ExecFault}
use Rattle.ql_exec.specs.declared.fault.ExecFault.TheVariants as fault

-- it is this answer, or memory ran out
abbrev pub Answers : {A : Type 0} → Answer A → Result A ExecFault → Type 0
Answers answer (Ok x) = answer ≡ Ok x
Answers answer (Err (fault.Refused r)) = answer ≡ Err r
Answers answer (Err (fault.Trouble t)) = t ≡ trouble.NoMemory

-- each expression has a type at a row
abbrev pub AreTypedAt : List Value → List Typed → Type 0
AreTypedAt row exprs = AllByRecursion (WellTyped row) exprs

-- what a relation's refusal becomes
abbrev pub fault_of_rel : RelFault → ExecFault
fault_of_rel rel.RowTooLong = fault.Refused (record { number = ROW_TOO_LONG; name = [] })
fault_of_rel (rel.KeyTooLong index) = fault.Refused (record { number = KEY_TOO_LONG; name = index })
fault_of_rel rel.IdsSpent = fault.Refused (record { number = IDS_SPENT; name = [] })
fault_of_rel rel.TableLimit = fault.Refused (record { number = TABLE_LIMIT_REFUSAL; name = [] })
fault_of_rel (rel.Trouble t) = fault.Trouble t

-- what the refusal of a statement that has no plan becomes
abbrev pub fault_of_check : CheckFault → ExecFault
fault_of_check (check.Refused r) = fault.Refused r
fault_of_check check.NoMemory = fault.Trouble trouble.NoMemory
