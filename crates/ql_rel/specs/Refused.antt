-- What a relation's refusal is for a statement.
use Rattle.std.specs.Prelude.{Option, Some, None, Ok}
use Rattle.ql_value.specs.declared.refusal.TheConstants.{ROW_TOO_LONG, KEY_TOO_LONG, IDS_SPENT, TABLE_LIMIT_REFUSAL}
use Rattle.ql_syntax.specs.Answers.{Answer, refused, refused_at}
use Rattle.ql_rel.specs.declared.fault.RelFault.{RelFault}
use Rattle.ql_rel.specs.declared.fault.RelFault.TheVariants as fault

-- what is asked for, unless tables refuse it: 33, 34 with the index, 35, 36; trouble is no refusal, and no definition gives it
abbrev pub unless : {A : Type 0} → Option RelFault → A → Answer A
unless None x = Ok x
unless (Some fault.RowTooLong) x = refused ROW_TOO_LONG
unless (Some (fault.KeyTooLong index)) x = refused_at KEY_TOO_LONG index
unless (Some fault.IdsSpent) x = refused IDS_SPENT
unless (Some fault.TableLimit) x = refused TABLE_LIMIT_REFUSAL
unless (Some (fault.Trouble _)) x = Ok x
