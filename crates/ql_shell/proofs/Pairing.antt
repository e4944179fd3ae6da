-- Tables in memory have no device: what they answer leaves the faults of the machine beside them.
use Rattle.std.proofs.Common.{ℕ, Option, Result, Ok, Err, refl, arith}
use Rattle.ql_edge.specs.Cause.{Rose}
use Rattle.lldb_base.specs.declared.trouble.Trouble.{Trouble}
use Rattle.lldb_base.specs.declared.trouble.Trouble.TheVariants as trouble
use Rattle.ql_rel.specs.declared.db.Db.{Db}
use Rattle.ql_rel.specs.declared.fault.RelFault.{RelFault}
use Rattle.ql_rel.specs.declared.fault.RelFault.TheVariants as fault
use Rattle.ql_rel.specs.Refusals.{IsTroubleCaused, IsCausedRel, IsCausedOnly}

no_device : Rose 0 0 → ⊥
no_device h = omega (arith, h)

quiet_trouble : (limit : Option ℕ) (told : Option Db) (t : Trouble) (n : ℕ) → IsTroubleCaused limit told t 0 0 → IsTroubleCaused limit told t n n
quiet_trouble limit told trouble.Failed n h = absurd (no_device h)
quiet_trouble limit told trouble.NoMemory n h = refl
quiet_trouble limit told (trouble.Full need most) n h = (refl, h.1, h.2)
quiet_trouble limit told trouble.Damaged n h = (refl, h.1)

pub quiet : {T : Type 0} (limit : Option ℕ) (told : Option Db) (result : Result T RelFault) (n : ℕ) → IsCausedRel limit told result 0 0 → IsCausedRel limit told result n n
quiet limit told (Ok x) n h = refl
quiet limit told (Err fault.RowTooLong) n h = refl
quiet limit told (Err (fault.KeyTooLong name)) n h = refl
quiet limit told (Err fault.IdsSpent) n h = refl
quiet limit told (Err fault.TableLimit) n h = refl
quiet limit told (Err (fault.Trouble t)) n h = quiet_trouble limit told t n h

pub quiet_end : {T : Type 0} (limit : Option ℕ) (told : Option Db) (result : Result T Trouble) (n : ℕ) → IsCausedOnly limit told result 0 0 → IsCausedOnly limit told result n n
quiet_end limit told (Ok x) n h = refl
quiet_end limit told (Err t) n h = quiet_trouble limit told t n h
