-- What is said of a relation in memory.
use Rattle.std.proofs.Common.{◌≡◌, ℕ, List, [], ◌∷◌, ◌++◌, length, Option, Some, Result, Ok, Err, refl, ap, ◌∙◌, arith}
use Rattle.std.proofs.lemmas.List.{length-append}
use Rattle.ql_rel.specs.declared.db.Db.{Db}
use Rattle.ql_rel.specs.declared.fault.RelFault.{RelFault}
use Rattle.ql_rel.specs.declared.fault.RelFault.TheVariants as fault
use Rattle.ql_mem_rel.specs.declared.plain_db.PlainDb.{PlainDb}
use Rattle.ql_mem_rel.specs.Kept.{db_of, saved_of, WantsMemory}
use Rattle.ql_rel.specs.Refusals.{IsCausedRel, NeedsAtMost}

pub saved_length : (all : List PlainDb) → length (saved_of all) ≡ length all
saved_length [] = refl
saved_length (x ∷ all) = length-append (saved_of all) (Some (db_of x) ∷ []) ∙ (let rest = saved_length all in omega arith)

pub saved_push : (all : List PlainDb) (x : PlainDb) → saved_of (all ++ x ∷ []) ≡ Some (db_of x) ∷ saved_of all
saved_push [] x = refl
saved_push (y ∷ all) x = ap (λ (more : List (Option Db)). more ++ Some (db_of y) ∷ []) (saved_push all x)

-- a refusal for want of memory alone has its cause
pub caused : {T : Type 0} (limit : Option ℕ) (told : Option Db) (r : Result T RelFault) (n : ℕ) → WantsMemory r → IsCausedRel limit told r n n
caused limit told (Ok x) n h = refl
caused limit told (Err fault.RowTooLong) n h = refl
caused limit told (Err (fault.KeyTooLong name)) n h = refl
caused limit told (Err fault.IdsSpent) n h = refl
caused limit told (Err fault.TableLimit) n h = refl
caused limit told (Err (fault.Trouble t)) n h = rw h refl

-- nor does it ask for more than there is
pub never_full : {T : Type 0} (size : ℕ) (r : Result T RelFault) → WantsMemory r → NeedsAtMost size r
never_full size (Ok x) h = tt
never_full size (Err fault.RowTooLong) h = tt
never_full size (Err (fault.KeyTooLong name)) h = tt
never_full size (Err fault.IdsSpent) h = tt
never_full size (Err fault.TableLimit) h = tt
never_full size (Err (fault.Trouble t)) h = rw h tt
