-- What a log was told when a part of a verifier returns.
use Rattle.std.specs.Prelude.{◌≡◌, ℕ, true, false, List, [], ◌∷◌, ◌++◌, length, Option, Result, Ok, Err}
use Rattle.ql_edge.specs.Cause.{Rose}
use Rattle.lldb_base.specs.declared.trouble.Trouble.{Trouble}
use Rattle.lldb_base.specs.declared.trouble.Trouble.TheVariants as trouble
use Rattle.lldb_verify.specs.declared.finding.Finding.{Finding}
use Rattle.lldb_verify.specs.declared.finding.VerifyFault.{VerifyFault}
use Rattle.lldb_verify.specs.declared.finding.VerifyFault.TheVariants as fault
use Rattle.lldb_verify.specs.Logs.{has_room}

-- findings are the first ones of a list
pub record IsFront (now all : List Finding) : Type 0 where
  pub rest : List Finding
  pub whole : all ≡ now ++ rest

-- the last finding that was told is this one, and the log has no room for another
pub record IsStop (bound : Option ℕ) (last : Finding) (now all : List Finding) : Type 0 where
  pub earlier : List Finding
  pub last_is : now ≡ earlier ++ last ∷ []
  pub front : IsFront now all
  pub full : has_room bound (length now) ≡ false

-- of the findings `all` a log has all and wants more, or those up to which it wanted, or some in front
abbrev pub Tells : {T : Type 0} → List Finding → Option ℕ → List Finding → Result T VerifyFault → Type 0
Tells all bound now (Ok _) = (now ≡ all) × (has_room bound (length now) ≡ true)
Tells all bound now (Err (fault.Found count)) = ⊥
Tells all bound now (Err (fault.Stopped last)) = IsStop bound last now all
Tells all bound now (Err fault.Failed) = IsFront now all
Tells all bound now (Err fault.NoMemory) = IsFront now all

-- a verifier failed only where the count of faults rose, and every other answer leaves the count
abbrev pub IsCausedFault : {T : Type 0} → Result T VerifyFault → ℕ → ℕ → Type 0
IsCausedFault (Ok _) before now = now ≡ before
IsCausedFault (Err (fault.Found _)) before now = now ≡ before
IsCausedFault (Err (fault.Stopped _)) before now = now ≡ before
IsCausedFault (Err fault.Failed) before now = Rose before now
IsCausedFault (Err fault.NoMemory) before now = now ≡ before

-- what a device's refusal becomes; no other refusal comes of a reading
abbrev pub fault_of : Trouble → VerifyFault
fault_of trouble.Failed = fault.Failed
fault_of trouble.NoMemory = fault.NoMemory
fault_of (trouble.Full need limit) = fault.Failed
fault_of trouble.Damaged = fault.Failed

-- a call that tells nothing refuses only where a device or memory does
abbrev pub OfDevice : {T : Type 0} → Result T VerifyFault → Type 0
OfDevice (Ok _) = Unit {0}
OfDevice (Err (fault.Found _)) = ⊥
OfDevice (Err (fault.Stopped _)) = ⊥
OfDevice (Err fault.Failed) = Unit {0}
OfDevice (Err fault.NoMemory) = Unit {0}
