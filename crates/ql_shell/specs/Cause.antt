-- Which statuses a device's fault is the cause of, and what the count of faults does.
use Rattle.std.specs.Prelude.{◌≡◌, ℕ, List, Result, Ok, Err}
use Rattle.ql_edge.specs.Cause.{Rose}
use Rattle.ql_edge.specs.declared.fault.DeviceFault.{DeviceFault}
use Rattle.ql_edge.specs.declared.fault.DeviceFault.TheVariants as device
use Rattle.ql_lex.specs.declared.token.LexFault.{LexFault}
use Rattle.ql_lex.specs.declared.token.LexFault.TheVariants as lex
use Rattle.ql_lex.specs.declared.token.Token.{Token}
use Rattle.ql_parse.specs.declared.fault.ParseFault.{ParseFault}
use Rattle.ql_parse.specs.declared.fault.ParseFault.TheVariants as parse
use Rattle.ql_shell.specs.Comes.{place_of}
use Rattle.ql_shell.specs.declared.status.ScriptFault.TheVariants as fault
use Rattle.ql_shell.specs.declared.status.Status.{Status}
use Rattle.ql_shell.specs.declared.status.Status.TheVariants as status

-- the status of a run that a device's fault ends
abbrev pub status_of : DeviceFault → Status
status_of device.Failed = status.Fault
status_of device.NoMemory = status.NoMemory

-- the status of a run whose script has no tokens
abbrev pub status_of_lexing : LexFault → Status
status_of_lexing (lex.BadByte at) = status.Script (fault.BadByte at)
status_of_lexing (lex.BadLiteral at) = status.Script (fault.BadLiteral at)
status_of_lexing (lex.Unclosed at) = status.Script (fault.Unclosed at)
status_of_lexing lex.NoMemory = status.NoMemory

-- the status of a run whose script has tokens and no statements
abbrev pub status_of_parsing : List ℕ → List Token → ParseFault → Status
status_of_parsing source tokens (parse.Unexpected at) = status.Script (fault.Unexpected (place_of source tokens at))
status_of_parsing source tokens (parse.TooNested at) = status.Script (fault.TooNested (place_of source tokens at))
status_of_parsing source tokens parse.NoMemory = status.NoMemory

-- `Fault` comes only where the count rose, and every other status leaves the count
abbrev pub IsCausedStatus : Status → ℕ → ℕ → Type 0
IsCausedStatus status.Done before now = now ≡ before
IsCausedStatus (status.Script _) before now = now ≡ before
IsCausedStatus (status.Refused _ _) before now = now ≡ before
IsCausedStatus (status.Usage _) before now = now ≡ before
IsCausedStatus status.Fault before now = Rose before now
IsCausedStatus status.NoMemory before now = now ≡ before

-- the same of a call that answers a status in place of a value
abbrev pub IsCausedReading : {T : Type 0} → Result T Status → ℕ → ℕ → Type 0
IsCausedReading (Ok _) before now = now ≡ before
IsCausedReading (Err s) before now = IsCausedStatus s before now
