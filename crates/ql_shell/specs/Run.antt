-- What a run promises of the text shown, the line warned and the script read.
use Rattle.std.specs.Prelude.{◌≡◌, ◌⊎◌, ℕ, ◌+◌, ◌-◌, ◌^◌, ◌<◌, ◌≤◌, min, List, [], ◌++◌, length, take, drop, Option, option_map, IfSome, IsSome}
use Rattle.ql_edge.specs.Cause.{Rose}
use Rattle.ql_edge.specs.Told.{Told, with_shown, ShowsFront}
use Rattle.ql_shell.specs.Comes.{longest_script}
use Rattle.ql_shell.specs.Line.{line_of}
use Rattle.ql_shell.specs.Meaning.{Answer}
use Rattle.ql_shell.specs.declared.status.ScriptFault.TheVariants.{TooLong, BadByte, BadLiteral, Unclosed, Unexpected, TooNested}
use Rattle.ql_shell.specs.declared.status.Status.{Status}
use Rattle.ql_shell.specs.declared.status.Status.TheVariants.{Done, Script, Refused, Usage, Fault, NoMemory}
use Rattle.ql_shell.specs.declared.words.Command.{Command}
use Rattle.ql_shell.specs.declared.words.Command.TheVariants as command

-- the run was ended neither by a device's fault nor by want of memory
abbrev pub IsFinal : Status → Type 0
IsFinal Fault = ⊥
IsFinal NoMemory = ⊥
IsFinal Done = Unit {0}
IsFinal (Script _) = Unit {0}
IsFinal (Refused _ _) = Unit {0}
IsFinal (Usage _) = Unit {0}

-- the answer was given, or a front of its text was shown before a fault or want of memory
abbrev pub Gives : Answer → Status → Told → Told → Type 0
Gives answer Fault before now = ShowsFront answer.text before now
Gives answer NoMemory before now = ShowsFront answer.text before now
Gives answer status before now = (status ≡ answer.status) × (now ≡ with_shown answer.text before)

-- the count rose at least twice, or stands at the end of its type
abbrev pub RoseTwice : ℕ → ℕ → Type 0
RoseTwice before now = min (before + 2) (2 ^ 64 - 1) ≤ now

-- a front of the line was warned, and not all of it
abbrev pub WarnsPart : List ℕ → Option (List ℕ) → Option (List ℕ) → Type 0
WarnsPart line before now = (n : ℕ) × (n < length line) × (now ≡ option_map (λ warned. warned ++ take n line) before)

-- the whole line was warned
abbrev pub WarnsWhole : List ℕ → Option (List ℕ) → Option (List ℕ) → Type 0
WarnsWhole line before now = now ≡ option_map (λ warned. warned ++ line) before

-- what is warned for a status, with the count of faults before and after the line alone
abbrev pub WarnsLine : Status → Option (List ℕ) → Option (List ℕ) → ℕ → ℕ → Type 0
WarnsLine NoMemory before now faults faults_now = Unit {0}
WarnsLine Done before now faults faults_now = (now ≡ before) × (faults_now ≡ faults)
WarnsLine status before now faults faults_now = (WarnsWhole (line_of status) before now × (faults_now ≡ faults)) ⊎ (WarnsPart (line_of status) before now × Rose faults faults_now)

-- what is warned for a status, with the count of faults before and after the run: where not the whole line was
-- warned, a call failed besides the one that ended the run, if any did
abbrev pub Warns : Status → Option (List ℕ) → Option (List ℕ) → ℕ → ℕ → Type 0
Warns Fault before now faults faults_now = (WarnsWhole (line_of Fault) before now × Rose faults faults_now) ⊎ (WarnsPart (line_of Fault) before now × RoseTwice faults faults_now)
Warns status before now faults faults_now = WarnsLine status before now faults faults_now

-- a front of a text was shown, and nothing else
abbrev pub IsFrontShown : List ℕ → Option (List ℕ) → Option (List ℕ) → Type 0
IsFrontShown text before now = (n : ℕ) × (n ≤ length text) × (now ≡ option_map (λ shown. shown ++ take n text) before)

-- what was shown before is a front of what is shown now
abbrev pub IsAddedTo : Option (List ℕ) → Option (List ℕ) → Type 0
IsAddedTo before now = (text : List ℕ) × (now ≡ option_map (λ shown. shown ++ text) before)

-- the whole text was shown, and nothing else
abbrev pub IsShown : List ℕ → Option (List ℕ) → Option (List ℕ) → Type 0
IsShown text before now = now ≡ option_map (λ shown. shown ++ text) before

-- the run was refused before its first statement
abbrev pub IsRefusedWhole : Status → Type 0
IsRefusedWhole (Usage _) = Unit {0}
IsRefusedWhole (Script _) = Unit {0}
IsRefusedWhole Done = ⊥
IsRefusedWhole (Refused _ _) = ⊥
IsRefusedWhole Fault = ⊥
IsRefusedWhole NoMemory = ⊥

-- the statements of a script were carried out, up to the end, a refusal, a fault or want of memory
abbrev pub EndsStatements : Status → Type 0
EndsStatements (Usage _) = ⊥
EndsStatements (Script _) = ⊥
EndsStatements Done = Unit {0}
EndsStatements (Refused _ _) = Unit {0}
EndsStatements Fault = Unit {0}
EndsStatements NoMemory = Unit {0}

-- the script is told: by the words, or by the machine where it comes from there
abbrev pub TellsScript : Command → Option (List ℕ) → Type 0
TellsScript command.Input input = IsSome input
TellsScript (command.Usage _) input = Unit {0}
TellsScript (command.Text _) input = Unit {0}

-- a script is on hand: that of the words, or what standard input has
abbrev pub IsScript : Command → Option (List ℕ) → List ℕ → Type 0
IsScript (command.Usage _) input source = ⊥
IsScript (command.Text text) input source = text ≡ source
IsScript command.Input input source = input ≡ option_map (λ _. source) input

-- the script is longer than a script may be
abbrev pub IsTooLong : Command → Option (List ℕ) → Type 0
IsTooLong (command.Usage _) input = ⊥
IsTooLong (command.Text text) input = longest_script < length text
IsTooLong command.Input input = IfSome input (λ script. longest_script < length script)

-- what may end a run before there is a script: a word, the script's length, a device's fault, or want of memory
abbrev pub EndsEarly : Command → Option (List ℕ) → Status → Type 0
EndsEarly asked input (Usage word) = asked ≡ command.Usage word
EndsEarly asked input (Script TooLong) = IsTooLong asked input
EndsEarly asked input Fault = Unit {0}
EndsEarly asked input NoMemory = Unit {0}
EndsEarly asked input (Script (BadByte _)) = ⊥
EndsEarly asked input (Script (BadLiteral _)) = ⊥
EndsEarly asked input (Script (Unclosed _)) = ⊥
EndsEarly asked input (Script (Unexpected _)) = ⊥
EndsEarly asked input (Script (TooNested _)) = ⊥
EndsEarly asked input Done = ⊥
EndsEarly asked input (Refused _ _) = ⊥

-- how the run of a script ends that is not too long
abbrev pub EndsScript : Status → Type 0
EndsScript (Usage _) = ⊥
EndsScript (Script TooLong) = ⊥
EndsScript (Script (BadByte _)) = Unit {0}
EndsScript (Script (BadLiteral _)) = Unit {0}
EndsScript (Script (Unclosed _)) = Unit {0}
EndsScript (Script (Unexpected _)) = Unit {0}
EndsScript (Script (TooNested _)) = Unit {0}
EndsScript Done = Unit {0}
EndsScript (Refused _ _) = Unit {0}
EndsScript Fault = Unit {0}
EndsScript NoMemory = Unit {0}

-- how much of standard input was read for a script: all of it, but for one that is too long, a fault and want of memory
abbrev pub TakesInput : Status → Option (List ℕ) → Option (List ℕ) → Type 0
TakesInput (Usage _) before now = now ≡ before
TakesInput (Script TooLong) before now = now ≡ option_map (drop (longest_script + 1)) before
TakesInput Fault before now = (n : ℕ) × (now ≡ option_map (drop n) before)
TakesInput NoMemory before now = (n : ℕ) × (now ≡ option_map (drop n) before)
TakesInput (Script (BadByte _)) before now = now ≡ option_map (λ _. []) before
TakesInput (Script (BadLiteral _)) before now = now ≡ option_map (λ _. []) before
TakesInput (Script (Unclosed _)) before now = now ≡ option_map (λ _. []) before
TakesInput (Script (Unexpected _)) before now = now ≡ option_map (λ _. []) before
TakesInput (Script (TooNested _)) before now = now ≡ option_map (λ _. []) before
TakesInput Done before now = now ≡ option_map (λ _. []) before
TakesInput (Refused _ _) before now = now ≡ option_map (λ _. []) before

-- so many bytes of standard input were read at most
abbrev pub TakesAtMost : ℕ → Option (List ℕ) → Option (List ℕ) → Type 0
TakesAtMost most before now = (n : ℕ) × (n ≤ most) × (now ≡ option_map (drop n) before)

-- standard input is read only where the script comes from there
abbrev pub Takes : Command → Status → Option (List ℕ) → Option (List ℕ) → Type 0
Takes command.Input status before now = TakesInput status before now
Takes (command.Usage _) status before now = now ≡ before
Takes (command.Text _) status before now = now ≡ before

-- all of standard input was read, where the script comes from there
abbrev pub TakesAll : Command → Option (List ℕ) → Option (List ℕ) → Type 0
TakesAll command.Input before now = now ≡ option_map (λ _. []) before
TakesAll (command.Usage _) before now = now ≡ before
TakesAll (command.Text _) before now = now ≡ before

-- what may end the reading of standard input: the script is too long, a device's fault, or want of memory
abbrev pub IsReadingFault : Status → Type 0
IsReadingFault (Script TooLong) = Unit {0}
IsReadingFault Fault = Unit {0}
IsReadingFault NoMemory = Unit {0}
IsReadingFault (Script (BadByte _)) = ⊥
IsReadingFault (Script (BadLiteral _)) = ⊥
IsReadingFault (Script (Unclosed _)) = ⊥
IsReadingFault (Script (Unexpected _)) = ⊥
IsReadingFault (Script (TooNested _)) = ⊥
IsReadingFault (Usage _) = ⊥
IsReadingFault Done = ⊥
IsReadingFault (Refused _ _) = ⊥

-- why a script that is not too long has no statements: its fault, or want of memory
abbrev pub IsUnread : Status → Type 0
IsUnread (Script TooLong) = ⊥
IsUnread (Script (BadByte _)) = Unit {0}
IsUnread (Script (BadLiteral _)) = Unit {0}
IsUnread (Script (Unclosed _)) = Unit {0}
IsUnread (Script (Unexpected _)) = Unit {0}
IsUnread (Script (TooNested _)) = Unit {0}
IsUnread NoMemory = Unit {0}
IsUnread (Usage _) = ⊥
IsUnread Done = ⊥
IsUnread (Refused _ _) = ⊥
IsUnread Fault = ⊥

-- what was read grew by what was taken from the rest of the script
abbrev pub AddsPiece : List ℕ → List ℕ → Option (List ℕ) → Option (List ℕ) → Type 0
AddsPiece source grown before now = option_map (λ rest. grown ++ rest) now ≡ option_map (λ rest. source ++ rest) before
