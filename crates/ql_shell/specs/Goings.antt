-- How a statement of a session stands to its step, and what it leaves.
use Rattle.std.specs.Prelude.{◌≡◌, ℕ, ◌≤◌, Bool, IsTrue, List, [], ◌∷◌, length, map, Option, Some, Result, Ok, Err}
use Rattle.ql_edge.specs.Told.{Told, with_shown, ShowsFront}
use Rattle.ql_syntax.specs.Answers.{Answer}
use Rattle.ql_exec.specs.declared.fault.ExecFault.{ExecFault}
use Rattle.ql_exec.specs.declared.fault.ExecFault.TheVariants as exec
use Rattle.ql_rel.specs.declared.db.Db.{Db}
use Rattle.ql_rel.specs.Events.{Event, shown_text}
use Rattle.ql_rel.specs.Refusals.{IsTroubleCaused}
use Rattle.ql_rel.specs.Sessions.{State, given_up}
use Rattle.ql_shell.specs.declared.fault.StepFault.{StepFault}
use Rattle.ql_shell.specs.declared.fault.StepFault.TheVariants as step

-- what the fault of a statement that is carried out becomes
abbrev pub step_fault_of : ExecFault → StepFault
step_fault_of (exec.Refused r) = step.Refused r
step_fault_of (exec.Trouble t) = step.Trouble t

-- the database that the outermost level saved, or the one that is held where no level is open
abbrev pub outermost : Db → List Db → Db
outermost db [] = db
outermost db (d ∷ outer) = outermost d outer

-- the relation stands where a session does
pub record Stands (held : Option Db) (levels : List (Option Db)) (st : State) : Type 0 where
  pub db : held ≡ Some st.db
  pub saved : levels ≡ map (λ (d : Db). Some d) st.saved
  pub kept : st.kept ≡ outermost st.db st.saved

-- a database is kept below levels, by what they saved: it is that of the outermost one, or the held one where no level is open
abbrev pub IsKeptBy : Db → Option Db → List Db → Type 0
IsKeptBy kept held [] = held ≡ Some kept
IsKeptBy kept held (d ∷ outer) = kept ≡ outermost d outer

-- a relation keeps a database below its levels, whatever it holds inside them
pub record KeepsBelow (kept : Db) (held : Option Db) (levels : List (Option Db)) : Type 0 where
  pub saved : List Db
  pub are : levels ≡ map (λ (d : Db). Some d) saved
  pub is : IsKeptBy kept held saved

-- the text of a step, which shows nothing where it is refused
abbrev pub text_of : Answer (List Event × State) → List ℕ
text_of (Ok done) = shown_text done.0
text_of (Err _) = []

-- a step was done: its text was shown, and the relation stands where the session does
pub record Went (step : Answer (List Event × State)) (before now : Told) (db : Option Db) (saved : List (Option Db)) : Type 0 where
  pub done : List Event × State
  pub is : step ≡ Ok done
  pub shown : now ≡ with_shown (shown_text done.0) before
  pub stands : Stands db saved done.1

-- a step is done, or has this refusal, shows nothing and keeps this database, or a front of its text is shown before a trouble
abbrev pub Goes : {T : Type 0} → Db → Answer (List Event × State) → Result T StepFault → (before now : Told) → Option Db → List (Option Db) → Type 0
Goes kept answer (Ok _) before now db saved = Went answer before now db saved
Goes kept answer (Err (step.Refused r)) before now db saved = (answer ≡ Err r) × (now ≡ before) × KeepsBelow kept db saved
Goes kept answer (Err (step.Trouble _)) before now db saved = ShowsFront (text_of answer) before now

-- a level was closed: so many outermost commits there were, the text of the step was shown, and the relation stands where the session does; or a front of the text was shown before a trouble
abbrev pub Closes : (List Event × State) → Result ℕ StepFault → (before now : Told) → Option Db → List (Option Db) → Type 0
Closes done (Ok commits) before now db saved = (commits ≡ done.1.commits) × (now ≡ with_shown (shown_text done.0) before) × Stands db saved done.1
Closes done (Err (step.Refused _)) before now db saved = ⊥
Closes done (Err (step.Trouble _)) before now db saved = ShowsFront (shown_text done.0) before now

-- a line is shown, or a front of it before a trouble
abbrev pub ShowsLine : {T : Type 0} → List ℕ → Result T StepFault → (before now : Told) → Type 0
ShowsLine line (Ok _) before now = now ≡ with_shown line before
ShowsLine line (Err (step.Refused _)) before now = ⊥
ShowsLine line (Err (step.Trouble _)) before now = ShowsFront line before now

-- a session is at a state: its relation stands there, and it counted the commits and the levels that opened by themselves
pub record IsAt (held : Option Db) (levels : List (Option Db)) (counted own : ℕ) (st : State) : Type 0 where
  pub stands : Stands held levels st
  pub commits : counted ≡ st.commits
  pub base : own ≡ st.base

-- a step of a session was done: its text was shown, and the session is where it says
pub record Moved (step : Answer (List Event × State)) (before now : Told) (held : Option Db) (levels : List (Option Db)) (counted own : ℕ) : Type 0 where
  pub done : List Event × State
  pub is : step ≡ Ok done
  pub shown : now ≡ with_shown (shown_text done.0) before
  pub at : IsAt held levels counted own done.1

-- a step of a session is done, or has this refusal, shows nothing, keeps the kept database and counts nothing, or a front of its text is shown before a trouble
abbrev pub Moves : {T : Type 0} → Answer (List Event × State) → State → Result T StepFault → (before now : Told) → Option Db → List (Option Db) → (counted own : ℕ) → Type 0
Moves answer st (Ok _) before now held levels counted own = Moved answer before now held levels counted own
Moves answer st (Err (step.Refused r)) before now held levels counted own = (answer ≡ Err r) × (now ≡ before) × KeepsBelow st.kept held levels × (counted ≡ st.commits) × (own ≡ st.base)
Moves answer st (Err (step.Trouble _)) before now held levels counted own = ShowsFront (text_of answer) before now

-- a step of a session is done, or it ends the session: with this refusal and nothing shown, and the database is the kept one; or with a trouble before which a front of its text was shown
abbrev pub Ends : {T : Type 0} → Answer (List Event × State) → State → Result T StepFault → (before now : Told) → Option Db → List (Option Db) → (counted own : ℕ) → Type 0
Ends answer st (Ok _) before now held levels counted own = Moved answer before now held levels counted own
Ends answer st (Err (step.Refused r)) before now held levels counted own = (answer ≡ Err r) × (now ≡ before) × IsAt held levels counted own (given_up st)
Ends answer st (Err (step.Trouble _)) before now held levels counted own = ShowsFront (text_of answer) before now

-- when a statement of a session may answer what it does: a trouble has its cause, and every other answer leaves the count of faults
abbrev pub IsCausedStep : {T : Type 0} → Option ℕ → Option Db → Result T StepFault → (before now : ℕ) → Type 0
IsCausedStep limit told (Ok _) before now = now ≡ before
IsCausedStep limit told (Err (step.Refused _)) before now = now ≡ before
IsCausedStep limit told (Err (step.Trouble t)) before now = IsTroubleCaused limit told t before now

-- what every call of a session leaves: the limit, what is left of the script, and what no call changes
abbrev pub LeavesRest : {S A B C : Type 0} → (S → A) → (S → B) → (S → C) → (before now : S) → Type 0
LeavesRest limit left fixed before now = (limit now ≡ limit before) × (left now ≡ left before) × (fixed now ≡ fixed before)

-- a session may go on: its relation is ready, one level at most opened by itself, and that one is open
pub record MayGoOn (able : Bool) (levels : List (Option Db)) (own : ℕ) : Type 0 where
  pub ready : IsTrue able
  pub single : own ≤ 1
  pub based : own ≤ length levels
