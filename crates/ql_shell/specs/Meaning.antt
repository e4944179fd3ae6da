-- What a script is to show and answer.
use Rattle.std.specs.Prelude.{◌≡◌, ℕ, false, List, [], Option, Some, None, Result, Ok, Err}
use Rattle.ql_syntax.specs.declared.statement.Statement.{Statement}
use Rattle.ql_shell.specs.Comes.{Comes}
use Rattle.ql_rel.specs.Databases.{empty_db}
use Rattle.ql_rel.specs.Events.{Closing, completed, refused_in, Course, shown_text}
use Rattle.ql_rel.specs.Sessions.{opened, session}
use Rattle.ql_shell.specs.declared.options.Options.{Options}
use Rattle.ql_shell.specs.declared.status.ScriptFault.{ScriptFault}
use Rattle.ql_shell.specs.declared.status.Status.{Status}
use Rattle.ql_shell.specs.declared.status.Status.TheVariants.{Done, Script, Refused, Usage}
use Rattle.ql_shell.specs.declared.words.Command.{Command}
use Rattle.ql_shell.specs.declared.words.Command.TheVariants as command

-- a text that is shown, and the status after it
pub record Answer : Type 0 where
  pub text : List ℕ
  pub status : Status

-- the status after statements, by how they end
abbrev pub status_after : Closing → Status
status_after completed = Done
status_after (refused_in number refusal) = Refused number refusal

-- what statements mean, as an answer
abbrev pub answered : Course → Answer
answered c = record { text = shown_text c.events; status = status_after c.closing }

-- what the statements of a script mean: from no tables on, inside a level that opened by itself unless the options leave it out, with the names of fields where they ask for them, and without a line for each commit
abbrev pub course_of : Options → List Statement → Course
course_of options ss = session options.with_names false 1 ss (opened options.bare empty_db)

-- what a script answers by what it comes to: its statements from no tables, or its fault
abbrev pub answer_of : Options → Result (List Statement) ScriptFault → Answer
answer_of options (Ok ss) = answered (course_of options ss)
answer_of options (Err fault) = record { text = []; status = Script fault }

-- the script that is carried out: the words' own, or what standard input has, where that is told
abbrev pub told_script : Command → Option (List ℕ) → Option (List ℕ)
told_script (command.Usage word) input = None
told_script (command.Text text) input = Some text
told_script command.Input input = input

-- what the words of the command line ask for, by options and a command, and what standard input has mean together
pub data Means (options : Options) (asked : Command) (input : Option (List ℕ)) (answer : Answer) : Type 0 where
  usage : {word : ℕ} → asked ≡ command.Usage word → answer ≡ record { text = []; status = Usage word } → Means options asked input answer
  script : {source : List ℕ} {outcome : Result (List Statement) ScriptFault} → told_script asked input ≡ Some source → Comes source outcome
      → answer ≡ answer_of options outcome → Means options asked input answer
