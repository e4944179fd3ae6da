-- A session whose levels are closed after a refusal.
use Rattle.std.proofs.Common.{◌≡◌, ℕ, List, [], Option, Some, Err, refl, sym, subst, ◌∙◌}
use Rattle.ql_edge.specs.Told.{Told, ShowsFront}
use Rattle.ql_syntax.specs.Answers.{Answer}
use Rattle.ql_rel.specs.declared.db.Db.{Db}
use Rattle.ql_rel.specs.Events.{Event}
use Rattle.ql_shell.specs.Goings.{Ends, KeepsBelow, Moves, text_of}
use Rattle.ql_rel.specs.Sessions.{State}
use Rattle.ql_shell.specs.declared.fault.StepFault.{StepFault}
use Rattle.ql_shell.specs.declared.fault.StepFault.TheVariants as step

pub ends : (answer : Answer (List Event × State)) (st : State) (f : StepFault) (told told1 told2 : Told) (held1 held2 : Option Db) (levels1 levels2 : List (Option Db)) (counted own : ℕ) → Moves {T = Unit {0}} answer st (Err f) told told1 held1 levels1 counted own
    → ((kept : Db) → KeepsBelow kept held1 levels1 → held2 ≡ Some kept) → levels2 ≡ [] → told2 ≡ told1 → Ends {T = Unit {0}} answer st (Err f) told told2 held2 levels2 counted own
ends answer st (step.Refused r) told told1 told2 held1 held2 levels1 levels2 counted own m k l t = (m.0, t ∙ m.1, record { stands = record { db = k st.kept m.2; saved = l; kept = refl }; commits = m.3; base = m.4 })
ends answer st (step.Trouble x) told told1 told2 held1 held2 levels1 levels2 counted own m k l t = subst (λ (z : Told). ShowsFront (text_of answer) told z) (sym t) m
