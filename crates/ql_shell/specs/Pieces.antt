-- Text that is shown, and statements that are carried out one at a time.
use Rattle.std.specs.Prelude.{◌≡◌, ℕ, Bool, List, Option}
use Rattle.ql_edge.specs.Told.{Told, with_shown}
use Rattle.ql_syntax.specs.declared.statement.Statement.{Statement}
use Rattle.ql_rel.specs.declared.db.Db.{Db}
use Rattle.ql_rel.specs.Events.{Event, Course, preceded_by, shown_text, kept_after}
use Rattle.ql_rel.specs.Sessions.{State, session}
use Rattle.ql_shell.specs.Goings.{IsAt}

-- some text was shown, and nothing else
pub record ShowsText (before now : Told) : Type 0 where
  pub text : List ℕ
  pub told : now ≡ with_shown text before

-- the text of the first events of a course was shown, and this is left of it; the database that they keep is this one
pub record RunsOn (all : Course) (first : Db) (before now : Told) (left : Course) (held : Db) : Type 0 where
  pub done : List Event
  pub told : now ≡ with_shown (shown_text done) before
  pub whole : all ≡ preceded_by done left
  pub kept : held ≡ kept_after first done

-- what is left is what these statements mean from where the session stands, the first of them being of this number
pub record RunsFrom (names ack : Bool) (all : Course) (first : Db) (before now : Told) (number : ℕ) (items : List Statement) (held : Option Db) (levels : List (Option Db)) (counted own : ℕ) : Type 0 where
  pub st : State
  pub at : IsAt held levels counted own st
  pub runs : RunsOn all first before now (session names ack number items st) st.kept
