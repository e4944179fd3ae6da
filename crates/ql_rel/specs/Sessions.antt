-- Where a script stands between its statements, and what a statement does there: levels that open and close, and the effect of every other one.
use Rattle.std.specs.Prelude.{ℕ, zero, suc, Bool, true, false, ◌&&◌, ◌==◌, nat_lt, if◌then◌else◌, List, [], ◌∷◌, ◌++◌, drop, length, codes, decimal, Ok, Err}
use Rattle.ql_syntax.specs.declared.statement.Statement.{Statement}
use Rattle.ql_syntax.specs.declared.statement.Statement.TheVariants as s
use Rattle.ql_syntax.specs.Answers.{Answer, refused, then_with}
use Rattle.ql_rel.specs.declared.db.Db.{Db}
use Rattle.ql_rel.specs.Events.{Event, shows, commits, completed, refused_in, Course, preceded_by}
use Rattle.ql_rel.specs.StatementEffects.{statement_effect}

-- how many levels may be open
abbrev pub most_levels : ℕ
most_levels = 256

-- the refusals of levels: none is open that the script opened, one too many, one left open at the end
abbrev pub no_transaction : ℕ
no_transaction = 40

abbrev pub too_deep : ℕ
too_deep = 41

abbrev pub unbalanced : ℕ
unbalanced = 42

-- the database; the saved ones, the last one first; that of the last outermost commit; how many of those there were; how many levels opened by themselves
pub record State : Type 0 where
  pub db : Db
  pub saved : List Db
  pub kept : Db
  pub commits : ℕ
  pub base : ℕ

-- where a script begins: inside a level that opened by itself, or in none where the session is bare
abbrev pub opened : Bool → Db → State
opened false db = record { db = db; saved = db ∷ []; kept = db; commits = 0; base = 1 }
opened true db = record { db = db; saved = []; kept = db; commits = 0; base = 0 }

-- another database, in the same levels
abbrev pub with_db : Db → State → State
with_db db st = record { db = db; saved = st.saved; kept = st.kept; commits = st.commits; base = st.base }

-- no level but those that opened by themselves is open
abbrev pub is_closed : State → Bool
is_closed st = length st.saved == st.base

-- BEGIN TRANSACTION: the database is saved
abbrev pub begins : State → Answer (List Event × State)
begins st =
    if nat_lt (length st.saved) most_levels
    then Ok ([], record { db = st.db; saved = st.db ∷ st.saved; kept = st.kept; commits = st.commits; base = st.base })
    else refused too_deep

-- the line of an outermost commit
abbrev pub commit_line : ℕ → List ℕ
commit_line number = codes "COMMIT " ++ decimal number ++ codes "\n"

-- that line, where it is asked for
abbrev pub acknowledged : Bool → ℕ → List Event
acknowledged false number = []
acknowledged true number = shows (commit_line number) ∷ []

-- the outermost commit of a number, and its line behind it
abbrev pub committed : Bool → ℕ → Db → List Event
committed ack number db = commits db ∷ acknowledged ack number

-- a level is closed, above these: the outermost one is a commit that is counted, and the database is kept
abbrev pub closed : Bool → List Db → State → List Event × State
closed ack [] st = (committed ack (suc st.commits) st.db, record { db = st.db; saved = []; kept = st.db; commits = suc st.commits; base = st.base })
closed ack (d ∷ outer) st = ([], record { db = st.db; saved = d ∷ outer; kept = st.kept; commits = st.commits; base = st.base })

-- COMMIT
abbrev pub closes : Bool → State → Answer (List Event × State)
closes ack st = if is_closed st then refused no_transaction else Ok (closed ack (drop 1 st.saved) st)

-- the database that was saved last is taken up again
abbrev pub rolled_back : List Db → State → State
rolled_back [] st = st
rolled_back (d ∷ outer) st = record { db = d; saved = outer; kept = st.kept; commits = st.commits; base = st.base }

-- ROLLBACK
abbrev pub rolls_back : State → Answer (List Event × State)
rolls_back st = if is_closed st then refused no_transaction else Ok ([], rolled_back st.saved st)

-- a statement is carried out inside a level alone
abbrev pub needs_level : Statement → Bool
needs_level s.Begin = true
needs_level s.Commit = true
needs_level s.Rollback = true
needs_level (s.Query _) = false
needs_level (s.CreateTable _ _ _) = true
needs_level (s.DropTable _ _) = true
needs_level (s.AddColumn _ _) = true
needs_level (s.DropColumn _ _) = true
needs_level (s.CreateIndex _ _ _ _ _) = true
needs_level (s.DropIndex _ _) = true
needs_level (s.Insert _ _ _) = true
needs_level (s.Update _ _ _) = true
needs_level (s.Delete _ _) = true
needs_level (s.Truncate _) = true

-- the text of a statement is shown, and its database taken up
abbrev pub shown : List ℕ × Db → State → List Event × State
shown done st = (shows done.0 ∷ [], with_db done.1 st)

-- a statement on tables
abbrev pub carries : Bool → Statement → State → Answer (List Event × State)
carries with_names statement st =
    if needs_level statement && (length st.saved == 0)
    then refused no_transaction
    else then_with (statement_effect with_names statement st.db) (λ done. Ok (shown done st))

-- a statement: what can be seen of it and where the script stands then, or its refusal
abbrev pub stepped : (with_names ack : Bool) → Statement → State → Answer (List Event × State)
stepped with_names ack s.Begin st = begins st
stepped with_names ack s.Commit st = closes ack st
stepped with_names ack s.Rollback st = rolls_back st
stepped with_names ack statement st = carries with_names statement st

-- after a refusal: no level is open, and the database is the kept one
abbrev pub given_up : State → State
given_up st = record { db = st.kept; saved = []; kept = st.kept; commits = st.commits; base = st.base }

-- a level that opened by itself is closed
abbrev pub ended : Bool → ℕ → State → List Event × State
ended ack zero st = ([], st)
ended ack (suc _) st = closed ack (drop 1 st.saved) st

-- the end of a script: what can be seen of it and where the script stands then, or its refusal
abbrev pub finished : Bool → State → Answer (List Event × State)
finished ack st = if is_closed st then Ok (ended ack st.base st) else refused unbalanced

-- what follows a statement; a refusal ends the script
abbrev pub goes_on : ℕ → Answer (List Event × State) → (State → Course) → Course
goes_on number (Ok done) more = preceded_by done.0 (more done.1)
goes_on number (Err refusal) more = record { events = []; closing = refused_in number refusal }

-- statements in turn, the first of this number; the end counts as one more
abbrev pub session : (with_names ack : Bool) → ℕ → List Statement → State → Course
session with_names ack number [] st = goes_on number (finished ack st) (λ _. record { events = []; closing = completed })
session with_names ack number (x ∷ xs) st = goes_on number (stepped with_names ack x st) (λ next. session with_names ack (suc number) xs next)
