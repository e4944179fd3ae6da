-- What holds of levels in every script.
use Rattle.std.specs.Prelude.{◌≡◌, ℕ, ◌+◌, ◌≤◌, Bool, List, [], ◌∷◌, length, Ok}
use Rattle.ql_syntax.specs.declared.statement.Statement.{Statement}
use Rattle.ql_rel.specs.declared.db.Db.{Db}
use Rattle.ql_rel.specs.Events.{Event, Closing, completed, refused_in, commits_of, kept_after}
use Rattle.ql_rel.specs.Sessions.{State, most_levels, opened, closed, rolls_back, given_up, stepped, finished, session}

-- a script stands so: the levels that opened by themselves are among those that are open, and those are not too many
pub record IsLevelled (st : State) : Type 0 where
  pub based : st.base ≤ length st.saved
  pub within : length st.saved ≤ most_levels

-- what was done can be told from the events: the kept database is that of the last commit, and each commit was counted
pub record IsTold (done : List Event × State) (st : State) : Type 0 where
  pub kept : done.1.kept ≡ kept_after st.kept done.0
  pub counted : done.1.commits ≡ st.commits + length (commits_of done.0)
  pub base : done.1.base ≡ st.base

-- a script that was refused committed nothing, and another once
abbrev pub CommitsOnce : Closing → List Db → Type 0
CommitsOnce completed dbs = length dbs ≡ 1
CommitsOnce (refused_in number refusal) dbs = dbs ≡ []

-- a script begins and goes on levelled; ROLLBACK gives back the database of its BEGIN TRANSACTION, the next id in it, whatever was done since, and the end of an inner level is no commit; what was done can be told from the events; after a refusal no level is open and the database is the kept one; inside a level that opened by itself a script commits at its end alone
pub record SessionLaws : Type 0 where
  pub first : (bare : Bool) (db : Db) → IsLevelled (opened bare db)
  pub levelled : (with_names ack : Bool) (statement : Statement) (st : State) (done : List Event × State) → IsLevelled st
      → stepped with_names ack statement st ≡ Ok done → IsLevelled done.1
  pub back : (st since : State) → since.saved ≡ st.db ∷ st.saved → since.base ≡ st.base → st.base ≤ length st.saved
      → rolls_back since ≡ Ok ([], record { db = st.db; saved = st.saved; kept = since.kept; commits = since.commits; base = st.base })
  pub inner : (ack : Bool) (outer : List Db) (d : Db) (st : State) → commits_of (closed ack (d ∷ outer) st).0 ≡ []
  pub told : (with_names ack : Bool) (statement : Statement) (st : State) (done : List Event × State)
      → stepped with_names ack statement st ≡ Ok done → IsTold done st
  pub end_told : (ack : Bool) (st : State) (done : List Event × State) → finished ack st ≡ Ok done → IsTold done st
  pub gone : (st : State) → (given_up st).saved ≡ []
  pub kept : (st : State) → (given_up st).db ≡ st.kept
  pub once : (with_names ack : Bool) (number : ℕ) (statements : List Statement) (st : State) → IsLevelled st → st.base ≡ 1
      → CommitsOnce (session with_names ack number statements st).closing (commits_of (session with_names ack number statements st).events)
