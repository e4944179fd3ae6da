-- What holds of the text, the commits and their places in every list of events.
use Rattle.std.specs.Prelude.{◌≡◌, ℕ, ◌<◌, ◌≤◌, List, [], ◌∷◌, ◌++◌, length}
use Rattle.ql_rel.specs.declared.db.Db.{Db}
use Rattle.ql_rel.specs.Events.{Event, shown_text, commits_of, places_of, told_by, kept_after}

-- the numbers never fall, from one on
abbrev pub NeverFall : ℕ → List ℕ → Type 0
NeverFall from [] = Unit {0}
NeverFall from (n ∷ more) = (from ≤ n) × NeverFall n more

-- the places of commits never fall and none is past the text; nothing shown tells of no commit, more than the text of all, and more bytes of no fewer; text and commits of events behind others stand behind theirs
pub record EventLaws : Type 0 where
  pub rise : (events : List Event) → NeverFall 0 (places_of events)
  pub each : (events : List Event) → length (places_of events) ≡ length (commits_of events)
  pub none : (events : List Event) → told_by 0 events ≡ 0
  pub all : (shown : ℕ) (events : List Event) → length (shown_text events) < shown → told_by shown events ≡ length (commits_of events)
  pub more : (shown further : ℕ) (events : List Event) → shown ≤ further → told_by shown events ≤ told_by further events
  pub texts : (a b : List Event) → shown_text (a ++ b) ≡ shown_text a ++ shown_text b
  pub commits : (a b : List Event) → commits_of (a ++ b) ≡ commits_of a ++ commits_of b
  pub kept : (a b : List Event) (db : Db) → kept_after db (a ++ b) ≡ kept_after (kept_after db a) b
