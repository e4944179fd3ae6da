-- What a script does that can be seen from outside: texts that are shown, and databases that are made lasting.
use Rattle.std.specs.Prelude.{ℕ, ◌+◌, nat_lt, List, [], ◌∷◌, ◌++◌, length}
use Rattle.std.specs.List.{filter}
use Rattle.ql_value.specs.declared.refusal.Refusal.{Refusal}
use Rattle.ql_rel.specs.declared.db.Db.{Db}

-- a text is shown, or the outermost level is committed with this database
pub data Event : Type 0 where
  shows : List ℕ → Event
  commits : Db → Event

-- every statement was carried out, or the one of this number was refused
pub data Closing : Type 0 where
  completed : Closing
  refused_in : ℕ → Refusal → Closing

-- what a script does, in order, and how it ends
pub record Course : Type 0 where
  pub events : List Event
  pub closing : Closing

-- events before others
abbrev pub preceded_by : List Event → Course → Course
preceded_by events c = record { events = events ++ c.events; closing = c.closing }

-- the text that events show
abbrev pub shown_text : List Event → List ℕ
shown_text [] = []
shown_text (shows text ∷ events) = text ++ shown_text events
shown_text (commits db ∷ events) = shown_text events

-- the databases that are committed, in order
abbrev pub commits_of : List Event → List Db
commits_of [] = []
commits_of (shows text ∷ events) = commits_of events
commits_of (commits db ∷ events) = db ∷ commits_of events

-- the number of bytes shown before each commit, where so many were shown before all
abbrev pub places_from : ℕ → List Event → List ℕ
places_from before [] = []
places_from before (shows text ∷ events) = places_from (before + length text) events
places_from before (commits db ∷ events) = before ∷ places_from before events

-- the number of bytes shown before each commit; the line of the commit itself is behind it
abbrev pub places_of : List Event → List ℕ
places_of events = places_from 0 events

-- how many commits so many shown bytes tell of: those with fewer bytes before them
abbrev pub told_by : ℕ → List Event → ℕ
told_by shown events = length (filter (λ place. nat_lt place shown) (places_of events))

-- the database that is kept behind events: that of the last commit, or the one from which they begin
abbrev pub kept_after : Db → List Event → Db
kept_after db [] = db
kept_after db (shows text ∷ events) = kept_after db events
kept_after db (commits after ∷ events) = kept_after after events
