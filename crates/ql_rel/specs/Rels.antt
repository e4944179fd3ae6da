-- What a relation gives, and what a call leaves of it.
use Rattle.std.specs.Prelude.{◌≡◌, ℕ, ◌+◌, ◌-◌, ◌^◌, min, Bool, true, false, ◌==◌, nat_lt, List, [], ◌∷◌, find, Option, Some, None, Result, Ok, Err}
use Rattle.ql_rel.specs.declared.db.Db.{Db}
use Rattle.ql_rel.specs.declared.db.Row.{Row}
use Rattle.ql_rel.specs.declared.schema.Schema.{Schema}
use Rattle.ql_rel.specs.Databases.{rows_at}

-- the id of the row is over a number
abbrev pub is_after : ℕ → Row → Bool
is_after id row = nat_lt id row.id

-- the row has the id
abbrev pub has_id : ℕ → Row → Bool
has_id id row = row.id == id

-- the first row of a table whose id is over a number
abbrev pub row_after : ℕ → ℕ → Db → Option Row
row_after table id db = find (is_after id) (rows_at table db)

-- the row of a table with an id
abbrev pub row_with : ℕ → ℕ → Db → Option Row
row_with table id db = find (has_id id) (rows_at table db)

-- the answer true comes with the row, and false where there is none
abbrev pub GivesRow : Bool → Row → Option Row → Type 0
GivesRow true row there = there ≡ Some row
GivesRow false row there = there ≡ None

-- the count of rows that were given: it stands still at 2^64-1
abbrev pub given_after : {E : Type 0} → Result Bool E → ℕ → ℕ
given_after (Ok true) count = min (count + 1) (2 ^ 64 - 1)
given_after (Ok false) count = count
given_after (Err _) count = count

-- whether a relation is ready after a change: one that is refused ends it
abbrev pub ready_after : {T E : Type 0} → Result T E → Bool → Bool
ready_after (Ok _) ready = ready
ready_after (Err _) ready = false

-- what was saved last
abbrev pub saved_last : List (Option Db) → Option Db
saved_last [] = None
saved_last (db ∷ saved) = db

-- a relation in two states that differ only in what is shown and warned
pub record IsSameRel (db_old db_new : Option Db) (saved_old saved_new : List (Option Db)) (schema_old schema_new : Schema) (given_old given_new : ℕ) (ready_old ready_new sound_old sound_new : Bool) (limit_old limit_new : Option ℕ) (size_old size_new : ℕ) : Type 0 where
  pub db : db_new ≡ db_old
  pub saved : saved_new ≡ saved_old
  pub schema : schema_new ≡ schema_old
  pub given : given_new ≡ given_old
  pub ready : ready_new ≡ ready_old
  pub sound : sound_new ≡ sound_old
  pub limit : limit_new ≡ limit_old
  pub size : size_new ≡ size_old
