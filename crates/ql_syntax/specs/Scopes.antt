-- What names mean.
use Rattle.std.specs.Prelude.{ℕ, suc, Bool, true, false, ◌&&◌, if◌then◌else◌, List, [], ◌∷◌, ◌++◌, length, Option, Some, None, Ok}
use Rattle.std.specs.Str.{bytes_eq}
use Rattle.ql_value.specs.declared.refusal.TheConstants.{NO_COLUMN, AMBIGUOUS}
use Rattle.ql_syntax.specs.declared.scope.Slot.{Slot}
use Rattle.ql_syntax.specs.declared.scope.Scope.{Scope}
use Rattle.ql_syntax.specs.declared.scope.RowPlace.{RowPlace}
use Rattle.ql_syntax.specs.Answers.{Answer, refused_at}

-- it has this name
abbrev pub is_called : Option (List ℕ) → List ℕ → Bool
is_called None name = false
is_called (Some own) name = bytes_eq own name

-- it is of the record set, if one is named
abbrev pub is_of_set : Option (List ℕ) → Slot → Bool
is_of_set None s = true
is_of_set (Some set) s = is_called s.set set

-- it has no name
abbrev pub is_nameless : Option (List ℕ) → Bool
is_nameless None = true
is_nameless (Some name) = false

-- it is the column, or the id where none is named
abbrev pub is_of_column : Option (List ℕ) → Slot → Bool
is_of_column None s = is_nameless s.column
is_of_column (Some column) s = is_called s.column column

-- the places that a name may mean; the first slot has this number
abbrev pub places_named : Option (List ℕ) → Option (List ℕ) → ℕ → List Slot → List RowPlace
places_named set column at [] = []
places_named set column at (s ∷ slots) =
    if is_of_set set s && is_of_column column s then record { at = at; typing = s.typing } ∷ places_named set column (suc at) slots
    else places_named set column (suc at) slots

-- the one place of them: 2 where there is none, 3 where there are several
abbrev pub the_one : List ℕ → List RowPlace → Answer RowPlace
the_one name [] = refused_at NO_COLUMN name
the_one name (f ∷ []) = Ok f
the_one name (f ∷ g ∷ more) = refused_at AMBIGUOUS name

-- a name as it is written: `c`, or `T.c`
abbrev pub written : Option (List ℕ) → List ℕ → List ℕ
written None column = column
written (Some set) column = set ++ (46 ∷ column)

-- the first list, or the second where that is empty
abbrev pub first_some : List RowPlace → List RowPlace → List RowPlace
first_some [] more = more
first_some (f ∷ fs) more = f ∷ fs

-- the places of the source row that names are looked for among
abbrev pub seen_slots : Scope → List Slot
seen_slots scope = if scope.hides then [] else scope.row

-- what `c` or `T.c` means: a field whose name is so written, else a column of the row
abbrev pub column_place : Scope → Option (List ℕ) → List ℕ → Answer RowPlace
column_place scope set column =
    the_one (written set column)
    (first_some (places_named None (Some (written set column)) (length scope.row) scope.fields) (places_named set (Some column) 0 (seen_slots scope)))

-- what `id()` means: the id of the only record set
abbrev pub id_place : Scope → Answer RowPlace
id_place scope = the_one (105 ∷ 100 ∷ []) (places_named None None 0 (seen_slots scope))

-- what `id(T)` means: the id of the record set with that name
abbrev pub id_place_of : Scope → List ℕ → Answer RowPlace
id_place_of scope set = the_one set (places_named (Some set) None 0 (seen_slots scope))
