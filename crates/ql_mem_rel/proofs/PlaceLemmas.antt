-- Where rows stand whose ids rise.
use Rattle.std.proofs.Common.{◌≡◌, ℕ, zero, suc, ◌+◌, ◌-◌, ◌<◌, ◌≤◌, Bool, true, false, not, cond, ◌==◌, nat_lt, nat_le, List, [], ◌∷◌, length, map, filter, remove, find, slice_get, slice_set, get_or, Option, Some, None, option_map, refl, sym, ap, subst, ◌∙◌, arith}
use Rattle.std.proofs.lemmas.Bool.Decides.{nat_tests}
use Rattle.std.specs.List.Sorted.{IsPartitionedBy, IsPartitionPoint}
use Rattle.ql_value.specs.declared.value.Value.{Value}
use Rattle.ql_rel.specs.declared.db.Row.{Row}
use Rattle.ql_rel.specs.Changes.{row_of, with_values, is_other}
use Rattle.ql_mem_rel.specs.Places.{place_after, place_with, is_until}
use Rattle.ql_rel.specs.Rels.{is_after, has_id}
use Rattle.ql_rel.specs.WellFormed.{Rise}

-- a row behind a number has an id from that number on
rise_from : (from : ℕ) (rows : List Row) (j : ℕ) (d : Row) → Rise from rows → j < length rows → from ≤ (get_or rows j d).id
rise_from from [] j d h l = absurd (omega arith)
rise_from from (row ∷ rows) zero d h l = h.0
rise_from from (row ∷ rows) (suc j) d h l =
    let low : row.id + 1 ≤ (get_or rows j d).id = rise_from (row.id + 1) rows j d h.1 (omega arith) in omega (arith, h.0)

-- an earlier row has no greater id
rise_le : (from : ℕ) (rows : List Row) (i j : ℕ) (d : Row) → Rise from rows → i ≤ j → j < length rows → (get_or rows i d).id ≤ (get_or rows j d).id
rise_le from [] i j d h o l = absurd (omega arith)
rise_le from (row ∷ rows) zero zero d h o l = omega arith
rise_le from (row ∷ rows) zero (suc j) d h o l =
    let low : row.id + 1 ≤ (get_or rows j d).id = rise_from (row.id + 1) rows j d h.1 (omega arith) in omega arith
rise_le from (row ∷ rows) (suc i) zero d h o l = absurd (omega arith)
rise_le from (row ∷ rows) (suc i) (suc j) d h o l = rise_le (row.id + 1) rows i j d h.1 (omega arith) (omega arith)

pub until-true : (a b : ℕ) → a ≤ b → nat_le a b ≡ true
until-true a b h = grind (arith, nat_tests)

pub until-le : (a b : ℕ) → nat_le a b ≡ true → a ≤ b
until-le a b h = grind (arith, nat_tests)

pub after_until : (a b : ℕ) → nat_le a b ≡ true → nat_lt b a ≡ false
after_until a b h = grind (arith, nat_tests)

pub after_not : (a b : ℕ) → nat_le a b ≡ false → nat_lt b a ≡ true
after_not a b h = grind (arith, nat_tests)

-- the rows up to an id come before the others
pub parted : (id from : ℕ) (rows : List Row) → Rise from rows → IsPartitionedBy (is_until id) rows
parted id from rows h i j d o l e =
    let low = until-le (get_or rows j d).id id e in
    let le = rise_le from rows i j d h o l in
    until-true (get_or rows i d).id id (omega arith)

-- the place where they end
pub parted_at : (id : ℕ) (rows : List Row) (n : ℕ) → n ≤ length rows → IsPartitionPoint (λ row. is_until id row ≡ true) (λ row. is_until id row ≡ false) rows n → n ≡ place_after id rows
parted_at id [] n l h = omega arith
parted_at id (row ∷ rows) zero l h = rw (after_not row.id id (h.1 0 row (omega arith) (omega arith))) refl
parted_at id (row ∷ rows) (suc n) l h =
    rw (after_until row.id id (h.0 0 row (omega arith) (omega arith)))
    (ap suc (parted_at id rows n (omega arith) ((λ k d a b. h.0 (suc k) d (omega arith) (omega arith)), (λ k d a b. h.1 (suc k) d (omega arith) (omega arith)))))

-- the row at the place is the first one behind the id
pub found_after : (id : ℕ) (rows : List Row) → slice_get rows (place_after id rows) ≡ find (is_after id) rows
found_after id [] = refl
found_after id (row ∷ rows) =
    elim (nat_lt id row.id) as (λ b. slice_get (row ∷ rows) (cond b 0 (suc (place_after id rows))) ≡ cond b (Some row) (find (is_after id) rows)) [
      | true ↦ refl
      | false ↦ found_after id rows
    ]

eq-true : (a b : ℕ) → (a == b) ≡ true → a ≡ b
eq-true a b h = grind (arith, nat_tests)

pub eq-other : (a b : ℕ) → a < b → (a == b) ≡ false
eq-other a b h = grind (arith, nat_tests)

pub eq-over : (a b : ℕ) → b < a → (a == b) ≡ false
eq-over a b h = grind (arith, nat_tests)

-- no row has an id below the first one
pub none_below : (id from : ℕ) (rows : List Row) → Rise from rows → id < from → place_with id rows ≡ None
none_below id from [] h l = refl
none_below id from (row ∷ rows) h l =
    rw (eq-over row.id id (omega (arith, h.0)), none_below id (row.id + 1) rows h.1 (omega (arith, h.0))) refl

eq-same : (a b : ℕ) → a ≡ b → (a == b) ≡ true
eq-same a b h = grind (arith, nat_tests)

eq-not : (a b : ℕ) → (a ≡ b → ⊥) → (a == b) ≡ false
eq-not a b h = grind (arith, nat_tests)

pub lt-false : (a b : ℕ) → nat_lt a b ≡ false → b ≤ a
lt-false a b h = grind (arith, nat_tests)

pub lt-true : (a b : ℕ) → nat_lt a b ≡ true → a < b
lt-true a b h = grind (arith, nat_tests)

-- the row behind an id less one is the row with the id, if it has that id
pub there : (id from : ℕ) (rows : List Row) (row : Row) → Rise from rows → 1 ≤ from → slice_get rows (place_after (id - 1) rows) ≡ Some row → row.id ≡ id → place_with id rows ≡ Some (place_after (id - 1) rows)
there id from [] row h p g e = absurd (cc)
there id from (r ∷ rows) row h p g e = there_by (λ s. there id (r.id + 1) rows row h.1 (omega arith) s e) (nat_lt (id - 1) r.id) refl g
  where
    there_by : (slice_get rows (place_after (id - 1) rows) ≡ Some row → place_with id rows ≡ Some (place_after (id - 1) rows)) → (b : Bool) → nat_lt (id - 1) r.id ≡ b → slice_get (r ∷ rows) (cond b 0 (suc (place_after (id - 1) rows))) ≡ Some row →
        place_with id (r ∷ rows) ≡ Some (cond b 0 (suc (place_after (id - 1) rows)))
    there_by again true t s =
        let same : r ≡ row = cc in
        let own : r.id ≡ id = ap (λ (x : Row). x.id) same ∙ e in
        rw (eq-same r.id id own) refl
    there_by again false t s =
        let low : r.id ≤ id - 1 = lt-false (id - 1) r.id t in
        rw (eq-other r.id id (omega (arith, h.0)), again s) refl

-- and if it has another, no row has the id
pub not_there : (id from : ℕ) (rows : List Row) (row : Row) → Rise from rows → 1 ≤ from → slice_get rows (place_after (id - 1) rows) ≡ Some row → (row.id == id) ≡ false → place_with id rows ≡ None
not_there id from [] row h p g e = refl
not_there id from (r ∷ rows) row h p g e = not_by (λ s. not_there id (r.id + 1) rows row h.1 (omega arith) s e) (nat_lt (id - 1) r.id) refl g
  where
    not_by : (slice_get rows (place_after (id - 1) rows) ≡ Some row → place_with id rows ≡ None) → (b : Bool) → nat_lt (id - 1) r.id ≡ b → slice_get (r ∷ rows) (cond b 0 (suc (place_after (id - 1) rows))) ≡ Some row → place_with id (r ∷ rows) ≡ None
    not_by again true t s =
        let same : row ≡ r = cc in
        let other : (r.id == id) ≡ false = subst (λ (x : Row). (x.id == id) ≡ false) same e in
        let over : id - 1 < r.id = lt-true (id - 1) r.id t in
        rw (other, none_below id (r.id + 1) rows h.1 (omega arith)) refl
    not_by again false t s =
        let low : r.id ≤ id - 1 = lt-false (id - 1) r.id t in
        rw (eq-other r.id id (omega (arith, h.0)), again s) refl

-- and if there is none behind it, no row has the id
pub nowhere : (id from : ℕ) (rows : List Row) → Rise from rows → 1 ≤ from → slice_get rows (place_after (id - 1) rows) ≡ None → place_with id rows ≡ None
nowhere id from [] h p g = refl
nowhere id from (r ∷ rows) h p g = nowhere_by (λ s. nowhere id (r.id + 1) rows h.1 (omega arith) s) (nat_lt (id - 1) r.id) refl g
  where
    nowhere_by : (slice_get rows (place_after (id - 1) rows) ≡ None → place_with id rows ≡ None) → (b : Bool) → nat_lt (id - 1) r.id ≡ b → slice_get (r ∷ rows) (cond b 0 (suc (place_after (id - 1) rows))) ≡ None → place_with id (r ∷ rows) ≡ None
    nowhere_by again true t s = absurd (cc)
    nowhere_by again false t s =
        let low : r.id ≤ id - 1 = lt-false (id - 1) r.id t in
        rw (eq-other r.id id (omega (arith, h.0)), again s) refl

-- the row with an id stands at its place
pub found_with : (id : ℕ) (rows : List Row) (n : ℕ) → place_with id rows ≡ Some n → find (has_id id) rows ≡ slice_get rows n
found_with id [] n e = absurd (cc)
found_with id (r ∷ rows) n e = found_by (λ m p. found_with id rows m p) (r.id == id) (place_with id rows) refl e
  where
    found_by : ((m : ℕ) → place_with id rows ≡ Some m → find (has_id id) rows ≡ slice_get rows m) → (b : Bool) (o : Option ℕ) → place_with id rows ≡ o → cond b (Some 0) (option_map suc o) ≡ Some n → cond b (Some r) (find (has_id id) rows) ≡ slice_get (r ∷ rows) n
    found_by again true o p s = let zeroth : 0 ≡ n = cc in rw (← zeroth) refl
    found_by again false None p s = absurd (cc)
    found_by again false (Some m) p s = let next : suc m ≡ n = cc in rw (← next) (again m p)

-- without a place there is no such row
pub found_nowhere : (id : ℕ) (rows : List Row) → place_with id rows ≡ None → find (has_id id) rows ≡ None
found_nowhere id [] e = refl
found_nowhere id (r ∷ rows) e = found_by (λ p. found_nowhere id rows p) (r.id == id) (place_with id rows) refl e
  where
    found_by : (place_with id rows ≡ None → find (has_id id) rows ≡ None) → (b : Bool) (o : Option ℕ) → place_with id rows ≡ o → cond b (Some 0) (option_map suc o) ≡ None → cond b (Some r) (find (has_id id) rows) ≡ None
    found_by again true o p s = absurd (cc)
    found_by again false None p s = again p
    found_by again false (Some m) p s = absurd (cc)

-- where no row has the id, changing it or taking it away changes nothing
pub kept_values : (id : ℕ) (values : List Value) (rows : List Row) → place_with id rows ≡ None → map (with_values id values) rows ≡ rows
kept_values id values [] e = refl
kept_values id values (r ∷ rows) e = kept_by (λ p. kept_values id values rows p) (r.id == id) (place_with id rows) refl e
  where
    kept_by : (place_with id rows ≡ None → map (with_values id values) rows ≡ rows) → (b : Bool) (o : Option ℕ) → place_with id rows ≡ o → cond b (Some 0) (option_map suc o) ≡ None → cond b (row_of r.id values) r ∷ map (with_values id values) rows ≡ r ∷ rows
    kept_by again true o p s = absurd (cc)
    kept_by again false None p s = ap (λ (xs : List Row). r ∷ xs) (again p)
    kept_by again false (Some m) p s = absurd (cc)

pub kept_rows : (id : ℕ) (rows : List Row) → place_with id rows ≡ None → filter (is_other id) rows ≡ rows
kept_rows id [] e = refl
kept_rows id (r ∷ rows) e = kept_by (λ p. kept_rows id rows p) (r.id == id) (place_with id rows) refl e
  where
    kept_by : (place_with id rows ≡ None → filter (is_other id) rows ≡ rows) → (b : Bool) (o : Option ℕ) → place_with id rows ≡ o → cond b (Some 0) (option_map suc o) ≡ None → cond (not b) (r ∷ filter (is_other id) rows) (filter (is_other id) rows) ≡ r ∷ rows
    kept_by again true o p s = absurd (cc)
    kept_by again false None p s = ap (λ (xs : List Row). r ∷ xs) (again p)
    kept_by again false (Some m) p s = absurd (cc)

-- where one has it, that row alone changes
pub changed_row : (id from : ℕ) (values : List Value) (rows : List Row) (n : ℕ) → Rise from rows → place_with id rows ≡ Some n → slice_set rows n (row_of id values) ≡ map (with_values id values) rows
changed_row id from values [] n h e = absurd (cc)
changed_row id from values (r ∷ rows) n h e = changed_by (λ m p. changed_row id (r.id + 1) values rows m h.1 p) (r.id == id) (place_with id rows) refl refl e
  where
    changed_by : ((m : ℕ) → place_with id rows ≡ Some m → slice_set rows m (row_of id values) ≡ map (with_values id values) rows) → (b : Bool) (o : Option ℕ) → (r.id == id) ≡ b → place_with id rows ≡ o → cond b (Some 0) (option_map suc o) ≡ Some n →
        slice_set (r ∷ rows) n (row_of id values) ≡ cond b (row_of r.id values) r ∷ map (with_values id values) rows
    changed_by again true o t p s =
        let zeroth : 0 ≡ n = cc in
        let own : r.id ≡ id = eq-true r.id id t in
        rw (← zeroth, own, kept_values id values rows (none_below id (r.id + 1) rows h.1 (omega arith))) refl
    changed_by again false None t p s = absurd (cc)
    changed_by again false (Some m) t p s =
        let next : suc m ≡ n = cc in rw (← next) (ap (λ (xs : List Row). r ∷ xs) (again m p))

-- or goes alone
pub removed_row : (id from : ℕ) (rows : List Row) (n : ℕ) → Rise from rows → place_with id rows ≡ Some n → remove rows n ≡ filter (is_other id) rows
removed_row id from [] n h e = absurd (cc)
removed_row id from (r ∷ rows) n h e = removed_by (λ m p. removed_row id (r.id + 1) rows m h.1 p) (r.id == id) (place_with id rows) refl refl e
  where
    removed_by : ((m : ℕ) → place_with id rows ≡ Some m → remove rows m ≡ filter (is_other id) rows) → (b : Bool) (o : Option ℕ) → (r.id == id) ≡ b → place_with id rows ≡ o → cond b (Some 0) (option_map suc o) ≡ Some n →
        remove (r ∷ rows) n ≡ cond (not b) (r ∷ filter (is_other id) rows) (filter (is_other id) rows)
    removed_by again true o t p s =
        let zeroth : 0 ≡ n = cc in
        let own : r.id ≡ id = eq-true r.id id t in
        rw (← zeroth, kept_rows id rows (none_below id (r.id + 1) rows h.1 (omega arith))) refl
    removed_by again false None t p s = absurd (cc)
    removed_by again false (Some m) t p s =
        let next : suc m ≡ n = cc in rw (← next) (ap (λ (xs : List Row). r ∷ xs) (again m p))

-- the same of a list that is that of the rows
pub parted_as : (id : ℕ) (xs rows : List Row) → xs ≡ rows → Rise 1 rows → IsPartitionedBy (is_until id) xs
parted_as id xs rows e h = subst (λ (ys : List Row). IsPartitionedBy (is_until id) ys) (sym e) (parted id 1 rows h)

-- what stands at a place, by how the code asks for it
pub found_as : (id : ℕ) (xs rows : List Row) (n : ℕ) (o : Option Row) → xs ≡ rows → n ≡ place_after id rows → o ≡ slice_get xs n → o ≡ find (is_after id) rows
found_as id xs rows n o e p g = g ∙ (rw (e, p) (found_after id rows))

pub with_as : (id : ℕ) (xs rows : List Row) (n : ℕ) (o : Option Row) → xs ≡ rows → place_with id rows ≡ Some n → o ≡ slice_get xs n → o ≡ find (has_id id) rows
with_as id xs rows n o e p g = g ∙ (rw (e) (sym (found_with id rows n p)))

-- a place is inside the list
pub place_within : (id : ℕ) (rows : List Row) (n : ℕ) → place_with id rows ≡ Some n → n < length rows
place_within id [] n e = absurd (cc)
place_within id (r ∷ rows) n e = within_by (λ m p. place_within id rows m p) (r.id == id) (place_with id rows) refl e
  where
    within_by : ((m : ℕ) → place_with id rows ≡ Some m → m < length rows) → (b : Bool) (o : Option ℕ) → place_with id rows ≡ o → cond b (Some 0) (option_map suc o) ≡ Some n → n < length (r ∷ rows)
    within_by again true o p s = let zeroth : 0 ≡ n = cc in omega arith
    within_by again false None p s = absurd (cc)
    within_by again false (Some m) p s = let next : suc m ≡ n = cc in let low : m < length rows = again m p in omega arith

-- what the search for a row's place comes to, by how the code asks for it
pub there_as : (id : ℕ) (xs rows : List Row) (m n : ℕ) (row : Row) → xs ≡ rows → m ≡ id - 1 → n ≡ place_after m rows → Some row ≡ slice_get xs n → Rise 1 rows → row.id ≡ id → Some n ≡ place_with id rows
there_as id xs rows m n row e q p g h o =
    let at : n ≡ place_after (id - 1) rows = p ∙ ap (λ k. place_after k rows) q in
    let got : slice_get rows (place_after (id - 1) rows) ≡ Some row = subst (λ k. slice_get rows k ≡ Some row) at (subst (λ (ys : List Row). slice_get ys n ≡ Some row) e (sym g)) in
    ap (λ (k : ℕ). Some k) at ∙ sym (there id 1 rows row h (omega arith) got o)

pub not_there_as : (id : ℕ) (xs rows : List Row) (m n : ℕ) (row : Row) → xs ≡ rows → m ≡ id - 1 → n ≡ place_after m rows → Some row ≡ slice_get xs n → Rise 1 rows → (row.id ≡ id → ⊥) → ◌≡◌ {A = Option ℕ} None (place_with id rows)
not_there_as id xs rows m n row e q p g h o =
    let at : n ≡ place_after (id - 1) rows = p ∙ ap (λ k. place_after k rows) q in
    let got : slice_get rows (place_after (id - 1) rows) ≡ Some row = subst (λ k. slice_get rows k ≡ Some row) at (subst (λ (ys : List Row). slice_get ys n ≡ Some row) e (sym g)) in
    sym (not_there id 1 rows row h (omega arith) got (eq-not row.id id o))

pub nowhere_as : (id : ℕ) (xs rows : List Row) (m n : ℕ) → xs ≡ rows → m ≡ id - 1 → n ≡ place_after m rows → None ≡ slice_get xs n → Rise 1 rows → ◌≡◌ {A = Option ℕ} None (place_with id rows)
nowhere_as id xs rows m n e q p g h =
    let at : n ≡ place_after (id - 1) rows = p ∙ ap (λ k. place_after k rows) q in
    let got : slice_get rows (place_after (id - 1) rows) ≡ None = subst (λ k. slice_get rows k ≡ None) at (subst (λ (ys : List Row). slice_get ys n ≡ None) e (sym g)) in
    sym (nowhere id 1 rows h (omega arith) got)
