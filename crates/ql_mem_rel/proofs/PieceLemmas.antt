-- What is done to a piece is done to all rows.
use Rattle.std.proofs.Common.{add-one, IsErrAnd, ◌≡◌, ℕ, zero, suc, ◌+◌, ◌-◌, ◌<◌, ◌≤◌, Bool, true, false, cond, nat_lt, nat_le, List, [], ◌∷◌, ◌++◌, length, map, filter, remove, take, drop, ◌||◌, find, slice_get, get_or, append_assoc, append-nil, Option, Some, None, Result, Ok, Err, OnOk, OnErr, slice_set, refl, sym, ap, subst, ◌∙◌, arith}
use Rattle.std.proofs.lemmas.Bool.Decides.{nat_tests}
use Rattle.std.specs.List.{list_any}
use Rattle.std.specs.List.Sorted.{IsPartitionedBy, IsPartitionPoint}
use Rattle.ql_value.specs.declared.value.Value.{Value}
use Rattle.ql_rel.specs.declared.db.Row.{Row}
use Rattle.ql_rel.specs.declared.fault.RelFault.{RelFault}
use Rattle.ql_rel.specs.declared.fault.RelFault.TheVariants as fault
use Rattle.ql_rel.specs.Refusals.{IsRefusedBy, refused_if}
use Rattle.ql_rel.specs.Changes.{changed_at, with_values, is_other}
use Rattle.ql_mem_rel.specs.Pieces.{rows_of, AllFilled, AllFilledBut, end_id, piece_after}
use Rattle.ql_mem_rel.specs.Places.{place_with, AllLonger}
use Rattle.ql_rel.specs.Rels.{is_after, has_id}
use Rattle.ql_rel.specs.WellFormed.{Rise}
use Rattle.ql_mem_rel.proofs.TableLemmas.{set-as, set-kept}
use Rattle.ql_mem_rel.proofs.PlaceLemmas.{until-true, until-le, after_until, after_not, lt-true, lt-false, eq-other, none_below, found_nowhere, kept_values, kept_rows}

abbrev pub id_if : Option Row → ℕ
id_if None = 0
id_if (Some row) = row.id

-- the last row, by how the code asks for it
end_here : (rows : List Row) → id_if (slice_get rows (length rows - 1)) ≡ end_id rows
end_here [] = refl
end_here (r ∷ []) = refl
end_here (r ∷ s ∷ rows) =
    let e : suc (suc (length rows)) - 1 ≡ suc (length rows) = omega arith in
    let f : suc (length rows) - 1 ≡ length rows = omega arith in
    let later : id_if (slice_get (s ∷ rows) (length rows)) ≡ end_id (s ∷ rows) = subst (λ (n : ℕ). id_if (slice_get (s ∷ rows) n) ≡ end_id (s ∷ rows)) f (end_here (s ∷ rows)) in
    ap (λ (n : ℕ). id_if (slice_get (r ∷ s ∷ rows) n)) e ∙ later

pub end_got : (xs rows : List Row) (o : Option Row) → xs ≡ rows → o ≡ slice_get xs (length xs - 1) → id_if o ≡ end_id rows
end_got xs rows o e g = ap id_if g ∙ end_here xs ∙ ap end_id e

-- rows that rise from a number rise from each lower one
rise_lower : (from low : ℕ) (rows : List Row) → low ≤ from → Rise from rows → Rise low rows
rise_lower from low [] l h = tt
rise_lower from low (r ∷ rows) l h = (omega (arith, h.0), h.1)

-- rows in front of others rise, and so do the others
rise_front : (from : ℕ) (rows more : List Row) → Rise from (rows ++ more) → Rise from rows
rise_front from [] more h = tt
rise_front from (r ∷ rows) more h = (h.0, rise_front (r.id + 1) rows more h.1)

rise_behind : (from : ℕ) (rows more : List Row) → 0 < length rows → Rise from (rows ++ more) → Rise (end_id rows + 1) more
rise_behind from [] more l h = absurd (omega arith)
rise_behind from (r ∷ []) more l h = h.1
rise_behind from (r ∷ s ∷ rows) more l h = rise_behind (r.id + 1) (s ∷ rows) more (omega arith) h.1

-- the last id is the first number at least
end_from : (from : ℕ) (rows : List Row) → 0 < length rows → Rise from rows → from ≤ end_id rows
end_from from [] l h = absurd (omega arith)
end_from from (r ∷ []) l h = h.0
end_from from (r ∷ s ∷ rows) l h = let low : r.id + 1 ≤ end_id (s ∷ rows) = end_from (r.id + 1) (s ∷ rows) (omega arith) h.1 in omega (arith, h.0)

-- the pieces behind one rise as well
rise_later : (from : ℕ) (p : List Row) (ps : List (List Row)) → AllFilled (p ∷ ps) → Rise from (rows_of (p ∷ ps)) → Rise from (rows_of ps)
rise_later from p ps f h =
    let own = end_from from p f.0 (rise_front from p (rows_of ps) h) in
    rise_lower (end_id p + 1) from (rows_of ps) (omega arith) (rise_behind from p (rows_of ps) f.0 h)

-- a piece's rows rise
pub rise_piece : (from : ℕ) (ps : List (List Row)) (n : ℕ) (d : List Row) → AllFilled ps → Rise from (rows_of ps) → n < length ps → Rise from (get_or ps n d)
rise_piece from [] n d f h l = absurd (omega arith)
rise_piece from (p ∷ ps) zero d f h l = rise_front from p (rows_of ps) h
rise_piece from (p ∷ ps) (suc n) d f h l = rise_piece from ps n d f.1 (rise_later from p ps f h) (omega arith)

pub rise_got : (from : ℕ) (ps : List (List Row)) (n : ℕ) (o : Option (List Row)) (p : List Row) → AllFilled ps → Rise from (rows_of ps) → o ≡ Some p → o ≡ slice_get ps n → Rise from p
rise_got from [] n o p f h e g = absurd (cc)
rise_got from (q ∷ ps) zero o p f h e g = let same : q ≡ p = cc in subst (λ (x : List Row). Rise from x) same (rise_front from q (rows_of ps) h)
rise_got from (q ∷ ps) (suc n) o p f h e g = rise_got from ps n o p f.1 (rise_later from q ps f h) e g

-- the last ids of pieces rise
end_later : (from : ℕ) (ps : List (List Row)) (j : ℕ) (d : List Row) → AllFilled ps → Rise from (rows_of ps) → j < length ps → from ≤ end_id (get_or ps j d)
end_later from [] j d f h l = absurd (omega arith)
end_later from (p ∷ ps) zero d f h l = end_from from p f.0 (rise_front from p (rows_of ps) h)
end_later from (p ∷ ps) (suc j) d f h l = end_later from ps j d f.1 (rise_later from p ps f h) (omega arith)

end_le : (from : ℕ) (ps : List (List Row)) (i j : ℕ) (d : List Row) → AllFilled ps → Rise from (rows_of ps) → i ≤ j → j < length ps → end_id (get_or ps i d) ≤ end_id (get_or ps j d)
end_le from [] i j d f h o l = absurd (omega arith)
end_le from (p ∷ ps) zero zero d f h o l = omega arith
end_le from (p ∷ ps) zero (suc j) d f h o l =
    let low : end_id p + 1 ≤ end_id (get_or ps j d) = end_later (end_id p + 1) ps j d f.1 (rise_behind from p (rows_of ps) f.0 h) (omega arith) in omega arith
end_le from (p ∷ ps) (suc i) zero d f h o l = absurd (omega arith)
end_le from (p ∷ ps) (suc i) (suc j) d f h o l = end_le from ps i j d f.1 (rise_later from p ps f h) (omega arith) (omega arith)

-- a piece with no row over a number
abbrev pub ends_until : ℕ → List Row → Bool
ends_until id piece = nat_le (end_id piece) id

-- such pieces come before the others
pub pieces_parted : (id : ℕ) (ps : List (List Row)) → AllFilled ps → Rise 1 (rows_of ps) → IsPartitionedBy (ends_until id) ps
pieces_parted id ps f h i j d o l e =
    let low = until-le (end_id (get_or ps j d)) id e in
    let le = end_le 1 ps i j d f h o l in
    until-true (end_id (get_or ps i d)) id (omega arith)

-- the place where they end
pub pieces_parted_at : (id : ℕ) (ps : List (List Row)) (n : ℕ) → n ≤ length ps → IsPartitionPoint (λ p. ends_until id p ≡ true) (λ p. ends_until id p ≡ false) ps n → n ≡ piece_after id ps
pieces_parted_at id [] n l h = omega arith
pieces_parted_at id (p ∷ ps) zero l h = rw (after_not (end_id p) id (h.1 0 p (omega arith) (omega arith))) refl
pieces_parted_at id (p ∷ ps) (suc n) l h =
    rw (after_until (end_id p) id (h.0 0 p (omega arith) (omega arith)))
    (ap suc (pieces_parted_at id ps n (omega arith) ((λ k d a b. h.0 (suc k) d (omega arith) (omega arith)), (λ k d a b. h.1 (suc k) d (omega arith) (omega arith)))))

-- the first row behind an id, where one of these is behind it
find_front : (id : ℕ) (rows more : List Row) → id < end_id rows → find (is_after id) (rows ++ more) ≡ find (is_after id) rows
find_front id [] more l = absurd (omega arith)
find_front id (r ∷ []) more l = let t : nat_lt id r.id ≡ true = grind (arith, nat_tests) in rw t refl
find_front id (r ∷ s ∷ rows) more l = front_by (find_front id (s ∷ rows) more l) (nat_lt id r.id)
  where
    front_by : find (is_after id) (s ∷ rows ++ more) ≡ find (is_after id) (s ∷ rows) → (b : Bool) → cond b (Some r) (find (is_after id) (s ∷ rows ++ more)) ≡ cond b (Some r) (find (is_after id) (s ∷ rows))
    front_by again true = refl
    front_by again false = again

-- and where none is
find_behind : (id from : ℕ) (rows more : List Row) → Rise from rows → end_id rows ≤ id → find (is_after id) (rows ++ more) ≡ find (is_after id) more
find_behind id from [] more h l = refl
find_behind id from (r ∷ []) more h l = let t : nat_lt id r.id ≡ false = grind (arith, nat_tests) in rw t refl
find_behind id from (r ∷ s ∷ rows) more h l =
    let low : r.id + 1 ≤ end_id (s ∷ rows) = end_from (r.id + 1) (s ∷ rows) (omega arith) h.1 in
    let t : nat_lt id r.id ≡ false = grind (arith, nat_tests) in
    rw t (find_behind id (r.id + 1) (s ∷ rows) more h.1 l)

-- what is found in a piece, where there is one
abbrev pub found_in : (List Row → Option Row) → Option (List Row) → Option Row
found_in look None = None
found_in look (Some piece) = look piece

pub first_in : (id from : ℕ) (ps : List (List Row)) → AllFilled ps → Rise from (rows_of ps) → found_in (find (is_after id)) (slice_get ps (piece_after id ps)) ≡ find (is_after id) (rows_of ps)
first_in id from [] f h = refl
first_in id from (p ∷ ps) f h = first_by (first_in id from ps f.1 (rise_later from p ps f h)) (nat_lt id (end_id p)) refl
  where
    first_by : found_in (find (is_after id)) (slice_get ps (piece_after id ps)) ≡ find (is_after id) (rows_of ps) → (b : Bool) → nat_lt id (end_id p) ≡ b → found_in (find (is_after id)) (slice_get (p ∷ ps) (cond b 0 (suc (piece_after id ps)))) ≡ find (is_after id) (rows_of (p ∷ ps))
    first_by again true t = sym (find_front id p (rows_of ps) (lt-true id (end_id p) t))
    first_by again false t = again ∙ sym (find_behind id from p (rows_of ps) (rise_front from p (rows_of ps) h) (lt-false id (end_id p) t))

-- no row has an id over the last one
none_over : (id from : ℕ) (rows : List Row) → Rise from rows → end_id rows < id → place_with id rows ≡ None
none_over id from [] h l = refl
none_over id from (r ∷ []) h l = rw (eq-other r.id id l) refl
none_over id from (r ∷ s ∷ rows) h l =
    let low : r.id + 1 ≤ end_id (s ∷ rows) = end_from (r.id + 1) (s ∷ rows) (omega arith) h.1 in
    let later : place_with id (s ∷ rows) ≡ None = none_over id (r.id + 1) (s ∷ rows) h.1 l in
    rw (eq-other r.id id (omega arith), later) refl

-- of two lists of rows one has no row with an id
none_later : (id from : ℕ) (p : List Row) (ps : List (List Row)) → AllFilled (p ∷ ps) → Rise from (rows_of (p ∷ ps)) → id - 1 < end_id p → place_with id (rows_of ps) ≡ None
none_later id from p ps f h l = none_below id (end_id p + 1) (rows_of ps) (rise_behind from p (rows_of ps) f.0 h) (omega arith)

none_here : (id from : ℕ) (p : List Row) (ps : List (List Row)) → 1 ≤ from → AllFilled (p ∷ ps) → Rise from (rows_of (p ∷ ps)) → end_id p ≤ id - 1 → place_with id p ≡ None
none_here id from p ps o f h l =
    let own = end_from from p f.0 (rise_front from p (rows_of ps) h) in
    none_over id from p (rise_front from p (rows_of ps) h) (omega arith)

-- the row with an id
find-append : (q : Row → Bool) (rows more : List Row) → find q more ≡ None → find q (rows ++ more) ≡ find q rows
find-append q [] more e = e
find-append q (r ∷ rows) more e = append_by (find-append q rows more e) (q r)
  where
    append_by : find q (rows ++ more) ≡ find q rows → (b : Bool) → cond b (Some r) (find q (rows ++ more)) ≡ cond b (Some r) (find q rows)
    append_by again true = refl
    append_by again false = again

find-behind : (q : Row → Bool) (rows more : List Row) → find q rows ≡ None → find q (rows ++ more) ≡ find q more
find-behind q [] more e = refl
find-behind q (r ∷ rows) more e = behind_by (λ p. find-behind q rows more p) (q r) e
  where
    behind_by : (find q rows ≡ None → find q (rows ++ more) ≡ find q more) → (b : Bool) → cond b (Some r) (find q rows) ≡ None → cond b (Some r) (find q (rows ++ more)) ≡ find q more
    behind_by again true p = absurd (cc)
    behind_by again false p = again p

pub with_in : (id from : ℕ) (ps : List (List Row)) → 1 ≤ from → AllFilled ps → Rise from (rows_of ps) → found_in (find (has_id id)) (slice_get ps (piece_after (id - 1) ps)) ≡ find (has_id id) (rows_of ps)
with_in id from [] o f h = refl
with_in id from (p ∷ ps) o f h = with_by (with_in id from ps o f.1 (rise_later from p ps f h)) (nat_lt (id - 1) (end_id p)) refl
  where
    with_by : found_in (find (has_id id)) (slice_get ps (piece_after (id - 1) ps)) ≡ find (has_id id) (rows_of ps) → (b : Bool) → nat_lt (id - 1) (end_id p) ≡ b → found_in (find (has_id id)) (slice_get (p ∷ ps) (cond b 0 (suc (piece_after (id - 1) ps)))) ≡ find (has_id id) (rows_of (p ∷ ps))
    with_by again true t = sym (find-append (has_id id) p (rows_of ps) (found_nowhere id (rows_of ps) (none_later id from p ps f h (lt-true (id - 1) (end_id p) t))))
    with_by again false t = again ∙ sym (find-behind (has_id id) p (rows_of ps) (found_nowhere id p (none_here id from p ps o f h (lt-false (id - 1) (end_id p) t))))

-- what changes rows one by one changes those of a piece alone, where others have not the id
map-append : (g : Row → Row) (rows more : List Row) → map g (rows ++ more) ≡ map g rows ++ map g more
map-append g [] more = refl
map-append g (r ∷ rows) more = ap (λ (xs : List Row). g r ∷ xs) (map-append g rows more)

filter-append : (q : Row → Bool) (rows more : List Row) → filter q (rows ++ more) ≡ filter q rows ++ filter q more
filter-append q [] more = refl
filter-append q (r ∷ rows) more = append_by (filter-append q rows more) (q r)
  where
    append_by : filter q (rows ++ more) ≡ filter q rows ++ filter q more → (b : Bool) → cond b (r ∷ filter q (rows ++ more)) (filter q (rows ++ more)) ≡ cond b (r ∷ filter q rows) (filter q rows) ++ filter q more
    append_by again true = ap (λ (xs : List Row). r ∷ xs) again
    append_by again false = again

pub changed_in : (id from : ℕ) (values : List Value) (ps : List (List Row)) → 1 ≤ from → AllFilled ps → Rise from (rows_of ps) → rows_of (changed_at (piece_after (id - 1) ps) (map (with_values id values)) ps) ≡ map (with_values id values) (rows_of ps)
changed_in id from values [] o f h = refl
changed_in id from values (p ∷ ps) o f h = changed_by (changed_in id from values ps o f.1 (rise_later from p ps f h)) (nat_lt (id - 1) (end_id p)) refl
  where
    changed_by : rows_of (changed_at (piece_after (id - 1) ps) (map (with_values id values)) ps) ≡ map (with_values id values) (rows_of ps) → (b : Bool) → nat_lt (id - 1) (end_id p) ≡ b →
        rows_of (changed_at (cond b 0 (suc (piece_after (id - 1) ps))) (map (with_values id values)) (p ∷ ps)) ≡ map (with_values id values) (rows_of (p ∷ ps))
    changed_by again true t =
        let rest = kept_values id values (rows_of ps) (none_later id from p ps f h (lt-true (id - 1) (end_id p) t)) in
        ap (λ (xs : List Row). map (with_values id values) p ++ xs) (sym rest) ∙ sym (map-append (with_values id values) p (rows_of ps))
    changed_by again false t =
        let own = kept_values id values p (none_here id from p ps o f h (lt-false (id - 1) (end_id p) t)) in
        ap (λ (xs : List Row). p ++ xs) again ∙ ap (λ (xs : List Row). xs ++ map (with_values id values) (rows_of ps)) (sym own) ∙ sym (map-append (with_values id values) p (rows_of ps))

pub removed_in : (id from : ℕ) (ps : List (List Row)) → 1 ≤ from → AllFilled ps → Rise from (rows_of ps) → rows_of (changed_at (piece_after (id - 1) ps) (filter (is_other id)) ps) ≡ filter (is_other id) (rows_of ps)
removed_in id from [] o f h = refl
removed_in id from (p ∷ ps) o f h = removed_by (removed_in id from ps o f.1 (rise_later from p ps f h)) (nat_lt (id - 1) (end_id p)) refl
  where
    removed_by : rows_of (changed_at (piece_after (id - 1) ps) (filter (is_other id)) ps) ≡ filter (is_other id) (rows_of ps) → (b : Bool) → nat_lt (id - 1) (end_id p) ≡ b →
        rows_of (changed_at (cond b 0 (suc (piece_after (id - 1) ps))) (filter (is_other id)) (p ∷ ps)) ≡ filter (is_other id) (rows_of (p ∷ ps))
    removed_by again true t =
        let rest = kept_rows id (rows_of ps) (none_later id from p ps f h (lt-true (id - 1) (end_id p) t)) in
        ap (λ (xs : List Row). filter (is_other id) p ++ xs) (sym rest) ∙ sym (filter-append (is_other id) p (rows_of ps))
    removed_by again false t =
        let own = kept_rows id p (none_here id from p ps o f h (lt-false (id - 1) (end_id p) t)) in
        ap (λ (xs : List Row). p ++ xs) again ∙ ap (λ (xs : List Row). xs ++ filter (is_other id) (rows_of ps)) (sym own) ∙ sym (filter-append (is_other id) p (rows_of ps))

-- past the last piece nothing is changed
pub changed_past : {A : Type 0} (n : ℕ) (g : A → A) (xs : List A) → length xs ≤ n → changed_at n g xs ≡ xs
changed_past n g [] l = refl
changed_past zero g (x ∷ xs) l = absurd (omega arith)
changed_past (suc n) g (x ∷ xs) l = ap (λ ys. x ∷ ys) (changed_past n g xs (omega arith))

-- which pieces are filled after a change
length-values : (id : ℕ) (values : List Value) (rows : List Row) → length (map (with_values id values) rows) ≡ length rows
length-values id values [] = refl
length-values id values (r ∷ rows) = ap suc (length-values id values rows)

pub filled_changed : (n id : ℕ) (values : List Value) (ps : List (List Row)) → AllFilled ps → AllFilled (changed_at n (map (with_values id values)) ps)
filled_changed n id values [] f = tt
filled_changed zero id values (p ∷ ps) f = (rw (length-values id values p) f.0, f.1)
filled_changed (suc n) id values (p ∷ ps) f = (f.0, filled_changed n id values ps f.1)

pub filled_but : (n : ℕ) (g : List Row → List Row) (ps : List (List Row)) → AllFilled ps → AllFilledBut n (changed_at n g ps)
filled_but n g [] f = tt
filled_but zero g (p ∷ ps) f = f.1
filled_but (suc n) g (p ∷ ps) f = (f.0, filled_but n g ps f.1)

pub filled_all : (n : ℕ) (ps : List (List Row)) (d : List Row) → AllFilledBut n ps → n < length ps → 0 < length (get_or ps n d) → AllFilled ps
filled_all n [] d f l p = tt
filled_all zero (p ∷ ps) d f l q = (q, f)
filled_all (suc n) (p ∷ ps) d f l q = (f.0, filled_all n ps d f.1 (omega arith) q)

pub filled_left : (n : ℕ) (ps : List (List Row)) → AllFilledBut n ps → n < length ps → AllFilled (remove ps n)
filled_left n [] f l = absurd (omega arith)
filled_left zero (p ∷ ps) f l = f
filled_left (suc n) (p ∷ ps) f l = (f.0, filled_left n ps f.1 (omega arith))

pub rows_left : (n : ℕ) (ps : List (List Row)) (d : List Row) → n < length ps → length (get_or ps n d) ≡ 0 → rows_of (remove ps n) ≡ rows_of ps
rows_left n [] d l e = absurd (omega arith)
rows_left zero ([] ∷ ps) d l e = refl
rows_left zero ((r ∷ p) ∷ ps) d l e = absurd (omega arith)
rows_left (suc n) (p ∷ ps) d l e = ap (λ (xs : List Row). p ++ xs) (rows_left n ps d (omega arith) e)

-- a piece behind the others
pub rows_more : (ps : List (List Row)) (p : List Row) → rows_of (ps ++ p ∷ []) ≡ rows_of ps ++ p
rows_more [] p = append-nil p
rows_more (q ∷ ps) p = ap (λ (xs : List Row). q ++ xs) (rows_more ps p) ∙ sym (append_assoc q (rows_of ps) p)

pub filled_more : (ps : List (List Row)) (p : List Row) → AllFilled ps → 0 < length p → AllFilled (ps ++ p ∷ [])
filled_more [] p f l = (l, tt)
filled_more (q ∷ ps) p f l = (f.0, filled_more ps p f.1 l)

-- the last piece with a row more
pub rows_last : (ps : List (List Row)) (n : ℕ) (row : Row) → length ps ≡ n + 1 → rows_of (changed_at n (λ (p : List Row). p ++ row ∷ []) ps) ≡ rows_of ps ++ row ∷ []
rows_last [] n row e = absurd (omega arith)
rows_last (p ∷ []) zero row e = append-nil (p ++ row ∷ []) ∙ ap (λ (xs : List Row). xs ++ row ∷ []) (sym (append-nil p))
rows_last (p ∷ q ∷ ps) zero row e = absurd (omega arith)
rows_last (p ∷ ps) (suc n) row e = ap (λ (xs : List Row). p ++ xs) (rows_last ps n row (omega arith)) ∙ sym (append_assoc p (rows_of ps) (row ∷ []))

length-row : (rows : List Row) (row : Row) → 0 < length (rows ++ row ∷ [])
length-row [] row = omega arith
length-row (r ∷ rows) row = omega arith

pub filled_last : (ps : List (List Row)) (n : ℕ) (row : Row) → AllFilled ps → AllFilled (changed_at n (λ (p : List Row). p ++ row ∷ []) ps)
filled_last [] n row f = tt
filled_last (p ∷ ps) zero row f = (length-row p row, f.1)
filled_last (p ∷ ps) (suc n) row f = (f.0, filled_last ps n row f.1)

-- the pieces up to a place, and one more
pub rows_taken : (ps : List (List Row)) (n : ℕ) (d : List Row) → n < length ps → rows_of (take (suc n) ps) ≡ rows_of (take n ps) ++ get_or ps n d
rows_taken [] n d l = absurd (omega arith)
rows_taken (p ∷ ps) zero d l = append-nil p
rows_taken (p ∷ ps) (suc n) d l = ap (λ (xs : List Row). p ++ xs) (rows_taken ps n d (omega arith)) ∙ sym (append_assoc p (rows_of (take n ps)) (get_or ps n d))

-- the same by how the code asks for it
pub rise_here : (ps : List (List Row)) (n : ℕ) (p : List Row) → AllFilled ps → Rise 1 (rows_of ps) → n < length ps → p ≡ get_or ps n p → Rise 1 p
rise_here ps n p f h l e = subst (λ (x : List Row). Rise 1 x) (sym e) (rise_piece 1 ps n p f h l)

pub first_as : (id : ℕ) (ps : List (List Row)) (n : ℕ) (o : Option (List Row)) (found : Option Row) → AllFilled ps → Rise 1 (rows_of ps) → n ≡ piece_after id ps → o ≡ slice_get ps n → found ≡ found_in (find (is_after id)) o → found ≡ find (is_after id) (rows_of ps)
first_as id ps n o found f h e g q = q ∙ ap (found_in (find (is_after id))) (g ∙ ap (λ (k : ℕ). slice_get ps k) e) ∙ first_in id 1 ps f h

pub with_as : (id : ℕ) (ps : List (List Row)) (m n : ℕ) (o : Option (List Row)) (found : Option Row) → AllFilled ps → Rise 1 (rows_of ps) → m ≡ id - 1 → n ≡ piece_after m ps → o ≡ slice_get ps n → found ≡ found_in (find (has_id id)) o → found ≡ find (has_id id) (rows_of ps)
with_as id ps m n o found f h z e g q =
    let at : n ≡ piece_after (id - 1) ps = e ∙ ap (λ (k : ℕ). piece_after k ps) z in
    q ∙ ap (found_in (find (has_id id))) (g ∙ ap (λ (k : ℕ). slice_get ps k) at) ∙ with_in id 1 ps (omega arith) f h

pub changed_as : (id : ℕ) (values : List Value) (ps : List (List Row)) (m n : ℕ) → AllFilled ps → Rise 1 (rows_of ps) → m ≡ id - 1 → n ≡ piece_after m ps → rows_of (changed_at n (map (with_values id values)) ps) ≡ map (with_values id values) (rows_of ps)
changed_as id values ps m n f h z e =
    let at : n ≡ piece_after (id - 1) ps = e ∙ ap (λ (k : ℕ). piece_after k ps) z in
    ap (λ (k : ℕ). rows_of (changed_at k (map (with_values id values)) ps)) at ∙ changed_in id 1 values ps (omega arith) f h

pub changed_none : (id : ℕ) (values : List Value) (ps : List (List Row)) (m n : ℕ) → AllFilled ps → Rise 1 (rows_of ps) → m ≡ id - 1 → n ≡ piece_after m ps → length ps ≤ n → rows_of ps ≡ map (with_values id values) (rows_of ps)
changed_none id values ps m n f h z e l = ap rows_of (sym (changed_past n (map (with_values id values)) ps l)) ∙ changed_as id values ps m n f h z e

pub removed_as : (id : ℕ) (ps : List (List Row)) (m n : ℕ) → AllFilled ps → Rise 1 (rows_of ps) → m ≡ id - 1 → n ≡ piece_after m ps → rows_of (changed_at n (filter (is_other id)) ps) ≡ filter (is_other id) (rows_of ps)
removed_as id ps m n f h z e =
    let at : n ≡ piece_after (id - 1) ps = e ∙ ap (λ (k : ℕ). piece_after k ps) z in
    ap (λ (k : ℕ). rows_of (changed_at k (filter (is_other id)) ps)) at ∙ removed_in id 1 ps (omega arith) f h

pub removed_none : (id : ℕ) (ps : List (List Row)) (m n : ℕ) → AllFilled ps → Rise 1 (rows_of ps) → m ≡ id - 1 → n ≡ piece_after m ps → length ps ≤ n → rows_of ps ≡ filter (is_other id) (rows_of ps)
removed_none id ps m n f h z e l = ap rows_of (sym (changed_past n (filter (is_other id)) ps l)) ∙ removed_as id ps m n f h z e

pub changed_set : (id : ℕ) (values : List Value) (ps : List (List Row)) (n : ℕ) (old new : List Row) → n < length ps → old ≡ get_or ps n old → new ≡ map (with_values id values) old → slice_set ps n new ≡ changed_at n (map (with_values id values)) ps
changed_set id values ps n old new l e q = set-as (map (with_values id values)) ps n old new l e q

pub filled_pushed : {E : Type 0} (r : Result (Unit {0}) E) (ps : List (List Row)) (n : ℕ) (old new : List Row) (row : Row) → AllFilled ps → n < length ps → old ≡ get_or ps n old → OnOk r (new ≡ old ++ row ∷ []) → OnErr r (new ≡ old) → AllFilled (slice_set ps n new)
filled_pushed (Ok x) ps n old new row f l e p q = subst AllFilled (sym (set-as (λ (xs : List Row). xs ++ row ∷ []) ps n old new l e p)) (filled_last ps n row f)
filled_pushed (Err x) ps n old new row f l e p q = subst AllFilled (sym (ap (λ (y : List Row). slice_set ps n y) q ∙ set-kept ps n old l e)) f

pub rows_pushed : (ps : List (List Row)) (n : ℕ) (old new : List Row) (row : Row) → length ps ≡ n + 1 → old ≡ get_or ps n old → new ≡ old ++ row ∷ [] → rows_of (slice_set ps n new) ≡ rows_of ps ++ row ∷ []
rows_pushed ps n old new row l e p = ap rows_of (set-as (λ (xs : List Row). xs ++ row ∷ []) ps n old new (omega arith) e p) ∙ rows_last ps n row l

pub rows_dropped : (ps : List (List Row)) (n : ℕ) (p : List Row) (k : ℕ) → n < length ps → p ≡ get_or ps n p → k ≡ length p → k ≡ 0 → rows_of (remove ps n) ≡ rows_of ps
rows_dropped ps n p k l e q z = rows_left n ps p l (ap length (sym e) ∙ sym q ∙ z)

some_length : (k n : ℕ) → k ≡ n → (k ≡ 0 → ⊥) → 0 < n
some_length zero n e f = absurd (f refl)
some_length (suc k) n e f = omega arith

pub filled_kept : (ps : List (List Row)) (n : ℕ) (p : List Row) (k : ℕ) → AllFilledBut n ps → n < length ps → p ≡ get_or ps n p → k ≡ length p → (k ≡ 0 → ⊥) → AllFilled ps
filled_kept ps n p k f l e q z = filled_all n ps p f l (some_length k (length (get_or ps n p)) (q ∙ ap length e) z)

pub filled_pushed_piece : (ps qs : List (List Row)) (p : List Row) (k : ℕ) → AllFilled ps → k ≡ length p → (k ≡ 0 → ⊥) → qs ≡ ps ++ p ∷ [] → AllFilled qs
filled_pushed_piece ps qs p k f q z e = subst AllFilled (sym e) (filled_more ps p f (some_length k (length p) q z))

-- rows that are gone over piece by piece
pub map_taken : (g : Row → Row) (ps : List (List Row)) (n : ℕ) (d : List Row) → n < length ps → map g (rows_of (take (suc n) ps)) ≡ map g (rows_of (take n ps)) ++ map g (get_or ps n d)
map_taken g ps n d l = ap (map g) (rows_taken ps n d l) ∙ map-append g (rows_of (take n ps)) (get_or ps n d)

rows_split : (ps : List (List Row)) (n : ℕ) (d : List Row) → n < length ps → rows_of (drop n ps) ≡ get_or ps n d ++ rows_of (drop (suc n) ps)
rows_split [] n d l = absurd (omega arith)
rows_split (p ∷ ps) zero d l = refl
rows_split (p ∷ ps) (suc n) d l = rows_split ps n d (omega arith)

any_behind : (q : Row → Bool) (xs ys : List Row) → list_any q xs ≡ false → list_any q (xs ++ ys) ≡ list_any q ys
any_behind q [] ys e = refl
any_behind q (x ∷ xs) ys e = behind_by (λ p. any_behind q xs ys p) (q x) e
  where
    behind_by : (list_any q xs ≡ false → list_any q (xs ++ ys) ≡ list_any q ys) → (b : Bool) → (b || list_any q xs) ≡ false → (b || list_any q (xs ++ ys)) ≡ list_any q ys
    behind_by again true p = absurd (cc)
    behind_by again false p = again p

any_front : (q : Row → Bool) (xs ys : List Row) → list_any q xs ≡ true → list_any q (xs ++ ys) ≡ true
any_front q [] ys e = absurd (cc)
any_front q (x ∷ xs) ys e = front_by (λ p. any_front q xs ys p) (q x) e
  where
    front_by : (list_any q xs ≡ true → list_any q (xs ++ ys) ≡ true) → (b : Bool) → (b || list_any q xs) ≡ true → (b || list_any q (xs ++ ys)) ≡ true
    front_by again true p = refl
    front_by again false p = again p

-- where the rows before a piece and its own have not what is asked, those behind it decide
pub any_later : (q : Row → Bool) (ps : List (List Row)) (n : ℕ) (d : List Row) → n < length ps → list_any q (get_or ps n d) ≡ false → list_any q (rows_of (drop (suc n) ps)) ≡ list_any q (rows_of (drop n ps))
any_later q ps n d l e = sym (ap (list_any q) (rows_split ps n d l) ∙ any_behind q (get_or ps n d) (rows_of (drop (suc n) ps)) e)

pub any_here : (q : Row → Bool) (ps : List (List Row)) (n : ℕ) (d : List Row) → n < length ps → list_any q (get_or ps n d) ≡ true → list_any q (rows_of (drop n ps)) ≡ true
any_here q ps n d l e = ap (list_any q) (rows_split ps n d l) ∙ any_front q (get_or ps n d) (rows_of (drop (suc n) ps)) e

longer_front : (place : ℕ) (p more : List Row) → AllLonger place (p ++ more) → AllLonger place p
longer_front place [] more h k d q = absurd (omega arith)
longer_front place (r ∷ p) more h zero d q = h 0 d (omega arith)
longer_front place (r ∷ p) more h (suc k) d q = longer_front place p more (λ j e o. h (suc j) e (omega arith)) k d (omega arith)

longer_behind : (place : ℕ) (p more : List Row) → AllLonger place (p ++ more) → AllLonger place more
longer_behind place [] more h = h
longer_behind place (r ∷ p) more h = longer_behind place p more (λ j e o. h (suc j) e (omega arith))

pub longer_piece : (place : ℕ) (ps : List (List Row)) (n : ℕ) (d : List Row) → AllLonger place (rows_of ps) → n < length ps → AllLonger place (get_or ps n d)
longer_piece place [] n d h l = absurd (omega arith)
longer_piece place (p ∷ ps) zero d h l = longer_front place p (rows_of ps) h
longer_piece place (p ∷ ps) (suc n) d h l = longer_piece place ps n d (longer_behind place p (rows_of ps) h) (omega arith)

-- a turn of a loop over the pieces
pub copied_more : (ps : List (List Row)) (n : ℕ) (piece done more next : List Row) → n < length ps → piece ≡ get_or ps n piece → done ≡ rows_of (take n ps) → more ≡ piece → next ≡ done ++ more → next ≡ rows_of (take (n + 1) ps)
copied_more ps n piece done more next l e d m x =
    x ∙ ap (λ (xs : List Row). done ++ xs) (m ∙ e) ∙ ap (λ (xs : List Row). xs ++ get_or ps n piece) d ∙ sym (rows_taken ps n piece l) ∙ ap (λ (k : ℕ). rows_of (take k ps)) (sym (add-one n))

pub mapped_more : (g : Row → Row) (ps : List (List Row)) (n : ℕ) (piece done more next : List Row) → n < length ps → piece ≡ get_or ps n piece → done ≡ map g (rows_of (take n ps)) → more ≡ map g piece → next ≡ done ++ more → next ≡ map g (rows_of (take (n + 1) ps))
mapped_more g ps n piece done more next l e d m x =
    x ∙ ap (λ (xs : List Row). done ++ xs) (m ∙ ap (map g) e) ∙ ap (λ (xs : List Row). xs ++ map g (get_or ps n piece)) d ∙ sym (map_taken g ps n piece l) ∙ ap (λ (k : ℕ). map g (rows_of (take k ps))) (sym (add-one n))

pub longer_here : (place : ℕ) (ps : List (List Row)) (rows : List Row) (n : ℕ) (piece : List Row) → rows_of ps ≡ rows → AllLonger place rows → n < length ps → piece ≡ get_or ps n piece → AllLonger place piece
longer_here place ps rows n piece w h l e = subst (λ (xs : List Row). AllLonger place xs) (sym e) (longer_piece place ps n piece (subst (λ (xs : List Row). AllLonger place xs) (sym w) h) l)

-- and of one that ends at a row that is too long
pub any_more : (q : Row → Bool) (ps : List (List Row)) (n : ℕ) (piece : List Row) (whole : Bool) → n < length ps → piece ≡ get_or ps n piece → refused_if (list_any q piece) fault.RowTooLong ≡ None → list_any q (rows_of (drop n ps)) ≡ whole → list_any q (rows_of (drop (n + 1) ps)) ≡ whole
any_more q ps n piece whole l e r w =
    ap (λ (k : ℕ). list_any q (rows_of (drop k ps))) (add-one n) ∙ any_later q ps n piece l (ap (list_any q) (sym e) ∙ not_any (list_any q piece) r) ∙ w
  where
    not_any : (b : Bool) → ◌≡◌ {A = Option RelFault} (refused_if b fault.RowTooLong) None → b ≡ false
    not_any true r = absurd (cc)
    not_any false r = refl

either_side : (T U : Type 0) (b c : Bool) (f : RelFault) → (b ≡ true → c ≡ true) → IsRefusedBy {T = T} (refused_if b fault.RowTooLong) (Err f) → IsRefusedBy {T = U} (refused_if c fault.RowTooLong) (Err f)
either_side T U true c fault.RowTooLong m g = rw (m refl) g
either_side T U true c (fault.KeyTooLong name) m g = rw (m refl) g
either_side T U true c fault.IdsSpent m g = rw (m refl) g
either_side T U true c fault.TableLimit m g = rw (m refl) g
either_side T U true c (fault.Trouble t) m g = tt
either_side T U false c fault.RowTooLong m g = absurd (cc)
either_side T U false c (fault.KeyTooLong name) m g = absurd (cc)
either_side T U false c fault.IdsSpent m g = absurd (cc)
either_side T U false c fault.TableLimit m g = absurd (cc)
either_side T U false c (fault.Trouble t) m g = tt

too_long : (T U : Type 0) (b c : Bool) (f : RelFault) (r : Result U RelFault) → (b ≡ true → c ≡ true) → IsErrAnd r (λ e. e ≡ f) → IsRefusedBy {T = T} (refused_if b fault.RowTooLong) (Err f) → IsRefusedBy {T = U} (refused_if c fault.RowTooLong) r
too_long T U b c f (Ok x) m i g = absurd i
too_long T U b c f (Err e) m i g = subst (λ (x : RelFault). IsRefusedBy {T = U} (refused_if c fault.RowTooLong) (Err x)) (sym i) (either_side T U b c f m g)

pub piece_exit : (T U : Type 0) (q : Row → Bool) (ps : List (List Row)) (rows : List Row) (n : ℕ) (piece : List Row) (f : RelFault) (r : Result U RelFault) → rows_of ps ≡ rows → n < length ps → piece ≡ get_or ps n piece → list_any q (rows_of (drop n ps)) ≡ list_any q (rows_of ps) →
    IsErrAnd r (λ e. e ≡ f) → IsRefusedBy {T = T} (refused_if (list_any q piece) fault.RowTooLong) (Err f) → IsRefusedBy {T = U} (refused_if (list_any q rows) fault.RowTooLong) r
piece_exit T U q ps rows n piece f r w l e a i g =
    too_long T U (list_any q piece) (list_any q rows) f r (λ h. ap (list_any q) (sym w) ∙ sym a ∙ any_here q ps n piece l (ap (list_any q) (sym e) ∙ h)) i g

drop_none : (k : ℕ) → ◌≡◌ {A = List (List Row)} (drop k []) []
drop_none zero = refl
drop_none (suc k) = refl

take_none : (k : ℕ) → ◌≡◌ {A = List (List Row)} (take k []) []
take_none zero = refl
take_none (suc k) = refl

-- a loop that has come to its end
pub any_none : (q : Row → Bool) (ps : List (List Row)) (rows : List Row) (n : ℕ) → rows_of ps ≡ rows → length ps ≤ n → list_any q (rows_of (drop n ps)) ≡ list_any q (rows_of ps) → ◌≡◌ {A = Option RelFault} (refused_if (list_any q rows) fault.RowTooLong) None
any_none q ps rows n w l a = rw (ap (list_any q) (sym w) ∙ sym a ∙ ap (λ (xs : List (List Row)). list_any q (rows_of xs)) (drop_all ps n l)) refl
  where
    drop_all : (xs : List (List Row)) (k : ℕ) → length xs ≤ k → drop k xs ≡ []
    drop_all [] k o = drop_none k
    drop_all (x ∷ xs) zero o = absurd (omega arith)
    drop_all (x ∷ xs) (suc k) o = drop_all xs k (omega arith)

pub taken_all : (ps : List (List Row)) (n : ℕ) → length ps ≤ n → rows_of (take n ps) ≡ rows_of ps
taken_all [] n l = ap rows_of (take_none n)
taken_all (p ∷ ps) zero l = absurd (omega arith)
taken_all (p ∷ ps) (suc n) l = ap (λ (xs : List Row). p ++ xs) (taken_all ps n (omega arith))
