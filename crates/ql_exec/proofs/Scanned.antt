-- A scan goes over the rows of a table by rising id.
use Rattle.std.proofs.Common.{◌≡◌, ℕ, ◌+◌, ◌<◌, ◌≤◌, Bool, true, false, nat_lt, List, [], ◌∷◌, filter, find, Option, Some, None, refl, sym, ap, subst, ◌∙◌, arith}
use Rattle.std.proofs.lemmas.Bool.Decides.{nat_tests}
use Rattle.ql_rel.specs.declared.db.Row.{Row}
use Rattle.ql_rel.specs.Rels.{is_after}
use Rattle.ql_rel.specs.WellFormed.{Rise}

pub same_row : (a b : Row) → ◌≡◌ {A = Option Row} (Some a) (Some b) → a ≡ b
same_row a b e = cc

pub all_after : (b from : ℕ) (rows : List Row) → Rise from rows → b < from → filter (is_after b) rows ≡ rows
all_after b from [] h l = refl
all_after b from (x ∷ rows) h l =
    let rest = all_after b (x.id + 1) rows h.1 (omega (arith, h.0)) in
    let here : nat_lt b x.id ≡ true = let over : b < x.id = omega (arith, h.0) in grind (arith, nat_tests) in
    rw here (ap (λ (rs : List Row). x ∷ rs) rest)

found_from : (a from : ℕ) (rows : List Row) (r : Row) → Rise from rows → find (is_after a) rows ≡ Some r → from ≤ r.id
found_from a from [] r h e = absurd (cc)
found_from a from (x ∷ rows) r h e =
    let by : (b : Bool) → nat_lt a x.id ≡ b → from ≤ r.id = elim [
      | true ↦ λ t. let same : x ≡ r = same_row x r (rw t at e) in subst (λ (z : Row). from ≤ z.id) same h.0
      | false ↦ λ t. let later : x.id + 1 ≤ r.id = found_from a (x.id + 1) rows r h.1 (rw t at e) in omega (arith, h.0)
    ] in
    by (nat_lt a x.id) refl

-- the rows behind an id begin with the first of them
pub next_found : (a from : ℕ) (rows : List Row) (r : Row) → Rise from rows → find (is_after a) rows ≡ Some r → filter (is_after a) rows ≡ r ∷ filter (is_after r.id) rows
next_found a from [] r h e = absurd (cc)
next_found a from (x ∷ rows) r h e =
    let by : (b : Bool) → nat_lt a x.id ≡ b → filter (is_after a) (x ∷ rows) ≡ r ∷ filter (is_after r.id) (x ∷ rows) = elim [
      | true ↦ λ t.
          let same : x ≡ r = same_row x r (rw t at e) in
          let none : nat_lt x.id x.id ≡ false = grind (arith, nat_tests) in
          let over : a < x.id = grind (arith, nat_tests) in
          let first = all_after a (x.id + 1) rows h.1 (omega (arith, over)) in
          let second = all_after x.id (x.id + 1) rows h.1 (omega arith) in
          subst (λ (z : Row). filter (is_after a) (x ∷ rows) ≡ z ∷ filter (is_after z.id) (x ∷ rows)) same (rw (t, none) (ap (λ (rs : List Row). x ∷ rs) (first ∙ sym second)))
      | false ↦ λ t.
          let later = found_from a (x.id + 1) rows r h.1 (rw t at e) in
          let none : nat_lt r.id x.id ≡ false = let under : x.id < r.id = omega (arith, later) in grind (arith, nat_tests) in
          rw (t, none) (next_found a (x.id + 1) rows r h.1 (rw t at e))
    ] in
    by (nat_lt a x.id) refl

pub none_found : (a : ℕ) (rows : List Row) → find (is_after a) rows ≡ None → filter (is_after a) rows ≡ []
none_found a [] e = refl
none_found a (x ∷ rows) e =
    let by : (b : Bool) → nat_lt a x.id ≡ b → filter (is_after a) (x ∷ rows) ≡ [] = elim [
      | true ↦ λ t. absurd (let some = rw t at e in cc)
      | false ↦ λ t. rw t (none_found a rows (rw t at e))
    ] in
    by (nat_lt a x.id) refl
