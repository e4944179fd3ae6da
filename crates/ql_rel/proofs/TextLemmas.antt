-- A printed text is read byte by byte, for the brackets that are open at once.
use Rattle.std.proofs.Common.{◌≡◌, ℕ, suc, ◌+◌, ◌-◌, ◌<◌, ◌≤◌, max, true, false, cond, ◌==◌, nat_lt, List, [], ◌∷◌, length, get_or, drop, drop-cons, sym, ap, ◌∙◌, arith}
use Rattle.std.proofs.lemmas.Bool.Decides.{nat_tests}
use Rattle.ql_rel.specs.declared.text_limit.Reading.{Reading}
use Rattle.ql_rel.specs.Readings.{outside_from, has_more}
use Rattle.ql_rel.specs.TextLimits.{most_brackets, most_open, open_brackets}

at_least : (n : ℕ) (bytes : List ℕ) → n ≤ most_open n bytes
at_least n [] = omega arith
at_least n (b ∷ bytes) =
    let more = at_least (n + 1) bytes in
    let rest = at_least n bytes in
    elim (b == 40) as (λ o. n ≤ cond o (most_open (n + 1) bytes) (cond (b == 41) (max n (most_open (n - 1) bytes)) (most_open n bytes))) [
      | true ↦ omega (arith, more)
      | false ↦ elim (b == 41) as (λ o. n ≤ cond o (max n (most_open (n - 1) bytes)) (most_open n bytes)) [ true ↦ omega arith | false ↦ rest ]
    ]

over : (limit n m : ℕ) → limit < n → n ≤ m → nat_lt limit m ≡ true
over limit n m h k = grind (arith, nat_tests)

-- a text was read up to a place: few brackets are open there, and what is behind tells of the whole
pub record IsReadTo (text : List ℕ) (so_far : ℕ) (reading : Reading) : Type 0 where
  pub few : reading.depth ≤ most_brackets
  pub same : has_more reading (drop so_far text) ≡ nat_lt most_brackets (open_brackets text)

-- a byte was read
pub read_on : (text : List ℕ) (j : ℕ) (old new : Reading) → j < length text → ((rest : List ℕ) → has_more new rest ≡ has_more old (get_or text j 0 ∷ rest)) → IsReadTo text j old →
    has_more new (drop (suc j) text) ≡ nat_lt most_brackets (open_brackets text)
read_on text j old new l more h = more (drop (suc j) text) ∙ ap (λ xs. has_more old xs) (sym (drop-cons text j 0 l)) ∙ h.same

-- too many brackets are open there
pub many_open : (text rest : List ℕ) (new : Reading) → most_brackets < new.depth → has_more new rest ≡ nat_lt most_brackets (open_brackets text) → true ≡ nat_lt most_brackets (open_brackets text)
many_open text rest new h e = sym (over most_brackets new.depth _ h (at_least new.depth (outside_from new.place rest))) ∙ e
