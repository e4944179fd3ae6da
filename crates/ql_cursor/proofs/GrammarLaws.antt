-- Laws of reading that hold for every grammar.
use Rattle.std.proofs.Common.{◌≡◌, ℕ, ◌≤◌, List, length, refl, ap, arith}
use Rattle.ql_syntax.specs.Lexemes.{Lexeme, is_close, sees}
use Rattle.ql_syntax.specs.Rules.{Production, Rule, enters, begins_the, rule_of, statement, creation, removal, alteration, insertion, update, deletion, column, select, set, ref, expr, term, factor, predicate, sum, product, unary, primary}
use Rattle.ql_syntax.specs.Rules as rule
use Rattle.ql_syntax.specs.Readings.{Parse, Reads, Stop, unexpected, Stops}
use Rattle.ql_syntax.specs.Readings as r

-- the table of first tokens is what the productions say
pub begins_as_ruled : (p : Production) (ts : List Lexeme) → begins_the p ts ≡ enters (rule_of p) ts
begins_as_ruled statement ts = refl
begins_as_ruled creation ts = refl
begins_as_ruled removal ts = refl
begins_as_ruled alteration ts = refl
begins_as_ruled insertion ts = refl
begins_as_ruled update ts = refl
begins_as_ruled deletion ts = refl
begins_as_ruled column ts = refl
begins_as_ruled select ts = refl
begins_as_ruled set ts = refl
begins_as_ruled ref ts = refl
begins_as_ruled expr ts = refl
begins_as_ruled term ts = refl
begins_as_ruled factor ts = refl
begins_as_ruled predicate ts = refl
begins_as_ruled sum ts = refl
begins_as_ruled product ts = refl
begins_as_ruled unary ts = refl
begins_as_ruled primary ts = refl

-- tokens read in one way only
pub one_reading : {n : ℕ} {x : Rule} {ts rest rest' : List Lexeme} {a a' : Parse} → Reads n x ts a rest → Reads n x ts a' rest' → (a ≡ a') × (rest ≡ rest')
one_reading (r.takes f) (r.takes g) = (refl, refl)
one_reading (r.takes_before f e) (r.takes_before g d) = (refl, refl)
one_reading r.takes_nothing r.takes_nothing = (refl, refl)
one_reading (r.both {n = n} {y = y} {mid = mid} h k) (r.both {rest = rest'} {b = b'} h' k') =
    let i = one_reading h h' in
    let moved : Reads n y mid b' rest' = rw i.1 k' in
    let j = one_reading k moved in
    (cc, j.1)
one_reading (r.first e h) (r.first e' h') = let i = one_reading h h' in (cc, i.1)
one_reading (r.first e h) (r.second f e' h') = cc
one_reading (r.second f e h) (r.first e' h') = cc
one_reading (r.second f e h) (r.second f' e' h') = let i = one_reading h h' in (cc, i.1)
one_reading (r.left_out f) (r.left_out g) = (refl, refl)
one_reading (r.left_out f) (r.entered e h) = cc
one_reading (r.entered e h) (r.left_out f) = cc
one_reading (r.entered e h) (r.entered e' h') = let i = one_reading h h' in (cc, i.1)
one_reading (r.ended f) (r.ended g) = (refl, refl)
one_reading (r.ended f) (r.goes_on e h k) = cc
one_reading (r.goes_on e h k) (r.ended f) = cc
one_reading (r.goes_on {n = n} {x = x} {mid = mid} e h k) (r.goes_on {rest = rest'} {b = b'} e' h' k') =
    let i = one_reading h h' in
    let moved : Reads n (rule.many x) mid b' rest' = rw i.1 k' in
    let j = one_reading k moved in
    (cc, j.1)
one_reading (r.enclosed o h c) (r.enclosed o' h' c') = let i = one_reading h h' in (cc, cc)
one_reading (r.no_comma f) (r.no_comma g) = (refl, refl)
one_reading (r.no_comma f) (r.trailing e g) = cc
one_reading (r.no_comma f) (r.member e g h k) = cc
one_reading (r.trailing e f) (r.no_comma g) = cc
one_reading (r.trailing e f) (r.trailing e' f') = (refl, refl)
one_reading (r.trailing e f) (r.member e' g h k) = cc
one_reading (r.member e f h k) (r.no_comma g) = cc
one_reading (r.member e f h k) (r.trailing e' g) = cc
one_reading (r.member {n = n} {x = x} {mid = mid} e f h k) (r.member {rest = rest'} {b = b'} e' f' h' k') =
    let i = one_reading h h' in
    let moved : Reads n (rule.further x) mid b' rest' = rw i.1 k' in
    let j = one_reading k moved in
    (cc, j.1)
one_reading r.at_end r.at_end = (refl, refl)
one_reading (r.by_rule h) (r.by_rule h') = let i = one_reading h h' in (cc, i.1)

-- what reads does not stop
pub reads_or_stops : {n : ℕ} {x : Rule} {ts rest : List Lexeme} {a : Parse} {s : Stop} → Reads n x ts a rest → Stops n x ts s → ⊥
reads_or_stops (r.takes f) (r.other_token g) = cc
reads_or_stops (r.takes_before f e) (r.not_before g) = cc
reads_or_stops r.takes_nothing i = elim i [ ]
reads_or_stops (r.both h k) (r.in_first i) = reads_or_stops h i
reads_or_stops (r.both {n = n} {y = y} {mid = mid} h k) (r.in_second {s = s} h' i) =
    let j = one_reading h h' in
    let moved : Stops n y mid s = rw j.1 i in
    reads_or_stops k moved
reads_or_stops (r.first e h) (r.in_left e' i) = reads_or_stops h i
reads_or_stops (r.first e h) (r.in_right f e' i) = cc
reads_or_stops (r.first e h) (r.neither f g) = cc
reads_or_stops (r.second f e h) (r.in_left e' i) = cc
reads_or_stops (r.second f e h) (r.in_right f' e' i) = reads_or_stops h i
reads_or_stops (r.second f e h) (r.neither f' g) = cc
reads_or_stops (r.left_out f) (r.in_part e i) = cc
reads_or_stops (r.entered e h) (r.in_part e' i) = reads_or_stops h i
reads_or_stops (r.ended f) (r.in_one e i) = cc
reads_or_stops (r.ended f) (r.in_later e h i) = cc
reads_or_stops (r.goes_on e h k) (r.in_one e' i) = reads_or_stops h i
reads_or_stops (r.goes_on {n = n} {x = x} {mid = mid} e h k) (r.in_later {s = s} e' h' i) =
    let j = one_reading h h' in
    let moved : Stops n (rule.many x) mid s = rw j.1 i in
    reads_or_stops k moved
reads_or_stops (r.enclosed o h c) (r.not_open f) = cc
reads_or_stops (r.enclosed o h c) (r.within o' i) = reads_or_stops h i
reads_or_stops (r.enclosed o h c) (r.not_closed o' h' f) =
    let j = one_reading h h' in
    let same = ap (sees is_close) j.1 in
    cc (same, c, f)
reads_or_stops (r.no_comma f) (r.in_member e g i) = cc
reads_or_stops (r.no_comma f) (r.in_further e g h i) = cc
reads_or_stops (r.trailing e f) (r.in_member e' g i) = cc
reads_or_stops (r.trailing e f) (r.in_further e' g h i) = cc
reads_or_stops (r.member e f h k) (r.in_member e' g i) = reads_or_stops h i
reads_or_stops (r.member {n = n} {x = x} {mid = mid} e f h k) (r.in_further {s = s} e' g h' i) =
    let j = one_reading h h' in
    let moved : Stops n (rule.further x) mid s = rw j.1 i in
    reads_or_stops k moved
reads_or_stops r.at_end i = elim i [ ]
reads_or_stops (r.by_rule h) (r.by_its_rule i) = reads_or_stops h i

-- reading stops at one place only
pub one_stop : {n : ℕ} {x : Rule} {ts : List Lexeme} {s s' : Stop} → Stops n x ts s → Stops n x ts s' → s ≡ s'
one_stop (r.other_token f) (r.other_token g) = refl
one_stop (r.not_before f) (r.not_before g) = refl
one_stop (r.in_first h) (r.in_first k) = one_stop h k
one_stop (r.in_first h) (r.in_second k i) = absurd (reads_or_stops k h)
one_stop (r.in_second k i) (r.in_first h) = absurd (reads_or_stops k h)
one_stop (r.in_second {n = n} {y = y} {mid = mid} h i) (r.in_second {s = s'} h' i') =
    let j = one_reading h h' in
    let moved : Stops n y mid s' = rw j.1 i' in
    one_stop i moved
one_stop (r.in_left e i) (r.in_left e' i') = one_stop i i'
one_stop (r.in_left e i) (r.in_right f e' i') = cc
one_stop (r.in_left e i) (r.neither f g) = cc
one_stop (r.in_right f e i) (r.in_left e' i') = cc
one_stop (r.in_right f e i) (r.in_right f' e' i') = one_stop i i'
one_stop (r.in_right f e i) (r.neither f' g) = cc
one_stop (r.neither f g) (r.in_left e i) = cc
one_stop (r.neither f g) (r.in_right f' e i) = cc
one_stop (r.neither f g) (r.neither f' g') = refl
one_stop (r.in_part e i) (r.in_part e' i') = one_stop i i'
one_stop (r.in_one e i) (r.in_one e' i') = one_stop i i'
one_stop (r.in_one e i) (r.in_later e' h i') = absurd (reads_or_stops h i)
one_stop (r.in_later e h i) (r.in_one e' i') = absurd (reads_or_stops h i')
one_stop (r.in_later {n = n} {x = x} {mid = mid} e h i) (r.in_later {s = s'} e' h' i') =
    let j = one_reading h h' in
    let moved : Stops n (rule.many x) mid s' = rw j.1 i' in
    one_stop i moved
one_stop (r.not_open f) (r.not_open g) = refl
one_stop (r.not_open f) (r.no_room e) = cc
one_stop (r.not_open f) (r.within o i) = cc
one_stop (r.not_open f) (r.not_closed o h g) = cc
one_stop (r.no_room e) (r.not_open f) = cc
one_stop (r.no_room e) (r.no_room d) = refl
one_stop (r.within o i) (r.not_open f) = cc
one_stop (r.within o i) (r.within o' i') = one_stop i i'
one_stop (r.within o i) (r.not_closed o' h f) = absurd (reads_or_stops h i)
one_stop (r.not_closed o h f) (r.not_open g) = cc
one_stop (r.not_closed o h f) (r.within o' i) = absurd (reads_or_stops h i)
one_stop (r.not_closed o h f) (r.not_closed o' h' f') = let j = one_reading h h' in ap unexpected j.1
one_stop (r.in_member e f i) (r.in_member e' f' i') = one_stop i i'
one_stop (r.in_member e f i) (r.in_further e' f' h i') = absurd (reads_or_stops h i)
one_stop (r.in_further e f h i) (r.in_member e' f' i') = absurd (reads_or_stops h i')
one_stop (r.in_further {n = n} {x = x} {mid = mid} e f h i) (r.in_further {s = s'} e' f' h' i') =
    let j = one_reading h h' in
    let moved : Stops n (rule.further x) mid s' = rw j.1 i' in
    one_stop i moved
one_stop r.not_at_end r.not_at_end = refl
one_stop (r.by_its_rule i) (r.by_its_rule i') = one_stop i i'

-- what stands behind is no longer than the whole
pub shorter : {n : ℕ} {x : Rule} {ts rest : List Lexeme} {a : Parse} → Reads n x ts a rest → length rest ≤ length ts
shorter (r.takes f) = omega arith
shorter (r.takes_before f e) = omega arith
shorter r.takes_nothing = omega arith
shorter (r.both h k) = omega (arith, shorter h, shorter k)
shorter (r.first e h) = shorter h
shorter (r.second f e h) = shorter h
shorter (r.left_out f) = omega arith
shorter (r.entered e h) = shorter h
shorter (r.ended f) = omega arith
shorter (r.goes_on e h k) = omega (arith, shorter h, shorter k)
shorter (r.enclosed o h c) = omega (arith, shorter h)
shorter (r.no_comma f) = omega arith
shorter (r.trailing e f) = omega arith
shorter (r.member e f h k) = omega (arith, shorter h, shorter k)
shorter r.at_end = omega arith
shorter (r.by_rule h) = shorter h
