use Rattle.std.proofs.Common.{◌≡◌, ℕ, List, [], ◌∷◌, length, refl, ap, arith}
use Rattle.lldb_btree.proofs.Neighbours.{beside_last, lastless, beside_next, nextless}
use Rattle.lldb_btree.proofs.mend.neighbour.Goals as goal

none_left : (bytes : List ℕ) → length bytes ≡ 0 → bytes ≡ []
none_left [] e = refl
none_left (b ∷ bytes) e = absurd (omega (arith, e))

pub returns-in_err-rest : goal.returns-in_err-rest
returns-in_err-rest c = λ l r fits_l fits_r some n f b. absurd (lastless l r c.args.front.now c.args.before c.args.back.now (none_left c.args.back.now (omega (arith, c.if-left-eq0.true))) c.in_err-rest.ensures (fits_l, fits_r, some, n, f, b))

pub returns-then-left-eq0 : goal.returns-then-left-eq0
returns-then-left-eq0 c = λ l r fits_l fits_r some n f b. beside_last l r c.args.front.now c.args.before c.args.back.now c.in_ok-rest.rest.now c.in_ok-rest.other (none_left c.args.back.now (omega (arith, c.if-left-eq0.true))) c.in_ok-rest.ensures (fits_l, fits_r, some, n, f, b)

pub returns-in_err-other : goal.returns-in_err-other
returns-in_err-other c = λ l r fits_l fits_r some n f b. absurd (nextless l r c.args.front.now c.args.before c.args.back.now (λ nil. absurd (omega (arith, c.if-left-eq0.false, ap length nil))) c.in_err-other.ensures (fits_l, fits_r, some, n, f, b))

pub returns : goal.returns
returns c = λ l r fits_l fits_r some n f b. beside_next l r c.args.front.now c.args.before c.args.back.now c.in_ok-other.rest.now c.in_ok-other.other (λ nil. absurd (omega (arith, c.if-left-eq0.false, ap length nil))) c.in_ok-other.ensures (fits_l, fits_r, some, n, f, b)
