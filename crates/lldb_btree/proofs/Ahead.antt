-- The first pair ahead of a bound: where keys rise, it is under the first child whose greatest key is ahead.
use Rattle.std.proofs.Common.{◌≡◌, ℕ, ◌<◌, Bool, true, false, cond, ◌||◌, List, [], ◌∷◌, ◌++◌, length, map, Option, Some, None, refl, sym, ap, ◌∙◌, arith, append-nil}
use Rattle.std.specs.declared.cmp.Ordering.{Ordering}
use Rattle.std.specs.declared.cmp.Ordering.TheVariants.{Less, Equal, Greater}
use Rattle.std.specs.List.{AllByRecursion}
use Rattle.std.specs.Ordering.{match_ordering, ordering_reverse}
use Rattle.std.proofs.lemmas.Cmp.{nat_list_cmp_total}
use Rattle.std.proofs.lemmas.Map.Lookups.{exact_bytes}
use Rattle.lldb_btree.specs.declared.bound.Bound.{Bound}
use Rattle.lldb_btree.specs.declared.bound.Bound.TheVariants.{Start, From, After}
use Rattle.lldb_btree.specs.declared.node.Pair.{Pair}
use Rattle.lldb_btree.specs.Bounds.{is_ahead, is_empty, from_first}
use Rattle.lldb_btree.specs.Nodes.{Entry, child_entry}
use Rattle.lldb_btree.specs.Pairs.{order, Rises, keys_of, first}
use Rattle.lldb_btree.specs.Trees.{Part, greatest, child_of, pairs_of}

pub turned : (x y : List ℕ) → order x y ≡ Less → order y x ≡ Greater
turned x y e = nat_list_cmp_total.antisymm y x ∙ ap ordering_reverse e

pub back : (x y : List ℕ) → order x y ≡ Greater → order y x ≡ Less
back x y e = nat_list_cmp_total.antisymm y x ∙ ap ordering_reverse e

-- a test that fails below each key at which it fails
abbrev pub Falls : (List ℕ → Bool) → Type 0
Falls test = (x y : List ℕ) → order x y ≡ Less → test y ≡ false → test x ≡ false

from_falls : (bound x y : List ℕ) → order x y ≡ Less → (o : Ordering) → order bound y ≡ o → match_ordering o true true false ≡ false → order bound x ≡ Greater
from_falls bound x y less Less is e = absurd (cc)
from_falls bound x y less Equal is e = absurd (cc)
from_falls bound x y less Greater is e = turned x bound (nat_list_cmp_total.trans x y bound less (back bound y is))

after_falls : (bound x y : List ℕ) → order x y ≡ Less → (o : Ordering) → order bound y ≡ o → match_ordering o true false false ≡ false → order bound x ≡ Greater
after_falls bound x y less Less is e = absurd (cc)
after_falls bound x y less Equal is e = turned x bound (rw (exact_bytes bound y is) less)
after_falls bound x y less Greater is e = turned x bound (nat_list_cmp_total.trans x y bound less (back bound y is))

pub ahead_falls : (bound : Bound) → Falls (is_ahead bound)
ahead_falls Start x y less e = e
ahead_falls (From bound) x y less e = rw (from_falls bound x y less (order bound y) refl e) refl
ahead_falls (After bound) x y less e = rw (after_falls bound x y less (order bound y) refl e) refl

pub none_pass : (test : List ℕ → Bool) → Falls test → (ps : List Pair) → Rises (keys_of ps) → test (greatest ps) ≡ false → AllByRecursion (λ p. test p.key ≡ false) ps
none_pass test falls [] r e = tt
none_pass test falls (p ∷ []) r e = (e, tt)
none_pass test falls (p ∷ q ∷ ps) r e =
    let rest : AllByRecursion (λ p. test p.key ≡ false) (q ∷ ps) = none_pass test falls (q ∷ ps) r.1 e in
    (falls p.key q.key r.0.0 rest.0, rest)

pub first_past : (test : List ℕ → Bool) (ps qs : List Pair) → AllByRecursion (λ p. test p.key ≡ false) ps → first test (ps ++ qs) ≡ first test qs
first_past test [] qs a = refl
first_past test (p ∷ ps) qs a = ap (λ (b : Bool). cond b (Some p) (first test (ps ++ qs))) a.0 ∙ first_past test ps qs a.1

pub first_within : (test : List ℕ → Bool) (ps qs : List Pair) → 0 < length ps → test (greatest ps) ≡ true → first test (ps ++ qs) ≡ first test ps
first_within test [] qs n e = absurd (omega (arith, n))
first_within test (p ∷ []) qs n e = ap (λ (b : Bool). cond b (Some p) (first test qs)) e ∙ sym (ap (λ (b : Bool). cond b (Some p) None) e)
first_within test (p ∷ q ∷ ps) qs n e = ap (λ (o : Option Pair). cond (test p.key) (Some p) o) (first_within test (q ∷ ps) qs (omega arith) e)

keys_left : (k : List ℕ) (ps qs : List Pair) → AllByRecursion (λ j. order k j ≡ Less) (keys_of (ps ++ qs)) → AllByRecursion (λ j. order k j ≡ Less) (keys_of ps)
keys_left k [] qs a = tt
keys_left k (p ∷ ps) qs a = (a.0, keys_left k ps qs a.1)

pub rises_left : (ps qs : List Pair) → Rises (keys_of (ps ++ qs)) → Rises (keys_of ps)
rises_left [] qs r = tt
rises_left (p ∷ ps) qs r = (keys_left p.key ps qs r.0, rises_left ps qs r.1)

pub rises_right : (ps qs : List Pair) → Rises (keys_of (ps ++ qs)) → Rises (keys_of qs)
rises_right [] qs r = r
rises_right (p ∷ ps) qs r = rises_right ps qs r.1

-- a part among others, to which a look-up leads
pub record Leads (P : Part → Type 0) (test : List ℕ → Bool) (parts : List Part) (e : Entry) : Type 0 where
  pub part : Part
  pub is : e ≡ child_entry (child_of part)
  pub holds : P part
  pub first_is : first test (pairs_of parts) ≡ first test part.pairs
  pub rises : Rises (keys_of part.pairs)

led_step : (P : Part → Type 0) (test : List ℕ → Bool) → Falls test → ((p : Part) → P p → 0 < length p.pairs) → (p : Part) (ps : List Part) (e : Entry) (rest : List Entry) → P p → Rises (keys_of (p.pairs ++ pairs_of ps)) → ((e : Entry) (rest : List Entry) → from_first false test (map child_entry (map child_of ps)) ≡ e ∷ rest → Leads P test ps e) → (b : Bool) → test (greatest p.pairs) ≡ b → cond (b || is_empty (map child_entry (map child_of ps))) (child_entry (child_of p) ∷ map child_entry (map child_of ps)) (from_first false test (map child_entry (map child_of ps))) ≡ e ∷ rest → Leads P test (p ∷ ps) e
led_step P test falls some p ps e rest here r more true is same =
    let h : child_entry (child_of p) ≡ e = cc (same) in
    record { part = p; is = sym h; holds = here; first_is = first_within test p.pairs (pairs_of ps) (some p here) is; rises = rises_left p.pairs (pairs_of ps) r }
led_step P test falls some p [] e rest here r more false is same =
    let h : child_entry (child_of p) ≡ e = cc (same) in
    record { part = p; is = sym h; holds = here; first_is = ap (first test) (append-nil p.pairs); rises = rises_left p.pairs [] r }
led_step P test falls some p (q ∷ ps) e rest here r more false is same =
    let on : Leads P test (q ∷ ps) e = more e rest same in
    let past : AllByRecursion (λ p. test p.key ≡ false) p.pairs = none_pass test falls p.pairs (rises_left p.pairs (pairs_of (q ∷ ps)) r) is in
    record { part = on.part; is = on.is; holds = on.holds; first_is = first_past test p.pairs (pairs_of (q ∷ ps)) past ∙ on.first_is; rises = on.rises }

pub led : (P : Part → Type 0) (test : List ℕ → Bool) → Falls test → ((p : Part) → P p → 0 < length p.pairs) → (parts : List Part) (e : Entry) (rest : List Entry) → AllByRecursion P parts → Rises (keys_of (pairs_of parts)) → from_first false test (map child_entry (map child_of parts)) ≡ e ∷ rest → Leads P test parts e
led P test falls some [] e rest a r same = absurd (cc)
led P test falls some (p ∷ ps) e rest a r same =
    led_step P test falls some p ps e rest a.0 r (λ f more. led P test falls some ps f more a.1 (rises_right p.pairs (pairs_of ps) r)) (test (greatest p.pairs)) refl same
