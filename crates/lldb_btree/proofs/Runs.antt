-- The child where a search in an inner node goes on, with the parts before it and behind it.
use Rattle.std.proofs.Common.{◌≡◌, ◌⊎◌, inl, inr, ℕ, Bool, true, false, cond, not, ◌&&◌, ◌||◌, List, [], ◌∷◌, ◌++◌, map, refl, sym, ap}
use Rattle.std.specs.List.{AllByRecursion}
use Rattle.lldb_btree.specs.Bounds.{is_empty, from_first}
use Rattle.lldb_btree.specs.Nodes.{Entry, child_entry}
use Rattle.lldb_btree.specs.Trees.{Part, greatest, child_of}

-- the parts before it have no key that passes, and it has one, or is the last
pub record Runs (test : List ℕ → Bool) (parts : List Part) (e : Entry) (rest : List Entry) : Type 0 where
  pub before : List Part
  pub part : Part
  pub behind : List Part
  pub whole : parts ≡ before ++ (part ∷ behind)
  pub entry : e ≡ child_entry (child_of part)
  pub rest_is : rest ≡ map child_entry (map child_of behind)
  pub past : AllByRecursion (λ p. test (greatest p.pairs) ≡ false) before
  pub here : (test (greatest part.pairs) ≡ true) ⊎ (behind ≡ [])

runs_step : (test : List ℕ → Bool) (p : Part) (ps : List Part) (e : Entry) (rest : List Entry) → (from_first false test (map child_entry (map child_of ps)) ≡ e ∷ rest → Runs test ps e rest) → (b : Bool) → test (greatest p.pairs) ≡ b → cond (b || (not false && is_empty (map child_entry (map child_of ps)))) (child_entry (child_of p) ∷ map child_entry (map child_of ps)) (from_first false test (map child_entry (map child_of ps))) ≡ e ∷ rest → Runs test (p ∷ ps) e rest
runs_step test p ps e rest more true is same =
    let h : child_entry (child_of p) ≡ e = cc (same) in
    let t : map child_entry (map child_of ps) ≡ rest = cc (same) in
    record { before = []; part = p; behind = ps; whole = refl; entry = sym h; rest_is = sym t; past = tt; here = inl is }
runs_step test p [] e rest more false is same =
    let h : child_entry (child_of p) ≡ e = cc (same) in
    let t : [] ≡ rest = cc (same) in
    record { before = []; part = p; behind = []; whole = refl; entry = sym h; rest_is = sym t; past = tt; here = inr refl }
runs_step test p (q ∷ ps) e rest more false is same =
    let on : Runs test (q ∷ ps) e rest = more same in
    record { before = p ∷ on.before; part = on.part; behind = on.behind; whole = ap (λ (r : List Part). p ∷ r) on.whole; entry = on.entry; rest_is = on.rest_is; past = (is, on.past); here = on.here }

pub runs : (test : List ℕ → Bool) (parts : List Part) (e : Entry) (rest : List Entry) → from_first false test (map child_entry (map child_of parts)) ≡ e ∷ rest → Runs test parts e rest
runs test [] e rest same = absurd (cc)
runs test (p ∷ ps) e rest same = runs_step test p ps e rest (runs test ps e rest) (test (greatest p.pairs)) refl same
