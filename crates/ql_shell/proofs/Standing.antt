-- Levels that open and close, and where a session stands then.
use Rattle.std.proofs.Common.{◌≡◌, ℕ, suc, ◌<◌, ◌≤◌, true, false, List, [], ◌∷◌, append-nil, map, drop, length, Option, Some, None, Err, refl, sym, ap, ◌∙◌, arith}
use Rattle.std.proofs.lemmas.Bool.Decides.{nat_tests}
use Rattle.ql_edge.specs.Told.{Told, with_shown}
use Rattle.ql_value.specs.declared.refusal.Refusal.{Refusal}
use Rattle.ql_rel.specs.declared.db.Db.{Db}
use Rattle.ql_rel.specs.Rels.{saved_last}
use Rattle.ql_shell.specs.Goings.{Stands, Went, outermost}
use Rattle.ql_rel.specs.Sessions.{State, is_closed, no_transaction, rolled_back, rolls_back}

some_length : (dbs : List Db) → length (map (λ (d : Db). Some d) dbs) ≡ length dbs
some_length [] = refl
some_length (d ∷ dbs) = ap suc (some_length dbs)

pub levels_counted : (levels : List (Option Db)) (st : State) → levels ≡ map (λ (d : Db). Some d) st.saved → length levels ≡ length st.saved
levels_counted levels st e = ap length e ∙ some_length st.saved

closed_at : (st : State) (base n : ℕ) → n ≡ length st.saved → base ≡ st.base → base ≤ n → n ≤ base → is_closed st ≡ true
closed_at st base n e b l h = grind (arith, nat_tests, e, b, l, h)

open_at : (st : State) (base n : ℕ) → n ≡ length st.saved → base ≡ st.base → base < n → is_closed st ≡ false
open_at st base n e b h = grind (arith, nat_tests, e, b, h)

pub none_shown : (told : Told) → told ≡ with_shown [] told
none_shown None = refl
none_shown (Some t) = ap (λ (text : List ℕ). Some (text, t.1)) (sym (append-nil t.0))

pub no_level : (st : State) (held : Option Db) (levels : List (Option Db)) (base : ℕ) (r : Refusal) → Stands held levels st → base ≡ st.base → base ≤ length levels → length levels ≤ base → r ≡ record { number = no_transaction; name = [] }
    → rolls_back st ≡ Err r
no_level st held levels base r s b l h e = rw (closed_at st base (length levels) (levels_counted levels st s.saved) b l h) (ap Err (sym e))

back_to : (saved : List Db) (st : State) (held' : Option Db) (levels levels' : List (Option Db)) → levels ≡ map (λ (d : Db). Some d) saved → st.kept ≡ outermost st.db saved → 0 < length levels → held' ≡ saved_last levels → levels' ≡ drop 1 levels
    → Stands held' levels' (rolled_back saved st)
back_to [] st held' levels levels' e k l h d = absurd (omega (arith, l, ap length e))
back_to (x ∷ outer) st held' levels levels' e k l h d = record { db = h ∙ ap saved_last e; saved = d ∙ ap (λ (z : List (Option Db)). drop 1 z) e; kept = kept_same x outer st k }
  where
    kept_same : (x : Db) (outer : List Db) (st : State) → st.kept ≡ outermost st.db (x ∷ outer) → st.kept ≡ outermost x outer
    kept_same x outer st k = k

pub went_back : (st : State) (held held' : Option Db) (levels levels' : List (Option Db)) (told told' : Told) (base : ℕ) → Stands held levels st → base ≡ st.base → base < length levels → held' ≡ saved_last levels → levels' ≡ drop 1 levels → told' ≡ told
    → Went (rolls_back st) told told' held' levels'
went_back st held held' levels levels' told told' base s b l h d t =
    let apart : is_closed st ≡ false = open_at st base (length levels) (levels_counted levels st s.saved) b l in
    record { done = ([], rolled_back st.saved st); is = rw apart refl; shown = t ∙ none_shown told; stands = back_to st.saved st held' levels levels' s.saved s.kept (omega (arith, l)) h d }

-- a level is closed that the script opened
pub one_fewer : (own : ℕ) (levels levels' : List (Option Db)) → levels' ≡ drop 1 levels → own < length levels → own ≤ length levels'
one_fewer own [] levels' e h = absurd (omega (arith, h))
one_fewer own (d ∷ levels) levels' e h = omega (arith, ap length e, h)

-- no level is open where there are none
pub none_open : (levels : List (Option Db)) → length levels ≤ 0 → levels ≡ []
none_open [] h = refl
none_open (d ∷ levels) h = absurd (omega (arith, h))

-- the only level is closed
pub last_closed : (levels levels' : List (Option Db)) → levels' ≡ drop 1 levels → length levels ≤ 1 → levels' ≡ []
last_closed [] levels' e h = e
last_closed (d ∷ []) levels' e h = e
last_closed (d ∷ x ∷ levels) levels' e h = absurd (omega (arith, h))
