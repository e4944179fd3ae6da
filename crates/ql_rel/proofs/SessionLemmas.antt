-- Levels that open and close.
use Rattle.std.proofs.Common.{◌≡◌, ℕ, zero, suc, ◌+◌, ◌<◌, ◌≤◌, Bool, true, false, ◌&&◌, ◌==◌, nat_lt, cond, List, [], ◌∷◌, ◌++◌, drop, length, Ok, Err, refl, sym, ap, subst, ◌∙◌, arith}
use Rattle.std.proofs.lemmas.Bool.Decides.{nat_tests}
use Rattle.ql_syntax.specs.declared.statement.Statement.{Statement}
use Rattle.ql_syntax.specs.declared.statement.Statement.TheVariants as s
use Rattle.ql_syntax.specs.Answers.{Answer, refused, then_with}
use Rattle.ql_rel.specs.declared.db.Db.{Db}
use Rattle.ql_rel.specs.Events.{Event, completed, Course, preceded_by, commits_of, kept_after}
use Rattle.ql_rel.specs.SessionLaws.{IsLevelled, IsTold, CommitsOnce}
use Rattle.ql_rel.proofs.EventLemmas.{commits_join}
use Rattle.ql_rel.specs.Sessions.{State, most_levels, no_transaction, too_deep, unbalanced, opened, is_closed, begins, acknowledged, closed, closes, rolled_back, rolls_back, needs_level, shown, carries, stepped, ended, finished, goes_on, session}
use Rattle.ql_rel.specs.StatementEffects.{statement_effect}

pub opened_levelled : (bare : Bool) (db : Db) → IsLevelled (opened bare db)
opened_levelled false db = record { based = omega arith; within = omega arith }
opened_levelled true db = record { based = omega arith; within = omega arith }

-- what holds behind one answer or a refusal
abbrev Done : Type 0
Done = List Event × State

abbrev IfDone : (Done → Type 0) → Answer Done → Type 0
IfDone P (Ok done) = P done
IfDone P (Err refusal) = Unit {0}

done_of : (P : Done → Type 0) (answer : Answer Done) (done : Done) → IfDone P answer → answer ≡ Ok done → P done
done_of P answer done h e = subst (IfDone P) e h

-- of a test that refuses
unless_closed : (P : Done → Type 0) (b : Bool) (number : ℕ) (done : Done) → (b ≡ false → P done) → IfDone P (cond b (refused number) (Ok done))
unless_closed P true number done h = tt
unless_closed P false number done h = h refl

where_open : (P : Done → Type 0) (b : Bool) (number : ℕ) (done : Done) → (b ≡ true → P done) → IfDone P (cond b (Ok done) (refused number))
where_open P true number done h = h refl
where_open P false number done h = tt

over_base : (st : State) → is_closed st ≡ false → st.base ≤ length st.saved → st.base < length st.saved
over_base st e h = grind (arith, nat_tests)

no_lines : (ack : Bool) (number : ℕ) → commits_of (acknowledged ack number) ≡ []
no_lines false number = refl
no_lines true number = refl

kept_behind : (ack : Bool) (number : ℕ) (db : Db) → kept_after db (acknowledged ack number) ≡ db
kept_behind false number db = refl
kept_behind true number db = refl

-- COMMIT
closed_levelled : (ack : Bool) (saved : List Db) (st : State) → saved ≡ st.saved → st.base < length saved → length saved ≤ most_levels → IsLevelled (closed ack (drop 1 saved) st).1
closed_levelled ack [] st e h w = absurd (omega (arith, h))
closed_levelled ack (d ∷ []) st e h w = record { based = omega (arith, h); within = omega arith }
closed_levelled ack (d ∷ e' ∷ outer) st e h w = record { based = omega (arith, h); within = omega (arith, w) }

closed_told : (ack : Bool) (outer : List Db) (st : State) → IsTold (closed ack outer st) st
closed_told ack [] st = record {
  kept = sym (kept_behind ack (suc st.commits) st.db);
  counted = one_more st.commits (length (commits_of (acknowledged ack (suc st.commits)))) (ap length (no_lines ack (suc st.commits)));
  base = refl;
}
  where
    one_more : (n k : ℕ) → k ≡ 0 → suc n ≡ n + suc k
    one_more n k e = omega (arith, e)
closed_told ack (d ∷ outer) st = record { kept = refl; counted = plus_none st.commits; base = refl }
  where
    plus_none : (n : ℕ) → n ≡ n + 0
    plus_none n = omega arith

-- ROLLBACK
rolled_levelled : (saved : List Db) (st : State) → saved ≡ st.saved → st.base < length saved → length saved ≤ most_levels → IsLevelled (rolled_back saved st)
rolled_levelled [] st e h w = absurd (omega (arith, h))
rolled_levelled (d ∷ outer) st e h w = record { based = omega (arith, h); within = omega (arith, w) }

same_told : (n : ℕ) → n ≡ n + 0
same_told n = omega arith

rolled_told : (saved : List Db) (st : State) → IsTold ([], rolled_back saved st) st
rolled_told [] st = record { kept = refl; counted = same_told st.commits; base = refl }
rolled_told (d ∷ outer) st = record { kept = refl; counted = same_told st.commits; base = refl }

-- every other statement
carried_if : (P : Done → Type 0) (st : State) (answer : Answer (List ℕ × Db)) → ((text : List ℕ × Db) → P (shown text st)) → IfDone P (then_with answer (λ done. Ok (shown done st)))
carried_if P st (Ok done) h = h done
carried_if P st (Err refusal) h = tt

carries_if : (P : Done → Type 0) (with_names : Bool) (statement : Statement) (st : State) → ((text : List ℕ × Db) → P (shown text st)) → IfDone P (carries with_names statement st)
carries_if P with_names statement st h = here (needs_level statement && (length st.saved == 0))
  where
    here : (b : Bool) → IfDone P (cond b (refused no_transaction) (then_with (statement_effect with_names statement st.db) (λ done. Ok (shown done st))))
    here true = tt
    here false = carried_if P st (statement_effect with_names statement st.db) h

step_if : (P : Done → Type 0) (with_names ack : Bool) (statement : Statement) (st : State) → IfDone P (begins st) → IfDone P (closes ack st) → IfDone P (rolls_back st) → ((text : List ℕ × Db) → P (shown text st))
    → IfDone P (stepped with_names ack statement st)
step_if P with_names ack s.Begin st b c r h = b
step_if P with_names ack s.Commit st b c r h = c
step_if P with_names ack s.Rollback st b c r h = r
step_if P with_names ack (s.Query q) st b c r h = carries_if P with_names (s.Query q) st h
step_if P with_names ack (s.CreateTable q t cs) st b c r h = carries_if P with_names (s.CreateTable q t cs) st h
step_if P with_names ack (s.DropTable q t) st b c r h = carries_if P with_names (s.DropTable q t) st h
step_if P with_names ack (s.AddColumn t d) st b c r h = carries_if P with_names (s.AddColumn t d) st h
step_if P with_names ack (s.DropColumn t d) st b c r h = carries_if P with_names (s.DropColumn t d) st h
step_if P with_names ack (s.CreateIndex u q i t e) st b c r h = carries_if P with_names (s.CreateIndex u q i t e) st h
step_if P with_names ack (s.DropIndex q i) st b c r h = carries_if P with_names (s.DropIndex q i) st h
step_if P with_names ack (s.Insert t cs e) st b c r h = carries_if P with_names (s.Insert t cs e) st h
step_if P with_names ack (s.Update t x f) st b c r h = carries_if P with_names (s.Update t x f) st h
step_if P with_names ack (s.Delete t f) st b c r h = carries_if P with_names (s.Delete t f) st h
step_if P with_names ack (s.Truncate t) st b c r h = carries_if P with_names (s.Truncate t) st h

pub step_levelled : (with_names ack : Bool) (statement : Statement) (st : State) (done : Done) → IsLevelled st → stepped with_names ack statement st ≡ Ok done → IsLevelled done.1
step_levelled with_names ack statement st done l e =
    done_of (λ (d : Done). IsLevelled d.1) (stepped with_names ack statement st) done (step_if (λ (d : Done). IsLevelled d.1) with_names ack statement st begun ended_level back same) e
  where
    begun : IfDone (λ (d : Done). IsLevelled d.1) (begins st)
    begun = where_open (λ (d : Done). IsLevelled d.1) (nat_lt (length st.saved) most_levels) too_deep ([], record { db = st.db; saved = st.db ∷ st.saved; kept = st.kept; commits = st.commits; base = st.base }) (λ t. record { based = omega (arith, l.based); within = grind (arith, nat_tests) })

    ended_level : IfDone (λ (d : Done). IsLevelled d.1) (closes ack st)
    ended_level = unless_closed (λ (d : Done). IsLevelled d.1) (is_closed st) no_transaction (closed ack (drop 1 st.saved) st) (λ t. closed_levelled ack st.saved st refl (over_base st t l.based) l.within)

    back : IfDone (λ (d : Done). IsLevelled d.1) (rolls_back st)
    back = unless_closed (λ (d : Done). IsLevelled d.1) (is_closed st) no_transaction ([], rolled_back st.saved st) (λ t. rolled_levelled st.saved st refl (over_base st t l.based) l.within)

    same : (text : List ℕ × Db) → IsLevelled (shown text st).1
    same text = record { based = l.based; within = l.within }

pub step_told : (with_names ack : Bool) (statement : Statement) (st : State) (done : Done) → stepped with_names ack statement st ≡ Ok done → IsTold done st
step_told with_names ack statement st done e =
    done_of (λ (d : Done). IsTold d st) (stepped with_names ack statement st) done (step_if (λ (d : Done). IsTold d st) with_names ack statement st begun ended_level back same) e
  where
    begun : IfDone (λ (d : Done). IsTold d st) (begins st)
    begun = where_open (λ (d : Done). IsTold d st) (nat_lt (length st.saved) most_levels) too_deep ([], record { db = st.db; saved = st.db ∷ st.saved; kept = st.kept; commits = st.commits; base = st.base }) (λ t. record { kept = refl; counted = same_told st.commits; base = refl })

    ended_level : IfDone (λ (d : Done). IsTold d st) (closes ack st)
    ended_level = unless_closed (λ (d : Done). IsTold d st) (is_closed st) no_transaction (closed ack (drop 1 st.saved) st) (λ t. closed_told ack (drop 1 st.saved) st)

    back : IfDone (λ (d : Done). IsTold d st) (rolls_back st)
    back = unless_closed (λ (d : Done). IsTold d st) (is_closed st) no_transaction ([], rolled_back st.saved st) (λ t. rolled_told st.saved st)

    same : (text : List ℕ × Db) → IsTold (shown text st) st
    same text = record { kept = refl; counted = same_told st.commits; base = refl }

end_of : (ack : Bool) (base : ℕ) (st : State) → IsTold (ended ack base st) st
end_of ack zero st = record { kept = refl; counted = same_told st.commits; base = refl }
end_of ack (suc n) st = closed_told ack (drop 1 st.saved) st

pub finish_told : (ack : Bool) (st : State) (done : Done) → finished ack st ≡ Ok done → IsTold done st
finish_told ack st done e =
    done_of (λ (d : Done). IsTold d st) (finished ack st) done (where_open (λ (d : Done). IsTold d st) (is_closed st) unbalanced (ended ack st.base st) (λ t. end_of ack st.base st)) e

pub back_again : (st since : State) → since.saved ≡ st.db ∷ st.saved → since.base ≡ st.base → st.base ≤ length st.saved
    → rolls_back since ≡ Ok ([], record { db = st.db; saved = st.saved; kept = since.kept; commits = since.commits; base = st.base })
back_again st since e b h = here (is_closed since) (not_closed (ap length e))
  where
    not_closed : length since.saved ≡ suc (length st.saved) → is_closed since ≡ false
    not_closed n = grind (arith, nat_tests, n, b, h)

    given : Answer Done
    given = Ok ([], record { db = st.db; saved = st.saved; kept = since.kept; commits = since.commits; base = st.base })

    here : (c : Bool) → c ≡ false → ◌≡◌ {A = Answer Done} (cond c (refused no_transaction) (Ok ([], rolled_back since.saved since))) given
    here true q = absurd (cc)
    here false q = rw e (rw b refl)

-- inside a level that opened by itself a step commits nothing
quiet_closed : (ack : Bool) (saved : List Db) (st : State) → 1 < length saved → commits_of (closed ack (drop 1 saved) st).0 ≡ []
quiet_closed ack [] st h = absurd (omega (arith, h))
quiet_closed ack (d ∷ []) st h = absurd (omega (arith, h))
quiet_closed ack (d ∷ e' ∷ outer) st h = refl

closed_quiet : (ack : Bool) (st : State) → is_closed st ≡ false → IsLevelled st → st.base ≡ 1 → commits_of (closed ack (drop 1 st.saved) st).0 ≡ []
closed_quiet ack st e l b = quiet_closed ack st.saved st (omega (arith, over_base st e l.based, b))

step_none : (with_names ack : Bool) (statement : Statement) (st : State) (done : Done) → IsLevelled st → st.base ≡ 1 → stepped with_names ack statement st ≡ Ok done → commits_of done.0 ≡ []
step_none with_names ack statement st done l b e =
    done_of (λ (d : Done). commits_of d.0 ≡ []) (stepped with_names ack statement st) done (step_if (λ (d : Done). commits_of d.0 ≡ []) with_names ack statement st begun ended_level back (λ text. refl)) e
  where
    begun : IfDone (λ (d : Done). commits_of d.0 ≡ []) (begins st)
    begun = where_open (λ (d : Done). commits_of d.0 ≡ []) (nat_lt (length st.saved) most_levels) too_deep ([], record { db = st.db; saved = st.db ∷ st.saved; kept = st.kept; commits = st.commits; base = st.base }) (λ t. refl)

    ended_level : IfDone (λ (d : Done). commits_of d.0 ≡ []) (closes ack st)
    ended_level = unless_closed (λ (d : Done). commits_of d.0 ≡ []) (is_closed st) no_transaction (closed ack (drop 1 st.saved) st) (λ t. closed_quiet ack st t l b)

    back : IfDone (λ (d : Done). commits_of d.0 ≡ []) (rolls_back st)
    back = unless_closed (λ (d : Done). commits_of d.0 ≡ []) (is_closed st) no_transaction ([], rolled_back st.saved st) (λ t. refl)

one_alone : (ack : Bool) (outer : List Db) (st : State) → length outer ≡ 0 → length (commits_of ((closed ack outer st).0 ++ [])) ≡ 1
one_alone ack [] st e = ap length (commits_join (closed ack [] st).0 []) ∙ (let n = no_lines ack (suc st.commits) in rw n refl)
one_alone ack (d ∷ outer) st e = absurd (omega (arith, e))

-- what follows the end of a script
abbrev at_end : ℕ → Answer Done → Course
at_end number answer = goes_on number answer (λ _. record { events = []; closing = completed })

end_once : (ack : Bool) (number : ℕ) (st : State) → IsLevelled st → st.base ≡ 1
    → CommitsOnce (at_end number (finished ack st)).closing (commits_of (at_end number (finished ack st)).events)
end_once ack number st l b = here (is_closed st) (λ e. one_alone ack (drop 1 st.saved) st (alone e))
  where
    one_left : (saved : List Db) → length saved ≡ 1 → length (drop 1 saved) ≡ 0
    one_left [] e = refl
    one_left (d ∷ outer) e = omega (arith, e)

    alone : is_closed st ≡ true → length (drop 1 st.saved) ≡ 0
    alone e = one_left st.saved (grind (arith, nat_tests, b))

    own : (base : ℕ) → base ≡ 1 → (length (commits_of ((closed ack (drop 1 st.saved) st).0 ++ [])) ≡ 1) → length (commits_of ((ended ack base st).0 ++ [])) ≡ 1
    own zero e h = absurd (omega (arith, e))
    own (suc n) e h = h

    here : (c : Bool) → (c ≡ true → length (commits_of ((closed ack (drop 1 st.saved) st).0 ++ [])) ≡ 1)
        → CommitsOnce (at_end number (cond c (Ok (ended ack st.base st)) (refused unbalanced))).closing (commits_of (at_end number (cond c (Ok (ended ack st.base st)) (refused unbalanced))).events)
    here true h = own st.base b (h refl)
    here false h = refl

once_before : (c : Course) (events : List Event) → commits_of events ≡ [] → CommitsOnce c.closing (commits_of c.events) → CommitsOnce (preceded_by events c).closing (commits_of (preceded_by events c).events)
once_before c events e h = subst (λ (dbs : List Db). CommitsOnce c.closing dbs) (sym (commits_join events c.events ∙ ap (λ (dbs : List Db). dbs ++ commits_of c.events) e)) h

once_after : (number : ℕ) (answer : Answer Done) (more : State → Course) → ((done : Done) → answer ≡ Ok done → (commits_of done.0 ≡ []) × CommitsOnce (more done.1).closing (commits_of (more done.1).events))
    → CommitsOnce (goes_on number answer more).closing (commits_of (goes_on number answer more).events)
once_after number (Ok done) more h = once_before (more done.1) done.0 (h done refl).0 (h done refl).1
once_after number (Err refusal) more h = refl

pub commit_once : (with_names ack : Bool) (number : ℕ) (statements : List Statement) (st : State) → IsLevelled st → st.base ≡ 1
    → CommitsOnce (session with_names ack number statements st).closing (commits_of (session with_names ack number statements st).events)
commit_once with_names ack number [] st l b = end_once ack number st l b
commit_once with_names ack number (x ∷ xs) st l b = once_after number (stepped with_names ack x st) (λ next. session with_names ack (suc number) xs next)
    (λ done e. (step_none with_names ack x st done l b e, commit_once with_names ack (suc number) xs done.1 (step_levelled with_names ack x st done l e) ((step_told with_names ack x st done e).base ∙ b)))
