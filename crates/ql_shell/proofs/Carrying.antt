-- A statement on tables, and where a session stands behind it.
use Rattle.std.proofs.Common.{◌≡◌, ℕ, zero, suc, ◌<◌, Bool, true, false, ◌&&◌, ◌==◌, cond, List, [], ◌∷◌, ◌++◌, append-nil, map, take, length, Option, Some, IfSome, Result, Ok, Err, refl, sym, ap, subst, ◌∙◌, arith}
use Rattle.std.specs.Prelude.{IsErrAnd}
use Rattle.ql_edge.specs.Told.{Told, with_shown, ShowsFront}
use Rattle.ql_edge.specs.declared.fault.DeviceFault.{DeviceFault}
use Rattle.ql_edge.specs.declared.fault.DeviceFault.TheVariants as device
use Rattle.lldb_base.specs.Trouble.{trouble_of}
use Rattle.ql_value.specs.declared.refusal.Refusal.{Refusal}
use Rattle.ql_syntax.specs.Answers.{Answer, then_with, refused}
use Rattle.ql_syntax.specs.declared.statement.Statement.{Statement}
use Rattle.ql_syntax.specs.declared.statement.Statement.TheVariants as s
use Rattle.ql_rel.specs.declared.db.Db.{Db}
use Rattle.ql_rel.specs.declared.plan.Plan.{Plan}
use Rattle.ql_rel.specs.Databases.{schema_of}
use Rattle.ql_rel.specs.Events.{Event}
use Rattle.ql_rel.specs.SelectRows.{select_text}
use Rattle.ql_rel.specs.StatementEffects.{statement_effect}
use Rattle.ql_rel.specs.StatementPlans.{statement_plan}
use Rattle.ql_exec.specs.Carries.{Did, Does}
use Rattle.ql_exec.specs.Depths.{IsDeepEnough, LeavesDb}
use Rattle.ql_exec.specs.declared.fault.ExecFault.{ExecFault}
use Rattle.ql_exec.specs.declared.fault.ExecFault.TheVariants as exec
use Rattle.ql_shell.specs.Goings.{Goes, KeepsBelow, Stands, Went, outermost, step_fault_of, text_of}
use Rattle.ql_rel.specs.Sessions.{State, carries, needs_level, no_transaction, shown}
use Rattle.ql_shell.specs.declared.fault.StepFault.{StepFault}
use Rattle.ql_shell.specs.declared.fault.StepFault.TheVariants as step
use Rattle.ql_shell.proofs.Standing.{levels_counted, none_shown}
use Rattle.ql_shell.proofs.Unwinding.{kept_inside}

-- a level is open where one is asked for
some_open : (n : ℕ) → (n == 0) ≡ false → 0 < n
some_open zero e = absurd (cc)
some_open (suc n) e = omega arith

pub deep_enough : (x : Statement) (n : ℕ) (b : Bool) → b ≡ (needs_level x && (n == 0)) → b ≡ false → IsDeepEnough x n
deep_enough s.Begin n b e h = some_open n (sym e ∙ h)
deep_enough s.Commit n b e h = some_open n (sym e ∙ h)
deep_enough s.Rollback n b e h = some_open n (sym e ∙ h)
deep_enough (s.Query q) n b e h = tt
deep_enough (s.CreateTable q t cs) n b e h = some_open n (sym e ∙ h)
deep_enough (s.DropTable q t) n b e h = some_open n (sym e ∙ h)
deep_enough (s.AddColumn t c) n b e h = some_open n (sym e ∙ h)
deep_enough (s.DropColumn t c) n b e h = some_open n (sym e ∙ h)
deep_enough (s.CreateIndex u q i t x) n b e h = some_open n (sym e ∙ h)
deep_enough (s.DropIndex q i) n b e h = some_open n (sym e ∙ h)
deep_enough (s.Insert t cs x) n b e h = some_open n (sym e ∙ h)
deep_enough (s.Update t x f) n b e h = some_open n (sym e ∙ h)
deep_enough (s.Delete t f) n b e h = some_open n (sym e ∙ h)
deep_enough (s.Truncate t) n b e h = some_open n (sym e ∙ h)

-- a SELECT leaves the database
abbrev db_in : Db → Answer (List ℕ × Db) → Db
db_in d (Ok done) = done.1
db_in d (Err r) = d

text_alone : (d after : Db) (text : List ℕ) (answer : Answer (List ℕ)) → ◌≡◌ {A = Answer (List ℕ × Db)} (then_with {B = List ℕ × Db} answer (λ t. Ok (t, d))) (Ok (text, after)) → after ≡ d
text_alone d after text (Ok t) e = sym (ap (db_in d) e)
text_alone d after text (Err r) e = absurd (cc)

plan_alone : (d after : Db) (text : List ℕ) (plan : Answer Plan) (f : Plan → Answer (List ℕ)) → ◌≡◌ {A = Answer (List ℕ × Db)} (then_with {B = List ℕ × Db} plan (λ p. then_with {B = List ℕ × Db} (f p) (λ t. Ok (t, d)))) (Ok (text, after)) → after ≡ d
plan_alone d after text (Ok p) f e = text_alone d after text (f p) e
plan_alone d after text (Err r) f e = absurd (cc)

no_none : (b : Bool) → b ≡ true → b ≡ false → ⊥
no_none b e f = absurd (cc)

same_db : (names : Bool) (x : Statement) (d after : Db) (text : List ℕ) → (needs_level x && (0 == 0)) ≡ false → statement_effect names x d ≡ Ok (text, after) → after ≡ d
same_db names s.Begin d after text n e = absurd (cc)
same_db names s.Commit d after text n e = absurd (cc)
same_db names s.Rollback d after text n e = absurd (cc)
same_db names (s.Query q) d after text n e = plan_alone d after text (statement_plan (schema_of d) (s.Query q)) (λ p. select_text names d q p) e
same_db names (s.CreateTable q t cs) d after text n e = absurd (cc)
same_db names (s.DropTable q t) d after text n e = absurd (cc)
same_db names (s.AddColumn t c) d after text n e = absurd (cc)
same_db names (s.DropColumn t c) d after text n e = absurd (cc)
same_db names (s.CreateIndex u q i t x) d after text n e = absurd (cc)
same_db names (s.DropIndex q i) d after text n e = absurd (cc)
same_db names (s.Insert t cs x) d after text n e = absurd (cc)
same_db names (s.Update t x f) d after text n e = absurd (cc)
same_db names (s.Delete t f) d after text n e = absurd (cc)
same_db names (s.Truncate t) d after text n e = absurd (cc)

kept_still : (names : Bool) (x : Statement) (d after kept : Db) (text : List ℕ) (saved : List Db) → (needs_level x && (length saved == 0)) ≡ false → statement_effect names x d ≡ Ok (text, after) → kept ≡ outermost d saved → kept ≡ outermost after saved
kept_still names x d after kept text [] n e k = k ∙ sym (same_db names x d after text n e)
kept_still names x d after kept text (o ∷ outer) n e k = k

effect_then : (names : Bool) (x : Statement) (st : State) (b : Bool) (effect : Answer (List ℕ × Db)) → (needs_level x && (length st.saved == 0)) ≡ b → statement_effect names x st.db ≡ effect
    → carries names x st ≡ cond b (refused no_transaction) (then_with effect (λ done. Ok (shown done st)))
effect_then names x st b effect e f = rw e (rw f refl)

-- the condition, by what the session saved
no_lack : (x : Statement) (levels : List (Option Db)) (st : State) (b : Bool) → levels ≡ map (λ (d : Db). Some d) st.saved → b ≡ (needs_level x && (length levels == 0)) → (needs_level x && (length st.saved == 0)) ≡ b
no_lack x levels st b l e = ap (λ (n : ℕ). needs_level x && (n == 0)) (sym (levels_counted levels st l)) ∙ sym e

pub lacks : (names : Bool) (x : Statement) (st : State) (held : Option Db) (levels : List (Option Db)) (b : Bool) (r : Refusal) → Stands held levels st → b ≡ (needs_level x && (length levels == 0)) → b ≡ true → r ≡ record { number = no_transaction; name = [] }
    → carries names x st ≡ Err r
lacks names x st held levels b r h e t k = effect_then names x st true (statement_effect names x st.db) (no_lack x levels st b h.saved e ∙ t) refl ∙ ap Err (sym k)

-- what was done to the told database was done to the session's
done_to : (names : Bool) (x : Statement) (st : State) (held : Option Db) (P : Db → Type 0) → held ≡ Some st.db → IfSome held P → P st.db
done_to names x st held P e h = subst (λ (o : Option Db). IfSome o P) e h

pub carried : (names : Bool) (x : Statement) (st : State) (held held2 held' : Option Db) (levels levels2 levels' : List (Option Db)) (start out : List ℕ) (told told2 told' : Told) (b : Bool) → Stands held levels st → b ≡ (needs_level x && (length levels == 0)) → b ≡ false
    → IfSome held (λ d. Does {T = Unit {0}} (statement_effect names x d) (Ok tt) start out held2) → start ≡ [] → levels2 ≡ levels → told2 ≡ told → told' ≡ with_shown out told2 → held' ≡ held2 → levels' ≡ levels2
    → Went (carries names x st) told told' held' levels'
carried names x st held held2 held' levels levels2 levels' start out told told2 told' b h e f d z l t u hh ll =
    let did : Did (statement_effect names x st.db) start out held2 = done_to names x st held (λ (o : Db). Does {T = Unit {0}} (statement_effect names x o) (Ok tt) start out held2) h.db d in
    let lack : (needs_level x && (length st.saved == 0)) ≡ false = no_lack x levels st b h.saved e ∙ f in
    let text_is : out ≡ did.text ++ [] = did.out ∙ ap (λ (a : List ℕ). a ++ did.text) z ∙ sym (append-nil did.text) in
    record {
      done = shown (did.text, did.after) st;
      is = effect_then names x st false (Ok (did.text, did.after)) lack did.is;
      shown = u ∙ ap (λ (o : Told). with_shown out o) t ∙ ap (λ (a : List ℕ). with_shown a told) text_is;
      stands = record { db = hh ∙ did.holds; saved = ll ∙ l ∙ h.saved; kept = kept_still names x st.db did.after st.kept did.text st.saved lack did.is h.kept };
    }

-- a SELECT alone is carried out where no level is open
left_alone : (x : Statement) (levels : List (Option Db)) (held held2 : Option Db) (b : Bool) → b ≡ (needs_level x && (length levels == 0)) → b ≡ false → LeavesDb x held held2 → levels ≡ [] → held2 ≡ held
left_alone x levels held held2 b e f a n = here x (sym (ap (λ (z : List (Option Db)). needs_level x && (length z == 0)) n) ∙ sym e ∙ f) a
  where
    here : (y : Statement) → (needs_level y && (0 == 0)) ≡ false → LeavesDb y held held2 → held2 ≡ held
    here s.Begin q a = absurd (cc)
    here s.Commit q a = absurd (cc)
    here s.Rollback q a = absurd (cc)
    here (s.Query z) q a = a
    here (s.CreateTable z t cs) q a = absurd (cc)
    here (s.DropTable z t) q a = absurd (cc)
    here (s.AddColumn t c) q a = absurd (cc)
    here (s.DropColumn t c) q a = absurd (cc)
    here (s.CreateIndex u z i t y) q a = absurd (cc)
    here (s.DropIndex z i) q a = absurd (cc)
    here (s.Insert t cs y) q a = absurd (cc)
    here (s.Update t y f) q a = absurd (cc)
    here (s.Delete t f) q a = absurd (cc)
    here (s.Truncate t) q a = absurd (cc)

-- a statement that was not carried out
not_done : (names : Bool) (x : Statement) (st : State) (f : ExecFault) (start out : List ℕ) (told : Told) (held2 : Option Db) (levels2 : List (Option Db)) → (needs_level x && (length st.saved == 0)) ≡ false
    → Does {T = Unit {0}} (statement_effect names x st.db) (Err f) start out held2 → KeepsBelow st.kept held2 levels2 → Goes {T = Unit {0}} st.kept (carries names x st) (Err (step_fault_of f)) told told held2 levels2
not_done names x st (exec.Refused r) start out told held2 levels2 l d k = (effect_then names x st false (Err r) l d, refl, k)
not_done names x st (exec.Trouble t) start out told held2 levels2 l d k = record { count = 0; within = omega arith; told = none_shown told }

pub stopped : (names : Bool) (x : Statement) (st : State) (held held2 : Option Db) (levels levels2 : List (Option Db)) (start out : List ℕ) (told told2 : Told) (b : Bool) (f : ExecFault) (result : Result (Unit {0}) StepFault) → Stands held levels st → b ≡ (needs_level x && (length levels == 0)) → b ≡ false
    → IfSome held (λ d. Does {T = Unit {0}} (statement_effect names x d) (Err f) start out held2) → LeavesDb x held held2 → levels2 ≡ levels → told2 ≡ told → IsErrAnd result (λ g. g ≡ step_fault_of f) → Goes st.kept (carries names x st) result told told2 held2 levels2
stopped names x st held held2 levels levels2 start out told told2 b f (Ok v) h e k d a l t i = absurd i
stopped names x st held held2 levels levels2 start out told told2 b f (Err g) h e k d a l t i =
    let kept : KeepsBelow st.kept held2 levels2 = kept_inside st held held2 levels levels2 h l (left_alone x levels held held2 b e k a) in
    let here : Goes {T = Unit {0}} st.kept (carries names x st) (Err (step_fault_of f)) told told held2 levels2 =
    not_done names x st f start out told held2 levels2 (no_lack x levels st b h.saved e ∙ k) (done_to names x st held (λ (o : Db). Does {T = Unit {0}} (statement_effect names x o) (Err f) start out held2) h.db d) kept in
    subst (λ (z : StepFault). Goes {T = Unit {0}} st.kept (carries names x st) (Err z) told told2 held2 levels2) (sym i) (subst (λ (z : Told). Goes {T = Unit {0}} st.kept (carries names x st) (Err (step_fault_of f)) told z held2 levels2) (sym t) here)

-- a device failed while the text was shown
front_of : (kept : Db) (answer : Answer (List Event × State)) (f : DeviceFault) (before now : Told) (held : Option Db) (levels : List (Option Db)) → ShowsFront (text_of answer) before now → Goes {T = Unit {0}} kept answer (Err (step.Trouble (trouble_of f))) before now held levels
front_of kept answer device.Failed before now held levels h = h
front_of kept answer device.NoMemory before now held levels h = h

pub half_shown : (names : Bool) (x : Statement) (st : State) (held held2 held' : Option Db) (levels levels' : List (Option Db)) (start out : List ℕ) (told told2 told' : Told) (b : Bool) (f : DeviceFault) (result : Result (Unit {0}) StepFault) → Stands held levels st → b ≡ (needs_level x && (length levels == 0)) → b ≡ false
    → IfSome held (λ d. Does {T = Unit {0}} (statement_effect names x d) (Ok tt) start out held2) → start ≡ [] → told2 ≡ told → (n : ℕ) × (n < length out) × (told' ≡ with_shown (take n out) told2) → IsErrAnd result (λ g. g ≡ step.Trouble (trouble_of f))
    → Goes st.kept (carries names x st) result told told' held' levels'
half_shown names x st held held2 held' levels levels' start out told told2 told' b f (Ok v) h e k d z t part i = absurd i
half_shown names x st held held2 held' levels levels' start out told told2 told' b f (Err g) h e k d z t part i =
    let did : Did (statement_effect names x st.db) start out held2 = done_to names x st held (λ (o : Db). Does {T = Unit {0}} (statement_effect names x o) (Ok tt) start out held2) h.db d in
    let lack : (needs_level x && (length st.saved == 0)) ≡ false = no_lack x levels st b h.saved e ∙ k in
    let text_is : out ≡ did.text ++ [] = did.out ∙ ap (λ (a : List ℕ). a ++ did.text) z ∙ sym (append-nil did.text) in
    let answer : carries names x st ≡ Ok (shown (did.text, did.after) st) = effect_then names x st false (Ok (did.text, did.after)) lack did.is in
    let front : ShowsFront out told told' = record { count = part.0; within = omega (arith, part.1); told = part.2 ∙ ap (λ (o : Told). with_shown (take part.0 out) o) t } in
    let whole : ShowsFront (text_of (carries names x st)) told told' = subst (λ (a : List ℕ). ShowsFront a told told') (text_is ∙ sym (ap text_of answer)) front in
    subst (λ (q : StepFault). Goes {T = Unit {0}} st.kept (carries names x st) (Err q) told told' held' levels') (sym i) (front_of st.kept (carries names x st) f told told' held' levels' whole)
