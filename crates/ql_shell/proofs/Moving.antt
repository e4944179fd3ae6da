-- What a session counts stays where a statement on tables is carried out.
use Rattle.std.proofs.Common.{◌≡◌, ℕ, Bool, true, false, ◌&&◌, ◌==◌, cond, List, length, Option, Result, Ok, Err, refl, sym, ap, subst, ◌∙◌}
use Rattle.ql_edge.specs.Told.{Told}
use Rattle.ql_syntax.specs.Answers.{Answer, then_with, refused}
use Rattle.ql_syntax.specs.declared.statement.Statement.{Statement}
use Rattle.ql_syntax.specs.declared.statement.Statement.TheVariants as s
use Rattle.ql_rel.specs.declared.db.Db.{Db}
use Rattle.ql_rel.specs.Events.{Event}
use Rattle.ql_rel.specs.StatementEffects.{statement_effect}
use Rattle.ql_shell.specs.Goings.{Goes, Moves}
use Rattle.ql_rel.specs.Sessions.{State, carries, needs_level, no_transaction, shown, stepped}
use Rattle.ql_shell.specs.declared.fault.StepFault.{StepFault}
use Rattle.ql_shell.specs.declared.fault.StepFault.TheVariants as step

-- every statement but the three of levels is one on tables
stepped_other : (names ack : Bool) (x : Statement) (st : State) → (x ≡ s.Begin → ⊥) → (x ≡ s.Commit → ⊥) → (x ≡ s.Rollback → ⊥) → stepped names ack x st ≡ carries names x st
stepped_other names ack s.Begin st b c r = absurd (b refl)
stepped_other names ack s.Commit st b c r = absurd (c refl)
stepped_other names ack s.Rollback st b c r = absurd (r refl)
stepped_other names ack (s.Query q) st b c r = refl
stepped_other names ack (s.CreateTable q t cs) st b c r = refl
stepped_other names ack (s.DropTable q t) st b c r = refl
stepped_other names ack (s.AddColumn t d) st b c r = refl
stepped_other names ack (s.DropColumn t d) st b c r = refl
stepped_other names ack (s.CreateIndex u q i t e) st b c r = refl
stepped_other names ack (s.DropIndex q i) st b c r = refl
stepped_other names ack (s.Insert t cs e) st b c r = refl
stepped_other names ack (s.Update t e f) st b c r = refl
stepped_other names ack (s.Delete t f) st b c r = refl
stepped_other names ack (s.Truncate t) st b c r = refl

abbrev commits_in : ℕ → Answer (List Event × State) → ℕ
commits_in n (Ok done) = done.1.commits
commits_in n (Err r) = n

abbrev base_in : ℕ → Answer (List Event × State) → ℕ
base_in n (Ok done) = done.1.base
base_in n (Err r) = n

counts : (x : Statement) (st : State) (done : List Event × State) (b : Bool) (a : Answer (List ℕ × Db)) → ◌≡◌ {A = Answer (List Event × State)} (cond b (refused no_transaction) (then_with a (λ d. Ok (shown d st)))) (Ok done) → (st.commits ≡ done.1.commits) × (st.base ≡ done.1.base)
counts x st done true a e = absurd (cc)
counts x st done false (Ok d) e = (ap (commits_in 0) e, ap (base_in 0) e)
counts x st done false (Err r) e = absurd (cc)

moved_on : (names : Bool) (x : Statement) (st : State) (result : Result (Unit {0}) StepFault) (told told' : Told) (held : Option Db) (levels : List (Option Db)) (counted own : ℕ) → counted ≡ st.commits → own ≡ st.base
    → Goes st.kept (carries names x st) result told told' held levels → Moves (carries names x st) st result told told' held levels counted own
moved_on names x st (Ok v) told told' held levels counted own c b h =
    let still : (st.commits ≡ h.done.1.commits) × (st.base ≡ h.done.1.base) = counts x st h.done (needs_level x && (length st.saved == 0)) (statement_effect names x st.db) h.is in
    record { done = h.done; is = h.is; shown = h.shown; at = record { stands = h.stands; commits = c ∙ still.0; base = b ∙ still.1 } }
moved_on names x st (Err (step.Refused r)) told told' held levels counted own c b h = (h.0, h.1, h.2, c, b)
moved_on names x st (Err (step.Trouble t)) told told' held levels counted own c b h = h

pub moved_other : (names ack : Bool) (x : Statement) (st : State) (result : Result (Unit {0}) StepFault) (told told' : Told) (held : Option Db) (levels : List (Option Db)) (counted own : ℕ) → (x ≡ s.Begin → ⊥) → (x ≡ s.Commit → ⊥) → (x ≡ s.Rollback → ⊥) → counted ≡ st.commits → own ≡ st.base
    → Goes st.kept (carries names x st) result told told' held levels → Moves (stepped names ack x st) st result told told' held levels counted own
moved_other names ack x st result told told' held levels counted own nb nc nr c b h =
    subst (λ (a : Answer (List Event × State)). Moves a st result told told' held levels counted own) (sym (stepped_other names ack x st nb nc nr)) (moved_on names x st result told told' held levels counted own c b h)
