-- Statements in turn, each of which goes on where the one before it ended.
use Rattle.std.proofs.Common.{◌≡◌, ℕ, suc, ◌+◌, Bool, List, [], ◌∷◌, ◌++◌, length, take, map, Option, Some, Ok, Err, refl, sym, ap, subst, ◌∙◌, append_assoc, append-nil, length-append, arith}
use Rattle.std.proofs.Math.Seq.{take-append-add}
use Rattle.ql_edge.specs.Told.{Told, with_shown, ShowsFront}
use Rattle.lldb_base.specs.declared.trouble.Trouble.{Trouble}
use Rattle.lldb_base.specs.declared.trouble.Trouble.TheVariants as trouble
use Rattle.ql_syntax.specs.declared.statement.Statement.{Statement}
use Rattle.ql_syntax.specs.Answers as rel
use Rattle.ql_value.specs.declared.refusal.Refusal.{Refusal}
use Rattle.ql_rel.specs.declared.db.Db.{Db}
use Rattle.ql_rel.specs.EventLaws.{EventLaws}
use Rattle.ql_rel.specs.Events.{Event, completed, refused_in, Course, preceded_by, shown_text, kept_after}
use Rattle.ql_rel.specs.SessionLaws.{SessionLaws, IsTold}
use Rattle.ql_rel.specs.Sessions.{State, finished, goes_on, session, stepped}
use Rattle.ql_shell.specs.Goings.{Ends, IsAt, Moved, outermost, text_of}
use Rattle.ql_shell.specs.Meaning.{answered, status_after}
use Rattle.ql_shell.specs.Pieces.{RunsFrom, RunsOn}
use Rattle.ql_shell.specs.Run.{Gives, IsFinal}
use Rattle.ql_shell.specs.Stops.{EndsBy, StopsBy}
use Rattle.ql_shell.specs.declared.fault.StepFault.{StepFault}
use Rattle.ql_shell.specs.declared.fault.StepFault.TheVariants as step
use Rattle.ql_shell.specs.declared.status.Status.{Status}
use Rattle.ql_shell.specs.declared.status.Status.TheVariants.{Done, Fault, NoMemory}
use Rattle.ql_shell.proofs.Giving.{trouble_gives}
use Rattle.ql_shell.proofs.Pieces.{shown_none, shown_twice, front_longer}

-- what a step may do, with the state after it
abbrev Step : Type 0
Step = rel.Answer (List Event × State)

-- before the first statement
pub from_begin : (names ack : Bool) (items : List Statement) (st : State) (held : Option Db) (levels : List (Option Db)) (counted own : ℕ) (told : Told) → IsAt held levels counted own st
    → RunsFrom names ack (session names ack 1 items st) st.kept told told 1 items held levels counted own
from_begin names ack items st held levels counted own told at = record { st = st; at = at; runs = record { done = []; told = sym (shown_none told); whole = refl; kept = refl } }

-- a step was done: what is left is what follows it
runs_on : EventLaws → (all : Course) (first : Db) (before now now' : Told) (number : ℕ) (answer : Step) (more : State → Course) (done : List Event × State) (kept : Db)
    → RunsOn all first before now (goes_on number answer more) kept → answer ≡ Ok done → now' ≡ with_shown (shown_text done.0) now → done.1.kept ≡ kept_after kept done.0 → RunsOn all first before now' (more done.1) done.1.kept
runs_on laws all first before now now' number answer more done kept h is shown k =
    let rest = more done.1 in
    record {
      done = h.done ++ done.0;
      told = shown ∙ ap (with_shown (shown_text done.0)) h.told ∙ shown_twice (shown_text h.done) (shown_text done.0) before ∙ ap (λ t. with_shown t before) (sym (laws.texts h.done done.0));
      whole = h.whole ∙ ap (λ (a : Step). preceded_by h.done (goes_on number a more)) is ∙ ap (λ es. record { events = es; closing = rest.closing }) (sym (append_assoc h.done done.0 rest.events));
      kept = k ∙ ap (λ (d : Db). kept_after d done.0) h.kept ∙ sym (laws.kept h.done done.0 first);
    }

items_are : (names ack : Bool) (all : Course) (first : Db) (before now : Told) (number : ℕ) (items other : List Statement) (held : Option Db) (levels : List (Option Db)) (counted own : ℕ) → items ≡ other
    → (from : RunsFrom names ack all first before now number items held levels counted own) → RunsOn all first before now (session names ack number other from.st) from.st.kept
items_are names ack all first before now number items other held levels counted own e from = subst (λ (z : List Statement). RunsOn all first before now (session names ack number z from.st) from.st.kept) e from.runs

-- a statement was carried out
pub from_on : (names ack : Bool) → EventLaws → SessionLaws → (all : Course) (first : Db) (before now now' : Told) (number next : ℕ) (items : List Statement) (s : Statement) (ss : List Statement) (held held' : Option Db) (levels levels' : List (Option Db)) (counted counted' own own' : ℕ)
    → items ≡ s ∷ ss → next ≡ suc number → RunsFrom names ack all first before now number items held levels counted own
    → ((st : State) → IsAt held levels counted own st → Moved (stepped names ack s st) now now' held' levels' counted' own') → RunsFrom names ack all first before now' next ss held' levels' counted' own'
from_on names ack laws levelled all first before now now' number next items s ss held held' levels levels' counted counted' own own' e n from steps =
    let h = items_are names ack all first before now number items (s ∷ ss) held levels counted own e from in
    let m = steps from.st from.at in
    let told : IsTold m.done from.st = levelled.told names ack s from.st m.done m.is in
    record {
      st = m.done.1;
      at = m.at;
      runs = subst (λ (k : ℕ). RunsOn all first before now' (session names ack k ss m.done.1) m.done.1.kept) (sym n)
          (runs_on laws all first before now now' number (stepped names ack s from.st) (λ (z : State). session names ack (suc number) ss z) m.done from.st.kept h m.is m.shown told.kept);
    }

-- what is left where a step was refused
refused_whole : EventLaws → (all : Course) (first : Db) (before now now' : Told) (number : ℕ) (answer : Step) (more : State → Course) (kept : Db) (r : Refusal)
    → (h : RunsOn all first before now (goes_on number answer more) kept) → answer ≡ Err r → all ≡ record { events = h.done ++ []; closing = refused_in number r }
refused_whole laws all first before now now' number answer more kept r h is = h.whole ∙ ap (λ (a : Step). preceded_by h.done (goes_on number a more)) is

-- the text of a step stands in front of what is left
text_in_front : EventLaws → (number : ℕ) (answer : Step) (more : State → Course) → (rest : List ℕ) × (shown_text (goes_on number answer more).events ≡ text_of answer ++ rest)
text_in_front laws number (Ok done) more = (shown_text (more done.1).events, laws.texts done.0 (more done.1).events)
text_in_front laws number (Err r) more = ([], refl)

-- a step was cut off
runs_cut : EventLaws → (all : Course) (first : Db) (before now now' : Told) (number : ℕ) (answer : Step) (more : State → Course) (kept : Db)
    → RunsOn all first before now (goes_on number answer more) kept → ShowsFront (text_of answer) now now' → ShowsFront (shown_text all.events) before now'
runs_cut laws all first before now now' number answer more kept h part =
    let left = goes_on number answer more in
    let text = text_of answer in
    let done = shown_text h.done in
    let rest = text_in_front laws number answer more in
    let whole : shown_text all.events ≡ done ++ (text ++ rest.0) = ap (λ (c : Course). shown_text c.events) h.whole ∙ laws.texts h.done left.events ∙ ap (λ t. done ++ t) rest.1 in
    let longer = front_longer text rest.0 now now' part in
    record {
      count = length done + longer.count;
      within = omega (arith, ap length whole, length-append done (text ++ rest.0), longer.within);
      told = longer.told ∙ ap (with_shown (take longer.count (text ++ rest.0))) h.told ∙ shown_twice done (take longer.count (text ++ rest.0)) before
          ∙ ap (λ t. with_shown t before) (sym (ap (take (length done + longer.count)) whole ∙ take-append-add done (text ++ rest.0) longer.count));
    }

-- a step stopped the run
stopped_at : EventLaws → (all : Course) (first : Db) (before now now' : Told) (number : ℕ) (answer : Step) (more : State → Course) (st : State) (f : StepFault) (held : Option Db) (levels : List (Option Db)) (counted own : ℕ) (status : Status)
    → RunsOn all first before now (goes_on number answer more) st.kept → Ends {T = Unit {0}} answer st (Err f) now now' held levels counted own → StopsBy number f status → Gives (answered all) status before now'
stopped_at laws all first before now now' number answer more st (step.Refused r) held levels counted own status h ends is =
    let whole = refused_whole laws all first before now now' number answer more st.kept r h ends.0 in
    rw is (
      ap (λ (c : Course). status_after c.closing) (sym whole),
      ends.1 ∙ h.told ∙ ap (λ t. with_shown t before) (sym (ap (λ (c : Course). shown_text c.events) whole ∙ ap shown_text (append-nil h.done))),
    )
stopped_at laws all first before now now' number answer more st (step.Trouble t) held levels counted own status h ends is =
    trouble_gives (answered all) t status before now' is (runs_cut laws all first before now now' number answer more st.kept h ends)

-- and what it leaves: the database that was kept
kept_at : EventLaws → (all : Course) (first : Db) (before now now' : Told) (number : ℕ) (answer : Step) (more : State → Course) (st : State) (f : StepFault) (held : Option Db) (levels : List (Option Db)) (counted own : ℕ) (status : Status)
    → RunsOn all first before now (goes_on number answer more) st.kept → Ends {T = Unit {0}} answer st (Err f) now now' held levels counted own → StopsBy number f status → IsFinal status → held ≡ Some (kept_after first all.events)
kept_at laws all first before now now' number answer more st (step.Refused r) held levels counted own status h ends is final =
    let whole = refused_whole laws all first before now now' number answer more st.kept r h ends.0 in
    ends.2.stands.db ∙ ap Some (h.kept ∙ ap (kept_after first) (sym (ap (λ (c : Course). c.events) whole ∙ append-nil h.done)))
kept_at laws all first before now now' number answer more st (step.Trouble t) held levels counted own status h ends is final = absurd (not_final t is)
  where
    no_fault : status ≡ Fault → ⊥
    no_fault e = subst IsFinal e final

    no_memory : status ≡ NoMemory → ⊥
    no_memory e = subst IsFinal e final

    not_final : (t : Trouble) → EndsBy t status → ⊥
    not_final trouble.Failed e = no_fault e
    not_final trouble.NoMemory e = no_memory e
    not_final (trouble.Full _ _) e = e
    not_final trouble.Damaged e = e

pub from_stopped : (names ack : Bool) → EventLaws → (all : Course) (first : Db) (before now now' : Told) (number : ℕ) (items : List Statement) (s : Statement) (ss : List Statement) (f : StepFault) (held held' : Option Db) (levels levels' : List (Option Db)) (counted counted' own own' : ℕ) (status : Status)
    → items ≡ s ∷ ss → RunsFrom names ack all first before now number items held levels counted own
    → ((st : State) → IsAt held levels counted own st → Ends {T = Unit {0}} (stepped names ack s st) st (Err f) now now' held' levels' counted' own') → StopsBy number f status
    → Gives (answered all) status before now' × (IsFinal status → held' ≡ Some (kept_after first all.events))
from_stopped names ack laws all first before now now' number items s ss f held held' levels levels' counted counted' own own' status e from steps is =
    let h = items_are names ack all first before now number items (s ∷ ss) held levels counted own e from in
    let more : State → Course = λ (z : State). session names ack (suc number) ss z in (
      stopped_at laws all first before now now' number (stepped names ack s from.st) more from.st f held' levels' counted' own' status h (steps from.st from.at) is,
      kept_at laws all first before now now' number (stepped names ack s from.st) more from.st f held' levels' counted' own' status h (steps from.st from.at) is,
    )

-- nothing follows the end
abbrev nothing : State → Course
nothing _ = record { events = []; closing = completed }

pub from_unfinished : (names ack : Bool) → EventLaws → (all : Course) (first : Db) (before now now' : Told) (number : ℕ) (items : List Statement) (f : StepFault) (held held' : Option Db) (levels levels' : List (Option Db)) (counted counted' own own' : ℕ) (status : Status)
    → items ≡ [] → RunsFrom names ack all first before now number items held levels counted own
    → ((st : State) → IsAt held levels counted own st → Ends {T = Unit {0}} (finished ack st) st (Err f) now now' held' levels' counted' own') → StopsBy number f status
    → Gives (answered all) status before now' × (IsFinal status → held' ≡ Some (kept_after first all.events))
from_unfinished names ack laws all first before now now' number items f held held' levels levels' counted counted' own own' status e from steps is =
    let h = items_are names ack all first before now number items [] held levels counted own e from in (
      stopped_at laws all first before now now' number (finished ack from.st) nothing from.st f held' levels' counted' own' status h (steps from.st from.at) is,
      kept_at laws all first before now now' number (finished ack from.st) nothing from.st f held' levels' counted' own' status h (steps from.st from.at) is,
    )

-- where no level is open the database is the kept one
kept_below : (st : State) (saved : List Db) → saved ≡ st.saved → st.kept ≡ outermost st.db saved → map (λ (d : Db). Some d) saved ≡ [] → st.db ≡ st.kept
kept_below st [] e k n = sym k
kept_below st (d ∷ saved) e k n = absurd (cc)

db_kept : (held : Option Db) (levels : List (Option Db)) (counted own : ℕ) (st : State) → IsAt held levels counted own st → levels ≡ [] → held ≡ Some st.kept
db_kept held levels counted own st at n = at.stands.db ∙ ap Some (kept_below st st.saved refl at.stands.kept (sym at.stands.saved ∙ n))

pub from_finished : (names ack : Bool) → EventLaws → SessionLaws → (all : Course) (first : Db) (before now now' : Told) (number : ℕ) (items : List Statement) (held held' : Option Db) (levels levels' : List (Option Db)) (counted counted' own own' : ℕ)
    → items ≡ [] → RunsFrom names ack all first before now number items held levels counted own
    → ((st : State) → IsAt held levels counted own st → Moved (finished ack st) now now' held' levels' counted' own') → levels' ≡ []
    → Gives (answered all) Done before now' × (held' ≡ Some (kept_after first all.events))
from_finished names ack laws levelled all first before now now' number items held held' levels levels' counted counted' own own' e from steps none =
    let h = items_are names ack all first before now number items [] held levels counted own e from in
    let m = steps from.st from.at in
    let told : IsTold m.done from.st = levelled.end_told ack from.st m.done m.is in
    let r = runs_on laws all first before now now' number (finished ack from.st) nothing m.done from.st.kept h m.is m.shown told.kept in
    let whole : all.events ≡ r.done = ap (λ (c : Course). c.events) r.whole ∙ append-nil r.done in (
      (ap (λ (c : Course). status_after c.closing) (sym r.whole), r.told ∙ ap (λ t. with_shown t before) (ap shown_text (sym whole))),
      db_kept held' levels' counted' own' m.done.1 m.at none ∙ ap Some (r.kept ∙ ap (kept_after first) (sym whole)),
    )

-- settings that stay are those of the first statement
pub stops_with : (names names' ack ack' : Bool) (s : Statement) (st : State) (f : StepFault) (before now : Told) (held : Option Db) (levels : List (Option Db)) (counted own : ℕ) → names' ≡ names → ack' ≡ ack
    → Ends {T = Unit {0}} (stepped names' ack' s st) st (Err f) before now held levels counted own → Ends {T = Unit {0}} (stepped names ack s st) st (Err f) before now held levels counted own
stops_with names names' ack ack' s st f before now held levels counted own n a h =
    subst (λ (z : Bool). Ends {T = Unit {0}} (stepped names z s st) st (Err f) before now held levels counted own) a
    (subst (λ (z : Bool). Ends {T = Unit {0}} (stepped z ack' s st) st (Err f) before now held levels counted own) n h)

pub unfinished_with : (ack ack' : Bool) (st : State) (f : StepFault) (before now : Told) (held : Option Db) (levels : List (Option Db)) (counted own : ℕ) → ack' ≡ ack
    → Ends {T = Unit {0}} (finished ack' st) st (Err f) before now held levels counted own → Ends {T = Unit {0}} (finished ack st) st (Err f) before now held levels counted own
unfinished_with ack ack' st f before now held levels counted own a h = subst (λ (z : Bool). Ends {T = Unit {0}} (finished z st) st (Err f) before now held levels counted own) a h
