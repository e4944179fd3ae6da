-- Calls on a machine in memory, by the record of its calls after them.
use Rattle.std.proofs.Common.{◌≡◌, ℕ, ◌≤◌, true, List, [], ◌∷◌, ◌++◌, length, length-append, drop, Option, Some, refl, arith, sym, ◌∙◌, ap, subst, inl, inr, Result, Ok, Err, OnOk, OnErr, IsErrAnd}
use Rattle.ql_edge.specs.Cause.{IsCaused}
use Rattle.ql_edge.specs.Disk.{Files, file_of, other_of, Torn, Cut, OnFile}
use Rattle.ql_edge.specs.Events.{steps_of, on_file, on_both, read_after, are_valid, shown_after, AreImages, AreImagesSince}
use Rattle.ql_edge.specs.Images.{shown_push, torn_self, cut_self, left_write, left_cut, left_sync, left_synced, left_attach, reads_images, moments_push, same_noted}
use Rattle.ql_edge.specs.MemDisk.{disk_files, disk_first, disk_events}
use Rattle.ql_edge.specs.MemMachine.{files_of, first_of, events_of, calls_of, texts_of, calls_after, IsCausedFault, IsReshown, IsAlike}
use Rattle.ql_edge.specs.Reshown.{same_self}
use Rattle.ql_edge.specs.Stops.{After, Leaves, Adds, HasShown, IsSameBut}
use Rattle.ql_edge.specs.declared.event.Event.{Event}
use Rattle.ql_edge.specs.declared.event.Step.{Step}
use Rattle.ql_edge.specs.declared.event.Step.TheVariants as step
use Rattle.ql_edge.specs.declared.fault.DeviceFault.{DeviceFault}
use Rattle.ql_edge.specs.declared.fault.DeviceFault.TheVariants as fault
use Rattle.ql_edge.specs.declared.fault.NoMemory.{NoMemory}
use Rattle.ql_edge.specs.declared.mem_disk.MemDisk.{MemDisk}
use Rattle.ql_edge.specs.declared.memory.MemMachine.{MemMachine}
use Rattle.ql_edge.specs.declared.volume.Which.{Which}
use Rattle.ql_edge.specs.declared.volume.Which.TheVariants as which

-- The count of shown bytes in the record.

pub shown_on : (w : Which) (s : Step) (n : ℕ) → (on_file w s n).shown ≡ n
shown_on which.Data s n = refl
shown_on which.Log s n = refl

pub counted_next : (es now : List Event) (e : Event) (n : ℕ) → now ≡ es ++ e ∷ [] → e.shown ≡ n → shown_after 0 now ≡ n
counted_next es now e n events shown = rw events (shown_push 0 es e ∙ shown)

pub counted_either : (r : Result Unit NoMemory) (es now : List Event) (e : Event) (n : ℕ) → OnOk r (now ≡ es ++ e ∷ []) → OnErr r (now ≡ es) → e.shown ≡ n → shown_after 0 es ≡ n → shown_after 0 now ≡ n
counted_either (Ok _) es now e n ok err shown before = counted_next es now e n ok shown
counted_either (Err _) es now e n ok err shown before = rw err before

-- a piece was shown and the call recorded, or neither
pub counted_shown : (r : Result Unit NoMemory) (es now : List Event) (old new : List ℕ) → OnOk r (now ≡ es ++ on_both step.Stayed (length new) ∷ []) → OnErr r (now ≡ es) → OnErr r (new ≡ old) → shown_after 0 es ≡ length old → shown_after 0 now ≡ length new
counted_shown (Ok _) es now old new ok err same before = counted_next es now (on_both step.Stayed (length new)) (length new) ok refl
counted_shown (Err _) es now old new ok err same before = rw (err, same) before

pub rises_by : (old new piece : List ℕ) → new ≡ old ++ piece → length old ≤ length new
rises_by old new piece is = rw (is, length-append old piece) (omega arith)

-- What an answer says of counts.

pub at_error : {T E : Type 0} (P : Type 0) (r : Result T E) → P → OnErr r P
at_error P (Ok _) is = tt
at_error P (Err _) is = is

pub caused_by : (T : Type 0) (f : DeviceFault) (before now : ℕ) → IsCausedFault f before now → IsCaused {T = T} (Err f) before now
caused_by T fault.Failed before now is = is
caused_by T fault.NoMemory before now is = is

pub calls_none : {T : Type 0} → (r : Result T DeviceFault) (before now : ℕ) → IsErrAnd r (λ f. f ≡ fault.NoMemory) → now ≡ before → now ≡ calls_after r before
calls_none (Ok _) before now is same = absurd is
calls_none (Err f) before now is same = rw is same

-- The same but for what is shown.

same_kept : (f g first began : Files) (es now : List Event) (told after : List ℕ × List ℕ) → g ≡ f → began ≡ first → now ≡ es → after ≡ told
    → IsSameBut (Some f) (Some g) (AreImages first es) (AreImages began now) (length es) (length now) (AreImagesSince first es) (AreImagesSince began now) (Some told) (Some after)
same_kept f g first began es now told after files firsts events texts = rw (files, firsts, events, texts) (same_self first es f told)

same_next : (f g first began : Files) (es now : List Event) (told after : List ℕ × List ℕ) → g ≡ f → began ≡ first → length told.0 ≤ length after.0 → now ≡ es ++ on_both step.Stayed (length after.0) ∷ []
    → IsSameBut (Some f) (Some g) (AreImages first es) (AreImages began now) (length es) (length now) (AreImagesSince first es) (AreImagesSince began now) (Some told) (Some after)
same_next f g first began es now told after files firsts rises events = rw (files, firsts) (same_noted first es now f told after rises events)

-- nothing was recorded, and all is as before
pub reshown_kept : (x y : MemMachine) → y.name ≡ x.name → files_of y ≡ files_of x → first_of y ≡ first_of x → texts_of y ≡ texts_of x → events_of y ≡ events_of x → IsReshown x y
reshown_kept x y name files first texts events =
    let long : length y.shown ≡ length x.shown = ap (λ (t : List ℕ × List ℕ). length t.0) texts in
    record { name = name; rises = omega (arith, long); volume = same_kept (files_of x) (files_of y) (first_of x) (first_of y) (events_of x) (events_of y) (texts_of x) (texts_of y) files first events texts }

-- a call that did nothing to the files was recorded
pub reshown_noted : (x y : MemMachine) (n : ℕ) → y.name ≡ x.name → files_of y ≡ files_of x → first_of y ≡ first_of x → length x.shown ≤ length y.shown → n ≡ length y.shown → events_of y ≡ events_of x ++ on_both step.Stayed n ∷ [] → IsReshown x y
reshown_noted x y n name files first rises count events =
    let noted : events_of y ≡ events_of x ++ on_both step.Stayed (length y.shown) ∷ [] = subst (λ k. events_of y ≡ events_of x ++ on_both step.Stayed k ∷ []) count events in
    record { name = name; rises = rises; volume = same_next (files_of x) (files_of y) (first_of x) (first_of y) (events_of x) (events_of y) (texts_of x) (texts_of y) files first rises noted }

-- one of these two
pub reshown_either : (r : Result Unit NoMemory) (x y : MemMachine) (n : ℕ) → y.name ≡ x.name → files_of y ≡ files_of x → first_of y ≡ first_of x → texts_of y ≡ texts_of x → n ≡ length y.shown
    → OnOk r (events_of y ≡ events_of x ++ on_both step.Stayed n ∷ []) → OnErr r (events_of y ≡ events_of x) → IsReshown x y
reshown_either (Ok _) x y n name files first texts count ok err =
    let long : length y.shown ≡ length x.shown = ap (λ (t : List ℕ × List ℕ). length t.0) texts in
    reshown_noted x y n name files first (omega (arith, long)) count ok
reshown_either (Err _) x y n name files first texts count ok err = reshown_kept x y name files first texts err

-- Moments.

adds_more : (a b : ℕ) (past since : ℕ → ℕ → Files → Type 0) (P Q : Files → Type 0) (shown : ℕ → Type 0) → Leaves P Q → Adds a b past since P shown → Adds a b past since Q shown
adds_more a b past since P Q shown more moments = record {
  later = moments.later;
  keeps = moments.keeps;
  adds = λ t n c early now. elim (moments.adds t n c early now) [
    | inl before ↦ inl before
    | inr next ↦ inr (more c next.0, next.1)
  ];
}

adds_told : (first : Files) (es : List Event) (e : Event) (told : List ℕ × List ℕ) → e.shown ≡ length told.0
    → Adds (length es) (length (es ++ e ∷ [])) (AreImagesSince first es) (AreImagesSince first (es ++ e ∷ [])) (AreImages first (es ++ e ∷ [])) (HasShown (Some told))
adds_told first es e told shown =
    let moments = moments_push first es e in
    record {
      later = moments.later;
      keeps = moments.keeps;
      adds = λ t n c early now. elim (moments.adds t n c early now) [
        | inl before ↦ inl before
        | inr next ↦ inr (next.0, next.1 ∙ shown)
      ];
    }

-- one call more is one moment more
pub time_next : (first began : Files) (es now : List Event) (e : Event) (told : List ℕ × List ℕ) → began ≡ first → now ≡ es ++ e ∷ [] → e.shown ≡ length told.0
    → Adds (length es) (length now) (AreImagesSince first es) (AreImagesSince began now) (AreImages began now) (HasShown (Some told))
time_next first began es now e told firsts events shown = rw (firsts, events) (adds_told first es e told shown)

-- and where what is left was so before, that is what is left at it
pub time_next_old : (first began : Files) (es now : List Event) (e : Event) (told : List ℕ × List ℕ) → began ≡ first → now ≡ es ++ e ∷ [] → e.shown ≡ length told.0 → Leaves (AreImages began now) (AreImages first es)
    → Adds (length es) (length now) (AreImagesSince first es) (AreImagesSince began now) (AreImages first es) (HasShown (Some told))
time_next_old first began es now e told firsts events shown more =
    adds_more (length es) (length now) (AreImagesSince first es) (AreImagesSince began now) (AreImages began now) (AreImages first es) (HasShown (Some told)) more (time_next first began es now e told firsts events shown)

-- a call that kept to the relation `same`, and showed nothing
pub time_same : (x y : MemMachine) → IsReshown x y → texts_of y ≡ texts_of x
    → Adds (calls_of x) (calls_of y) (AreImagesSince (first_of x) (events_of x)) (AreImagesSince (first_of y) (events_of y)) (AreImages (first_of y) (events_of y)) (HasShown (Some (texts_of x)))
time_same x y same texts =
    let long : length y.shown ≡ length x.shown = ap (λ (t : List ℕ × List ℕ). length t.0) texts in
    record {
      later = same.volume.moments.later;
      keeps = same.volume.moments.keeps;
      adds = λ t n c early now. elim (same.volume.moments.adds t n c early now) [
        | inl before ↦ inl before
        | inr next ↦
            let least : length x.shown ≤ n = next.1.least in
            let most : n ≤ length y.shown = next.1.most in
            inr (next.0, omega (arith, least, most, long))
      ];
    }

pub time_same_old : (x y : MemMachine) → IsReshown x y → texts_of y ≡ texts_of x
    → Adds (calls_of x) (calls_of y) (AreImagesSince (first_of x) (events_of x)) (AreImagesSince (first_of y) (events_of y)) (AreImages (first_of x) (events_of x)) (HasShown (Some (texts_of x)))
time_same_old x y same texts =
    adds_more (calls_of x) (calls_of y) (AreImagesSince (first_of x) (events_of x)) (AreImagesSince (first_of y) (events_of y)) (AreImages (first_of y) (events_of y)) (AreImages (first_of x) (events_of x)) (HasShown (Some (texts_of x))) same.volume.stops (time_same x y same texts)

-- What a stop may leave.

-- what stays may be left by a write that a stop tears
pub torn_same : (w : Which) (at n : ℕ) (left now : Files → Type 0) → Leaves now left → Leaves now (After (OnFile w (Torn at n)) left)
torn_same w at n left now same c is = (c, same c is, record { stepped = torn_self at n (file_of w c); other = refl })

pub cut_same : (w : Which) (to : ℕ) (left now : Files → Type 0) → Leaves now left → Leaves now (After (OnFile w (Cut to)) left)
cut_same w to left now same c is = (c, same c is, record { stepped = cut_self to (file_of w c); other = refl })

pub stops_wrote : (w : Which) (at n : ℕ) (piece : List ℕ) (first began : Files) (es now : List Event) → began ≡ first → now ≡ es ++ on_file w (step.Wrote at piece) n ∷ []
    → Leaves (AreImages began now) (After (OnFile w (Torn at (length piece))) (AreImages first es))
stops_wrote w at n piece first began es now firsts events = rw (firsts, events) (left_write w at n piece first es)

pub stops_cut : (w : Which) (to n : ℕ) (first began : Files) (es now : List Event) → began ≡ first → now ≡ es ++ on_file w (step.Cut to) n ∷ []
    → Leaves (AreImages began now) (After (OnFile w (Cut to)) (AreImages first es))
stops_cut w to n first began es now firsts events = rw (firsts, events) (left_cut w to n first es)

pub stops_synced : (w : Which) (n : ℕ) (first began : Files) (es now : List Event) → began ≡ first → now ≡ es ++ on_file w step.Synced n ∷ [] → are_valid (steps_of w es) (file_of w first) ≡ true
    → Leaves (AreImages began now) (AreImages first es)
stops_synced w n first began es now firsts events valid = rw (firsts, events) (left_synced w n first es valid)

pub durable_synced : (w : Which) (n : ℕ) (first began : Files) (es now : List Event) (bytes : List ℕ) → began ≡ first → now ≡ es ++ on_file w step.Synced n ∷ [] → read_after (steps_of w es) (file_of w first) ≡ bytes
    → Leaves (AreImages began now) (λ c. file_of w c ≡ bytes)
durable_synced w n first began es now bytes firsts events reads = rw (firsts, events) (λ c is. left_sync w n first es c is ∙ reads)

pub stable_attached : (n : ℕ) (first began : Files) (es now : List Event) (d l : List ℕ) → began ≡ first → now ≡ es ++ on_both step.Synced n ∷ []
    → read_after (steps_of which.Data es) first.0 ≡ d → read_after (steps_of which.Log es) first.1 ≡ l → Leaves (AreImages began now) (λ c. c ≡ (d, l))
stable_attached n first began es now d l firsts events on_data on_log =
    let both : (read_after (steps_of which.Data es) first.0, read_after (steps_of which.Log es) first.1) ≡ (d, l) = rw (on_data, on_log) refl in
    rw (firsts, events) (λ c is. left_attach n first es c is ∙ both)

pub stops_attached : (n : ℕ) (first began : Files) (es now : List Event) → began ≡ first → now ≡ es ++ on_both step.Synced n ∷ [] → are_valid (steps_of which.Data es) first.0 ≡ true → are_valid (steps_of which.Log es) first.1 ≡ true
    → Leaves (AreImages began now) (AreImages first es)
stops_attached n first began es now firsts events on_data on_log =
    rw (firsts, events) (λ c is. subst (AreImages first es) (sym (left_attach n first es c is)) (reads_images first es on_data on_log))

-- Its files agree with the record of their calls.

pub read_of : (w : Which) (d : MemDisk) → read_after (steps_of w (disk_events d)) (file_of w (disk_first d)) ≡ file_of w (disk_files d)
read_of which.Data d = d.data_read
read_of which.Log d = d.log_read

pub valid_of : (w : Which) (d : MemDisk) → are_valid (steps_of w (disk_events d)) (file_of w (disk_first d)) ≡ true
valid_of which.Data d = d.data_valid
valid_of which.Log d = d.log_valid

-- Nothing was recorded.

pub stops_kept : (first began : Files) (es now : List Event) → began ≡ first → now ≡ es → Leaves (AreImages began now) (AreImages first es)
stops_kept first began es now firsts events = rw (firsts, events) (λ c is. is)

pub time_kept : (first began : Files) (es now : List Event) (P : Files → Type 0) (told : List ℕ × List ℕ) → began ≡ first → now ≡ es
    → Adds (length es) (length now) (AreImagesSince first es) (AreImagesSince began now) P (HasShown (Some told))
time_kept first began es now P told firsts events = rw (firsts, events) (record { later = omega arith; keeps = λ t n c past. past; adds = λ t n c early now. inl now })

-- A machine that is alike tells the same.

pub alike_told : (x y : MemMachine) → IsAlike x y → ◌≡◌ {A = Option (List ℕ × List ℕ)} (Some (texts_of y)) (Some (texts_of x))
alike_told x y alike = ap (λ (t : List ℕ × List ℕ). Some t) alike.texts

pub alike_left : (x y : MemMachine) → IsAlike x y → ◌≡◌ {A = Option (List ℕ)} (Some (drop y.taken y.script)) (Some (drop x.taken x.script))
alike_left x y alike = rw (alike.taken, alike.script) refl

pub alike_other : (w : Which) (x y : MemMachine) → IsAlike x y → ◌≡◌ {A = Option (List ℕ)} (Some (other_of w (files_of y))) (Some (other_of w (files_of x)))
alike_other w x y alike = ap (λ (f : Files). Some (other_of w f)) alike.files
