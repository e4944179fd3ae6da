-- Two files and the record of their calls agree after one more call.
use Rattle.std.proofs.Common.{◌≡◌, ℕ, ◌≤◌, true, List, [], ◌∷◌, ◌++◌, length, le-leb, ◌∙◌, ap, sym, Result, Ok, Err, OnOk, OnErr}
use Rattle.ql_edge.specs.Events.{step_of, steps_of, read_by, read_after, is_valid, are_valid}
use Rattle.ql_edge.specs.Images.{read_event, valid_event}
use Rattle.ql_edge.specs.declared.event.Event.{Event}
use Rattle.ql_edge.specs.declared.event.Step.TheVariants as step
use Rattle.ql_edge.specs.declared.fault.NoMemory.{NoMemory}
use Rattle.ql_edge.specs.declared.volume.Which.{Which}

pub recorded_read : (w : Which) (es now : List Event) (e : Event) (f bytes : List ℕ) → now ≡ es ++ e ∷ [] → read_after (steps_of w es) f ≡ bytes → read_after (steps_of w now) f ≡ read_by (step_of w e) bytes
recorded_read w es now e f bytes is reads = rw is (read_event w es e f ∙ ap (read_by (step_of w e)) reads)

pub recorded_valid : (w : Which) (es now : List Event) (e : Event) (f bytes : List ℕ) → now ≡ es ++ e ∷ [] → read_after (steps_of w es) f ≡ bytes → are_valid (steps_of w es) f ≡ true → is_valid (step_of w e) bytes ≡ true → are_valid (steps_of w now) f ≡ true
recorded_valid w es now e f bytes is reads valid more = rw is (valid_event w es e f valid (rw reads more))

pub wrote_valid : (at : ℕ) (piece f : List ℕ) → at ≤ length f → is_valid (step.Wrote at piece) f ≡ true
wrote_valid at piece f within = le-leb at (length f) within

pub cut_valid : (to : ℕ) (f : List ℕ) → to ≤ length f → is_valid (step.Cut to) f ≡ true
cut_valid to f within = le-leb to (length f) within

-- a call that leaves what is read was recorded, or none
pub quiet_read : (r : Result Unit NoMemory) (w : Which) (es now : List Event) (e : Event) (f bytes : List ℕ) → OnOk r (now ≡ es ++ e ∷ []) → OnErr r (now ≡ es) → read_by (step_of w e) bytes ≡ bytes → read_after (steps_of w es) f ≡ bytes → read_after (steps_of w now) f ≡ bytes
quiet_read (Ok _) w es now e f bytes ok err quiet reads = recorded_read w es now e f bytes ok reads ∙ quiet
quiet_read (Err _) w es now e f bytes ok err quiet reads = rw err reads

-- a call that changes what is read was recorded, or none
pub changed_read : (r : Result Unit NoMemory) (w : Which) (es now : List Event) (e : Event) (f bytes file : List ℕ) → OnOk r (now ≡ es ++ e ∷ []) → OnErr r (now ≡ es) → OnOk r (file ≡ read_by (step_of w e) bytes) → OnErr r (file ≡ bytes) → read_after (steps_of w es) f ≡ bytes → read_after (steps_of w now) f ≡ file
changed_read (Ok _) w es now e f bytes file ok err is same reads = recorded_read w es now e f bytes ok reads ∙ sym is
changed_read (Err _) w es now e f bytes file ok err is same reads = rw err (reads ∙ sym same)

pub either_valid : (r : Result Unit NoMemory) (w : Which) (es now : List Event) (e : Event) (f bytes : List ℕ) → OnOk r (now ≡ es ++ e ∷ []) → OnErr r (now ≡ es) → read_after (steps_of w es) f ≡ bytes → are_valid (steps_of w es) f ≡ true → is_valid (step_of w e) bytes ≡ true → are_valid (steps_of w now) f ≡ true
either_valid (Ok _) w es now e f bytes ok err reads valid more = recorded_valid w es now e f bytes ok reads valid more
either_valid (Err _) w es now e f bytes ok err reads valid more = rw err valid
