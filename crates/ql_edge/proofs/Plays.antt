-- Calls that are done to a file again, one by one.
use Rattle.std.proofs.Common.{◌≡◌, ℕ, zero, suc, ◌+◌, ◌-◌, ◌≤◌, Bool, true, false, ◌&&◌, if◌then◌else◌, List, [], ◌∷◌, ◌++◌, length, length-append, length-drop, length-take, Result, Ok, Err, IfOk, leb-true, take, drop, map, refl, arith, add-one, ◌∙◌, ap, sym}
use Rattle.std.proofs.lemmas.List.{take_all, length-map}
use Rattle.ql_edge.specs.Events.{step_of, steps_of, read_by, read_after, is_valid, are_valid, is_sync, counted, synced_calls, synced_after, flipped_after, complement, complemented, turned, image_of, shown_after, AreImagesAt}
use Rattle.ql_edge.specs.Disk.{Files}
use Rattle.ql_edge.specs.Images.{length_put, image_left}
use Rattle.ql_edge.specs.declared.image.Image.{Image}
use Rattle.ql_edge.specs.declared.fault.NoMemory.{NoMemory}
use Rattle.ql_edge.specs.declared.event.Event.{Event}
use Rattle.ql_edge.specs.declared.event.Step.{Step}
use Rattle.ql_edge.specs.declared.event.Step.TheVariants as step
use Rattle.ql_edge.specs.declared.volume.Which.{Which}
use Rattle.ql_edge.specs.declared.volume.Which.TheVariants as which

-- these calls are left to be done to `now`, and then the file is what all of them make of `start`
pub record Plays (turns : Bool) (w : Which) (all : List Event) (start : List ℕ) (left : List Event) (now : List ℕ) : Type 0 where
  pub goes : read_after (map (turned turns) (steps_of w left)) now ≡ read_after (map (turned turns) (steps_of w all)) start
  pub valid : are_valid (map (turned turns) (steps_of w left)) now ≡ true

and_parts : (x y : Bool) → (x && y) ≡ true → (x ≡ true) × (y ≡ true)
and_parts true y e = (refl, e)
and_parts false y e = cc

-- the next of them may be done
pub next_valid : (turns : Bool) (w : Which) (all : List Event) (start : List ℕ) (e : Event) (left : List Event) (now : List ℕ) → Plays turns w all start (e ∷ left) now → is_valid (turned turns (step_of w e)) now ≡ true
next_valid turns w all start e left now plays = (and_parts (is_valid (turned turns (step_of w e)) now) _ plays.valid).0

-- and leaves the others
pub next_event : (turns : Bool) (w : Which) (all : List Event) (start : List ℕ) (e : Event) (left : List Event) (now : List ℕ) → Plays turns w all start (e ∷ left) now → Plays turns w all start left (read_by (turned turns (step_of w e)) now)
next_event turns w all start e left now plays = record { goes = plays.goes; valid = (and_parts (is_valid (turned turns (step_of w e)) now) _ plays.valid).1 }

-- calls that are not complemented are as they were
pub not_turned : (ss : List Step) → map (turned false) ss ≡ ss
not_turned [] = refl
not_turned (s ∷ ss) = ap (λ (xs : List Step). s ∷ xs) (not_turned ss)

pub all_turned : (ss : List Step) → map (turned true) ss ≡ map complemented ss
all_turned [] = refl
all_turned (s ∷ ss) = ap (λ (xs : List Step). complemented s ∷ xs) (all_turned ss)

-- the calls up to a number of them, and those behind
pub valid_parts : (k : ℕ) (ss : List Step) (f : List ℕ) → are_valid ss f ≡ true → (are_valid (take k ss) f ≡ true) × (are_valid (drop k ss) (read_after (take k ss) f) ≡ true)
valid_parts zero ss f valid = (refl, valid)
valid_parts (suc k) [] f valid = (refl, refl)
valid_parts (suc k) (s ∷ ss) f valid =
    let parts = and_parts (is_valid s f) (are_valid ss (read_by s f)) valid in
    let rest = valid_parts k ss (read_by s f) parts.1 in
    (rw (parts.0) rest.0, rest.1)

pub read_parts : (k : ℕ) (ss : List Step) (f : List ℕ) → read_after (drop k ss) (read_after (take k ss) f) ≡ read_after ss f
read_parts zero ss f = refl
read_parts (suc k) [] f = refl
read_parts (suc k) (s ∷ ss) f = read_parts k ss (read_by s f)

take_map : (w : Which) (k : ℕ) (es : List Event) → steps_of w (take k es) ≡ take k (steps_of w es)
take_map w zero es = refl
take_map w (suc k) [] = refl
take_map w (suc k) (e ∷ es) = ap (λ (xs : List Step). step_of w e ∷ xs) (take_map w k es)

drop_map : (w : Which) (k : ℕ) (es : List Event) → steps_of w (drop k es) ≡ drop k (steps_of w es)
drop_map w zero es = refl
drop_map w (suc k) [] = refl
drop_map w (suc k) (e ∷ es) = drop_map w k es

counted_one : (b : Bool) → counted b zero ≡ (if b then 1 else 0)
counted_one true = refl
counted_one false = refl

counted_more : (b c : Bool) (n m : ℕ) → counted b (if c then n + 1 else m) ≡ (if c then suc n + 1 else counted b m)
counted_more true true n m = rw (add-one n, add-one (suc n)) refl
counted_more false true n m = rw (add-one n, add-one (suc n)) refl
counted_more b false n m = refl

-- where the calls up to the last sync end, with one more call
pub synced_push : (w : Which) (es : List Event) (e : Event) → synced_calls (steps_of w (es ++ e ∷ [])) ≡ (if is_sync (step_of w e) then length es + 1 else synced_calls (steps_of w es))
synced_push w [] e = counted_one (is_sync (step_of w e))
synced_push w (d ∷ es) e = ap (counted (is_sync (step_of w d))) (synced_push w es e) ∙ counted_more (is_sync (step_of w d)) (is_sync (step_of w e)) (length es) (synced_calls (steps_of w es))

-- The images that a machine gives, as they are made.

-- the events from a place to the end
pub rest_events : (k : ℕ) (es : List Event) → take (length es - k) (drop k es) ≡ drop k es
rest_events k es = take_all _ _ (omega (arith, length-drop k es))

pub front_valid : (w : Which) (k : ℕ) (es : List Event) (f : List ℕ) → are_valid (steps_of w es) f ≡ true → are_valid (steps_of w (take k es)) f ≡ true
front_valid w k es f valid = rw (take_map w k es) (valid_parts k (steps_of w es) f valid).0

pub front_plays : (w : Which) (k : ℕ) (es : List Event) (f : List ℕ) → are_valid (steps_of w es) f ≡ true → are_valid (map (turned false) (steps_of w (take k es))) f ≡ true
front_plays w k es f valid = rw (not_turned (steps_of w (take k es))) (front_valid w k es f valid)

pub front_synced : (w : Which) (k : ℕ) (es : List Event) (f : List ℕ) → k ≡ synced_calls (steps_of w es) → read_after (map (turned false) (steps_of w (take k es))) f ≡ synced_after (steps_of w es) f
front_synced w k es f is = rw (not_turned (steps_of w (take k es)), take_map w k es, is) refl

back_valid : (w : Which) (k : ℕ) (es : List Event) (f : List ℕ) → are_valid (steps_of w es) f ≡ true → are_valid (steps_of w (drop k es)) (read_after (steps_of w (take k es)) f) ≡ true
back_valid w k es f valid = rw (take_map w k es, drop_map w k es) (valid_parts k (steps_of w es) f valid).1

-- a call that writes other bytes may be done where the one that it stands for may
turned_valid : (turns : Bool) (s : Step) (f g : List ℕ) → length g ≡ length f → is_valid s f ≡ true → is_valid (turned turns s) g ≡ true
turned_valid false step.Stayed f g long valid = refl
turned_valid false (step.Wrote at piece) f g long valid = rw long valid
turned_valid false (step.Cut to) f g long valid = rw long valid
turned_valid false step.Synced f g long valid = refl
turned_valid true step.Stayed f g long valid = refl
turned_valid true (step.Wrote at piece) f g long valid = rw long valid
turned_valid true (step.Cut to) f g long valid = rw long valid
turned_valid true step.Synced f g long valid = refl

turned_long : (turns : Bool) (s : Step) (f g : List ℕ) → is_valid s f ≡ true → length g ≡ length f → length (read_by (turned turns s) g) ≡ length (read_by s f)
turned_long false step.Stayed f g valid long = long
turned_long false (step.Wrote at piece) f g valid long = length_put at piece g (omega (arith, long, leb-true at (length f) valid)) ∙ rw long (sym (length_put at piece f (leb-true at (length f) valid)))
turned_long false (step.Cut to) f g valid long = length-take to g ∙ rw long (sym (length-take to f))
turned_long false step.Synced f g valid long = long
turned_long true step.Stayed f g valid long = long
turned_long true (step.Wrote at piece) f g valid long = length_put at (map complement piece) g (omega (arith, long, leb-true at (length f) valid)) ∙ rw (length-map piece complement, long) (sym (length_put at piece f (leb-true at (length f) valid)))
turned_long true (step.Cut to) f g valid long = length-take to g ∙ rw long (sym (length-take to f))
turned_long true step.Synced f g valid long = long

all_turned_valid : (turns : Bool) (ss : List Step) (f g : List ℕ) → length g ≡ length f → are_valid ss f ≡ true → are_valid (map (turned turns) ss) g ≡ true
all_turned_valid turns [] f g long valid = refl
all_turned_valid turns (s ∷ ss) f g long valid =
    let parts = and_parts (is_valid s f) (are_valid ss (read_by s f)) valid in
    rw (turned_valid turns s f g long parts.0) (all_turned_valid turns ss (read_by s f) (read_by (turned turns s) g) (turned_long turns s f g parts.0 long) parts.1)

pub back_plays : (turns : Bool) (w : Which) (k : ℕ) (es : List Event) (f now : List ℕ) → now ≡ read_after (map (turned false) (steps_of w (take k es))) f → are_valid (steps_of w es) f ≡ true → are_valid (map (turned turns) (steps_of w (drop k es))) now ≡ true
back_plays turns w k es f now is valid =
    rw (is, not_turned (steps_of w (take k es))) (all_turned_valid turns (steps_of w (drop k es)) (read_after (steps_of w (take k es)) f) (read_after (steps_of w (take k es)) f) refl (back_valid w k es f valid))

pub back_read : (w : Which) (k : ℕ) (es : List Event) (f now : List ℕ) → now ≡ read_after (map (turned false) (steps_of w (take k es))) f → read_after (map (turned false) (steps_of w (drop k es))) now ≡ read_after (steps_of w es) f
back_read w k es f now is = rw (is, not_turned (steps_of w (drop k es)), not_turned (steps_of w (take k es)), take_map w k es, drop_map w k es) (read_parts k (steps_of w es) f)

pub back_flipped : (w : Which) (k : ℕ) (es : List Event) (f now : List ℕ) → k ≡ synced_calls (steps_of w es) → now ≡ read_after (map (turned false) (steps_of w (take k es))) f → read_after (map (turned true) (steps_of w (drop k es))) now ≡ flipped_after (steps_of w es) f
back_flipped w k es f now at is = rw (is, all_turned (steps_of w (drop k es)), not_turned (steps_of w (take k es)), take_map w k es, drop_map w k es, at) refl

-- the images are what a stop after the first k calls may leave
pub images_at : (pick k : ℕ) (first : Files) (es : List Event) → k ≤ length es → are_valid (steps_of which.Data es) first.0 ≡ true → are_valid (steps_of which.Log es) first.1 ≡ true
    → AreImagesAt first es k (shown_after 0 (take k es)) (image_of pick (steps_of which.Data (take k es)) first.0, image_of pick (steps_of which.Log (take k es)) first.1)
images_at pick k first es within data_valid log_valid = record {
  within = within;
  images = record { of_data = image_left pick (steps_of which.Data (take k es)) first.0 (front_valid which.Data k es first.0 data_valid); of_log = image_left pick (steps_of which.Log (take k es)) first.1 (front_valid which.Log k es first.1 log_valid) };
  shown = refl;
}

-- the last call made the file stable
pub synced_last : (w : Which) (all es : List Event) (e : Event) → all ≡ es ++ e ∷ [] → is_sync (step_of w e) ≡ true → synced_calls (steps_of w all) ≡ length all
synced_last w all es e is sync =
    let long : length (es ++ e ∷ []) ≡ length es + 1 = length-append es (e ∷ []) in
    rw (is, synced_push w es e, sync, long) refl

-- or it did not
pub synced_before : (w : Which) (all es : List Event) (e : Event) → all ≡ es ++ e ∷ [] → is_sync (step_of w e) ≡ false → synced_calls (steps_of w all) ≡ synced_calls (steps_of w es)
synced_before w all es e is none = rw (is, synced_push w es e, none) refl

-- the same, where the images are known by equations
pub images_made : (pick k n : ℕ) (first : Files) (es : List Event) (on_data on_log : List ℕ) → k ≤ length es → are_valid (steps_of which.Data es) first.0 ≡ true → are_valid (steps_of which.Log es) first.1 ≡ true
    → on_data ≡ image_of pick (steps_of which.Data (take k es)) first.0 → on_log ≡ image_of pick (steps_of which.Log (take k es)) first.1 → n ≡ shown_after 0 (take k es) → AreImagesAt first es k n (on_data, on_log)
images_made pick k n first es on_data on_log within data_valid log_valid data_is log_is shown_is = rw (data_is, log_is, shown_is) (images_at pick k first es within data_valid log_valid)

-- the same of an answer
pub images_answered : (r : Result Image NoMemory) (pick k : ℕ) (first : Files) (es part : List Event) → part ≡ take k es → k ≤ length es → are_valid (steps_of which.Data es) first.0 ≡ true → are_valid (steps_of which.Log es) first.1 ≡ true
    → IfOk r (λ i. i.data_bytes ≡ image_of pick (steps_of which.Data part) first.0) → IfOk r (λ i. i.log_bytes ≡ image_of pick (steps_of which.Log part) first.1) → IfOk r (λ i. i.shown ≡ shown_after 0 part)
    → IfOk r (λ i. AreImagesAt first es k i.shown (i.data_bytes, i.log_bytes))
images_answered (Err _) pick k first es part is within data_valid log_valid on_data on_log shown = tt
images_answered (Ok i) pick k first es part is within data_valid log_valid on_data on_log shown =
    images_made pick k i.shown first es i.data_bytes i.log_bytes within data_valid log_valid (on_data ∙ ap (λ (xs : List Event). image_of pick (steps_of which.Data xs) first.0) is) (on_log ∙ ap (λ (xs : List Event). image_of pick (steps_of which.Log xs) first.1) is) (shown ∙ ap (λ (xs : List Event). shown_after 0 xs) is)
