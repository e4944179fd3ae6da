-- What a record of calls says after one more call, and that what is read and the images that a machine gives are images.
use Rattle.std.proofs.Common.{◌≡◌, ℕ, zero, suc, ◌+◌, ◌≤◌, inl, inr, max, Bool, true, false, ◌&&◌, List, [], ◌∷◌, ◌++◌, length, take, drop, map, Option, Some, refl, arith, length-append, length-take, length-drop, ◌∙◌, ap, sym, subst, leb-true}
use Rattle.std.proofs.lemmas.Bool.{cases_lt}
use Rattle.std.proofs.lemmas.Slice.{drop-append-drop}
use Rattle.std.proofs.lemmas.List.{take_all, take-append-le, length-map, map-append}
use Rattle.ql_edge.specs.Disk.{Files, file_of, put, Torn, Cut, OnFile}
use Rattle.ql_edge.specs.Events.{step_of, on_file, on_both, steps_of, read_by, read_after, left_by, left_after, is_valid, are_valid, IsImage, AreImages, shown_after, AreImagesSince, is_sync, counted, synced_calls, synced_after, complement, complemented, flipped_after, image_of}
use Rattle.ql_edge.specs.Stops.{After, Leaves, Adds, IsSameBut}
use Rattle.ql_edge.specs.declared.event.Event.{Event}
use Rattle.ql_edge.specs.declared.event.Step.{Step}
use Rattle.ql_edge.specs.declared.event.Step.TheVariants as step
use Rattle.ql_edge.specs.declared.volume.Which.{Which}
use Rattle.ql_edge.specs.declared.volume.Which.TheVariants as which

and_parts : (x y : Bool) → (x && y) ≡ true → (x ≡ true) × (y ≡ true)
and_parts true y e = (refl, e)
and_parts false y e = cc

-- One step on a file.

pub length_put : (at : ℕ) (piece bytes : List ℕ) → at ≤ length bytes → length (put at piece bytes) ≡ max (length bytes) (at + length piece)
length_put at piece bytes within = simp (length-append, length-take, length-drop) (omega (arith, within))

before_put : (at : ℕ) (piece bytes : List ℕ) → at ≤ length bytes → take at (put at piece bytes) ≡ take at bytes
before_put at piece bytes within =
    let front : length (take at bytes) ≡ at = length-take at bytes ∙ omega (arith, within) in
    take-append-le at (take at bytes ++ piece) (drop (at + length piece) bytes) (rw (length-append (take at bytes) piece) (omega (arith, front)))
    ∙ take-append-le at (take at bytes) piece (omega (arith, front))
    ∙ take_all at (take at bytes) (omega (arith, front))

after_put : (at : ℕ) (piece bytes : List ℕ) → at ≤ length bytes → drop (at + length piece) (put at piece bytes) ≡ drop (at + length piece) bytes
after_put at piece bytes within =
    let front : length (take at bytes) ≡ at = length-take at bytes ∙ omega (arith, within) in
    drop-append-drop (at + length piece) bytes (take at bytes ++ piece) (at + length piece) (omega arith) (length-append (take at bytes) piece ∙ omega (arith, front))

-- a write that is whole is one that a stop may leave
pub torn_put : (at : ℕ) (piece bytes : List ℕ) → at ≤ length bytes → Torn at (length piece) bytes (put at piece bytes)
torn_put at piece bytes within =
    let long = length_put at piece bytes within in
    record { before = before_put at piece bytes within; after = after_put at piece bytes within; no_shorter = omega (arith, long); no_longer = omega (arith, long) }

-- and so is one that has not begun
pub torn_self : (at n : ℕ) (bytes : List ℕ) → Torn at n bytes bytes
torn_self at n bytes = record { before = refl; after = refl; no_shorter = omega arith; no_longer = omega arith }

pub cut_take : (to : ℕ) (bytes : List ℕ) → to ≤ length bytes → Cut to bytes (take to bytes)
cut_take to bytes within =
    let long : length (take to bytes) ≡ to = length-take to bytes ∙ omega (arith, within) in
    record { before = take_all to (take to bytes) (omega (arith, long)); no_shorter = omega (arith, long, within); no_longer = omega (arith, long, within) }

pub cut_self : (to : ℕ) (bytes : List ℕ) → Cut to bytes bytes
cut_self to bytes = record { before = refl; no_shorter = omega arith; no_longer = omega arith }

-- what is read after a step is what a stop may leave
step_left : (s : Step) (f : List ℕ) (left : List ℕ → Type 0) → is_valid s f ≡ true → left f → left_by s f left (read_by s f)
step_left step.Stayed f left valid now = now
step_left (step.Wrote at piece) f left valid now = (f, now, torn_put at piece f (leb-true at (length f) valid))
step_left (step.Cut to) f left valid now = (f, now, cut_take to f (leb-true to (length f) valid))
step_left step.Synced f left valid now = refl

-- what was there before a step is so too, unless the step made the file stable
stays_by : (s : Step) (f : List ℕ) (left : List ℕ → Type 0) (c : List ℕ) → is_sync s ≡ false → left c → left_by s f left c
stays_by step.Stayed f left c none now = now
stays_by (step.Wrote at piece) f left c none now = (c, now, torn_self at (length piece) c)
stays_by (step.Cut to) f left c none now = (c, now, cut_self to c)
stays_by step.Synced f left c none now = cc

-- All steps, with one more.

pub read_push : (ss : List Step) (s : Step) (f : List ℕ) → read_after (ss ++ s ∷ []) f ≡ read_by s (read_after ss f)
read_push [] s f = refl
read_push (t ∷ ss) s f = read_push ss s (read_by t f)

left_push : (ss : List Step) (s : Step) (f : List ℕ) (left : List ℕ → Type 0) (c : List ℕ) → left_after (ss ++ s ∷ []) f left c → left_by s (read_after ss f) (left_after ss f left) c
left_push [] s f left c now = now
left_push (t ∷ ss) s f left c now = left_push ss s (read_by t f) (left_by t f left) c now

left_push_back : (ss : List Step) (s : Step) (f : List ℕ) (left : List ℕ → Type 0) (c : List ℕ) → left_by s (read_after ss f) (left_after ss f left) c → left_after (ss ++ s ∷ []) f left c
left_push_back [] s f left c now = now
left_push_back (t ∷ ss) s f left c now = left_push_back ss s (read_by t f) (left_by t f left) c now

pub valid_push : (ss : List Step) (s : Step) (f : List ℕ) → are_valid ss f ≡ true → is_valid s (read_after ss f) ≡ true → are_valid (ss ++ s ∷ []) f ≡ true
valid_push [] s f valid more = rw more refl
valid_push (t ∷ ss) s f valid more =
    let parts = and_parts (is_valid t f) (are_valid ss (read_by t f)) valid in
    rw (parts.0) (valid_push ss s (read_by t f) parts.1 more)

-- What is read, and the images that a machine gives, are what a stop may leave.

read_left : (ss : List Step) (f : List ℕ) (left : List ℕ → Type 0) → are_valid ss f ≡ true → left f → left_after ss f left (read_after ss f)
read_left [] f left valid now = now
read_left (s ∷ ss) f left valid now =
    let parts = and_parts (is_valid s f) (are_valid ss (read_by s f)) valid in
    read_left ss (read_by s f) (left_by s f left) parts.1 (step_left s f left parts.0 now)

none_behind : (n : ℕ) (b : Bool) → counted b n ≡ zero → (n ≡ zero) × (b ≡ false)
none_behind zero false e = (refl, refl)
none_behind zero true e = absurd (omega (arith, e))
none_behind (suc n) b e = absurd (omega (arith, e))

stays : (ss : List Step) (f : List ℕ) (left : List ℕ → Type 0) (c : List ℕ) → synced_calls ss ≡ 0 → left c → left_after ss f left c
stays [] f left c none now = now
stays (s ∷ ss) f left c none now =
    let parts = none_behind (synced_calls ss) (is_sync s) none in
    stays ss (read_by s f) (left_by s f left) c parts.0 (stays_by s f left c parts.1 now)

synced_next : (s : Step) (ss : List Step) (f : List ℕ) (left : List ℕ → Type 0) (n : ℕ) (b : Bool) → synced_calls ss ≡ n → is_sync s ≡ b → left f
    → left_after ss (read_by s f) (left_by s f left) (synced_after ss (read_by s f)) → left_after ss (read_by s f) (left_by s f left) (read_after (take (counted b n) (s ∷ ss)) f)
synced_next s ss f left zero false none isnt now behind = stays ss (read_by s f) (left_by s f left) f none (stays_by s f left f isnt now)
synced_next step.Synced ss f left zero true none is now behind = stays ss f (λ c. c ≡ f) f none refl
synced_next step.Stayed ss f left zero true none is now behind = cc
synced_next (step.Wrote at piece) ss f left zero true none is now behind = cc
synced_next (step.Cut to) ss f left zero true none is now behind = cc
synced_next s ss f left (suc n) b some is now behind = subst (λ k. left_after ss (read_by s f) (left_by s f left) (read_after (take k ss) (read_by s f))) some behind

synced_left : (ss : List Step) (f : List ℕ) (left : List ℕ → Type 0) → are_valid ss f ≡ true → left f → left_after ss f left (synced_after ss f)
synced_left [] f left valid now = now
synced_left (s ∷ ss) f left valid now =
    let parts = and_parts (is_valid s f) (are_valid ss (read_by s f)) valid in
    synced_next s ss f left (synced_calls ss) (is_sync s) refl refl now (synced_left ss (read_by s f) (left_by s f left) parts.1 (step_left s f left parts.0 now))

-- a write with other bytes is one that a stop may leave
flipped_by : (s : Step) (f : List ℕ) (left : List ℕ → Type 0) (g : List ℕ) → is_sync s ≡ false → is_valid s f ≡ true → length g ≡ length f → left g → left_by s f left (read_by (complemented s) g)
flipped_by step.Stayed f left g none valid long now = now
flipped_by (step.Wrote at piece) f left g none valid long now =
    let within : at ≤ length g = omega (arith, long, leb-true at (length f) valid) in
    (g, now, subst (λ n. Torn at n g (put at (map complement piece) g)) (length-map piece complement) (torn_put at (map complement piece) g within))
flipped_by (step.Cut to) f left g none valid long now = (g, now, cut_take to g (omega (arith, long, leb-true to (length f) valid)))
flipped_by step.Synced f left g none valid long now = cc

flipped_long : (s : Step) (f g : List ℕ) → is_valid s f ≡ true → length g ≡ length f → length (read_by (complemented s) g) ≡ length (read_by s f)
flipped_long step.Stayed f g valid long = long
flipped_long (step.Wrote at piece) f g valid long =
    let within = leb-true at (length f) valid in
    length_put at (map complement piece) g (omega (arith, within, long)) ∙ rw (length-map piece complement, long) (sym (length_put at piece f within))
flipped_long (step.Cut to) f g valid long = length-take to g ∙ rw long (sym (length-take to f))
flipped_long step.Synced f g valid long = long

pub flips : (ss : List Step) (f : List ℕ) (left : List ℕ → Type 0) (g : List ℕ) → synced_calls ss ≡ 0 → are_valid ss f ≡ true → length g ≡ length f → left g → left_after ss f left (read_after (map complemented ss) g)
flips [] f left g none valid long now = now
flips (s ∷ ss) f left g none valid long now =
    let parts = and_parts (is_valid s f) (are_valid ss (read_by s f)) valid in
    let behind = none_behind (synced_calls ss) (is_sync s) none in
    flips ss (read_by s f) (left_by s f left) (read_by (complemented s) g) behind.0 parts.1 (flipped_long s f g parts.0 long) (flipped_by s f left g behind.1 parts.0 long now)

flipped_next : (s : Step) (ss : List Step) (f : List ℕ) (left : List ℕ → Type 0) (n : ℕ) (b : Bool) → synced_calls ss ≡ n → is_sync s ≡ b → is_valid s f ≡ true → are_valid ss (read_by s f) ≡ true → left f
    → left_after ss (read_by s f) (left_by s f left) (flipped_after ss (read_by s f))
    → left_after ss (read_by s f) (left_by s f left) (read_after (map complemented (drop (counted b n) (s ∷ ss))) (read_after (take (counted b n) (s ∷ ss)) f))
flipped_next s ss f left zero false none isnt valid rest now behind = flips ss (read_by s f) (left_by s f left) (read_by (complemented s) f) none rest (flipped_long s f f valid refl) (flipped_by s f left f isnt valid refl now)
flipped_next step.Synced ss f left zero true none is valid rest now behind = flips ss f (λ c. c ≡ f) f none rest refl refl
flipped_next step.Stayed ss f left zero true none is valid rest now behind = cc
flipped_next (step.Wrote at piece) ss f left zero true none is valid rest now behind = cc
flipped_next (step.Cut to) ss f left zero true none is valid rest now behind = cc
flipped_next s ss f left (suc n) b some is valid rest now behind =
    subst (λ k. left_after ss (read_by s f) (left_by s f left) (read_after (map complemented (drop k ss)) (read_after (take k ss) (read_by s f)))) some behind

flipped_left : (ss : List Step) (f : List ℕ) (left : List ℕ → Type 0) → are_valid ss f ≡ true → left f → left_after ss f left (flipped_after ss f)
flipped_left [] f left valid now = now
flipped_left (s ∷ ss) f left valid now =
    let parts = and_parts (is_valid s f) (are_valid ss (read_by s f)) valid in
    flipped_next s ss f left (synced_calls ss) (is_sync s) refl refl parts.0 parts.1 now (flipped_left ss (read_by s f) (left_by s f left) parts.1 (step_left s f left parts.0 now))

pub image_left : (pick : ℕ) (ss : List Step) (f : List ℕ) → are_valid ss f ≡ true → IsImage f ss (image_of pick ss f)
image_left zero ss f valid = record { left = synced_left ss f (λ c. c ≡ f) valid refl }
image_left (suc zero) ss f valid = record { left = read_left ss f (λ c. c ≡ f) valid refl }
image_left (suc (suc n)) ss f valid = record { left = flipped_left ss f (λ c. c ≡ f) valid refl }

-- One more call on two files.

left_by_more : (s : Step) (f : List ℕ) (P Q : List ℕ → Type 0) (c : List ℕ) → Leaves P Q → left_by s f P c → left_by s f Q c
left_by_more step.Stayed f P Q c more left = more c left
left_by_more (step.Wrote at piece) f P Q c more left = (left.0, more left.0 left.1, left.2)
left_by_more (step.Cut to) f P Q c more left = (left.0, more left.0 left.1, left.2)
left_by_more step.Synced f P Q c more left = left

-- what each call did, with one more
pub steps_push : (w : Which) (es : List Event) (e : Event) → steps_of w (es ++ e ∷ []) ≡ steps_of w es ++ step_of w e ∷ []
steps_push w es e = map-append (step_of w) es (e ∷ [])

pub read_event : (w : Which) (es : List Event) (e : Event) (f : List ℕ) → read_after (steps_of w (es ++ e ∷ [])) f ≡ read_by (step_of w e) (read_after (steps_of w es) f)
read_event w es e f = rw (steps_push w es e) (read_push (steps_of w es) (step_of w e) f)

pub valid_event : (w : Which) (es : List Event) (e : Event) (f : List ℕ) → are_valid (steps_of w es) f ≡ true → is_valid (step_of w e) (read_after (steps_of w es) f) ≡ true → are_valid (steps_of w (es ++ e ∷ [])) f ≡ true
valid_event w es e f valid more = rw (steps_push w es e) (valid_push (steps_of w es) (step_of w e) f valid more)

image_push : (w : Which) (es : List Event) (e : Event) (first c : List ℕ) → IsImage first (steps_of w (es ++ e ∷ [])) c → left_by (step_of w e) (read_after (steps_of w es) first) (IsImage first (steps_of w es)) c
image_push w es e first c image =
    let left : left_after (steps_of w es ++ step_of w e ∷ []) first (λ began. began ≡ first) c = subst (λ ss. left_after ss first (λ began. began ≡ first) c) (steps_push w es e) image.left in
    left_by_more (step_of w e) _ (left_after (steps_of w es) first (λ began. began ≡ first)) (IsImage first (steps_of w es)) c (λ d l. record { left = l }) (left_push (steps_of w es) (step_of w e) first (λ began. began ≡ first) c left)

image_push_back : (w : Which) (es : List Event) (e : Event) (first c : List ℕ) → left_by (step_of w e) (read_after (steps_of w es) first) (IsImage first (steps_of w es)) c → IsImage first (steps_of w (es ++ e ∷ [])) c
image_push_back w es e first c left =
    let plain = left_by_more (step_of w e) (read_after (steps_of w es) first) (IsImage first (steps_of w es)) (left_after (steps_of w es) first (λ began. began ≡ first)) c (λ d i. i.left) left in
    record { left = rw (steps_push w es e) (left_push_back (steps_of w es) (step_of w e) first (λ began. began ≡ first) c plain) }

-- what a stop may leave after a call on one file
left_on : (w : Which) (s : Step) (n : ℕ) (R : List ℕ → List ℕ → Type 0) (first : Files) (es : List Event) → ((f : List ℕ) (left : List ℕ → Type 0) → Leaves (left_by s f left) (After R left))
    → Leaves (AreImages first (es ++ on_file w s n ∷ [])) (After (OnFile w R) (AreImages first es))
left_on which.Data s n R first es steps c now =
    let d = steps _ _ c.0 (image_push which.Data es (on_file which.Data s n) first.0 c.0 now.of_data) in
    ((d.0, c.1), record { of_data = d.1; of_log = image_push which.Log es (on_file which.Data s n) first.1 c.1 now.of_log }, record { stepped = d.2; other = refl })
left_on which.Log s n R first es steps c now =
    let d = steps _ _ c.1 (image_push which.Log es (on_file which.Log s n) first.1 c.1 now.of_log) in
    ((c.0, d.0), record { of_data = image_push which.Data es (on_file which.Log s n) first.0 c.0 now.of_data; of_log = d.1 }, record { stepped = d.2; other = refl })

pub left_write : (w : Which) (at n : ℕ) (piece : List ℕ) (first : Files) (es : List Event) → Leaves (AreImages first (es ++ on_file w (step.Wrote at piece) n ∷ [])) (After (OnFile w (Torn at (length piece))) (AreImages first es))
left_write w at n piece first es = left_on w (step.Wrote at piece) n (Torn at (length piece)) first es (λ f left c now. now)

pub left_cut : (w : Which) (to n : ℕ) (first : Files) (es : List Event) → Leaves (AreImages first (es ++ on_file w (step.Cut to) n ∷ [])) (After (OnFile w (Cut to)) (AreImages first es))
left_cut w to n first es = left_on w (step.Cut to) n (Cut to) first es (λ f left c now. now)

-- after a sync a stop leaves what is read of the file
pub left_sync : (w : Which) (n : ℕ) (first : Files) (es : List Event) → Leaves (AreImages first (es ++ on_file w step.Synced n ∷ [])) (λ c. file_of w c ≡ read_after (steps_of w es) (file_of w first))
left_sync which.Data n first es c now = image_push which.Data es (on_file which.Data step.Synced n) first.0 c.0 now.of_data
left_sync which.Log n first es c now = image_push which.Log es (on_file which.Log step.Synced n) first.1 c.1 now.of_log

-- what is read of a file is an image of it
read_image : (ss : List Step) (f : List ℕ) → are_valid ss f ≡ true → IsImage f ss (read_after ss f)
read_image ss f valid = image_left (suc zero) ss f valid

-- and one that there may have been before
pub left_synced : (w : Which) (n : ℕ) (first : Files) (es : List Event) → are_valid (steps_of w es) (file_of w first) ≡ true → Leaves (AreImages first (es ++ on_file w step.Synced n ∷ [])) (AreImages first es)
left_synced which.Data n first es valid c now = record {
  of_data = subst (IsImage first.0 (steps_of which.Data es)) (sym (left_sync which.Data n first es c now)) (read_image (steps_of which.Data es) first.0 valid);
  of_log = image_push which.Log es (on_file which.Data step.Synced n) first.1 c.1 now.of_log;
}
left_synced which.Log n first es valid c now = record {
  of_data = image_push which.Data es (on_file which.Log step.Synced n) first.0 c.0 now.of_data;
  of_log = subst (IsImage first.1 (steps_of which.Log es)) (sym (left_sync which.Log n first es c now)) (read_image (steps_of which.Log es) first.1 valid);
}

-- after both are made stable, a stop leaves what is read
pub left_attach : (n : ℕ) (first : Files) (es : List Event) → Leaves (AreImages first (es ++ on_both step.Synced n ∷ [])) (λ c. c ≡ (read_after (steps_of which.Data es) first.0, read_after (steps_of which.Log es) first.1))
left_attach n first es c now =
    let d : c.0 ≡ read_after (steps_of which.Data es) first.0 = image_push which.Data es (on_both step.Synced n) first.0 c.0 now.of_data in
    let l : c.1 ≡ read_after (steps_of which.Log es) first.1 = image_push which.Log es (on_both step.Synced n) first.1 c.1 now.of_log in
    rw (← d, ← l) refl

-- what is read of both is what a stop may leave
pub reads_images : (first : Files) (es : List Event) → are_valid (steps_of which.Data es) first.0 ≡ true → are_valid (steps_of which.Log es) first.1 ≡ true → AreImages first es (read_after (steps_of which.Data es) first.0, read_after (steps_of which.Log es) first.1)
reads_images first es data_valid log_valid = record { of_data = read_image (steps_of which.Data es) first.0 data_valid; of_log = read_image (steps_of which.Log es) first.1 log_valid }

-- a call that did nothing to the files changes nothing of what a stop may leave
pub left_plain : (n : ℕ) (first : Files) (es : List Event) → Leaves (AreImages first (es ++ on_both step.Stayed n ∷ [])) (AreImages first es)
left_plain n first es c now = record {
  of_data = image_push which.Data es (on_both step.Stayed n) first.0 c.0 now.of_data;
  of_log = image_push which.Log es (on_both step.Stayed n) first.1 c.1 now.of_log;
}

pub left_plain_back : (n : ℕ) (first : Files) (es : List Event) → Leaves (AreImages first es) (AreImages first (es ++ on_both step.Stayed n ∷ []))
left_plain_back n first es c now = record {
  of_data = image_push_back which.Data es (on_both step.Stayed n) first.0 c.0 now.of_data;
  of_log = image_push_back which.Log es (on_both step.Stayed n) first.1 c.1 now.of_log;
}

-- Moments.

pub shown_push : (n : ℕ) (es : List Event) (e : Event) → shown_after n (es ++ e ∷ []) ≡ e.shown
shown_push n [] e = refl
shown_push n (d ∷ es) e = shown_push d.shown es e

-- one more call is one more moment, at which a stop leaves what it may leave after the call, with the bytes shown by then
pub moments_push : (first : Files) (es : List Event) (e : Event) → Adds (length es) (length (es ++ e ∷ [])) (AreImagesSince first es) (AreImagesSince first (es ++ e ∷ [])) (AreImages first (es ++ e ∷ [])) (λ n. n ≡ e.shown)
moments_push first es e =
    let long : length (es ++ e ∷ []) ≡ length es + 1 = length-append es (e ∷ []) in
    record {
      later = rw long (omega arith);
      keeps = λ t n c past.
          let same : take past.calls (es ++ e ∷ []) ≡ take past.calls es = take-append-le past.calls es (e ∷ []) past.at.within in
          record { calls = past.calls; since = past.since; at = record { within = rw long (omega (arith, past.at.within)); images = rw same past.at.images; shown = rw same past.at.shown } };
      adds = λ t n c early now. elim (cases_lt now.calls (length es + 1)) [
        | inl before ↦
            let within : now.calls ≤ length es = omega (arith, before) in
            let same : take now.calls (es ++ e ∷ []) ≡ take now.calls es = take-append-le now.calls es (e ∷ []) within in
            inl (record { calls = now.calls; since = now.since; at = record { within = within; images = subst (λ xs. AreImages first xs c) same now.at.images; shown = now.at.shown ∙ ap (shown_after 0) same } })
        | inr after ↦
            let whole : take now.calls (es ++ e ∷ []) ≡ es ++ e ∷ [] = take_all now.calls (es ++ e ∷ []) (rw long after) in
            inr (subst (λ xs. AreImages first xs c) whole now.at.images, now.at.shown ∙ ap (shown_after 0) whole ∙ shown_push 0 es e)
      ];
    }

-- what a stop may leave now counts as a moment
pub counts_images : (first : Files) (es : List Event) (t : ℕ) (c : Files) → t ≤ length es → AreImages first es c → AreImagesSince first es t (shown_after 0 es) c
counts_images first es t c early now =
    let whole : take (length es) es ≡ es = take_all (length es) es (omega arith) in
    record { calls = length es; since = early; at = record { within = omega arith; images = rw whole now; shown = rw whole refl } }

-- and since now there is no other
pub only_images : (first : Files) (es : List Event) (n : ℕ) (c : Files) → AreImagesSince first es (length es) n c → AreImages first es c × (n ≡ shown_after 0 es)
only_images first es n c since =
    let whole : take since.calls es ≡ es = take_all since.calls es since.since in
    (subst (λ xs. AreImages first xs c) whole since.at.images, since.at.shown ∙ ap (shown_after 0) whole)

-- a call that did nothing to the files leaves all but the moment, and what was shown between
pub same_push : (first : Files) (es : List Event) (f : Files) (told_old told_new : List ℕ × List ℕ) → length told_old.0 ≤ length told_new.0
    → IsSameBut (Some f) (Some f) (AreImages first es) (AreImages first (es ++ on_both step.Stayed (length told_new.0) ∷ [])) (length es) (length (es ++ on_both step.Stayed (length told_new.0) ∷ []))
    (AreImagesSince first es) (AreImagesSince first (es ++ on_both step.Stayed (length told_new.0) ∷ [])) (Some told_old) (Some told_new)
same_push first es f told_old told_new rises =
    let n = length told_new.0 in
    let moments = moments_push first es (on_both step.Stayed n) in
    record {
      held = refl;
      stops = left_plain n first es;
      stops_back = left_plain_back n first es;
      moments = record {
        later = moments.later;
        keeps = moments.keeps;
        adds = λ t m c early now. elim (moments.adds t m c early now) [
          | inl past ↦ inl past
          | inr more ↦
              let all : m ≡ length told_new.0 = more.1 in
              inr (more.0, record { least = omega (arith, all, rises); most = omega (arith, all) })
        ];
      };
    }

-- the same two times in a row
pub same_twice : {f g h : Option Files} (left_a left_b left_c : Files → Type 0) (a b d : ℕ) (since_a since_b since_c : ℕ → ℕ → Files → Type 0) (told_a told_b told_c : List ℕ × List ℕ)
    → length told_a.0 ≤ length told_b.0 → length told_b.0 ≤ length told_c.0
    → IsSameBut f g left_a left_b a b since_a since_b (Some told_a) (Some told_b) → IsSameBut g h left_b left_c b d since_b since_c (Some told_b) (Some told_c)
    → IsSameBut f h left_a left_c a d since_a since_c (Some told_a) (Some told_c)
same_twice left_a left_b left_c a b d since_a since_b since_c told_a told_b told_c rises rises_on p q = record {
  held = q.held ∙ p.held;
  stops = λ c left. p.stops c (q.stops c left);
  stops_back = λ c left. q.stops_back c (p.stops_back c left);
  moments = record {
    later = omega (arith, p.moments.later, q.moments.later);
    keeps = λ t n c past. q.moments.keeps t n c (p.moments.keeps t n c past);
    adds = λ t n c early now. elim (q.moments.adds t n c (omega (arith, early, p.moments.later)) now) [
      | inl before ↦ elim (p.moments.adds t n c early before) [
        | inl past ↦ inl past
        | inr first ↦ inr (q.stops_back c first.0, record { least = first.1.least; most = omega (arith, first.1.most, rises_on) })
      ]
      | inr second ↦ inr (second.0, record { least = omega (arith, second.1.least, rises); most = second.1.most })
    ];
  };
}

-- the same, where the record of calls is known by an equation
pub same_noted : (first : Files) (es now : List Event) (f : Files) (told_old told_new : List ℕ × List ℕ) → length told_old.0 ≤ length told_new.0 → now ≡ es ++ on_both step.Stayed (length told_new.0) ∷ []
    → IsSameBut (Some f) (Some f) (AreImages first es) (AreImages first now) (length es) (length now) (AreImagesSince first es) (AreImagesSince first now) (Some told_old) (Some told_new)
same_noted first es now f told_old told_new rises is = rw is (same_push first es f told_old told_new rises)
