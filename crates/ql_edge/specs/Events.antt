-- What a record of device calls says of two files that began with some bytes, all of them on the disk.
use Rattle.std.specs.Prelude.{◌≡◌, ℕ, zero, suc, ◌+◌, ◌-◌, ◌≤◌, Bool, true, false, ◌&&◌, nat_le, List, [], ◌∷◌, length, take, drop, map}
use Rattle.ql_edge.specs.Disk.{Files, put, Torn, Cut}
use Rattle.ql_edge.specs.Stops.{After}
use Rattle.ql_edge.specs.declared.event.Event.{Event}
use Rattle.ql_edge.specs.declared.event.Step.{Step}
use Rattle.ql_edge.specs.declared.event.Step.TheVariants as step
use Rattle.ql_edge.specs.declared.volume.Which.{Which}
use Rattle.ql_edge.specs.declared.volume.Which.TheVariants as which

-- what a call did to one of the files
abbrev pub step_of : Which → Event → Step
step_of which.Data event = event.on_data
step_of which.Log event = event.on_log

-- a call that did this to one of the files and nothing to the other, with n bytes shown after it
abbrev pub on_file : Which → Step → ℕ → Event
on_file which.Data s n = record { on_data = s; on_log = step.Stayed; shown = n }
on_file which.Log s n = record { on_data = step.Stayed; on_log = s; shown = n }

-- a call that did the same to both
abbrev pub on_both : Step → ℕ → Event
on_both s n = record { on_data = s; on_log = s; shown = n }

-- what each of the calls did to one of the files
abbrev pub steps_of : Which → List Event → List Step
steps_of w events = map (step_of w) events

-- what a file that reads `f` reads after a call
abbrev pub read_by : Step → List ℕ → List ℕ
read_by step.Stayed f = f
read_by (step.Wrote at piece) f = put at piece f
read_by (step.Cut to) f = take to f
read_by step.Synced f = f

-- what it reads after all of them
abbrev pub read_after : List Step → List ℕ → List ℕ
read_after [] f = f
read_after (s ∷ ss) f = read_after ss (read_by s f)

-- what a stop may leave of it after a call, where `left` is what one may have left before
abbrev pub left_by : Step → List ℕ → (List ℕ → Type 0) → List ℕ → Type 0
left_by step.Stayed f left = left
left_by (step.Wrote at piece) f left = After (Torn at (length piece)) left
left_by (step.Cut to) f left = After (Cut to) left
left_by step.Synced f left = λ c. c ≡ f

-- what a stop may leave of it after all of them
abbrev pub left_after : List Step → List ℕ → (List ℕ → Type 0) → List ℕ → Type 0
left_after [] f left = left
left_after (s ∷ ss) f left = left_after ss (read_by s f) (left_by s f left)

-- a call may be done to a file that reads `f`: a piece begins within it, and a cut does not lengthen it
abbrev pub is_valid : Step → List ℕ → Bool
is_valid step.Stayed f = true
is_valid (step.Wrote at piece) f = nat_le at (length f)
is_valid (step.Cut to) f = nat_le to (length f)
is_valid step.Synced f = true

abbrev pub are_valid : List Step → List ℕ → Bool
are_valid [] f = true
are_valid (s ∷ ss) f = is_valid s f && are_valid ss (read_by s f)

-- A stop after these calls may leave this of a file that began with some bytes.
pub record IsImage (first : List ℕ) (steps : List Step) (c : List ℕ) : Type 0 where
  pub left : left_after steps first (λ began. began ≡ first) c

-- A stop after these calls may leave this of two files.
pub record AreImages (first : Files) (events : List Event) (c : Files) : Type 0 where
  pub of_data : IsImage first.0 (steps_of which.Data events) c.0
  pub of_log : IsImage first.1 (steps_of which.Log events) c.1

-- how many bytes were shown after these calls
abbrev pub shown_after : ℕ → List Event → ℕ
shown_after n [] = n
shown_after n (e ∷ es) = shown_after e.shown es

-- a stop after the first k of these calls may leave this, with n bytes shown
pub record AreImagesAt (first : Files) (events : List Event) (k n : ℕ) (c : Files) : Type 0 where
  pub within : k ≤ length events
  pub images : AreImages first (take k events) c
  pub shown : n ≡ shown_after 0 (take k events)

-- a stop at some moment since the first t calls may have left this, with n bytes shown
pub record AreImagesSince (first : Files) (events : List Event) (t n : ℕ) (c : Files) : Type 0 where
  pub calls : ℕ
  pub since : t ≤ calls
  pub at : AreImagesAt first events calls n c

-- a call made a file stable
abbrev pub is_sync : Step → Bool
is_sync step.Synced = true
is_sync _ = false

-- the same number for a call and those behind it
abbrev pub counted : Bool → ℕ → ℕ
counted false zero = zero
counted true zero = suc zero
counted sync (suc n) = suc (suc n)

-- how many of the calls there were up to the last that made the file stable
abbrev pub synced_calls : List Step → ℕ
synced_calls [] = zero
synced_calls (s ∷ ss) = counted (is_sync s) (synced_calls ss)

-- the file as it was made stable last
abbrev pub synced_after : List Step → List ℕ → List ℕ
synced_after steps first = read_after (take (synced_calls steps) steps) first

-- a byte with each of its bits turned
abbrev pub complement : ℕ → ℕ
complement b = 255 - b

-- the same call with the bytes complemented that it wrote
abbrev pub complemented : Step → Step
complemented (step.Wrote at piece) = step.Wrote at (map complement piece)
complemented s = s

-- the file as read, with each byte complemented that was written since it was made stable
abbrev pub flipped_after : List Step → List ℕ → List ℕ
flipped_after steps first = read_after (map complemented (drop (synced_calls steps) steps)) (synced_after steps first)

-- the three images that a machine gives: as made stable last, as read, and with what was written since complemented
abbrev pub image_of : ℕ → List Step → List ℕ → List ℕ
image_of zero steps first = synced_after steps first
image_of (suc zero) steps first = read_after steps first
image_of (suc (suc _)) steps first = flipped_after steps first

-- a call as it was, or complemented
abbrev pub turned : Bool → Step → Step
turned false s = s
turned true s = complemented s

-- how many bytes a call wrote
abbrev pub piece_of : Step → ℕ
piece_of (step.Wrote at piece) = length piece
piece_of _ = 0

-- how many bytes the calls wrote, to both files
abbrev pub pieces_of : List Event → ℕ
pieces_of [] = 0
pieces_of (e ∷ es) = piece_of e.on_data + piece_of e.on_log + pieces_of es
