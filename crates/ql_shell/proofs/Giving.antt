-- What a run gives, by its status.
use Rattle.std.proofs.Common.{◌≡◌, ℕ, List, [], ◌++◌, length, take, Some, None, ◌⊎◌, inl, inr, option_map, refl, sym, ap, ◌∙◌, arith}
use Rattle.std.proofs.lemmas.List.{take_all}
use Rattle.ql_edge.specs.Told.{Told, with_shown, shown_of, warned_of, ShowsFront}
use Rattle.lldb_base.specs.declared.trouble.Trouble.{Trouble}
use Rattle.lldb_base.specs.declared.trouble.Trouble.TheVariants as trouble
use Rattle.ql_shell.specs.Meaning.{Answer}
use Rattle.ql_shell.specs.Pieces.{ShowsText}
use Rattle.ql_shell.specs.Run.{Gives, IsAddedTo, IsFinal}
use Rattle.ql_shell.specs.Stops.{EndsBy}
use Rattle.ql_shell.specs.declared.status.Status.{Status}
use Rattle.ql_shell.specs.declared.status.Status.TheVariants.{Done, Script, Refused, Usage, Fault, NoMemory}
use Rattle.ql_shell.proofs.Pieces.{shown_none}

pub whole_front : (text : List ℕ) (before now : Told) → now ≡ with_shown text before → ShowsFront text before now
whole_front text before now e = record { count = length text; within = omega arith; told = e ∙ ap (λ t. with_shown t before) (sym (take_all (length text) text (omega arith))) }

-- text that is shown leaves what is warned alone
pub warned_with_shown : (text : List ℕ) (told : Told) → warned_of (with_shown text told) ≡ warned_of told
warned_with_shown text None = refl
warned_with_shown text (Some t) = refl

pub shown_with_shown : (text : List ℕ) (told : Told) → shown_of (with_shown text told) ≡ option_map (λ shown. shown ++ text) (shown_of told)
shown_with_shown text None = refl
shown_with_shown text (Some t) = refl

-- whatever the status, a front of the answer's text was shown
pub gives_front : (answer : Answer) (s : Status) (before now : Told) → Gives answer s before now → ShowsFront answer.text before now
gives_front answer Fault before now h = h
gives_front answer NoMemory before now h = h
gives_front answer Done before now h = whole_front _ _ _ h.1
gives_front answer (Script _) before now h = whole_front _ _ _ h.1
gives_front answer (Refused _ _) before now h = whole_front _ _ _ h.1
gives_front answer (Usage _) before now h = whole_front _ _ _ h.1

pub gives_warned : (answer : Answer) (s : Status) (before now : Told) → Gives answer s before now → warned_of now ≡ warned_of before
gives_warned answer s before now h = let f = gives_front answer s before now h in ap warned_of f.told ∙ warned_with_shown (take f.count answer.text) before

-- some of an answer's text was shown, whatever the status
pub gives_shows : (answer : Answer) (s : Status) (before now : Told) → Gives answer s before now → ShowsText before now
gives_shows answer s before now h = let f = gives_front answer s before now h in record { text = take f.count answer.text; told = f.told }

pub shows_nothing : (told : Told) → ShowsText told told
shows_nothing told = record { text = []; told = sym (shown_none told) }

pub shows_added : (before now : Told) → ShowsText before now → IsAddedTo (shown_of before) (shown_of now)
shows_added before now h = (h.text, ap shown_of h.told ∙ shown_with_shown h.text before)

-- without a fault and want of memory the answer was given whole
pub gives_whole : (answer : Answer) (s : Status) (before now : Told) → IsFinal s → Gives answer s before now → (s ≡ answer.status) × (now ≡ with_shown answer.text before)
gives_whole answer Fault before now final h = absurd final
gives_whole answer NoMemory before now final h = absurd final
gives_whole answer Done before now final h = h
gives_whole answer (Script _) before now final h = h
gives_whole answer (Refused _ _) before now final h = h
gives_whole answer (Usage _) before now final h = h

pub final_or_not : (s : Status) → IsFinal s ⊎ (s ≡ Fault) ⊎ (s ≡ NoMemory)
final_or_not Fault = inr (inl refl)
final_or_not NoMemory = inr (inr refl)
final_or_not Done = inl tt
final_or_not (Script _) = inl tt
final_or_not (Refused _ _) = inl tt
final_or_not (Usage _) = inl tt

-- the trouble of a statement leaves a front of the text
pub trouble_gives : (answer : Answer) (t : Trouble) (status : Status) (before now : Told) → EndsBy t status → ShowsFront answer.text before now → Gives answer status before now
trouble_gives answer trouble.Failed status before now is h = rw is h
trouble_gives answer trouble.NoMemory status before now is h = rw is h
trouble_gives answer (trouble.Full _ _) status before now is h = absurd is
trouble_gives answer trouble.Damaged status before now is h = absurd is
