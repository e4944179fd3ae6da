-- What words and a script mean, and how a run answers it.
use Rattle.std.proofs.Common.{◌≡◌, ℕ, ◌<◌, List, [], length, Option, Some, None, Result, Ok, Err, inl, inr, refl, sym, ap, ◌∙◌, arith}
use Rattle.ql_edge.specs.Told.{Told, with_shown}
use Rattle.ql_syntax.specs.declared.statement.Statement.{Statement}
use Rattle.ql_shell.specs.Comes.{Comes, too_long, bad_byte, bad_literal, unclosed, unexpected, too_nested, read, read_as, longest_script}
use Rattle.ql_shell.specs.Meaning.{Answer, answered, answer_of, course_of, told_script, Means, usage, script}
use Rattle.ql_shell.specs.Run.{Gives, IsFinal, IsUnread, IsScript, IsTooLong, EndsEarly, TellsScript}
use Rattle.ql_shell.specs.declared.options.Options.{Options}
use Rattle.ql_shell.specs.declared.status.ScriptFault.{ScriptFault}
use Rattle.ql_shell.specs.declared.status.ScriptFault.TheVariants as fault
use Rattle.ql_shell.specs.declared.status.Status.{Status}
use Rattle.ql_shell.specs.declared.status.Status.TheVariants.{Done, Script, Refused, Usage, Fault, NoMemory}
use Rattle.ql_shell.specs.declared.words.Command.{Command}
use Rattle.ql_shell.specs.declared.words.Command.TheVariants as command
use Rattle.ql_shell.proofs.Outcomes.{IsAnswer}
use Rattle.ql_shell.proofs.Pieces.{shown_none, front_none}

-- the script on hand is the one that is told
script_is : (asked : Command) (input : Option (List ℕ)) (source text : List ℕ) → IsScript asked input source → told_script asked input ≡ Some text → source ≡ text
script_is (command.Usage _) input source text is told = absurd is
script_is (command.Text t) input source text is told = cc
script_is command.Input None source text is told = cc
script_is command.Input (Some t) source text is told = cc

pub script_told : (asked : Command) (input : Option (List ℕ)) (source : List ℕ) → IsScript asked input source → TellsScript asked input → told_script asked input ≡ Some source
script_told (command.Usage _) input source is tells = absurd is
script_told (command.Text t) input source is tells = ap Some is
script_told command.Input None source is tells = cc
script_told command.Input (Some t) source is tells = is

-- with a script on hand, no word is wrong
no_usage : (asked : Command) (input : Option (List ℕ)) (source : List ℕ) (word : ℕ) → IsScript asked input source → asked ≡ command.Usage word → ⊥
no_usage (command.Usage _) input source word is e = is
no_usage (command.Text _) input source word is e = cc
no_usage command.Input input source word is e = cc

-- a script on hand is carried out
pub gives_script : (options : Options) (asked : Command) (input : Option (List ℕ)) (source : List ℕ) (answer : Answer) (s : Status) (before now : Told) → IsScript asked input source
    → ((outcome : Result (List Statement) ScriptFault) → Comes source outcome → Gives (answer_of options outcome) s before now) → Means options asked input answer → Gives answer s before now
gives_script options asked input source answer s before now is gives (usage {word = word} e a) = absurd (no_usage asked input source word is e)
gives_script options asked input source answer s before now is gives (script {source = text} {outcome = outcome} told comes a) =
    let same : source ≡ text = script_is asked input source text is told in
    let here : Comes source outcome = rw same comes in
    rw a (gives outcome here)

-- a script that is too long comes to that alone
too_long_alone : (source : List ℕ) (outcome : Result (List Statement) ScriptFault) → longest_script < length source → Comes source outcome → outcome ≡ Err fault.TooLong
too_long_alone source _ long (too_long _) = refl
too_long_alone source _ long (bad_byte within _) = absurd (omega arith)
too_long_alone source _ long (bad_literal within _) = absurd (omega arith)
too_long_alone source _ long (unclosed within _) = absurd (omega arith)
too_long_alone source _ long (unexpected within _ _) = absurd (omega arith)
too_long_alone source _ long (too_nested within _ _) = absurd (omega arith)
too_long_alone source _ long (read within _ _) = absurd (omega arith)

told_too_long : (asked : Command) (input : Option (List ℕ)) (text : List ℕ) → IsTooLong asked input → told_script asked input ≡ Some text → longest_script < length text
told_too_long (command.Usage _) input text long told = absurd long
told_too_long (command.Text t) input text long told = let same : t ≡ text = cc in rw same at long
told_too_long command.Input None text long told = cc
told_too_long command.Input (Some t) text long told = let same : t ≡ text = cc in rw same at long

no_text : (asked : Command) (input : Option (List ℕ)) (text : List ℕ) (word : ℕ) → asked ≡ command.Usage word → told_script asked input ≡ Some text → ⊥
no_text (command.Usage _) input text word e told = cc
no_text (command.Text _) input text word e told = cc
no_text command.Input input text word e told = cc

usage_is_short : (asked : Command) (input : Option (List ℕ)) (word : ℕ) → IsTooLong asked input → asked ≡ command.Usage word → ⊥
usage_is_short (command.Usage _) input word long e = long
usage_is_short (command.Text _) input word long e = cc
usage_is_short command.Input input word long e = cc

-- the status and nothing shown
gives_status : (s : Status) (answer : Answer) (before now : Told) → answer ≡ record { text = []; status = s } → IsFinal s → now ≡ before → (s ≡ answer.status) × (now ≡ with_shown answer.text before)
gives_status s answer before now e final same = rw e (refl, same ∙ sym (shown_none before))

-- a run that ended before there was a script
pub gives_early : (options : Options) (asked : Command) (input : Option (List ℕ)) (s : Status) (answer : Answer) (before now : Told) → EndsEarly asked input s → now ≡ before
    → Means options asked input answer → Gives answer s before now
gives_early options asked input Fault answer before now ends same means = rw same (front_none answer.text before)
gives_early options asked input NoMemory answer before now ends same means = rw same (front_none answer.text before)
gives_early options asked input (Usage word) answer before now ends same (usage {word = other} e a) =
    let number : word ≡ other = let both : command.Usage word ≡ command.Usage other = sym ends ∙ e in cc in
    gives_status (Usage word) answer before now (rw number a) tt same
gives_early options asked input (Usage word) answer before now ends same (script {source = text} told comes a) = absurd (no_text asked input text word ends told)
gives_early options asked input (Script fault.TooLong) answer before now ends same (usage {word = word} e a) = absurd (usage_is_short asked input word ends e)
gives_early options asked input (Script fault.TooLong) answer before now ends same (script {source = text} {outcome = outcome} told comes a) =
    let alone : outcome ≡ Err fault.TooLong = too_long_alone text outcome (told_too_long asked input text ends told) comes in
    gives_status (Script fault.TooLong) answer before now (a ∙ ap (answer_of options) alone) tt same
gives_early options asked input (Script (fault.BadByte _)) answer before now ends same means = absurd ends
gives_early options asked input (Script (fault.BadLiteral _)) answer before now ends same means = absurd ends
gives_early options asked input (Script (fault.Unclosed _)) answer before now ends same means = absurd ends
gives_early options asked input (Script (fault.Unexpected _)) answer before now ends same means = absurd ends
gives_early options asked input (Script (fault.TooNested _)) answer before now ends same means = absurd ends
gives_early options asked input Done answer before now ends same means = absurd ends
gives_early options asked input (Refused _ _) answer before now ends same means = absurd ends

means_too_long : (options : Options) (asked : Command) (input : Option (List ℕ)) → IsTooLong asked input → TellsScript asked input
    → (answer : Answer) × Means options asked input answer × (Script fault.TooLong ≡ answer.status)
means_too_long options (command.Usage _) input long tells = absurd long
means_too_long options (command.Text t) input long tells = (answer_of options (Err fault.TooLong), script {source = t} refl (too_long long) refl, refl)
means_too_long options command.Input None long tells = cc
means_too_long options command.Input (Some t) long tells = (answer_of options (Err fault.TooLong), script {source = t} refl (too_long long) refl, refl)

pub means_early : (options : Options) (asked : Command) (input : Option (List ℕ)) (s : Status) → EndsEarly asked input s → TellsScript asked input → IsFinal s
    → (answer : Answer) × Means options asked input answer × (s ≡ answer.status)
means_early options asked input Fault ends tells final = absurd final
means_early options asked input NoMemory ends tells final = absurd final
means_early options asked input (Usage word) ends tells final = (record { text = []; status = Usage word }, usage ends refl, refl)
means_early options asked input (Script fault.TooLong) ends tells final = means_too_long options asked input ends tells
means_early options asked input (Script (fault.BadByte _)) ends tells final = absurd ends
means_early options asked input (Script (fault.BadLiteral _)) ends tells final = absurd ends
means_early options asked input (Script (fault.Unclosed _)) ends tells final = absurd ends
means_early options asked input (Script (fault.Unexpected _)) ends tells final = absurd ends
means_early options asked input (Script (fault.TooNested _)) ends tells final = absurd ends
means_early options asked input Done ends tells final = absurd ends
means_early options asked input (Refused _ _) ends tells final = absurd ends

-- statements that were read are what the script comes to
pub gives_read : (options : Options) (ss : List Statement) (outcome : Result (List Statement) ScriptFault) (s : Status) (before now : Told)
    → IsAnswer (Ok ss) (read_as outcome) → Gives (answered (course_of options ss)) s before now → Gives (answer_of options outcome) s before now
gives_read options ss (Ok other) s before now (inl e) given = let same : ss ≡ other = cc in rw same at given
gives_read options ss (Err f) s before now (inl e) given = cc
gives_read options ss outcome s before now (inr e) given = cc

-- so is a fault
pub gives_unread : (options : Options) (status : Status) (outcome : Result (List Statement) ScriptFault) (before now : Told)
    → IsAnswer (Err status) (read_as outcome) → now ≡ before → Gives (answer_of options outcome) status before now
gives_unread options status (Ok ss) before now (inl e) same = cc
gives_unread options status (Err f) before now (inl e) same =
    let is : status ≡ Script f = cc in rw is (refl, same ∙ sym (shown_none before))
gives_unread options status outcome before now (inr e) same = let is : status ≡ NoMemory = cc in rw (is, same) (front_none (answer_of options outcome).text before)

pub means_unread : (options : Options) (source : List ℕ) (s : Status) → IsUnread s → IsFinal s → ((f : ScriptFault) → s ≡ Script f → Comes source (Err f))
    → (outcome : Result (List Statement) ScriptFault) × Comes source outcome × (s ≡ (answer_of options outcome).status)
means_unread options source (Script f) unread final comes = (Err f, comes f refl, refl)
means_unread options source NoMemory unread final comes = absurd final
means_unread options source Fault unread final comes = absurd final
means_unread options source Done unread final comes = absurd unread
means_unread options source (Refused _ _) unread final comes = absurd unread
means_unread options source (Usage _) unread final comes = absurd unread
