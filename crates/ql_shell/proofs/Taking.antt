-- A script that is read piece by piece.
use Rattle.std.proofs.Common.{◌≡◌, ℕ, ◌+◌, ◌≤◌, List, [], ◌++◌, length, take, drop, Option, Some, None, Result, Ok, Err, IfErr, IsErrAnd, ◌⊎◌, inl, inr, IfSome, option_map, refl, sym, ap, ◌∙◌, append_assoc, length-append, append-nil, drop-drop, arith}
use Rattle.std.proofs.lemmas.List.{take-append-drop, drop_all}
use Rattle.std.proofs.Math.Seq.{drop-append_seam}
use Rattle.ql_shell.specs.Comes.{longest_script}
use Rattle.ql_shell.specs.Run.{AddsPiece, Takes, TakesAll, TakesAtMost, TakesInput, EndsScript}
use Rattle.ql_shell.specs.declared.status.Status.{Status}
use Rattle.ql_shell.specs.declared.status.Status.TheVariants.{Done, Script, Refused, Usage, Fault, NoMemory}
use Rattle.ql_shell.specs.declared.status.ScriptFault.TheVariants.{TooLong, BadByte, BadLiteral, Unclosed, Unexpected, TooNested}
use Rattle.ql_shell.specs.declared.words.Command.{Command}
use Rattle.ql_shell.specs.declared.words.Command.TheVariants as command

pub piece_added : (source grown out : List ℕ) (n : ℕ) (before now : Option (List ℕ)) → grown ≡ source ++ take n out → now ≡ option_map (drop n) before
    → IfSome before (λ script. take n out ≡ take n script) → AddsPiece source grown before now
piece_added source grown out n None now e f same = ap (option_map (λ rest. grown ++ rest)) f
piece_added source grown out n (Some script) now e f same =
    ap (option_map (λ rest. grown ++ rest)) f
    ∙ ap (λ t. Some (t ++ drop n script)) (e ∙ ap (λ t. source ++ t) same)
    ∙ ap Some (append_assoc source (take n script) (drop n script) ∙ ap (λ t. source ++ t) (take-append-drop n script))

-- what is left is the script without what was read
pub left_after : (source : List ℕ) (before now : Option (List ℕ)) → AddsPiece [] source before now → now ≡ option_map (drop (length source)) before
left_after source None None e = refl
left_after source None (Some rest) e = cc
left_after source (Some script) None e = cc
left_after source (Some script) (Some rest) e =
    let whole : source ++ rest ≡ script = cc in
    ap Some (sym (drop-append_seam source rest) ∙ ap (drop (length source)) whole)

-- nothing is left: what was read is the script
pub whole_script : (source : List ℕ) (before now : Option (List ℕ)) → AddsPiece [] source before now → IfSome now (λ rest. rest ≡ []) → before ≡ option_map (λ _. source) before
whole_script source None now e none = refl
whole_script source (Some script) None e none = cc
whole_script source (Some script) (Some rest) e none =
    let whole : source ++ rest ≡ script = cc in
    ap Some (sym whole ∙ ap (λ t. source ++ t) none ∙ append-nil source)

pub nothing_left : (source : List ℕ) (before now : Option (List ℕ)) → AddsPiece [] source before now → IfSome now (λ rest. rest ≡ []) → now ≡ option_map (λ _. []) before
nothing_left source None None e none = refl
nothing_left source None (Some rest) e none = cc
nothing_left source (Some script) None e none = cc
nothing_left source (Some script) (Some rest) e none = ap Some none

pub script_is_longer : (source : List ℕ) (before now : Option (List ℕ)) (n : ℕ) → AddsPiece [] source before now → n ≤ length source → IfSome before (λ script. n ≤ length script)
script_is_longer source None now n e within = tt
script_is_longer source (Some script) None n e within = cc
script_is_longer source (Some script) (Some rest) n e within =
    let whole : source ++ rest ≡ script = cc in
    omega (arith, ap length whole, length-append source rest)

pub dropped_twice : (k n : ℕ) (before mid now : Option (List ℕ)) → mid ≡ option_map (drop k) before → now ≡ option_map (drop n) mid → (m : ℕ) × (now ≡ option_map (drop m) before)
dropped_twice k n None mid now e f = (0, f ∙ ap (option_map (drop n)) e)
dropped_twice k n (Some script) mid now e f = (k + n, f ∙ ap (option_map (drop n)) e ∙ ap Some (drop-drop n k script))

drop_none : (before : Option (List ℕ)) → option_map (drop 0) before ≡ before
drop_none None = refl
drop_none (Some script) = refl

-- so much more was taken of what was left
pub takes_more : (k n most : ℕ) (before mid now : Option (List ℕ)) → mid ≡ option_map (drop k) before → k + n ≤ most → now ≡ option_map (drop n) mid → TakesAtMost most before now
takes_more k n most None mid now e within f = (0, omega arith, f ∙ ap (option_map (drop n)) e)
takes_more k n most (Some script) mid now e within f = (k + n, within, f ∙ ap (option_map (drop n)) e ∙ ap Some (drop-drop n k script))

pub takes_some : (n most : ℕ) (before now : Option (List ℕ)) → now ≡ option_map (drop n) before → n ≤ most → TakesAtMost most before now
takes_some n most before now e within = (n, within, e)

pub takes_nothing : (most : ℕ) (before now : Option (List ℕ)) → now ≡ before → TakesAtMost most before now
takes_nothing most before now e = (0, omega arith, e ∙ sym (drop_none before))

-- a fault or want of memory says only that some of the script was taken
pub takes_part : {T : Type 0} (r : Result T Status) (s : Status) (before now : Option (List ℕ)) → IsErrAnd r (λ e. e ≡ s) → (s ≡ Fault) ⊎ (s ≡ NoMemory)
    → (n : ℕ) × (now ≡ option_map (drop n) before) → IfErr r (λ e. TakesInput e before now)
takes_part (Ok _) s before now is which part = absurd is
takes_part (Err e) s before now is (inl fault) part = let same : e ≡ Fault = is ∙ fault in rw same part
takes_part (Err e) s before now is (inr memory) part = let same : e ≡ NoMemory = is ∙ memory in rw same part

drop_whole : (before now : Option (List ℕ)) → now ≡ option_map (λ _. []) before → (n : ℕ) × (now ≡ option_map (drop n) before)
drop_whole None now h = (0, h)
drop_whole (Some script) now h = (length script, h ∙ ap Some (sym (drop_all (length script) script (omega arith))))

-- however much was taken, it was a front of the script
input_memory : (s : Status) (before now : Option (List ℕ)) → TakesInput s before now → (n : ℕ) × (now ≡ option_map (drop n) before)
input_memory Fault before now h = h
input_memory NoMemory before now h = h
input_memory (Usage _) before now h = (0, h ∙ sym (drop_none before))
input_memory (Script TooLong) before now h = (longest_script + 1, h)
input_memory (Script (BadByte _)) before now h = drop_whole before now h
input_memory (Script (BadLiteral _)) before now h = drop_whole before now h
input_memory (Script (Unclosed _)) before now h = drop_whole before now h
input_memory (Script (Unexpected _)) before now h = drop_whole before now h
input_memory (Script (TooNested _)) before now h = drop_whole before now h
input_memory Done before now h = drop_whole before now h
input_memory (Refused _ _) before now h = drop_whole before now h

pub takes_memory : (asked : Command) (s : Status) (before now : Option (List ℕ)) → Takes asked s before now → Takes asked NoMemory before now
takes_memory (command.Usage _) s before now h = h
takes_memory (command.Text _) s before now h = h
takes_memory command.Input s before now h = input_memory s before now h

-- nothing was read
pub takes_none : (asked : Command) (before now : Option (List ℕ)) → now ≡ before → Takes asked NoMemory before now
takes_none (command.Usage _) before now h = h
takes_none (command.Text _) before now h = h
takes_none command.Input before now h = (0, h ∙ sym (drop_none before))

-- all of the input was read, and a script that is not too long was carried out
input_all : (s : Status) (before now : Option (List ℕ)) → EndsScript s → now ≡ option_map (λ _. []) before → TakesInput s before now
input_all Fault before now ends h = drop_whole before now h
input_all NoMemory before now ends h = drop_whole before now h
input_all (Usage _) before now ends h = absurd ends
input_all (Script TooLong) before now ends h = absurd ends
input_all (Script (BadByte _)) before now ends h = h
input_all (Script (BadLiteral _)) before now ends h = h
input_all (Script (Unclosed _)) before now ends h = h
input_all (Script (Unexpected _)) before now ends h = h
input_all (Script (TooNested _)) before now ends h = h
input_all Done before now ends h = h
input_all (Refused _ _) before now ends h = h

pub takes_all : (asked : Command) (s : Status) (before now : Option (List ℕ)) → EndsScript s → TakesAll asked before now → Takes asked s before now
takes_all (command.Usage _) s before now ends h = h
takes_all (command.Text _) s before now ends h = h
takes_all command.Input s before now ends h = input_all s before now ends h
