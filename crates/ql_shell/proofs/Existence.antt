-- Every script comes to something, and means something.
use Rattle.std.proofs.Common.{◌≡◌, ℕ, ◌-◌, ◌<◌, ◌≤◌, ◌⊎◌, inl, inr, true, false, List, ◌∷◌, length, refl}
use Rattle.std.proofs.lemmas.Bool.{false≢true}
use Rattle.std.proofs.lemmas.Bool.Decides.{leb_tells}
use Rattle.std.proofs.Math.Dec.{leb}
use Rattle.std.specs.Prelude.{Option, Some, None, Result, Ok, Err}
use Rattle.ql_lex.specs.declared.token.Flaw.{Flaw}
use Rattle.ql_lex.specs.declared.token.Flaw.TheVariants as flaw
use Rattle.ql_lex.specs.declared.token.LexFault.TheVariants as lex
use Rattle.ql_lex.specs.declared.token.Token.{Token}
use Rattle.ql_lex.specs.Fault.{fault_at}
use Rattle.ql_lex.specs.Tokens.{Outcome, Lexes, Reads}
use Rattle.ql_lex.specs.Tokens as lexes
use Rattle.ql_lex.proofs.TotalLemmas.{outcome}
use Rattle.ql_parse.specs.ScriptLaws as laws
use Rattle.ql_parse.proofs.ScriptLemmas.{script_laws}
use Rattle.ql_syntax.specs.declared.statement.Statement.{Statement}
use Rattle.ql_syntax.specs.Lexemes.{lexemes}
use Rattle.ql_shell.specs.Comes.{Comes, too_long, bad_byte, bad_literal, unclosed, unexpected, too_nested, read}
use Rattle.ql_shell.specs.Comes.{longest_script}
use Rattle.ql_shell.specs.declared.options.Options.{Options}
use Rattle.ql_shell.specs.declared.status.ScriptFault.{ScriptFault}
use Rattle.ql_shell.specs.declared.words.Command.{Command}
use Rattle.ql_shell.specs.declared.words.Command.TheVariants as command
use Rattle.ql_shell.specs.Meaning.{Answer, Means, usage, script}
use Rattle.ql_shell.specs.Run.{TellsScript}

-- something that a source comes to
abbrev pub Something : List ℕ → Type 0
Something source = (o : Result (List Statement) ScriptFault) × Comes source o

-- no definition of tokens speaks of memory
flaw_not_memory : (f : Flaw) (at : ℕ) → fault_at f at ≡ lex.NoMemory → ⊥
flaw_not_memory flaw.BadByte at e = cc
flaw_not_memory flaw.BadLiteral at e = cc
flaw_not_memory flaw.Unclosed at e = cc

not_memory : {total : ℕ} {text : List ℕ} {o : Outcome} → Lexes total text o → o ≡ Err lex.NoMemory → ⊥
not_memory lexes.over e = cc
not_memory (lexes.gap c h) e = not_memory h e
not_memory (lexes.token {o = Ok ts} c h) e = cc
not_memory (lexes.token {o = Err f} c h) e = not_memory h e
not_memory {total = total} (lexes.flaw {b = b} {text = text} {f = f} s) e =
    let same : fault_at f (total - length (b ∷ text)) ≡ lex.NoMemory = cc in
    flaw_not_memory f (total - length (b ∷ text)) same

some_script : (source : List ℕ) (ts : List Token) → length source ≤ longest_script → Reads source (Ok ts) → laws.Outcome (lexemes source ts) → Something source
some_script source ts within h (laws.read ss k) = (Ok ss, read within h k)
some_script source ts within h (laws.unexpected i k) = (_, unexpected within h k)
some_script source ts within h (laws.nested i k) = (_, too_nested within h k)

some_tokens : (source : List ℕ) (o : Outcome) → length source ≤ longest_script → Reads source o → Something source
some_tokens source (Ok ts) within h = some_script source ts within h (script_laws.some_outcome (lexemes source ts))
some_tokens source (Err (lex.BadByte at)) within h = (_, bad_byte within h)
some_tokens source (Err (lex.BadLiteral at)) within h = (_, bad_literal within h)
some_tokens source (Err (lex.Unclosed at)) within h = (_, unclosed within h)
some_tokens source (Err lex.NoMemory) within h = absurd (not_memory h refl)

pub something : (source : List ℕ) → Something source
something source = by (leb_tells (length source) longest_script)
  where
    by : ((leb (length source) longest_script ≡ true) × (length source ≤ longest_script)) ⊎ ((leb (length source) longest_script ≡ false) × (longest_script < length source)) → Something source
    by (inl h) = let o = outcome source in some_tokens source o.0 h.1 o.1
    by (inr h) = (_, too_long h.1)

-- words, and a script that is told, mean something
pub meant : (options : Options) (asked : Command) (input : Option (List ℕ)) → TellsScript asked input → (answer : Answer) × Means options asked input answer
meant options (command.Usage word) input tells = (_, usage refl refl)
meant options (command.Text text) input tells = let o = something text in (_, script refl o.1 refl)
meant options command.Input (Some source) tells = let o = something source in (_, script refl o.1 refl)
meant options command.Input None tells = absurd (false≢true tells)
