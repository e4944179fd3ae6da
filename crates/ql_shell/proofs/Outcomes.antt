-- What a script comes to, from the answers of the lexer and the parser.
use Rattle.std.proofs.Common.{◌≡◌, ◌≢◌, ℕ, ◌≤◌, List, length, Result, Ok, Err, ◌⊎◌, inl, inr, refl, sym, ap, ◌∙◌, arith}
use Rattle.ql_lex.specs.declared.token.LexFault.{LexFault}
use Rattle.ql_lex.specs.declared.token.LexFault.TheVariants as lex
use Rattle.ql_lex.specs.declared.token.Token.{Token}
use Rattle.ql_lex.specs.Tokens.{Outcome, Reads}
use Rattle.ql_parse.specs.declared.fault.ParseFault.{ParseFault}
use Rattle.ql_parse.specs.declared.fault.ParseFault.TheVariants as parse
use Rattle.ql_syntax.specs.declared.statement.Statement.{Statement}
use Rattle.ql_syntax.specs.Lexemes.{lexemes}
use Rattle.ql_syntax.specs.Scripts.{IsUnexpected, IsTooNested}
use Rattle.ql_syntax.specs.Statements.{IsRead}
use Rattle.ql_shell.specs.Cause.{status_of_lexing, status_of_parsing}
use Rattle.ql_shell.specs.Comes.{Comes, too_long, bad_byte, bad_literal, unclosed, unexpected, too_nested, read, read_as, place_of, longest_script}
use Rattle.ql_shell.specs.declared.status.ScriptFault.{ScriptFault}
use Rattle.ql_shell.specs.declared.status.ScriptFault.TheVariants as fault
use Rattle.ql_shell.specs.declared.status.Status.{Status}
use Rattle.ql_shell.specs.declared.status.Status.TheVariants.{Script, NoMemory}

-- a fault of the lexer is the script's
pub lexing_fault : (source : List ℕ) (f : LexFault) (g : ScriptFault) → length source ≤ longest_script → (f ≢ lex.NoMemory → Reads source (Err f))
    → status_of_lexing f ≡ Script g → Comes source (Err g)
lexing_fault source (lex.BadByte at) g within reads e =
    let other : lex.BadByte at ≢ lex.NoMemory = λ same. cc in
    let is : fault.BadByte at ≡ g = cc in rw (← is) (bad_byte within (reads other))
lexing_fault source (lex.BadLiteral at) g within reads e =
    let other : lex.BadLiteral at ≢ lex.NoMemory = λ same. cc in
    let is : fault.BadLiteral at ≡ g = cc in rw (← is) (bad_literal within (reads other))
lexing_fault source (lex.Unclosed at) g within reads e =
    let other : lex.Unclosed at ≢ lex.NoMemory = λ same. cc in
    let is : fault.Unclosed at ≡ g = cc in rw (← is) (unclosed within (reads other))
lexing_fault source lex.NoMemory g within reads e = cc

-- an answer of the lexer is this one, unless memory ran out
abbrev IsLexed : Outcome → Outcome → Type 0
IsLexed answer o = (answer ≡ o) ⊎ (answer ≡ Err lex.NoMemory)

-- the same of the parser
abbrev IsParsed : Result (List Statement) ParseFault → Result (List Statement) ParseFault → Type 0
IsParsed answer r = (answer ≡ r) ⊎ (answer ≡ Err parse.NoMemory)

-- the same of both together
abbrev pub IsAnswer : Result (List Statement) Status → Result (List Statement) Status → Type 0
IsAnswer answer r = (answer ≡ r) ⊎ (answer ≡ Err NoMemory)

no_memory : (f : LexFault) (answer : Result (List Statement) Status) → f ≡ lex.NoMemory → IsAnswer (Err (status_of_lexing f)) answer
no_memory f answer e = rw e (inr refl)

one_fault : (f g : LexFault) → IsLexed (Err f) (Err g) → IsAnswer (Err (status_of_lexing f)) (Err (status_of_lexing g))
one_fault f g (inl e) = let same : f ≡ g = cc in rw same (inl refl)
one_fault f g (inr e) = no_memory f _ (cc)

no_tokens : (f : LexFault) (ts : List Token) (answer : Result (List Statement) Status) → IsLexed (Err f) (Ok ts) → IsAnswer (Err (status_of_lexing f)) answer
no_tokens f ts answer (inl e) = cc
no_tokens f ts answer (inr e) = no_memory f answer (cc)

-- the answer where the lexer gave a fault
pub lexing_only : (source : List ℕ) (f : LexFault) (outcome : Result (List Statement) ScriptFault) → length source ≤ longest_script
    → ((o : Outcome) → Reads source o → IsLexed (Err f) o) → Comes source outcome → IsAnswer (Err (status_of_lexing f)) (read_as outcome)
lexing_only source f _ within only (too_long long) = absurd (omega arith)
lexing_only source f _ within only (bad_byte {at = at} _ reads) = one_fault f (lex.BadByte at) (only (Err (lex.BadByte at)) reads)
lexing_only source f _ within only (bad_literal {at = at} _ reads) = one_fault f (lex.BadLiteral at) (only (Err (lex.BadLiteral at)) reads)
lexing_only source f _ within only (unclosed {at = at} _ reads) = one_fault f (lex.Unclosed at) (only (Err (lex.Unclosed at)) reads)
lexing_only source f _ within only (unexpected {ts = ts} _ reads _) = no_tokens f ts _ (only (Ok ts) reads)
lexing_only source f _ within only (too_nested {ts = ts} _ reads _) = no_tokens f ts _ (only (Ok ts) reads)
lexing_only source f _ within only (read {ts = ts} _ reads _) = no_tokens f ts _ (only (Ok ts) reads)

-- a fault of the parser is the script's
pub parsing_fault : (source : List ℕ) (ts : List Token) (f : ParseFault) (g : ScriptFault) → length source ≤ longest_script → Reads source (Ok ts)
    → ((i : ℕ) → f ≡ parse.Unexpected i → IsUnexpected (lexemes source ts) i) → ((i : ℕ) → f ≡ parse.TooNested i → IsTooNested (lexemes source ts) i)
    → status_of_parsing source ts f ≡ Script g → Comes source (Err g)
parsing_fault source ts (parse.Unexpected i) g within reads at over e =
    let is : fault.Unexpected (place_of source ts i) ≡ g = cc in rw (← is) (unexpected within reads (at i refl))
parsing_fault source ts (parse.TooNested i) g within reads at over e =
    let is : fault.TooNested (place_of source ts i) ≡ g = cc in rw (← is) (too_nested within reads (over i refl))
parsing_fault source ts parse.NoMemory g within reads at over e = cc

-- the answer of reading, from that of the parser
abbrev pub parsed : List ℕ → List Token → Result (List Statement) ParseFault → Result (List Statement) Status
parsed source ts (Ok ss) = Ok ss
parsed source ts (Err f) = Err (status_of_parsing source ts f)

one_parse : (source : List ℕ) (ts : List Token) (r p : Result (List Statement) ParseFault) → IsParsed r p → IsAnswer (parsed source ts r) (parsed source ts p)
one_parse source ts r p (inl e) = inl (ap (parsed source ts) e)
one_parse source ts r p (inr e) = inr (ap (parsed source ts) e)

same_tokens : (ts other : List Token) → IsLexed (Ok ts) (Ok other) → other ≡ ts
same_tokens ts other (inl e) = cc
same_tokens ts other (inr e) = cc

no_fault : (ts : List Token) (f : LexFault) → IsLexed (Ok ts) (Err f) → ⊥
no_fault ts f (inl e) = cc
no_fault ts f (inr e) = cc

-- the answer where the lexer gave tokens
pub parsing_only : (source : List ℕ) (ts : List Token) (r : Result (List Statement) ParseFault) (outcome : Result (List Statement) ScriptFault) → length source ≤ longest_script
    → ((o : Outcome) → Reads source o → IsLexed (Ok ts) o)
    → ((ss : List Statement) → IsRead (lexemes source ts) ss → IsParsed r (Ok ss))
    → ((i : ℕ) → IsUnexpected (lexemes source ts) i → IsParsed r (Err (parse.Unexpected i)))
    → ((i : ℕ) → IsTooNested (lexemes source ts) i → IsParsed r (Err (parse.TooNested i)))
    → Comes source outcome → IsAnswer (parsed source ts r) (read_as outcome)
parsing_only source ts r _ within only reads_on stops over (too_long long) = absurd (omega arith)
parsing_only source ts r _ within only reads_on stops over (bad_byte {at = at} _ reads) = absurd (no_fault ts (lex.BadByte at) (only (Err (lex.BadByte at)) reads))
parsing_only source ts r _ within only reads_on stops over (bad_literal {at = at} _ reads) = absurd (no_fault ts (lex.BadLiteral at) (only (Err (lex.BadLiteral at)) reads))
parsing_only source ts r _ within only reads_on stops over (unclosed {at = at} _ reads) = absurd (no_fault ts (lex.Unclosed at) (only (Err (lex.Unclosed at)) reads))
parsing_only source ts r _ within only reads_on stops over (unexpected {ts = other} {i = i} _ reads at) =
    let same : other ≡ ts = same_tokens ts other (only (Ok other) reads) in
    let here : IsUnexpected (lexemes source ts) i = rw (← same) at in
    rw same (one_parse source ts r (Err (parse.Unexpected i)) (stops i here))
parsing_only source ts r _ within only reads_on stops over (too_nested {ts = other} {i = i} _ reads at) =
    let same : other ≡ ts = same_tokens ts other (only (Ok other) reads) in
    let here : IsTooNested (lexemes source ts) i = rw (← same) at in
    rw same (one_parse source ts r (Err (parse.TooNested i)) (over i here))
parsing_only source ts r _ within only reads_on stops over (read {ts = other} {ss = ss} _ reads is) =
    let same : other ≡ ts = same_tokens ts other (only (Ok other) reads) in
    let here : IsRead (lexemes source ts) ss = rw (← same) is in
    one_parse source ts r (Ok ss) (reads_on ss here)

abbrev refused : Status → Result (List Statement) Status
refused s = Err s

-- the same where the parser's fault was given its place
pub parsing_stopped : (source : List ℕ) (ts : List Token) (f : ParseFault) (g : ScriptFault) (answer : Result (List Statement) Status) → status_of_parsing source ts f ≡ Script g
    → IsAnswer (parsed source ts (Err f)) answer → IsAnswer (Err (Script g)) answer
parsing_stopped source ts f g answer e (inl h) = inl (ap refused (sym e) ∙ h)
parsing_stopped source ts f g answer e (inr h) = inr (ap refused (sym e) ∙ h)
