-- What one token gives, and where it fails.
use Rattle.std.proofs.Common.{◌≡◌, ℕ, Bool, true, false, List, [], ◌∷◌, length, drop, refl, ap}
use Rattle.ql_lex.specs.declared.token.TokenKind.{TokenKind}
use Rattle.std.specs.Prelude.{Some, Result, Ok, Err, IsErrAnd, IfErr}
use Rattle.ql_syntax.specs.Lexemes.{Lexeme, sees, kind_at, text_at}
use Rattle.ql_syntax.specs.Rules.{Rule, token, maybe, bracketed}
use Rattle.ql_syntax.specs.Readings.{Parse, leaf, present, absent, takes, left_out, entered, other_token, unexpected}
use Rattle.ql_cursor.specs.Parses.{Gives, Fails, Answers, AnswersEnclosed, no_value}
use Rattle.ql_syntax.specs.Trees.{is_present}
use Rattle.ql_cursor.specs.declared.fault.Fault.{Fault}
use Rattle.ql_cursor.specs.declared.fault.Fault.TheVariants as f

-- a token that passes is taken
pub gives_token : {A : Type 0} (n : ℕ) (test : Lexeme → Bool) (tree : Parse → A) (old new : List Lexeme) (value : A) → sees test old ≡ true → new ≡ drop 1 old
    → ((t : Lexeme) (ts : List Lexeme) → old ≡ t ∷ ts → value ≡ tree (leaf t)) → Gives n (token test) tree old value new
gives_token n test tree [] new value e d h = cc
gives_token n test tree (t ∷ ts) new value e d h = rw d (record { parse = leaf t; reads = takes e; means = h t ts refl })

-- one that does not pass is unexpected
pub fails_token : (n : ℕ) (test : Lexeme → Bool) (old : List Lexeme) (d : Fault) → sees test old ≡ false → d ≡ f.Unexpected (length old) → Fails n (token test) old d
fails_token n test old d e g = record { stops = λ no. (unexpected old, other_token e, g) }

-- want of memory fails anywhere
pub fails_memory : (n : ℕ) (x : Rule) (old : List Lexeme) (d : Fault) → d ≡ f.NoMemory → Fails n x old d
fails_memory n x old d e = record { stops = λ no. absurd (no e) }

-- a token that may be left out
pub gives_maybe : (n : ℕ) (test : Lexeme → Bool) (old new : List Lexeme) → sees test old ≡ true → new ≡ drop 1 old → Gives n (maybe (token test)) is_present old true new
gives_maybe n test [] new e d = cc
gives_maybe n test (t ∷ ts) new e d = rw d (record { parse = present (leaf t); reads = entered e (takes e); means = refl })

pub gives_absent : (n : ℕ) (test : Lexeme → Bool) (old new : List Lexeme) → sees test old ≡ false → new ≡ old → Gives n (maybe (token test)) is_present old false new
gives_absent n test old new e d = rw d (record { parse = absent; reads = left_out e; means = refl })

-- what a function fails with is what it answers
pub exits : {A : Type 0} {n : ℕ} {x : Rule} {old : List Lexeme} (tree : Parse → A) (new : List Lexeme) (r : Result A Fault) (d : Fault) → IsErrAnd r (λ e. e ≡ d) → Fails n x old d → Answers n x tree old r new
exits tree new (Ok value) d e h = absurd e
exits {n = n} {x = x} {old = old} tree new (Err fault) d e h = rw e h

-- the next token by its kind
pub head_is : (ts : List Lexeme) (k : TokenKind) → kind_at ts ≡ Some k → ts ≡ record { kind = k; text = text_at ts } ∷ drop 1 ts
head_is [] k e = cc
head_is (t ∷ ts) k e =
    let same : t.kind ≡ k = cc in
    ap (λ (j : TokenKind). record { kind = j; text = t.text } ∷ ts) same

-- the same of brackets
pub exits_enclosed : {A : Type 0} {n : ℕ} {x : Rule} {old : List Lexeme} (tree : Parse → A) (new : List Lexeme) (r : Result A Fault) (d : Fault) → IsErrAnd r (λ e. e ≡ d)
    → Fails n (bracketed x) old d → AnswersEnclosed n x tree old r new
exits_enclosed tree new (Ok value) d e h = absurd e
exits_enclosed {n = n} {x = x} {old = old} tree new (Err fault) d e h = rw e h

-- a token that was seen is taken
pub taken : (n : ℕ) {test : Lexeme → Bool} {old new : List Lexeme} → sees test old ≡ true → new ≡ drop 1 old → Gives n (token test) no_value old tt new
taken n {test = test} {old = old} {new = new} e d = gives_token n test no_value old new tt e d (λ t ts f. refl)

-- the same of an answer without a value
pub fails_with : {A : Type 0} {n : ℕ} {x : Rule} {old : List Lexeme} (r : Result A Fault) (d : Fault) → IsErrAnd r (λ e. e ≡ d) → Fails n x old d → IfErr r (Fails n x old)
fails_with (Ok value) d e h = tt
fails_with {n = n} {x = x} {old = old} (Err fault) d e h = rw e h
