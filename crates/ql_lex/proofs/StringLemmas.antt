-- Interpreted strings, one byte or escape after another.
use Rattle.std.proofs.Common.{◌≡◌, ℕ, List, [], ◌∷◌, refl, sym, ◌∙◌, ap, Result, Ok, Err}
use Rattle.ql_lex.specs.declared.strings.StringByte.{StringByte}
use Rattle.ql_lex.specs.declared.strings.StringByte.TheVariants as s
use Rattle.ql_lex.specs.declared.escapes.Code.{Code}
use Rattle.ql_lex.specs.declared.token.Flaw.{Flaw}
use Rattle.ql_lex.specs.declared.token.Flaw.TheVariants as flaw
use Rattle.ql_lex.specs.Escapes.{escape_at}
use Rattle.ql_lex.specs.Strings.{byte_in_string, ClosesAfter, SpoilsAfter, quote, plain, escape, ended, newline, bad_escape, after_plain, after_escape, ClosesString, SpoilsString}

-- however the string goes on from `now`, it goes on so from `all`
pub record GoesOn (now all : List ℕ) : Type 0 where
  pub closes : (rest : List ℕ) → ClosesString now rest → ClosesString all rest
  pub spoils : (f : Flaw) → SpoilsString now f → SpoilsString all f

pub goes_on_same : (all : List ℕ) → GoesOn all all
goes_on_same all = record { closes = λ rest h. h; spoils = λ f h. h }

plain_closes : (now : List ℕ) (b : ℕ) (text rest : List ℕ) → now ≡ b ∷ text → byte_in_string b ≡ s.Plain → ClosesString text rest → ClosesString now rest
plain_closes now b text rest e p h = rw (e, p) (plain h)

plain_spoils : (now : List ℕ) (b : ℕ) (text : List ℕ) (f : Flaw) → now ≡ b ∷ text → byte_in_string b ≡ s.Plain → SpoilsString text f → SpoilsString now f
plain_spoils now b text f e p h = rw (e, p) (after_plain h)

pub over_plain : (now all : List ℕ) (b : ℕ) (text : List ℕ) → GoesOn now all → now ≡ b ∷ text → byte_in_string b ≡ s.Plain → GoesOn text all
over_plain now all b text g e p =
    record { closes = λ rest h. g.closes rest (plain_closes now b text rest e p h); spoils = λ f h. g.spoils f (plain_spoils now b text f e p h) }

escape_closes : (now : List ℕ) (b : ℕ) (text behind rest : List ℕ) (code : Code) → now ≡ b ∷ text → byte_in_string b ≡ s.Backslash → escape_at text ≡ Ok (code, behind) → ClosesString behind rest → ClosesString now rest
escape_closes now b text behind rest code e p w h = rw (e, p) (escape w h)

escape_spoils : (now : List ℕ) (b : ℕ) (text behind : List ℕ) (code : Code) (f : Flaw) → now ≡ b ∷ text → byte_in_string b ≡ s.Backslash → escape_at text ≡ Ok (code, behind) → SpoilsString behind f → SpoilsString now f
escape_spoils now b text behind code f e p w h = rw (e, p) (after_escape w h)

pub over_escape : (now all : List ℕ) (b : ℕ) (text behind : List ℕ) (code : Code) → GoesOn now all → now ≡ b ∷ text → byte_in_string b ≡ s.Backslash → escape_at text ≡ Ok (code, behind) → GoesOn behind all
over_escape now all b text behind code g e p w =
    record { closes = λ rest h. g.closes rest (escape_closes now b text behind rest code e p w h); spoils = λ f h. g.spoils f (escape_spoils now b text behind code f e p w h) }

at_quote_of : (now : List ℕ) (b : ℕ) (rest : List ℕ) → now ≡ b ∷ rest → byte_in_string b ≡ s.Quote → ClosesString now rest
at_quote_of now b rest e p = rw (e, p) quote

pub at_quote : (now all : List ℕ) (b : ℕ) (rest : List ℕ) → GoesOn now all → now ≡ b ∷ rest → byte_in_string b ≡ s.Quote → ClosesString all rest
at_quote now all b rest g e p = g.closes rest (at_quote_of now b rest e p)

at_newline_of : (now : List ℕ) (b : ℕ) (rest : List ℕ) → now ≡ b ∷ rest → byte_in_string b ≡ s.Newline → SpoilsString now flaw.BadLiteral
at_newline_of now b rest e p = rw (e, p) newline

pub at_newline : (now all : List ℕ) (b : ℕ) (rest : List ℕ) → GoesOn now all → now ≡ b ∷ rest → byte_in_string b ≡ s.Newline → SpoilsString all flaw.BadLiteral
at_newline now all b rest g e p = g.spoils flaw.BadLiteral (at_newline_of now b rest e p)

at_end_of : (now : List ℕ) → now ≡ [] → SpoilsString now flaw.Unclosed
at_end_of now e = rw e ended

pub at_end : (now all : List ℕ) → GoesOn now all → now ≡ [] → SpoilsString all flaw.Unclosed
at_end now all g e = g.spoils flaw.Unclosed (at_end_of now e)

at_bad_escape_of : (now : List ℕ) (b : ℕ) (text : List ℕ) (f : Flaw) → now ≡ b ∷ text → byte_in_string b ≡ s.Backslash → escape_at text ≡ Err f → SpoilsString now f
at_bad_escape_of now b text f e p w = rw (e, p) (bad_escape w)

pub at_bad_escape : (now all : List ℕ) (b : ℕ) (text : List ℕ) (f : Flaw) → GoesOn now all → now ≡ b ∷ text → byte_in_string b ≡ s.Backslash → escape_at text ≡ Err f → SpoilsString all f
at_bad_escape now all b text f g e p w = g.spoils f (at_bad_escape_of now b text f e p w)

same_behind : (text one other : List ℕ) (c d : Code) → escape_at text ≡ Ok (c, one) → escape_at text ≡ Ok (d, other) → one ≡ other
same_behind text one other c d e f =
    let same : ◌≡◌ {A = Result (Code × List ℕ) Flaw} (Ok (c, one)) (Ok (d, other)) = sym e ∙ f in
    let pairs : (c, one) ≡ (d, other) = cc in
    ap (λ (x : Code × List ℕ). x.1) pairs

-- what stands behind a string is one thing
pub closes_once : {x : StringByte} {text rest other : List ℕ} → ClosesAfter x text rest → ClosesAfter x text other → rest ≡ other
closes_once quote quote = refl
closes_once (plain h) (plain k) = closes_once h k
closes_once (escape {text = text} {behind = one} {code = c} e h) (escape {behind = other} {rest = rest} {code = d} f k) =
    let same = same_behind text one other c d e f in
    let moved : ClosesString one rest = rw same k in
    closes_once h moved

-- a string that closes is not spoiled
pub closes_not_spoils : {x : StringByte} {text rest : List ℕ} {f : Flaw} → ClosesAfter x text rest → SpoilsAfter x text f → ⊥
closes_not_spoils quote x = elim x [ ]
closes_not_spoils (plain h) (after_plain k) = closes_not_spoils h k
closes_not_spoils (escape e h) (bad_escape f) = cc
closes_not_spoils (escape {text = text} {behind = one} {code = c} e h) (after_escape {behind = other} {code = d} {f = flaw} f k) =
    let same = same_behind text one other c d e f in
    let moved : SpoilsString one flaw = rw same k in
    closes_not_spoils h moved

-- a string is spoiled in one way
pub spoils_once : {x : StringByte} {text : List ℕ} {f g : Flaw} → SpoilsAfter x text f → SpoilsAfter x text g → f ≡ g
spoils_once ended ended = refl
spoils_once newline newline = refl
spoils_once (bad_escape e) (bad_escape f) = cc
spoils_once (bad_escape e) (after_escape f k) = cc
spoils_once (after_plain h) (after_plain k) = spoils_once h k
spoils_once (after_escape e h) (bad_escape f) = cc
spoils_once (after_escape {text = text} {behind = one} {code = c} e h) (after_escape {behind = other} {code = d} {f = flaw} f k) =
    let same = same_behind text one other c d e f in
    let moved : SpoilsString one flaw = rw same k in
    spoils_once h moved
