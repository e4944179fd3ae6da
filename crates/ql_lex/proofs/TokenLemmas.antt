-- A script comes to one outcome; and how reading goes on, one piece after another.
use Rattle.std.proofs.Common.{◌≡◌, ℕ, ◌-◌, ◌<◌, ◌≤◌, List, [], ◌∷◌, ◌++◌, length, refl, Ok, Err, arith, append_assoc, append-nil}
use Rattle.ql_lex.specs.declared.pieces.Piece.{Piece}
use Rattle.ql_lex.specs.declared.pieces.Piece.TheVariants as p
use Rattle.ql_lex.specs.declared.token.Flaw.{Flaw}
use Rattle.ql_lex.specs.declared.token.LexFault.{LexFault}
use Rattle.ql_lex.specs.declared.token.Token.{Token}
use Rattle.ql_lex.specs.declared.token.TokenKind.{TokenKind}
use Rattle.ql_lex.specs.Bytes.{start}
use Rattle.ql_lex.specs.Fault.{fault_at}
use Rattle.ql_lex.specs.Pieces.{Cuts, Spoils}
use Rattle.ql_lex.specs.Tokens.{Outcome, placed, with_token, Lexes, over, gap, token, flaw}
use Rattle.ql_lex.proofs.EndLemmas.{cut_shorter}
use Rattle.ql_lex.proofs.OnceLemmas.{cut_once, cut_not_spoils, spoils_once}

same_fault : (f g : Flaw) (place : ℕ) → f ≡ g → ◌≡◌ {A = Outcome} (Err (fault_at f place)) (Err (fault_at g place))
same_fault f g place e = rw e refl

same_token : (total : ℕ) (text rest other : List ℕ) (k j : TokenKind) (o q : Outcome) → p.Token k ≡ p.Token j → rest ≡ other → o ≡ q → with_token (placed total k text rest) o ≡ with_token (placed total j text other) q
same_token total text rest other k j o q e f g =
    let kinds : k ≡ j = cc in
    rw (kinds, f, g) refl

-- a script comes to one outcome
pub lexes_once : {total : ℕ} {text : List ℕ} {o q : Outcome} → Lexes total text o → Lexes total text q → o ≡ q
lexes_once over over = refl
lexes_once {total = total} (gap {rest = rest} h k) (gap {rest = other} {o = q} i j) =
    let same = cut_once h i in
    let moved : Lexes total rest q = rw same.1 j in
    lexes_once k moved
lexes_once (gap h k) (token i j) = let same = (cut_once h i).0 in cc
lexes_once (gap h k) (flaw i) = absurd (cut_not_spoils h i)
lexes_once (token h k) (gap i j) = let same = (cut_once h i).0 in cc
lexes_once {total = total} (token {b = b} {text = text} {rest = rest} {k = k} {o = o} h l) (token {rest = other} {k = j} {o = q} i m) =
    let same = cut_once h i in
    let moved : Lexes total rest q = rw same.1 m in
    same_token total (b ∷ text) rest other k j o q same.0 same.1 (lexes_once l moved)
lexes_once (token h k) (flaw i) = absurd (cut_not_spoils h i)
lexes_once (flaw h) (gap i j) = absurd (cut_not_spoils i h)
lexes_once (flaw h) (token i j) = absurd (cut_not_spoils i h)
lexes_once {total = total} (flaw {b = b} {text = text} {f = f} h) (flaw {f = g} i) = same_fault f g (total - length (b ∷ text)) (spoils_once h i)

-- the outcome with tokens before it
pub with_tokens : List Token → Outcome → Outcome
with_tokens found (Ok ts) = Ok (found ++ ts)
with_tokens found (Err f) = Err f

-- whatever is read from `now` on completes what is read from `all` on, with the tokens found before it
pub record GoesOn (total : ℕ) (found : List Token) (now all : List ℕ) : Type 0 where
  pub goes : (o : Outcome) → Lexes total now o → Lexes total all (with_tokens found o)
  pub within : length now ≤ length all

none_found : (o : Outcome) → with_tokens [] o ≡ o
unfolding with_tokens
none_found (Ok ts) = refl
none_found (Err f) = refl

one_found : (found : List Token) (t : Token) (o : Outcome) → with_tokens found (with_token t o) ≡ with_tokens (found ++ t ∷ []) o
unfolding with_tokens
one_found found t (Ok ts) = rw append_assoc refl
one_found found t (Err f) = refl

all_found : (found : List Token) → with_tokens found (Ok []) ≡ Ok found
unfolding with_tokens
all_found found = rw append-nil refl

flaw_found : (found : List Token) (f : LexFault) → with_tokens found (Err f) ≡ Err f
unfolding with_tokens
flaw_found found f = refl

pub at_start : (total : ℕ) (found : List Token) (all : List ℕ) → found ≡ [] → GoesOn total found all all
at_start total found all e =
    record { goes = λ o h. rw (e, none_found o) h; within = omega arith }

gap_goes : (total : ℕ) (now : List ℕ) (b : ℕ) (text rest : List ℕ) (q : Piece) (o : Outcome) → now ≡ b ∷ text → Cuts (start b text) b text q rest → q ≡ p.Gap → Lexes total rest o → Lexes total now o
gap_goes total now b text rest q o e c f h = rw e (gap (rw f at c) h)

shorter_of : (now : List ℕ) (b : ℕ) (text rest : List ℕ) (q : Piece) → now ≡ b ∷ text → Cuts (start b text) b text q rest → length rest < length now
shorter_of now b text rest q e c =
    let less = cut_shorter c in
    rw e (omega (arith, less))

pub piece_shorter : (now : List ℕ) (b : ℕ) (text rest : List ℕ) (q : Piece) → now ≡ b ∷ text → Cuts (start b text) b text q rest → length rest < length now
piece_shorter = shorter_of

pub over_gap : (total : ℕ) (found : List Token) (now all : List ℕ) (b : ℕ) (text rest : List ℕ) (q : Piece) → GoesOn total found now all → now ≡ b ∷ text → Cuts (start b text) b text q rest → q ≡ p.Gap → GoesOn total found rest all
over_gap total found now all b text rest q g e c f =
    record { goes = λ o h. g.goes o (gap_goes total now b text rest q o e c f h); within = omega (arith, g.within, shorter_of now b text rest q e c) }

token_goes : (total : ℕ) (now : List ℕ) (b : ℕ) (text rest : List ℕ) (q : Piece) (k : TokenKind) (t : Token) (o : Outcome) → now ≡ b ∷ text → Cuts (start b text) b text q rest → q ≡ p.Token k → t ≡ placed total k now rest → Lexes total rest o → Lexes total now (with_token t o)
token_goes total now b text rest q k t o e c f i h = rw (i, e) (token (rw f at c) h)

pub over_token : (total : ℕ) (found more : List Token) (now all : List ℕ) (b : ℕ) (text rest : List ℕ) (q : Piece) (k : TokenKind) (t : Token) → GoesOn total found now all → now ≡ b ∷ text → Cuts (start b text) b text q rest → q ≡ p.Token k → t ≡ placed total k now rest → more ≡ found ++ t ∷ [] → GoesOn total more rest all
over_token total found more now all b text rest q k t g e c f i m =
    record {
      goes = λ o h. rw (m, ← one_found found t o) (g.goes (with_token t o) (token_goes total now b text rest q k t o e c f i h));
      within = omega (arith, g.within, shorter_of now b text rest q e c);
    }

over_of : (total : ℕ) (now : List ℕ) → now ≡ [] → Lexes total now (Ok [])
over_of total now e = rw e over

pub at_end : (total : ℕ) (found : List Token) (now all : List ℕ) → GoesOn total found now all → now ≡ [] → Lexes total all (Ok found)
at_end total found now all g e = rw all_found at (g.goes (Ok []) (over_of total now e))

flaw_of : (total : ℕ) (now : List ℕ) (b : ℕ) (text : List ℕ) (f : Flaw) → now ≡ b ∷ text → Spoils (start b text) b text f → Lexes total now (Err (fault_at f (total - length now)))
flaw_of total now b text f e s = rw e (flaw s)

pub at_flaw : (total : ℕ) (found : List Token) (now all : List ℕ) (b : ℕ) (text : List ℕ) (f : Flaw) → GoesOn total found now all → now ≡ b ∷ text → Spoils (start b text) b text f → Lexes total all (Err (fault_at f (total - length now)))
at_flaw total found now all b text f g e s = rw flaw_found at (g.goes (Err (fault_at f (total - length now))) (flaw_of total now b text f e s))
