-- A printed text is read as its tokens, where each token is cut off as itself.
use Rattle.std.proofs.Common.{◌≡◌, ℕ, ◌-◌, List, [], ◌∷◌, ◌++◌, length, take, drop, Ok, refl, sym, ap, ◌∙◌, append_assoc, arith, length-append}
use Rattle.std.proofs.Math.Seq.{drop-append_seam, take-append_seam}
use Rattle.ql_lex.specs.declared.pieces.Piece.TheVariants as p
use Rattle.ql_lex.specs.declared.token.Token.{Token}
use Rattle.ql_lex.specs.declared.token.TokenKind.{TokenKind}
use Rattle.ql_lex.specs.Bytes.{start}
use Rattle.ql_lex.specs.Pieces as piece
use Rattle.ql_lex.specs.Pieces.{Cuts}
use Rattle.ql_lex.specs.Tokens as lex
use Rattle.ql_lex.specs.Tokens.{Outcome, Lexes, placed, spelling_of}
use Rattle.ql_syntax.specs.Ink.{Ink, space, written, text_of, tokens_of}
use Rattle.ql_syntax.specs.Lexemes.{Lexeme, lexeme, lexemes}

-- before `rest` the token is cut off as itself
pub record IsCut (t : Lexeme) (rest : List ℕ) : Type 0 where
  pub first : ℕ
  pub others : List ℕ
  pub bytes : t.text ≡ first ∷ others
  pub cut : Cuts (start first (others ++ rest)) first (others ++ rest) (p.Token t.kind) rest

-- each token of a printed text is cut off as itself
pub data Lexed : List Ink → Type 0 where
  over : Lexed []
  blank : {inks : List Ink} → Lexed inks → Lexed (space ∷ inks)
  token : {t : Lexeme} {inks : List Ink} → IsCut t (text_of inks) → Lexed inks → Lexed (written t ∷ inks)

-- the tokens of an end of a source are those of a printed text
pub record IsReadAs (source text : List ℕ) (inks : List Ink) : Type 0 where
  pub tokens : List Token
  pub lexes : Lexes (length source) text (Ok tokens)
  pub same : lexemes source tokens ≡ tokens_of inks

-- a token stands where it was printed
spelled : (source front text rest : List ℕ) (k : TokenKind) → source ≡ front ++ (text ++ rest) → spelling_of source (placed (length source) k (text ++ rest) rest) ≡ text
spelled source front text rest k e =
    let size : length source ≡ length (front ++ (text ++ rest)) = ap length e in
    let f = length-append front (text ++ rest) in
    let g = length-append text rest in
    let from : length source - length (text ++ rest) ≡ length front = omega (arith, size, f, g) in
    let count : (length source - length rest) - (length source - length (text ++ rest)) ≡ length text = omega (arith, size, f, g) in
    let here : drop (length front) source ≡ text ++ rest = ap (λ (x : List ℕ). drop (length front) x) e ∙ drop-append_seam front (text ++ rest) in
    ap (λ (n : ℕ). take n (drop (length source - length (text ++ rest)) source)) count ∙ ap (λ (n : ℕ). take (length text) (drop n source)) from
    ∙ ap (λ (x : List ℕ). take (length text) x) here ∙ take-append_seam text rest

same_token : (source front text rest : List ℕ) (t : Lexeme) → text ≡ t.text → source ≡ front ++ (text ++ rest) → lexeme source (placed (length source) t.kind (text ++ rest) rest) ≡ t
same_token source front text rest t e h =
    ap (λ (x : List ℕ). record { kind = t.kind; text = x }) (spelled source front text rest t.kind h ∙ e)

-- one token more
token_more : (source front : List ℕ) (t : Lexeme) (inks : List Ink) → IsCut t (text_of inks) → source ≡ front ++ (t.text ++ text_of inks)
    → IsReadAs source (text_of inks) inks → IsReadAs source (t.text ++ text_of inks) (written t ∷ inks)
token_more source front t inks c e r =
    let text : List ℕ = c.first ∷ c.others in
    let whole : source ≡ front ++ (text ++ text_of inks) = e ∙ ap (λ (x : List ℕ). front ++ (x ++ text_of inks)) c.bytes in
    let one : Token = placed (length source) t.kind (text ++ text_of inks) (text_of inks) in
    let lexes : Lexes (length source) (text ++ text_of inks) (Ok (one ∷ r.tokens)) = lex.token c.cut r.lexes in
    record {
      tokens = one ∷ r.tokens;
      lexes = rw c.bytes lexes;
      same = ap (λ (x : Lexeme). x ∷ lexemes source r.tokens) (same_token source front text (text_of inks) t (sym c.bytes) whole) ∙ ap (λ (x : List Lexeme). t ∷ x) r.same;
    }

read_from : (source front : List ℕ) (inks : List Ink) → Lexed inks → source ≡ front ++ text_of inks → IsReadAs source (text_of inks) inks
read_from source front [] over e = record { tokens = []; lexes = lex.over; same = refl }
read_from source front (space ∷ inks) (blank h) e =
    let r = read_from source (front ++ 32 ∷ []) inks h (e ∙ sym (append_assoc front (32 ∷ []) (text_of inks))) in
    record { tokens = r.tokens; lexes = lex.gap piece.blank r.lexes; same = r.same }
read_from source front (written t ∷ inks) (token c h) e =
    token_more source front t inks c e (read_from source (front ++ t.text) inks h (e ∙ sym (append_assoc front t.text (text_of inks))))

-- a printed text is read as its tokens
pub read_as : (inks : List Ink) → Lexed inks → IsReadAs (text_of inks) (text_of inks) inks
read_as inks h = read_from (text_of inks) [] inks h refl
