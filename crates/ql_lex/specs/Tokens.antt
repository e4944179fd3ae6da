-- The tokens of a script, or its first fault.
use Rattle.std.specs.Prelude.{◌≡◌, ℕ, ◌-◌, ◌<◌, ◌≤◌, List, [], ◌∷◌, length, take, drop, Result, Ok, Err, IsTrue, slice_index, ◌==◌, ◌||◌}
use Rattle.std.specs.List.{list_all}
use Rattle.ql_edge.specs.Names.{longest_name}
use Rattle.ql_lex.specs.declared.pieces.Piece.TheVariants as p
use Rattle.ql_lex.specs.declared.token.Flaw.{Flaw}
use Rattle.ql_lex.specs.declared.token.LexFault.{LexFault}
use Rattle.ql_lex.specs.declared.token.Token.{Token}
use Rattle.ql_lex.specs.declared.token.TokenKind.{TokenKind}
use Rattle.ql_lex.specs.declared.token.TokenKind.TheVariants as kind
use Rattle.ql_lex.specs.declared.words.Word.{Word}
use Rattle.ql_lex.specs.Bytes.{is_letter, is_in_word, start}
use Rattle.ql_lex.specs.Fault.{fault_at}
use Rattle.ql_lex.specs.Marks.{mark_bytes}
use Rattle.ql_lex.specs.Numbers.{is_number}
use Rattle.ql_lex.specs.Pieces.{Cuts, Spoils}
use Rattle.ql_lex.specs.Words.{IsWord}

-- what reading a script comes to: all its tokens, or a fault
abbrev pub Outcome : Type 0
Outcome = Result (List Token) LexFault

-- a token in a script of so many bytes: `text` are the bytes from it on, and `rest` those behind it
abbrev pub placed : ℕ → TokenKind → List ℕ → List ℕ → Token
placed total k text rest = record { kind = k; from = total - length text; to = total - length rest }

-- the same with a token before it
abbrev pub with_token : Token → Outcome → Outcome
with_token t (Ok ts) = Ok (t ∷ ts)
with_token t (Err f) = Err f

-- What is left of a script of `total` bytes comes to an outcome: blanks, comments and tokens in turn up to the end, or up to
-- the first place where none of them stands.
pub data Lexes (total : ℕ) : List ℕ → Outcome → Type 0 where
  over : Lexes total [] (Ok [])
  gap : {b : ℕ} {text rest : List ℕ} {o : Outcome} → Cuts (start b text) b text p.Gap rest → Lexes total rest o → Lexes total (b ∷ text) o
  token : {b : ℕ} {text rest : List ℕ} {k : TokenKind} {o : Outcome} →
      Cuts (start b text) b text (p.Token k) rest → Lexes total rest o → Lexes total (b ∷ text) (with_token (placed total k (b ∷ text) rest) o)
  flaw : {b : ℕ} {text : List ℕ} {f : Flaw} → Spoils (start b text) b text f → Lexes total (b ∷ text) (Err (fault_at f (total - length (b ∷ text))))

-- a whole script comes to an outcome
abbrev pub Reads : List ℕ → Outcome → Type 0
Reads source o = Lexes (length source) source o

-- the bytes that a token stands on
abbrev pub spelling_of : List ℕ → Token → List ℕ
spelling_of source t = take (t.to - t.from) (drop t.from source)

-- a spelling is a name: a letter or `_`, then letters, digits and `_`, 128 bytes at most, and no keyword
pub record IsName (spelling : List ℕ) : Type 0 where
  pub some : 0 < length spelling
  pub within : length spelling ≤ longest_name
  pub letter : IsTrue (is_letter (slice_index spelling 0))
  pub letters : IsTrue (list_all is_in_word spelling)
  pub other : (w : Word) → IsWord spelling w → ⊥

-- what holds of the spelling of a token of a kind; a string begins with its quote
abbrev pub IsSpelled : TokenKind → List ℕ → Type 0
IsSpelled kind.Name spelling = IsName spelling
IsSpelled kind.Number spelling = IsTrue (is_number spelling)
IsSpelled kind.Text spelling = IsTrue (slice_index spelling 0 == 34 || slice_index spelling 0 == 96)
IsSpelled (kind.Mark m) spelling = spelling ≡ mark_bytes m
IsSpelled (kind.Word w) spelling = IsWord spelling w

-- a token stands on bytes of the source, and is spelled as its kind is
pub record IsIn (source : List ℕ) (t : Token) : Type 0 where
  pub some : t.from < t.to
  pub within : t.to ≤ length source
  pub spelled : IsSpelled t.kind (spelling_of source t)
