-- The pieces of a script: blanks, comments and tokens.
use Rattle.std.specs.Prelude.{◌≡◌, ℕ, ◌<◌, ◌≤◌, true, false, List, [], ◌∷◌, ◌++◌, length, drop}
use Rattle.std.specs.List.{take_while}
use Rattle.ql_edge.specs.Names.{longest_name}
use Rattle.ql_lex.specs.declared.bytes.Start.{Start}
use Rattle.ql_lex.specs.declared.bytes.Start.TheVariants as s
use Rattle.ql_lex.specs.declared.marks.Mark.{Mark}
use Rattle.ql_lex.specs.declared.pieces.Piece.{Piece}
use Rattle.ql_lex.specs.declared.pieces.Piece.TheVariants as p
use Rattle.ql_lex.specs.declared.token.Flaw.{Flaw}
use Rattle.ql_lex.specs.declared.token.Flaw.TheVariants as flaw
use Rattle.ql_lex.specs.declared.token.TokenKind.{TokenKind}
use Rattle.ql_lex.specs.declared.token.TokenKind.TheVariants as kind
use Rattle.ql_lex.specs.Bytes.{is_in_word, is_in_line, is_in_raw, after, start}
use Rattle.ql_lex.specs.Comments.{ClosesComment, NeverCloses}
use Rattle.ql_lex.specs.Marks.{mark_bytes, IsLongest, HasNoMark}
use Rattle.ql_lex.specs.Numbers.{is_number}
use Rattle.ql_lex.specs.Strings.{ClosesString, SpoilsString}
use Rattle.ql_lex.specs.Words.{Names}

-- a byte and the longest front of letters, digits and `_` behind it
abbrev pub word_of : ℕ → List ℕ → List ℕ
word_of b text = b ∷ take_while is_in_word text

-- A text whose first byte is `b` begins with a piece, and `rest` stands behind it. The first argument is what the text begins.
pub data Cuts : Start → ℕ → List ℕ → Piece → List ℕ → Type 0 where
  blank : {b : ℕ} {text : List ℕ} → Cuts s.Blank b text p.Gap text
  line_comment : {b : ℕ} {text : List ℕ} → Cuts s.LineComment b text p.Gap (after is_in_line text)
  block_comment : {b : ℕ} {text rest : List ℕ} → ClosesComment (drop 1 text) rest → Cuts s.BlockComment b text p.Gap rest
  word : {b : ℕ} {text : List ℕ} {k : TokenKind} →
      length (word_of b text) ≤ longest_name → Names (word_of b text) k → Cuts s.Word b text (p.Token k) (after is_in_word text)
  number : {b : ℕ} {text : List ℕ} →
      is_number (word_of b text) ≡ true → Cuts s.Number b text (p.Token kind.Number) (after is_in_word text)
  raw_string : {b q : ℕ} {text rest : List ℕ} → after is_in_raw text ≡ q ∷ rest → Cuts s.RawString b text (p.Token kind.Text) rest
  string : {b : ℕ} {text rest : List ℕ} → ClosesString text rest → Cuts s.String b text (p.Token kind.Text) rest
  mark : {b : ℕ} {text rest : List ℕ} {m : Mark} →
      b ∷ text ≡ mark_bytes m ++ rest → IsLongest m (b ∷ text) → Cuts s.Other b text (p.Token (kind.Mark m)) rest

-- A text whose first byte is `b` begins with no piece, and why.
pub data Spoils : Start → ℕ → List ℕ → Flaw → Type 0 where
  open_comment : {b : ℕ} {text : List ℕ} → NeverCloses (drop 1 text) → Spoils s.BlockComment b text flaw.Unclosed
  long_word : {b : ℕ} {text : List ℕ} → longest_name < length (word_of b text) → Spoils s.Word b text flaw.BadLiteral
  bad_number : {b : ℕ} {text : List ℕ} → is_number (word_of b text) ≡ false → Spoils s.Number b text flaw.BadLiteral
  open_raw : {b : ℕ} {text : List ℕ} → after is_in_raw text ≡ [] → Spoils s.RawString b text flaw.Unclosed
  bad_string : {b : ℕ} {text : List ℕ} {f : Flaw} → SpoilsString text f → Spoils s.String b text f
  bad_byte : {b : ℕ} {text : List ℕ} → HasNoMark (b ∷ text) → Spoils s.Other b text flaw.BadByte

-- a text is one piece, and nothing stands behind it
abbrev pub IsPiece : List ℕ → Type 0
IsPiece [] = ⊥
IsPiece (b ∷ text) = (q : Piece) × Cuts (start b text) b text q []

-- where a text begins with a piece and `rest` stands behind it, no longer front of the text is a piece
abbrev pub LongestCounts : Type 0
LongestCounts = (b : ℕ) (text : List ℕ) (q : Piece) (rest : List ℕ) → Cuts (start b text) b text q rest → (front behind : List ℕ) → b ∷ text ≡ front ++ behind → IsPiece front → length rest ≤ length behind
