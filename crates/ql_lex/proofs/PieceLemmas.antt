-- Each kind of piece, from what the code knows of it.
use Rattle.std.proofs.Common.{◌≡◌, ℕ, ◌<◌, ◌≤◌, true, false, List, [], ◌∷◌, ◌++◌, length, drop, sym, ◌∙◌}
use Rattle.ql_edge.specs.Names.{longest_name}
use Rattle.ql_lex.specs.declared.bytes.Start.{Start}
use Rattle.ql_lex.specs.declared.bytes.Start.TheVariants as s
use Rattle.ql_lex.specs.declared.marks.Mark.{Mark}
use Rattle.ql_lex.specs.declared.pieces.Piece.{Piece}
use Rattle.ql_lex.specs.declared.pieces.Piece.TheVariants as p
use Rattle.ql_lex.specs.declared.token.Flaw.{Flaw}
use Rattle.ql_lex.specs.declared.token.Flaw.TheVariants as flaw
use Rattle.ql_lex.specs.declared.token.TokenKind.{TokenKind}
use Rattle.ql_lex.specs.declared.token.TokenKind.TheVariants as kind
use Rattle.ql_lex.specs.Bytes.{is_in_word, is_in_line, is_in_raw, after}
use Rattle.ql_lex.specs.Comments.{ClosesComment, NeverCloses}
use Rattle.ql_lex.specs.Marks.{mark_bytes, IsLongest, HasNoMark}
use Rattle.ql_lex.specs.Numbers.{is_number}
use Rattle.ql_lex.specs.Pieces as piece
use Rattle.ql_lex.specs.Pieces.{word_of, Cuts, Spoils}
use Rattle.ql_lex.specs.Words.{Names}

pub word_cut : (b : ℕ) (text word rest : List ℕ) (k : TokenKind) → word ≡ word_of b text → rest ≡ after is_in_word text → length word ≤ longest_name → Names word k → Cuts s.Word b text (p.Token k) rest
word_cut b text word rest k e r l n = rw r (piece.word (rw e at l) (rw e at n))

pub word_flaw : (b : ℕ) (text word : List ℕ) → word ≡ word_of b text → longest_name < length word → Spoils s.Word b text flaw.BadLiteral
word_flaw b text word e l = piece.long_word (rw e at l)

pub number_cut : (b : ℕ) (text word rest : List ℕ) → word ≡ word_of b text → rest ≡ after is_in_word text → is_number word ≡ true → Cuts s.Number b text (p.Token kind.Number) rest
number_cut b text word rest e r n = rw r (piece.number (rw e at n))

pub number_flaw : (b : ℕ) (text word : List ℕ) → word ≡ word_of b text → is_number word ≡ false → Spoils s.Number b text flaw.BadLiteral
number_flaw b text word e n = piece.bad_number (rw e at n)

pub raw_cut : (b q : ℕ) (text left rest : List ℕ) → left ≡ after is_in_raw text → left ≡ q ∷ rest → Cuts s.RawString b text (p.Token kind.Text) rest
raw_cut b q text left rest e l = piece.raw_string (sym e ∙ l)

pub raw_flaw : (b : ℕ) (text left : List ℕ) → left ≡ after is_in_raw text → left ≡ [] → Spoils s.RawString b text flaw.Unclosed
raw_flaw b text left e l = piece.open_raw (sym e ∙ l)

pub line_cut : (b : ℕ) (text rest : List ℕ) → rest ≡ after is_in_line text → Cuts s.LineComment b text p.Gap rest
line_cut b text rest r = rw r piece.line_comment

pub block_cut : (b : ℕ) (text inside rest : List ℕ) → inside ≡ drop 1 text → ClosesComment inside rest → Cuts s.BlockComment b text p.Gap rest
block_cut b text inside rest e h = piece.block_comment (rw e at h)

pub block_flaw : (b : ℕ) (text inside : List ℕ) → inside ≡ drop 1 text → NeverCloses inside → Spoils s.BlockComment b text flaw.Unclosed
block_flaw b text inside e h = piece.open_comment (rw e at h)

pub mark_cut : (b : ℕ) (text z rest : List ℕ) (m : Mark) → z ≡ b ∷ text → z ≡ mark_bytes m ++ rest → IsLongest m z → Cuts s.Other b text (p.Token (kind.Mark m)) rest
mark_cut b text z rest m e h l = piece.mark (sym e ∙ h) (rw e at l)

pub mark_flaw : (b : ℕ) (text z : List ℕ) → z ≡ b ∷ text → HasNoMark z → Spoils s.Other b text flaw.BadByte
mark_flaw b text z e h = piece.bad_byte (rw e at h)

pub cuts_at : (x y : Start) (b : ℕ) (text : List ℕ) (q : Piece) (rest : List ℕ) → x ≡ y → Cuts x b text q rest → Cuts y b text q rest
cuts_at x y b text q rest e h = rw e at h

pub spoils_at : (x y : Start) (b : ℕ) (text : List ℕ) (f : Flaw) → x ≡ y → Spoils x b text f → Spoils y b text f
spoils_at x y b text f e h = rw e at h
