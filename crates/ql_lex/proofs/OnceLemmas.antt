-- A text begins with one piece, or is spoiled in one way, and not both.
use Rattle.std.proofs.Common.{◌≡◌, ℕ, List, ◌∷◌, ◌++◌, drop, refl, sym, ◌∙◌, ap, arith}
use Rattle.ql_lex.specs.declared.bytes.Start.{Start}
use Rattle.ql_lex.specs.declared.marks.Mark.{Mark}
use Rattle.ql_lex.specs.declared.pieces.Piece.{Piece}
use Rattle.ql_lex.specs.declared.pieces.Piece.TheVariants as p
use Rattle.ql_lex.specs.declared.token.Flaw.{Flaw}
use Rattle.ql_lex.specs.declared.token.TokenKind.{TokenKind}
use Rattle.ql_lex.specs.declared.token.TokenKind.TheVariants as kind
use Rattle.ql_lex.specs.Marks.{mark_bytes, IsLongest}
use Rattle.ql_lex.specs.Pieces.{Cuts, Spoils, blank, line_comment, block_comment, word, number, raw_string, string, mark, open_comment, long_word, bad_number, open_raw, bad_string, bad_byte}
use Rattle.ql_lex.specs.Words.{Names, keyword, name}
use Rattle.ql_lex.proofs.CommentLemmas as comments
use Rattle.ql_lex.proofs.MarkLemmas.{same_mark}
use Rattle.ql_lex.proofs.StringLemmas as strings
use Rattle.ql_lex.proofs.WordLemmas.{same_word}

names_once : {run : List ℕ} {k j : TokenKind} → Names run k → Names run j → k ≡ j
names_once (keyword {word = x} h) (keyword {word = y} i) = let same = same_word x y (sym h ∙ i) in cc
names_once (keyword {word = x} h) (name n) = absurd (n x h)
names_once (name n) (keyword {word = x} h) = absurd (n x h)
names_once (name n) (name m) = refl

same_kind_of_mark : (m n : Mark) → m ≡ n → p.Token (kind.Mark m) ≡ p.Token (kind.Mark n)
same_kind_of_mark m n e = cc

marks_once : (text r q : List ℕ) (m n : Mark) → text ≡ mark_bytes m ++ r → IsLongest m text → text ≡ mark_bytes n ++ q → IsLongest n text → (mark_bytes m ≡ mark_bytes n) × (r ≡ q)
marks_once text r q m n e l f k =
    let some = l n q f in
    let more = k m r e in
    let same : mark_bytes m ++ r ≡ mark_bytes n ++ q = sym e ∙ f in
    (comments.append_same_start (mark_bytes m) (mark_bytes n) r q same (omega (arith, some, more)), comments.append_same_front (mark_bytes m) (mark_bytes n) r q same (omega (arith, some, more)))

-- the piece at the front of a text is one thing, and so is what stands behind it
pub cut_once : {x : Start} {b : ℕ} {text : List ℕ} {q r : Piece} {rest other : List ℕ} → Cuts x b text q rest → Cuts x b text r other → (q ≡ r) × (rest ≡ other)
cut_once blank blank = (refl, refl)
cut_once line_comment line_comment = (refl, refl)
cut_once (block_comment {text = text} {rest = rest} h) (block_comment {rest = other} i) = (refl, comments.closes_once (drop 1 text) rest other h i)
cut_once (word l n) (word k m) = (ap p.Token (names_once n m), refl)
cut_once (number h) (number i) = (refl, refl)
cut_once (raw_string h) (raw_string i) = (refl, cc)
cut_once (string h) (string i) = (refl, strings.closes_once h i)
cut_once (mark {b = b} {text = text} {rest = rest} {m = m} h l) (mark {rest = other} {m = n} i k) =
    let same = marks_once (b ∷ text) rest other m n h l i k in
    (same_kind_of_mark m n (same_mark m n same.0), same.1)

-- a text that begins with a piece is not spoiled
pub cut_not_spoils : {x : Start} {b : ℕ} {text : List ℕ} {q : Piece} {rest : List ℕ} {f : Flaw} → Cuts x b text q rest → Spoils x b text f → ⊥
cut_not_spoils blank x = elim x [ ]
cut_not_spoils line_comment x = elim x [ ]
cut_not_spoils (block_comment {text = text} {rest = rest} h) (open_comment n) = comments.closes_not_never (drop 1 text) rest h n
cut_not_spoils (word l n) (long_word k) = omega (arith, l, k)
cut_not_spoils (number h) (bad_number i) = cc
cut_not_spoils (raw_string h) (open_raw i) = cc
cut_not_spoils (string h) (bad_string i) = strings.closes_not_spoils h i
cut_not_spoils (mark {rest = rest} {m = m} h l) (bad_byte n) = n m rest h

-- a text is spoiled in one way
pub spoils_once : {x : Start} {b : ℕ} {text : List ℕ} {f g : Flaw} → Spoils x b text f → Spoils x b text g → f ≡ g
spoils_once (open_comment h) (open_comment i) = refl
spoils_once (long_word h) (long_word i) = refl
spoils_once (bad_number h) (bad_number i) = refl
spoils_once (open_raw h) (open_raw i) = refl
spoils_once (bad_string h) (bad_string i) = strings.spoils_once h i
spoils_once (bad_byte h) (bad_byte i) = refl
