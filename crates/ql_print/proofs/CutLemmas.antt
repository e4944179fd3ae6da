-- Each kind of printed token is cut off as itself, where what stands behind it does not go on with it.
use Rattle.std.proofs.Common.{◌≡◌, ℕ, suc, ◌+◌, ◌^◌, ◌<◌, ◌≤◌, Bool, true, false, cond, List, [], ◌∷◌, ◌++◌, length, take, drop, None, refl, sym, ap, ◌∙◌, append_assoc, arith}
use Rattle.std.specs.Prelude.{◌==◌, ◌&&◌, nat_le, not, decimal}
use Rattle.std.specs.List.{list_all, prefix_len}
use Rattle.std.proofs.lemmas.Bool.{eqb-true, leb-true, lt-leb}
use Rattle.std.proofs.lemmas.Fmt.{decimal_nonempty}
use Rattle.std.proofs.Math.Numerals.{one-add}
use Rattle.std.proofs.Math.Seq.{drop-append_seam, take-append_seam}
use Rattle.ql_edge.specs.Names.{longest_name}
use Rattle.ql_lex.specs.declared.bytes.Start.{Start}
use Rattle.ql_lex.specs.declared.bytes.Start.TheVariants as s
use Rattle.ql_lex.specs.declared.marks.Mark.{Mark}
use Rattle.ql_lex.specs.declared.marks.Mark.TheVariants as m
use Rattle.ql_lex.specs.declared.pieces.Piece.{Piece}
use Rattle.ql_lex.specs.declared.pieces.Piece.TheVariants as p
use Rattle.ql_lex.specs.declared.token.TokenKind.TheVariants as kind
use Rattle.ql_lex.specs.declared.words.Word.{Word}
use Rattle.ql_lex.specs.Bytes.{is_blank, is_letter, is_digit, is_in_word, after, start}
use Rattle.ql_lex.specs.Marks.{mark_bytes, mark_of_two, HasNoPair}
use Rattle.ql_lex.specs.Numbers.{is_number}
use Rattle.ql_lex.specs.Pieces as piece
use Rattle.ql_lex.specs.Pieces.{Cuts, word_of}
use Rattle.ql_lex.specs.Tokens.{IsName}
use Rattle.ql_lex.specs.Words as words
use Rattle.ql_lex.specs.Words.{Names, IsWord}
use Rattle.ql_lex.proofs.MarkLemmas.{longest_one, longest_two}
use Rattle.ql_lex.proofs.PieceLemmas as pieces
use Rattle.ql_value.specs.Print.{quoted, shown_bytes}
use Rattle.ql_syntax.specs.Lexemes.{Lexeme}
use Rattle.ql_print.proofs.LexedInk.{IsCut}
use Rattle.ql_print.proofs.PrintedNumbers.{are_decimal, both_true, number_is, decimal_digits}
use Rattle.ql_print.proofs.PrintedTexts.{closes}

-- a piece stands where its first bytes say
at : (x y : Start) (b : ℕ) (text : List ℕ) (q : Piece) (rest : List ℕ) → x ≡ y → Cuts x b text q rest → Cuts y b text q rest
at x y b text q rest e h = rw e at h

-- marks

-- two bytes that are no mark
pub no_pair : (a c : ℕ) (text : List ℕ) → mark_of_two a c ≡ None → HasNoPair a (c ∷ text)
no_pair a c text e b behind h = let same : c ≡ b = cc in rw (← same) e

-- a mark of one byte
one_cut : (mark : Mark) (a : ℕ) (rest : List ℕ) → mark_bytes mark ≡ a ∷ [] → start a rest ≡ s.Other → HasNoPair a rest → IsCut (record { kind = kind.Mark mark; text = mark_bytes mark }) rest
one_cut mark a rest e o n = record {
  first = a;
  others = [];
  bytes = e;
  cut = at s.Other (start a rest) a rest (p.Token (kind.Mark mark)) rest (sym o) (piece.mark (ap (λ (x : List ℕ). x ++ rest) (sym e)) (longest_one mark a rest (a ∷ rest) refl n e));
}

-- a mark of two bytes
two_cut : (mark : Mark) (a b : ℕ) (rest : List ℕ) → mark_bytes mark ≡ a ∷ b ∷ [] → start a (b ∷ rest) ≡ s.Other → IsCut (record { kind = kind.Mark mark; text = mark_bytes mark }) rest
two_cut mark a b rest e o = record {
  first = a;
  others = b ∷ [];
  bytes = e;
  cut = at s.Other (start a (b ∷ rest)) a (b ∷ rest) (p.Token (kind.Mark mark)) rest (sym o)
      (piece.mark (ap (λ (x : List ℕ). x ++ rest) (sym e)) (longest_two mark (a ∷ b ∷ rest) (ap length e)));
}

-- `(` before anything
pub open_cut : (rest : List ℕ) → IsCut (record { kind = kind.Mark m.Open; text = mark_bytes m.Open }) rest
open_cut [] = one_cut m.Open 40 [] refl refl (λ b behind e. refl)
open_cut (c ∷ rest) = one_cut m.Open 40 (c ∷ rest) refl refl (λ b behind e. refl)

-- `)` before anything
pub close_cut : (rest : List ℕ) → IsCut (record { kind = kind.Mark m.Close; text = mark_bytes m.Close }) rest
close_cut [] = one_cut m.Close 41 [] refl refl (λ b behind e. refl)
close_cut (c ∷ rest) = one_cut m.Close 41 (c ∷ rest) refl refl (λ b behind e. refl)

-- `,` before anything
pub comma_cut : (rest : List ℕ) → IsCut (record { kind = kind.Mark m.Comma; text = mark_bytes m.Comma }) rest
comma_cut [] = one_cut m.Comma 44 [] refl refl (λ b behind e. refl)
comma_cut (c ∷ rest) = one_cut m.Comma 44 (c ∷ rest) refl refl (λ b behind e. refl)

-- `.` before anything
pub dot_cut : (rest : List ℕ) → IsCut (record { kind = kind.Mark m.Dot; text = mark_bytes m.Dot }) rest
dot_cut [] = one_cut m.Dot 46 [] refl refl (λ b behind e. refl)
dot_cut (c ∷ rest) = one_cut m.Dot 46 (c ∷ rest) refl refl (λ b behind e. refl)

-- `*` before anything
pub star_cut : (rest : List ℕ) → IsCut (record { kind = kind.Mark m.Star; text = mark_bytes m.Star }) rest
star_cut [] = one_cut m.Star 42 [] refl refl (λ b behind e. refl)
star_cut (c ∷ rest) = one_cut m.Star 42 (c ∷ rest) refl refl (λ b behind e. refl)

-- a mark before a blank
pub mark_cut : (mark : Mark) (rest : List ℕ) → IsCut (record { kind = kind.Mark mark; text = mark_bytes mark }) (32 ∷ rest)
mark_cut m.Plus rest = one_cut m.Plus 43 (32 ∷ rest) refl refl (no_pair 43 32 rest refl)
mark_cut m.Minus rest = one_cut m.Minus 45 (32 ∷ rest) refl refl (no_pair 45 32 rest refl)
mark_cut m.Star rest = one_cut m.Star 42 (32 ∷ rest) refl refl (no_pair 42 32 rest refl)
mark_cut m.Slash rest = one_cut m.Slash 47 (32 ∷ rest) refl refl (no_pair 47 32 rest refl)
mark_cut m.Percent rest = one_cut m.Percent 37 (32 ∷ rest) refl refl (no_pair 37 32 rest refl)
mark_cut m.Ampersand rest = one_cut m.Ampersand 38 (32 ∷ rest) refl refl (no_pair 38 32 rest refl)
mark_cut m.Bar rest = one_cut m.Bar 124 (32 ∷ rest) refl refl (no_pair 124 32 rest refl)
mark_cut m.Caret rest = one_cut m.Caret 94 (32 ∷ rest) refl refl (no_pair 94 32 rest refl)
mark_cut m.AndAnd rest = two_cut m.AndAnd 38 38 (32 ∷ rest) refl refl
mark_cut m.OrOr rest = two_cut m.OrOr 124 124 (32 ∷ rest) refl refl
mark_cut m.EqualEqual rest = two_cut m.EqualEqual 61 61 (32 ∷ rest) refl refl
mark_cut m.Equal rest = one_cut m.Equal 61 (32 ∷ rest) refl refl (no_pair 61 32 rest refl)
mark_cut m.BangEqual rest = two_cut m.BangEqual 33 61 (32 ∷ rest) refl refl
mark_cut m.LessGreater rest = two_cut m.LessGreater 60 62 (32 ∷ rest) refl refl
mark_cut m.Less rest = one_cut m.Less 60 (32 ∷ rest) refl refl (no_pair 60 32 rest refl)
mark_cut m.LessEqual rest = two_cut m.LessEqual 60 61 (32 ∷ rest) refl refl
mark_cut m.Greater rest = one_cut m.Greater 62 (32 ∷ rest) refl refl (no_pair 62 32 rest refl)
mark_cut m.GreaterEqual rest = two_cut m.GreaterEqual 62 61 (32 ∷ rest) refl refl
mark_cut m.ShiftLeft rest = two_cut m.ShiftLeft 60 60 (32 ∷ rest) refl refl
mark_cut m.ShiftRight rest = two_cut m.ShiftRight 62 62 (32 ∷ rest) refl refl
mark_cut m.AndNot rest = two_cut m.AndNot 38 94 (32 ∷ rest) refl refl
mark_cut m.Bang rest = one_cut m.Bang 33 (32 ∷ rest) refl refl (no_pair 33 32 rest refl)
mark_cut m.Open rest = open_cut (32 ∷ rest)
mark_cut m.Close rest = close_cut (32 ∷ rest)
mark_cut m.Comma rest = comma_cut (32 ∷ rest)
mark_cut m.Semicolon rest = one_cut m.Semicolon 59 (32 ∷ rest) refl refl (no_pair 59 32 rest refl)
mark_cut m.Dot rest = dot_cut (32 ∷ rest)

-- a text begins with a byte that no sign goes on with
pub record IsQuiet (text : List ℕ) : Type 0 where
  pub first : ℕ
  pub others : List ℕ
  pub bytes : text ≡ first ∷ others
  pub minus : (first == 45) ≡ false
  pub equal : (first == 61) ≡ false

quiet_plus : (c : ℕ) (text : List ℕ) → IsCut (record { kind = kind.Mark m.Plus; text = mark_bytes m.Plus }) (c ∷ text)
quiet_plus c text = one_cut m.Plus 43 (c ∷ text) refl refl (λ b behind e. refl)

quiet_caret : (c : ℕ) (text : List ℕ) → IsCut (record { kind = kind.Mark m.Caret; text = mark_bytes m.Caret }) (c ∷ text)
quiet_caret c text = one_cut m.Caret 94 (c ∷ text) refl refl (λ b behind e. refl)

quiet_minus : (c : ℕ) (text : List ℕ) → (c == 45) ≡ false → IsCut (record { kind = kind.Mark m.Minus; text = mark_bytes m.Minus }) (c ∷ text)
quiet_minus c text n = one_cut m.Minus 45 (c ∷ text) refl (rw n refl) (λ b behind e. refl)

quiet_bang : (c : ℕ) (text : List ℕ) → (c == 61) ≡ false → IsCut (record { kind = kind.Mark m.Bang; text = mark_bytes m.Bang }) (c ∷ text)
quiet_bang c text n = one_cut m.Bang 33 (c ∷ text) refl refl (no_pair 33 c text (rw n refl))

-- a sign before such a text
pub plus_cut : (text : List ℕ) → IsQuiet text → IsCut (record { kind = kind.Mark m.Plus; text = mark_bytes m.Plus }) text
plus_cut text q = rw q.bytes (quiet_plus q.first q.others)

pub minus_cut : (text : List ℕ) → IsQuiet text → IsCut (record { kind = kind.Mark m.Minus; text = mark_bytes m.Minus }) text
minus_cut text q = rw q.bytes (quiet_minus q.first q.others q.minus)

pub bang_cut : (text : List ℕ) → IsQuiet text → IsCut (record { kind = kind.Mark m.Bang; text = mark_bytes m.Bang }) text
bang_cut text q = rw q.bytes (quiet_bang q.first q.others q.equal)

pub caret_cut : (text : List ℕ) → IsQuiet text → IsCut (record { kind = kind.Mark m.Caret; text = mark_bytes m.Caret }) text
caret_cut text q = rw q.bytes (quiet_caret q.first q.others)

-- words and numbers

-- no word and no number goes on here
abbrev pub ends : List ℕ → Bool
ends [] = true
ends (c ∷ text) = not (is_in_word c)

front_at : (v : Bool) (n m : ℕ) → v ≡ true → n ≡ m → cond v (1 + n) 0 ≡ suc m
front_at v n m e f = rw (e, f) (one-add m)

-- the longest front of bytes that pass
front : (q : ℕ → Bool) (text rest : List ℕ) → list_all q text ≡ true → prefix_len q rest ≡ 0 → prefix_len q (text ++ rest) ≡ length text
front q [] rest e f = f
front q (c ∷ text) rest e f = let h = both_true (q c) (list_all q text) e in front_at (q c) (prefix_len q (text ++ rest)) (length text) h.0 (front q text rest h.1 f)

stops_at : (v : Bool) (n : ℕ) → not v ≡ true → cond v (1 + n) 0 ≡ 0
stops_at true n e = cc
stops_at false n e = refl

ends_front : (rest : List ℕ) → ends rest ≡ true → prefix_len is_in_word rest ≡ 0
ends_front [] e = refl
ends_front (c ∷ text) e = stops_at (is_in_word c) (prefix_len is_in_word text) e

-- a word and what stands behind it
record IsRun (b : ℕ) (others rest : List ℕ) : Type 0 where
  word : word_of b (others ++ rest) ≡ b ∷ others
  behind : after is_in_word (others ++ rest) ≡ rest

run : (b : ℕ) (others rest : List ℕ) → list_all is_in_word others ≡ true → ends rest ≡ true → IsRun b others rest
run b others rest e f =
    let n = front is_in_word others rest e (ends_front rest f) in
    record {
      word = ap (λ (k : ℕ). b ∷ take k (others ++ rest)) n ∙ ap (λ (x : List ℕ). b ∷ x) (take-append_seam others rest);
      behind = ap (λ (k : ℕ). drop k (others ++ rest)) n ∙ drop-append_seam others rest;
    }

-- a byte that passes a test is none that fails it
pub differs : (q : ℕ → Bool) (c k : ℕ) (v : Bool) → (c == k) ≡ v → q c ≡ true → q k ≡ false → v ≡ false
differs q c k true e h n = let same : q c ≡ q k = ap q (eqb-true c k e) in cc
differs q c k false e h n = refl

letter_no_blank : (b : ℕ) → is_letter b ≡ true → is_blank b ≡ false
letter_no_blank b l =
    let space = differs is_letter b 32 (b == 32) refl l refl in
    let tab = differs is_letter b 9 (b == 9) refl l refl in
    let return = differs is_letter b 13 (b == 13) refl l refl in
    let newline = differs is_letter b 10 (b == 10) refl l refl in
    rw (space, tab, return, newline) refl

digit_no_blank : (b : ℕ) → is_digit b ≡ true → is_blank b ≡ false
digit_no_blank b l =
    let space = differs is_digit b 32 (b == 32) refl l refl in
    let tab = differs is_digit b 9 (b == 9) refl l refl in
    let return = differs is_digit b 13 (b == 13) refl l refl in
    let newline = differs is_digit b 10 (b == 10) refl l refl in
    rw (space, tab, return, newline) refl

digit_no_letter : (b : ℕ) → is_digit b ≡ true → is_letter b ≡ false
digit_no_letter b d =
    let k = both_true (nat_le 48 b) (nat_le b 57) d in
    let top : b ≤ 57 = leb-true b 57 k.1 in
    let small : nat_le 97 b ≡ false = lt-leb 97 b (omega arith) in
    let capital : nat_le 65 b ≡ false = lt-leb 65 b (omega arith) in
    let line = differs is_digit b 95 (b == 95) refl d refl in
    rw (small, capital, line) refl

starts_word : (b : ℕ) (text : List ℕ) → is_letter b ≡ true → start b text ≡ s.Word
starts_word b text l = let blank = letter_no_blank b l in rw (blank, l) refl

starts_number : (b : ℕ) (text : List ℕ) → is_digit b ≡ true → start b text ≡ s.Number
starts_number b text d =
    let blank = digit_no_blank b d in
    let letter = digit_no_letter b d in
    rw (blank, letter, d) refl

-- a name or a keyword
word_of_cut : (t : Lexeme) (b : ℕ) (others rest : List ℕ) → t.text ≡ b ∷ others → is_letter b ≡ true → list_all is_in_word others ≡ true → length (b ∷ others) ≤ longest_name
    → Names (b ∷ others) t.kind → ends rest ≡ true → IsCut t rest
word_of_cut t b others rest e l a w n f =
    let r = run b others rest a f in
    let cut = pieces.word_cut b (others ++ rest) (b ∷ others) rest t.kind (sym r.word) (sym r.behind) w n in
    record { first = b; others = others; bytes = e; cut = at s.Word (start b (others ++ rest)) b (others ++ rest) (p.Token t.kind) rest (sym (starts_word b (others ++ rest) l)) cut }

-- bytes that are written as a word is: a letter, then letters, digits and `_`, 128 bytes at most
abbrev pub is_spelled_as_word : List ℕ → Bool
is_spelled_as_word [] = false
is_spelled_as_word (b ∷ others) = is_letter b && (list_all is_in_word others && nat_le (length (b ∷ others)) 128)

-- a keyword in any case, before what does not go on with it
pub word_cut : (word : Word) (text rest : List ℕ) → is_spelled_as_word text ≡ true → IsWord text word → ends rest ≡ true → IsCut (record { kind = kind.Word word; text = text }) rest
word_cut word [] rest e h f = cc
word_cut word (b ∷ others) rest e h f =
    let k = both_true (is_letter b) (list_all is_in_word others && nat_le (length (b ∷ others)) 128) e in
    let j = both_true (list_all is_in_word others) (nat_le (length (b ∷ others)) 128) k.1 in
    word_of_cut (record { kind = kind.Word word; text = b ∷ others }) b others rest refl k.0 j.0 (leb-true (length (b ∷ others)) 128 j.1) (words.keyword h) f

-- a name, before what does not go on with it
pub name_cut : (text rest : List ℕ) → IsName text → ends rest ≡ true → IsCut (record { kind = kind.Name; text = text }) rest
name_cut [] rest n f = absurd (omega (arith, n.some))
name_cut (b ∷ others) rest n f =
    let k = both_true (is_in_word b) (list_all is_in_word others) n.letters in
    word_of_cut (record { kind = kind.Name; text = b ∷ others }) b others rest refl n.letter k.1 n.within (words.name n.other) f

digits_in_word : (ds : List ℕ) → are_decimal ds ≡ true → list_all is_in_word ds ≡ true
digits_in_word [] e = refl
digits_in_word (d ∷ ds) e =
    let h = both_true (is_digit d) (are_decimal ds) e in
    let letter = digit_no_letter d h.0 in
    let more = digits_in_word ds h.1 in
    rw (letter, h.0, more) refl

number_of_cut : (ds rest : List ℕ) → are_decimal ds ≡ true → 0 < length ds → is_number ds ≡ true → ends rest ≡ true → IsCut (record { kind = kind.Number; text = ds }) rest
number_of_cut [] rest e l n f = absurd (omega (arith, l))
number_of_cut (d ∷ ds) rest e l n f =
    let h = both_true (is_digit d) (are_decimal ds) e in
    let r = run d ds rest (digits_in_word ds h.1) f in
    let cut = pieces.number_cut d (ds ++ rest) (d ∷ ds) rest (sym r.word) (sym r.behind) n in
    record { first = d; others = ds; bytes = refl; cut = at s.Number (start d (ds ++ rest)) d (ds ++ rest) (p.Token kind.Number) rest (sym (starts_number d (ds ++ rest) h.0)) cut }

-- a number, before what does not go on with it
pub number_cut : (n : ℕ) (rest : List ℕ) → n < 2 ^ 64 → ends rest ≡ true → IsCut (record { kind = kind.Number; text = decimal n }) rest
number_cut n rest l f = number_of_cut (decimal n) rest (decimal_digits n l) (decimal_nonempty n l) (number_is n l) f

-- a string before anything
pub text_cut : (bytes rest : List ℕ) → IsCut (record { kind = kind.Text; text = quoted false bytes }) rest
text_cut bytes rest = record {
  first = 34;
  others = shown_bytes false bytes ++ 34 ∷ [];
  bytes = refl;
  cut = rw append_assoc (piece.string (closes bytes rest));
}
