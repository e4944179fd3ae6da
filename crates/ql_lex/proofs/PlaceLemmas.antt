-- Where the tokens of a script stand, and what their spellings are.
use Rattle.std.proofs.Common.{◌≡◌, ◌≢◌, ℕ, suc, ◌+◌, ◌-◌, ◌≤◌, Bool, true, false, cond, List, [], ◌∷◌, ◌++◌, length, take, drop, refl, sym, ◌∙◌, ap, Ok, Err, arith, length-append}
use Rattle.std.proofs.lemmas.List.{length-drop}
use Rattle.std.proofs.lemmas.List.Sums.{prefix_len-le-length}
use Rattle.std.proofs.lemmas.List.Elements.{All-nil, All-cons}
use Rattle.std.proofs.Math.Seq.{drop-append_seam, take-append_seam}
use Rattle.std.proofs.Math.Numerals.{one-add}
use Rattle.std.specs.Prelude.{All, slice_index, ◌==◌, ◌&&◌, ◌||◌}
use Rattle.std.specs.List.{prefix_len, take_while, list_all}
use Rattle.ql_edge.specs.Names.{longest_name}
use Rattle.ql_lex.specs.declared.bytes.Start.{Start}
use Rattle.ql_lex.specs.declared.bytes.Start.TheVariants as s
use Rattle.ql_lex.specs.declared.marks.Mark.{Mark}
use Rattle.ql_lex.specs.declared.pieces.Piece.TheVariants as p
use Rattle.ql_lex.specs.declared.token.Token.{Token}
use Rattle.ql_lex.specs.declared.token.TokenKind.{TokenKind}
use Rattle.ql_lex.specs.declared.words.Word.{Word}
use Rattle.ql_lex.specs.Bytes.{is_blank, is_letter, is_digit, is_in_word, after, start, sign_start}
use Rattle.ql_lex.specs.Marks.{mark_bytes}
use Rattle.ql_lex.specs.Numbers.{is_number}
use Rattle.ql_lex.specs.Pieces.{word_of, Cuts, word, number, raw_string, string, mark}
use Rattle.ql_lex.specs.Tokens.{Outcome, placed, with_token, Lexes, over, gap, token, flaw, spelling_of, IsName, IsSpelled, IsIn}
use Rattle.ql_lex.specs.Words.{Names, keyword, name, IsWord}
use Rattle.ql_lex.proofs.EndLemmas.{IsEnd, end_of_end, cut_end, cut_shorter}

same_take : (m n : ℕ) (text : List ℕ) → m ≡ n → take m text ≡ take n text
same_take m n text e = ap (λ (k : ℕ). take k text) e

same_drop : (m n : ℕ) (text : List ℕ) → m ≡ n → drop m text ≡ drop n text
same_drop m n text e = ap (λ (k : ℕ). drop k text) e

-- the bytes of a word
word_spelled : (q : ℕ → Bool) (b : ℕ) (text : List ℕ) → take (length (b ∷ text) - length (after q text)) (b ∷ text) ≡ b ∷ take_while q text
word_spelled q b text =
    let within = prefix_len-le-length q text in
    let left = length-drop (prefix_len q text) text in
    let e : length (b ∷ text) - length (after q text) ≡ suc (prefix_len q text) = omega (arith, within, left) in
    same_take (length (b ∷ text) - length (after q text)) (suc (prefix_len q text)) (b ∷ text) e

front_passes_at : (q : ℕ → Bool) (x : ℕ) (text : List ℕ) (v : Bool) → q x ≡ v → list_all q (take (prefix_len q text) text) ≡ true → list_all q (take (cond v (1 + prefix_len q text) 0) (x ∷ text)) ≡ true
front_passes_at q x text true e h = rw (one-add, e, h) refl
front_passes_at q x text false e h = refl

-- each element of the longest front that passes does pass
front_passes : (q : ℕ → Bool) (text : List ℕ) → list_all q (take_while q text) ≡ true
front_passes q [] = refl
front_passes q (x ∷ text) = front_passes_at q x text (q x) refl (front_passes q text)

-- what begins a word is a letter
letter_of : (v q : Bool) (x : Start) → cond v s.Blank (cond q s.Word x) ≡ s.Word → x ≢ s.Word → q ≡ true
letter_of true q x e n = cc
letter_of false true x e n = refl
letter_of false false x e n = absurd (n e)

no_word_pair_at : (q r : Bool) → cond q s.LineComment (cond r s.BlockComment s.Other) ≡ s.Word → ⊥
no_word_pair_at true r e = cc
no_word_pair_at false true e = cc
no_word_pair_at false false e = cc

no_word_pair : (b : ℕ) (text : List ℕ) → sign_start b text ≢ s.Word
no_word_pair b [] e = cc
no_word_pair b (c ∷ text) e = no_word_pair_at ((b == 45 && c == 45) || (b == 47 && c == 47)) (b == 47 && c == 42) e

no_word_else : (v q r : Bool) (x : Start) → x ≢ s.Word → cond v s.Number (cond q s.RawString (cond r s.String x)) ≢ s.Word
no_word_else true q r x n e = cc
no_word_else false true r x n e = cc
no_word_else false false true x n e = cc
no_word_else false false false x n e = n e

word_letter : (b : ℕ) (text : List ℕ) → start b text ≡ s.Word → is_letter b ≡ true
word_letter b text e =
    letter_of (is_blank b) (is_letter b) (cond (is_digit b) s.Number (cond (b == 96) s.RawString (cond (b == 34) s.String (sign_start b text)))) e
    (no_word_else (is_digit b) (b == 96) (b == 34) (sign_start b text) (no_word_pair b text))

word_is_name : (b : ℕ) (text : List ℕ) → is_letter b ≡ true → length (word_of b text) ≤ longest_name → ((w : Word) → IsWord (word_of b text) w → ⊥) → IsName (word_of b text)
word_is_name b text l w n =
    let front = front_passes is_in_word text in
    record { some = omega arith; within = w; letter = l; letters = rw (l, front) refl; other = n }

name_spelled : (b : ℕ) (text spelling : List ℕ) (k : TokenKind) → Names (word_of b text) k → spelling ≡ word_of b text → is_letter b ≡ true → length (word_of b text) ≤ longest_name → IsSpelled k spelling
name_spelled b text spelling k (keyword h) e l w = rw e h
name_spelled b text spelling k (name n) e l w = rw e (word_is_name b text l w n)

number_spelled : (run spelling : List ℕ) → is_number run ≡ true → spelling ≡ run → is_number spelling ≡ true
number_spelled run spelling h e = rw e h

mark_spelled : (b : ℕ) (text rest : List ℕ) (m : Mark) → b ∷ text ≡ mark_bytes m ++ rest → take (length (b ∷ text) - length rest) (b ∷ text) ≡ mark_bytes m
mark_spelled b text rest m h =
    let size : length (b ∷ text) ≡ length (mark_bytes m ++ rest) = ap length h in
    let e : length (b ∷ text) - length rest ≡ length (mark_bytes m) = omega (arith, size, length-append (mark_bytes m) rest) in
    same_take (length (b ∷ text) - length rest) (length (mark_bytes m)) (b ∷ text) e ∙ ap (λ (x : List ℕ). take (length (mark_bytes m)) x) h ∙ take-append_seam (mark_bytes m) rest

-- a string's spelling begins with its first byte
quote_first : (b : ℕ) (text rest : List ℕ) → length rest ≤ length text → slice_index (take (length (b ∷ text) - length rest) (b ∷ text)) 0 ≡ b
quote_first b text rest l =
    let e : length (b ∷ text) - length rest ≡ suc (length text - length rest) = omega arith in
    ap (λ (x : List ℕ). slice_index x 0) (same_take (length (b ∷ text) - length rest) (suc (length text - length rest)) (b ∷ text) e)

-- what begins a string is its quote
quote_of : (u v w q r : Bool) (x : Start) → cond u s.Blank (cond v s.Word (cond w s.Number (cond q s.RawString (cond r s.String x)))) ≡ s.RawString → x ≢ s.RawString → q ≡ true
quote_of true v w q r x e n = cc
quote_of false true w q r x e n = cc
quote_of false false true q r x e n = cc
quote_of false false false true r x e n = refl
quote_of false false false false true x e n = cc
quote_of false false false false false x e n = absurd (n e)

double_of : (u v w q r : Bool) (x : Start) → cond u s.Blank (cond v s.Word (cond w s.Number (cond q s.RawString (cond r s.String x)))) ≡ s.String → x ≢ s.String → r ≡ true
double_of true v w q r x e n = cc
double_of false true w q r x e n = cc
double_of false false true q r x e n = cc
double_of false false false true r x e n = cc
double_of false false false false true x e n = refl
double_of false false false false false x e n = absurd (n e)

no_raw_at : (q r : Bool) → cond q s.LineComment (cond r s.BlockComment s.Other) ≡ s.RawString → ⊥
no_raw_at true r e = cc
no_raw_at false true e = cc
no_raw_at false false e = cc

no_raw_pair : (b : ℕ) (text : List ℕ) → sign_start b text ≢ s.RawString
no_raw_pair b [] e = cc
no_raw_pair b (c ∷ text) e = no_raw_at ((b == 45 && c == 45) || (b == 47 && c == 47)) (b == 47 && c == 42) e

no_string_at : (q r : Bool) → cond q s.LineComment (cond r s.BlockComment s.Other) ≡ s.String → ⊥
no_string_at true r e = cc
no_string_at false true e = cc
no_string_at false false e = cc

no_string_pair : (b : ℕ) (text : List ℕ) → sign_start b text ≢ s.String
no_string_pair b [] e = cc
no_string_pair b (c ∷ text) e = no_string_at ((b == 45 && c == 45) || (b == 47 && c == 47)) (b == 47 && c == 42) e

either_true : (q r : Bool) → r ≡ true → (q || r) ≡ true
either_true true r e = refl
either_true false r e = e

first_true : (q r : Bool) → q ≡ true → (q || r) ≡ true
first_true q r e = rw e refl

raw_quote : (b : ℕ) (text : List ℕ) → start b text ≡ s.RawString → (b == 34 || b == 96) ≡ true
raw_quote b text e = either_true (b == 34) (b == 96) (quote_of (is_blank b) (is_letter b) (is_digit b) (b == 96) (b == 34) (sign_start b text) e (no_raw_pair b text))

string_quote : (b : ℕ) (text : List ℕ) → start b text ≡ s.String → (b == 34 || b == 96) ≡ true
string_quote b text e = first_true (b == 34) (b == 96) (double_of (is_blank b) (is_letter b) (is_digit b) (b == 96) (b == 34) (sign_start b text) e (no_string_pair b text))

quote_in : (b : ℕ) (spelling : List ℕ) → slice_index spelling 0 ≡ b → (b == 34 || b == 96) ≡ true → (slice_index spelling 0 == 34 || slice_index spelling 0 == 96) ≡ true
quote_in b spelling e h = rw e h

cut_spelled : {x : Start} {b : ℕ} {text : List ℕ} {k : TokenKind} {rest : List ℕ} → Cuts x b text (p.Token k) rest → x ≡ start b text → IsSpelled k (take (length (b ∷ text) - length rest) (b ∷ text))
cut_spelled (word {b = b} {text = text} {k = k} l n) e =
    name_spelled b text (take (length (b ∷ text) - length (after is_in_word text)) (b ∷ text)) k n (word_spelled is_in_word b text) (word_letter b text (sym e)) l
cut_spelled (number {b = b} {text = text} n) e = number_spelled (word_of b text) (take (length (b ∷ text) - length (after is_in_word text)) (b ∷ text)) n (word_spelled is_in_word b text)
cut_spelled (raw_string {b = b} {q = q} {text = text} {rest = rest} h) e =
    quote_in b (take (length (b ∷ text) - length rest) (b ∷ text)) (quote_first b text rest (cut_shorter (raw_string {b = b} h))) (raw_quote b text (sym e))
cut_spelled (string {b = b} {text = text} {rest = rest} h) e =
    quote_in b (take (length (b ∷ text) - length rest) (b ∷ text)) (quote_first b text rest (cut_shorter (string {b = b} h))) (string_quote b text (sym e))
cut_spelled (mark {b = b} {text = text} {rest = rest} {m = m} h l) e = mark_spelled b text rest m h

-- the text from a place on
from_place : (source text : List ℕ) → IsEnd source text → drop (length source - length text) source ≡ text
from_place source text i =
    let e : length source ≡ length (i.front ++ text) = ap length i.whole in
    let f : length source - length text ≡ length i.front = omega (arith, e, length-append i.front text) in
    same_drop (length source - length text) (length i.front) source f ∙ ap (λ (x : List ℕ). drop (length i.front) x) i.whole ∙ drop-append_seam i.front text

spelled_at : (source text rest : List ℕ) (k : TokenKind) → IsEnd source text → length rest ≤ length text → spelling_of source (placed (length source) k text rest) ≡ take (length text - length rest) text
spelled_at source text rest k i l =
    let e : length source ≡ length (i.front ++ text) = ap length i.whole in
    let f : (length source - length rest) - (length source - length text) ≡ length text - length rest = omega (arith, e, length-append i.front text) in
    let d = from_place source text i in
    rw (f, d) refl

placed_in : (source : List ℕ) (b : ℕ) (text rest : List ℕ) (k : TokenKind) → IsEnd source (b ∷ text) → Cuts (start b text) b text (p.Token k) rest → IsIn source (placed (length source) k (b ∷ text) rest)
placed_in source b text rest k i c =
    let less = cut_shorter c in
    let e : length source ≡ length (i.front ++ (b ∷ text)) = ap length i.whole in
    let f = length-append i.front (b ∷ text) in
    let s = spelled_at source (b ∷ text) rest k i (omega (arith, less)) in
    record { some = omega (arith, less, e, f); within = omega arith; spelled = rw s (cut_spelled c refl) }

-- what a first token leaves
record Split (t : Token) (o : Outcome) (ts : List Token) : Type 0 where
  left : List Token
  is : o ≡ Ok left
  whole : t ∷ left ≡ ts

split_of : (t : Token) (o : Outcome) (ts : List Token) → with_token t o ≡ Ok ts → Split t o ts
split_of t (Ok us) ts e = record { left = us; is = refl; whole = cc }
split_of t (Err f) ts e = cc

behind_byte : (b : ℕ) (text : List ℕ) → IsEnd (b ∷ text) text
behind_byte b text = record { front = b ∷ []; whole = refl }

-- every token of a script stands in it, and is spelled as its kind is
pub lexes_in : {total : ℕ} {text : List ℕ} {o : Outcome} → Lexes total text o → (source : List ℕ) → IsEnd source text → total ≡ length source → (ts : List Token) → o ≡ Ok ts → All (IsIn source) ts
lexes_in over source i t ts e = let f : [] ≡ ts = cc in rw (← f) (All-nil (IsIn source))
lexes_in (gap {b = b} {text = text} {rest = rest} c h) source i t ts e =
    lexes_in h source (end_of_end source (b ∷ text) rest i (end_of_end (b ∷ text) text rest (behind_byte b text) (cut_end c))) t ts e
lexes_in {total = total} (token {b = b} {text = text} {rest = rest} {k = k} {o = o} c h) source i t ts e =
    let split = split_of (placed total k (b ∷ text) rest) o ts e in
    let first : IsIn source (placed total k (b ∷ text) rest) = rw t (placed_in source b text rest k i c) in
    let more = lexes_in h source (end_of_end source (b ∷ text) rest i (end_of_end (b ∷ text) text rest (behind_byte b text) (cut_end c))) t split.left split.is in
    rw (← split.whole) (All-cons (IsIn source) (placed total k (b ∷ text) rest) split.left first more)
lexes_in (flaw c) source i t ts e = cc

pub whole_in : (source : List ℕ) (ts : List Token) → Lexes (length source) source (Ok ts) → All (IsIn source) ts
whole_in source ts h = lexes_in h source (record { front = []; whole = refl }) refl ts refl
