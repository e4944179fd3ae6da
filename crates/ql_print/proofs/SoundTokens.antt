-- The single tokens of a printed tree, before other tokens.
use Rattle.std.proofs.Common.{◌≡◌, ℕ, ◌^◌, ◌<◌, ◌≤◌, Bool, true, List, [], ◌∷◌, ◌++◌, length, map, refl, arith, lit≤}
use Rattle.std.specs.Prelude.{◌==◌, ◌&&◌, not, decimal, All}
use Rattle.std.specs.Char.{to_ascii_lowercase}
use Rattle.std.specs.List.{list_all}
use Rattle.std.specs.Str.{bytes_eq}
use Rattle.std.proofs.lemmas.Fmt.{decimal_nonempty}
use Rattle.std.proofs.lemmas.List.Elements.{All-nil, All-cons}
use Rattle.std.proofs.lemmas.Slice.Eq.{bytes_eq-Decides}
use Rattle.ql_lex.specs.declared.marks.Mark.TheVariants as m
use Rattle.ql_lex.specs.declared.words.Word.{Word}
use Rattle.ql_lex.specs.declared.words.Word.TheVariants as w
use Rattle.ql_lex.specs.Bytes.{is_digit, is_letter, is_in_word}
use Rattle.ql_lex.specs.Tokens.{IsName}
use Rattle.ql_lex.specs.Words.{word_bytes, words_with, IsWord}
use Rattle.ql_lex.proofs.WordLemmas.{no_word}
use Rattle.ql_value.specs.declared.operator.BinOp.{BinOp}
use Rattle.ql_value.specs.declared.operator.BinOp.TheVariants as bin
use Rattle.ql_value.specs.declared.operator.UnOp.{UnOp}
use Rattle.ql_value.specs.declared.operator.UnOp.TheVariants as un
use Rattle.ql_value.specs.declared.value.Kind.{Kind}
use Rattle.ql_value.specs.declared.value.Kind.TheVariants as k
use Rattle.ql_syntax.specs.declared.syntax.Function.{Function}
use Rattle.ql_syntax.specs.declared.syntax.Function.TheVariants as f
use Rattle.ql_syntax.specs.Ink.{space, text_of, small}
use Rattle.ql_syntax.specs.Functions.{function_bytes}
use Rattle.ql_syntax.specs.Printing.{Inks, ink_of_bin, ink_of_un, word_of_kind}
use Rattle.ql_print.proofs.LexedInk.{Lexed, blank, token}
use Rattle.ql_print.proofs.CutLemmas.{IsQuiet, ends, differs, mark_cut, plus_cut, minus_cut, bang_cut, caret_cut}
use Rattle.ql_print.proofs.PrintedNumbers.{are_decimal, both_true, decimal_digits}
use Rattle.ql_print.proofs.SoundInk.{keyword_lexed, small_lexed}

-- an operator between two parts, before a blank
pub bin_lexed : (op : BinOp) (inks : Inks) → Lexed inks → Lexed (ink_of_bin op ∷ space ∷ inks)
bin_lexed bin.Mul inks l = token (mark_cut m.Star (text_of inks)) (blank l)
bin_lexed bin.Div inks l = token (mark_cut m.Slash (text_of inks)) (blank l)
bin_lexed bin.Rem inks l = token (mark_cut m.Percent (text_of inks)) (blank l)
bin_lexed bin.Shl inks l = token (mark_cut m.ShiftLeft (text_of inks)) (blank l)
bin_lexed bin.Shr inks l = token (mark_cut m.ShiftRight (text_of inks)) (blank l)
bin_lexed bin.And inks l = token (mark_cut m.Ampersand (text_of inks)) (blank l)
bin_lexed bin.AndNot inks l = token (mark_cut m.AndNot (text_of inks)) (blank l)
bin_lexed bin.Add inks l = token (mark_cut m.Plus (text_of inks)) (blank l)
bin_lexed bin.Sub inks l = token (mark_cut m.Minus (text_of inks)) (blank l)
bin_lexed bin.Or inks l = token (mark_cut m.Bar (text_of inks)) (blank l)
bin_lexed bin.Xor inks l = token (mark_cut m.Caret (text_of inks)) (blank l)
bin_lexed bin.Eq inks l = token (mark_cut m.EqualEqual (text_of inks)) (blank l)
bin_lexed bin.Ne inks l = token (mark_cut m.BangEqual (text_of inks)) (blank l)
bin_lexed bin.Lt inks l = token (mark_cut m.Less (text_of inks)) (blank l)
bin_lexed bin.Le inks l = token (mark_cut m.LessEqual (text_of inks)) (blank l)
bin_lexed bin.Gt inks l = token (mark_cut m.Greater (text_of inks)) (blank l)
bin_lexed bin.Ge inks l = token (mark_cut m.GreaterEqual (text_of inks)) (blank l)
bin_lexed bin.Both inks l = token (mark_cut m.AndAnd (text_of inks)) (blank l)
bin_lexed bin.Either inks l = token (mark_cut m.OrOr (text_of inks)) (blank l)
bin_lexed bin.Like inks l = keyword_lexed w.Like (space ∷ inks) refl refl refl (blank l)

-- an operator before a part
pub un_lexed : (op : UnOp) (inks : Inks) → IsQuiet (text_of inks) → Lexed inks → Lexed (ink_of_un op ∷ inks)
un_lexed un.Plus inks q l = token (plus_cut (text_of inks) q) l
un_lexed un.Minus inks q l = token (minus_cut (text_of inks) q) l
un_lexed un.Not inks q l = token (bang_cut (text_of inks) q) l
un_lexed un.Flip inks q l = token (caret_cut (text_of inks) q) l

-- a kind
pub kind_lexed : (kind : Kind) (inks : Inks) → ends (text_of inks) ≡ true → Lexed inks → Lexed (small (word_of_kind kind) ∷ inks)
kind_lexed k.Bool inks e l = small_lexed w.Bool inks refl refl e l
kind_lexed k.Int8 inks e l = small_lexed w.Int8 inks refl refl e l
kind_lexed k.Int16 inks e l = small_lexed w.Int16 inks refl refl e l
kind_lexed k.Int32 inks e l = small_lexed w.Int32 inks refl refl e l
kind_lexed k.Int64 inks e l = small_lexed w.Int64 inks refl refl e l
kind_lexed k.Uint8 inks e l = small_lexed w.Uint8 inks refl refl e l
kind_lexed k.Uint16 inks e l = small_lexed w.Uint16 inks refl refl e l
kind_lexed k.Uint32 inks e l = small_lexed w.Uint32 inks refl refl e l
kind_lexed k.Uint64 inks e l = small_lexed w.Uint64 inks refl refl e l
kind_lexed k.Text inks e l = small_lexed w.String inks refl refl e l
kind_lexed k.Blob inks e l = small_lexed w.Blob inks refl refl e l

-- no sign goes on with a kind
pub kind_quiet : (kind : Kind) (inks : Inks) → IsQuiet (text_of (small (word_of_kind kind) ∷ inks))
kind_quiet k.Bool inks = record { first = 98; others = _; bytes = refl; minus = refl; equal = refl }
kind_quiet k.Int8 inks = record { first = 105; others = _; bytes = refl; minus = refl; equal = refl }
kind_quiet k.Int16 inks = record { first = 105; others = _; bytes = refl; minus = refl; equal = refl }
kind_quiet k.Int32 inks = record { first = 105; others = _; bytes = refl; minus = refl; equal = refl }
kind_quiet k.Int64 inks = record { first = 105; others = _; bytes = refl; minus = refl; equal = refl }
kind_quiet k.Uint8 inks = record { first = 117; others = _; bytes = refl; minus = refl; equal = refl }
kind_quiet k.Uint16 inks = record { first = 117; others = _; bytes = refl; minus = refl; equal = refl }
kind_quiet k.Uint32 inks = record { first = 117; others = _; bytes = refl; minus = refl; equal = refl }
kind_quiet k.Uint64 inks = record { first = 117; others = _; bytes = refl; minus = refl; equal = refl }
kind_quiet k.Text inks = record { first = 115; others = _; bytes = refl; minus = refl; equal = refl }
kind_quiet k.Blob inks = record { first = 98; others = _; bytes = refl; minus = refl; equal = refl }

-- the bytes in small letters are none of these keywords
abbrev is_none : List ℕ → List Word → Bool
is_none run [] = true
is_none run (word ∷ more) = not (bytes_eq (map to_ascii_lowercase run) (word_bytes word)) && is_none run more

other_word : (run : List ℕ) (word : Word) → not (bytes_eq (map to_ascii_lowercase run) (word_bytes word)) ≡ true → IsWord run word → ⊥
other_word run word e is = let yes = (bytes_eq-Decides (map to_ascii_lowercase run) (word_bytes word)).1 is in cc

none_is : (run : List ℕ) (all : List Word) → is_none run all ≡ true → All (λ word. IsWord run word → ⊥) all
none_is run [] e = All-nil (λ word. IsWord run word → ⊥)
none_is run (word ∷ more) e =
    let h = both_true (not (bytes_eq (map to_ascii_lowercase run) (word_bytes word))) (is_none run more) e in
    All-cons (λ word. IsWord run word → ⊥) word more (other_word run word h.0) (none_is run more h.1)

name_of_bytes : (b : ℕ) (others : List ℕ) → is_letter b ≡ true → list_all is_in_word (b ∷ others) ≡ true → length (b ∷ others) ≤ 128 → is_none (b ∷ others) (words_with (to_ascii_lowercase b)) ≡ true → IsName (b ∷ others)
name_of_bytes b others l a s n =
    record { some = omega arith; within = s; letter = l; letters = a; other = no_word b others (b ∷ others) refl (none_is (b ∷ others) (words_with (to_ascii_lowercase b)) n) }

-- the name of a function is a name
pub function_name : (function : Function) → IsName (function_bytes function)
function_name f.Id = name_of_bytes 105 (100 ∷ []) refl refl (lit≤ tt) refl
function_name f.Len = name_of_bytes 108 (101 ∷ 110 ∷ []) refl refl (lit≤ tt) refl
function_name f.Contains = name_of_bytes 99 (111 ∷ 110 ∷ 116 ∷ 97 ∷ 105 ∷ 110 ∷ 115 ∷ []) refl refl (lit≤ tt) refl
function_name f.HasPrefix = name_of_bytes 104 (97 ∷ 115 ∷ 80 ∷ 114 ∷ 101 ∷ 102 ∷ 105 ∷ 120 ∷ []) refl refl (lit≤ tt) refl
function_name f.HasSuffix = name_of_bytes 104 (97 ∷ 115 ∷ 83 ∷ 117 ∷ 102 ∷ 102 ∷ 105 ∷ 120 ∷ []) refl refl (lit≤ tt) refl
function_name f.Coalesce = name_of_bytes 99 (111 ∷ 97 ∷ 108 ∷ 101 ∷ 115 ∷ 99 ∷ 101 ∷ []) refl refl (lit≤ tt) refl
function_name f.Count = name_of_bytes 99 (111 ∷ 117 ∷ 110 ∷ 116 ∷ []) refl refl (lit≤ tt) refl
function_name f.Sum = name_of_bytes 115 (117 ∷ 109 ∷ []) refl refl (lit≤ tt) refl
function_name f.Avg = name_of_bytes 97 (118 ∷ 103 ∷ []) refl refl (lit≤ tt) refl
function_name f.Min = name_of_bytes 109 (105 ∷ 110 ∷ []) refl refl (lit≤ tt) refl
function_name f.Max = name_of_bytes 109 (97 ∷ 120 ∷ []) refl refl (lit≤ tt) refl

letter_quiet : (b : ℕ) (text : List ℕ) → is_letter b ≡ true → IsQuiet (b ∷ text)
letter_quiet b text l = record { first = b; others = text; bytes = refl; minus = differs is_letter b 45 (b == 45) refl l refl; equal = differs is_letter b 61 (b == 61) refl l refl }

-- no sign goes on with a name
pub name_quiet : (bytes rest : List ℕ) → IsName bytes → IsQuiet (bytes ++ rest)
name_quiet [] rest n = absurd (omega (arith, n.some))
name_quiet (b ∷ others) rest n = letter_quiet b (others ++ rest) n.letter

digits_quiet : (ds rest : List ℕ) → are_decimal ds ≡ true → 0 < length ds → IsQuiet (ds ++ rest)
digits_quiet [] rest e l = absurd (omega (arith, l))
digits_quiet (d ∷ ds) rest e l =
    let h = both_true (is_digit d) (are_decimal ds) e in
    record { first = d; others = ds ++ rest; bytes = refl; minus = differs is_digit d 45 (d == 45) refl h.0 refl; equal = differs is_digit d 61 (d == 61) refl h.0 refl }

-- no sign goes on with a number
pub number_quiet : (n : ℕ) (rest : List ℕ) → n < 2 ^ 64 → IsQuiet (decimal n ++ rest)
number_quiet n rest l = digits_quiet (decimal n) rest (decimal_digits n l) (decimal_nonempty n l)
