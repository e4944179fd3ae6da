-- Printed parts whose tokens are cut off as themselves, whatever stands behind them.
use Rattle.std.proofs.Common.{◌≡◌, ℕ, true, List, [], ◌∷◌, ◌++◌, map, refl, append_assoc}
use Rattle.std.specs.Prelude.{flat_map}
use Rattle.std.specs.Char.{to_ascii_uppercase}
use Rattle.ql_lex.specs.declared.marks.Mark.TheVariants as m
use Rattle.ql_lex.specs.declared.words.Word.{Word}
use Rattle.ql_lex.specs.Words.{word_bytes, IsWord}
use Rattle.ql_lex.specs.Tokens.{IsName}
use Rattle.ql_syntax.specs.Ink.{text_of, mark, keyword, small, name, comma, listed, bracketed}
use Rattle.ql_syntax.specs.Printing.{Inks}
use Rattle.ql_print.proofs.LexedInk.{Lexed, blank, token}
use Rattle.ql_print.proofs.CutLemmas.{IsQuiet, ends, is_spelled_as_word, open_cut, close_cut, comma_cut, word_cut, name_cut}

-- a part is sound: where a text that does not go on with a word is read as its tokens, it is with this part before it
pub record IsSound (ink : Inks) : Type 0 where
  pub goes : (tail : Inks) → ends (text_of tail) ≡ true → Lexed tail → Lexed (ink ++ tail)

-- a part that stands behind another: no word goes on with it
pub record IsLater (ink : Inks) : Type 0 where
  pub goes : (tail : Inks) → ends (text_of tail) ≡ true → Lexed tail → Lexed (ink ++ tail)
  pub apart : (tail : Inks) → ends (text_of tail) ≡ true → ends (text_of (ink ++ tail)) ≡ true

-- a part that a sign may stand before
pub record IsPart (ink : Inks) : Type 0 where
  pub goes : (tail : Inks) → ends (text_of tail) ≡ true → Lexed tail → Lexed (ink ++ tail)
  pub quiet : (tail : Inks) → IsQuiet (text_of (ink ++ tail))

-- each of several parts is sound
pub data AreSound : List Inks → Type 0 where
  none : AreSound []
  one : {x : Inks} {xs : List Inks} → IsSound x → AreSound xs → AreSound (x ∷ xs)

pub sound_part : {x : Inks} → IsPart x → IsSound x
sound_part p = record { goes = p.goes }

pub later_none : IsLater []
later_none = record { goes = λ tail e l. l; apart = λ tail e. e }

-- one part before another
pub sound_then : (x y : Inks) → IsSound x → IsLater y → IsSound (x ++ y)
sound_then x y h k = record { goes = λ tail e l. rw append_assoc (h.goes (y ++ tail) (k.apart tail e) (k.goes tail e l)) }

pub later_then : (x y : Inks) → IsLater x → IsLater y → IsLater (x ++ y)
later_then x y h k = record {
  goes = λ tail e l. rw append_assoc (h.goes (y ++ tail) (k.apart tail e) (k.goes tail e l));
  apart = λ tail e. rw append_assoc (h.apart (y ++ tail) (k.apart tail e));
}

pub part_then : (x y : Inks) → IsPart x → IsLater y → IsPart (x ++ y)
part_then x y h k = record {
  goes = λ tail e l. rw append_assoc (h.goes (y ++ tail) (k.apart tail e) (k.goes tail e l));
  quiet = λ tail. rw append_assoc (h.quiet (y ++ tail));
}

-- a keyword in capital letters, before other tokens
pub keyword_lexed : (word : Word) (inks : Inks) → is_spelled_as_word (map to_ascii_uppercase (word_bytes word)) ≡ true → IsWord (map to_ascii_uppercase (word_bytes word)) word
    → ends (text_of inks) ≡ true → Lexed inks → Lexed (keyword word ∷ inks)
keyword_lexed word inks s w e l = token (word_cut word (map to_ascii_uppercase (word_bytes word)) (text_of inks) s w e) l

-- a keyword in small letters, before other tokens
pub small_lexed : (word : Word) (inks : Inks) → is_spelled_as_word (word_bytes word) ≡ true → IsWord (word_bytes word) word
    → ends (text_of inks) ≡ true → Lexed inks → Lexed (small word ∷ inks)
small_lexed word inks s w e l = token (word_cut word (word_bytes word) (text_of inks) s w e) l

-- a name before other tokens
pub name_lexed : (bytes : List ℕ) (inks : Inks) → IsName bytes → ends (text_of inks) ≡ true → Lexed inks → Lexed (name bytes ∷ inks)
name_lexed bytes inks n e l = token (name_cut bytes (text_of inks) n e) l

-- a part in brackets, before anything
bracketed_lexed : (x tail : Inks) → IsSound x → Lexed tail → Lexed (bracketed x ++ tail)
bracketed_lexed x tail h l =
    let inner : Lexed (x ++ mark m.Close ∷ tail) = h.goes (mark m.Close ∷ tail) refl (token (close_cut (text_of tail)) l) in
    let same : (x ++ mark m.Close ∷ []) ++ tail ≡ x ++ mark m.Close ∷ tail = append_assoc x (mark m.Close ∷ []) tail in
    token (open_cut (text_of ((x ++ mark m.Close ∷ []) ++ tail))) (rw same inner)

-- a part in brackets
pub bracketed_part : (x : Inks) → IsSound x → IsPart (bracketed x)
bracketed_part x h = record {
  goes = λ tail e l. bracketed_lexed x tail h l;
  quiet = λ tail. record { first = 40; others = text_of ((x ++ mark m.Close ∷ []) ++ tail); bytes = refl; minus = refl; equal = refl };
}

-- the same of a part that no word goes on with
pub bracketed_later : (x : Inks) → IsSound x → IsLater (bracketed x)
bracketed_later x h = record { goes = λ tail e l. bracketed_lexed x tail h l; apart = λ tail e. refl }

-- nothing in brackets, or a list
pub empty_sound : IsSound []
empty_sound = record { goes = λ tail e l. l }

comma_later : (x : Inks) → IsSound x → IsLater (comma ++ x)
comma_later x h = record { goes = λ tail e l. token (comma_cut (32 ∷ text_of (x ++ tail))) (blank (h.goes tail e l)); apart = λ tail e. refl }

commas_later : (xs : List Inks) → AreSound xs → IsLater (flat_map (λ (y : Inks). comma ++ y) xs)
commas_later [] none = later_none
commas_later (x ∷ xs) (one h k) = later_then (comma ++ x) (flat_map (λ (y : Inks). comma ++ y) xs) (comma_later x h) (commas_later xs k)

-- a list of parts
pub listed_sound : (xs : List Inks) → AreSound xs → IsSound (listed xs)
listed_sound [] none = empty_sound
listed_sound (x ∷ xs) (one h k) = sound_then x (flat_map (λ (y : Inks). comma ++ y) xs) h (commas_later xs k)
