-- Whatever a text is, it begins with a piece, or with none for one reason; so every script comes to an outcome.
use Rattle.std.proofs.Common.{◌≡◌, ℕ, zero, suc, ◌<◌, ◌≤◌, ◌⊎◌, inl, inr, Bool, true, false, List, [], ◌∷◌, ◌++◌, length, map, drop, refl, sym, ◌∙◌, ap, arith}
use Rattle.std.proofs.lemmas.Bool.Decides.{not_from_Decides, leb_tells}
use Rattle.std.proofs.Math.Dec.{leb}
use Rattle.std.proofs.lemmas.Slice.Eq.{bytes_eq-Decides}
use Rattle.std.specs.Prelude.{Option, Some, None, Result, Ok, Err, codes, ◌==◌}
use Rattle.std.specs.Char.{to_ascii_lowercase}
use Rattle.std.specs.Str.{bytes_eq}
use Rattle.ql_edge.specs.Names.{longest_name}
use Rattle.ql_lex.specs.declared.bytes.Start.{Start}
use Rattle.ql_lex.specs.declared.bytes.Start.TheVariants as s
use Rattle.ql_lex.specs.declared.escapes.Code.{Code}
use Rattle.ql_lex.specs.declared.marks.Mark.{Mark}
use Rattle.ql_lex.specs.declared.pieces.Piece.{Piece}
use Rattle.ql_lex.specs.declared.pieces.Piece.TheVariants as p
use Rattle.ql_lex.specs.declared.strings.StringByte.{StringByte}
use Rattle.ql_lex.specs.declared.strings.StringByte.TheVariants as b
use Rattle.ql_lex.specs.declared.token.Flaw.{Flaw}
use Rattle.ql_lex.specs.declared.token.TokenKind.{TokenKind}
use Rattle.ql_lex.specs.declared.token.TokenKind.TheVariants as kind
use Rattle.ql_lex.specs.Bytes.{start, is_in_raw, after}
use Rattle.ql_lex.specs.Comments.{ClosesComment, NeverCloses}
use Rattle.ql_lex.specs.Escapes.{escape_at}
use Rattle.ql_lex.specs.Marks.{mark_bytes, mark_of_one, mark_of_two}
use Rattle.ql_lex.specs.Numbers.{is_number}
use Rattle.ql_lex.specs.Pieces.{Cuts, Spoils, word_of}
use Rattle.ql_lex.specs.Pieces as cuts
use Rattle.ql_lex.specs.Strings.{ClosesAfter, SpoilsAfter, byte_in_string, next_in_string}
use Rattle.ql_lex.specs.Strings as strings
use Rattle.ql_lex.specs.Tokens.{Outcome, Lexes}
use Rattle.ql_lex.specs.Tokens as lexes
use Rattle.ql_lex.specs.Words.{Names, IsWord, word_bytes}
use Rattle.ql_lex.specs.Words as names
use Rattle.ql_lex.proofs.EndLemmas.{cut_shorter}
use Rattle.ql_lex.proofs.EscapeLemmas.{escape_behind, behind_shorter}
use Rattle.ql_lex.proofs.MarkLemmas.{IsOne, IsTwo, one_or_two, longest_two}
use Rattle.ql_lex.proofs.WordLemmas.{found, found-bytes}

-- a text that begins so begins with a piece, or with none
pub data Begins (x : Start) (b : ℕ) (text : List ℕ) : Type 0 where
  cut : {q : Piece} {rest : List ℕ} → Cuts x b text q rest → Begins x b text
  flawed : {f : Flaw} → Spoils x b text f → Begins x b text

-- one of some things is spelled so, or none is
abbrev Spelled : {A : Type 0} → (A → List ℕ) → List ℕ → Type 0
Spelled {A} bytes xs = ((x : A) × (bytes x ≡ xs)) ⊎ ((x : A) → bytes x ≡ xs → ⊥)

-- where it is known which one it would be
spelled : {A : Type 0} (bytes : A → List ℕ) (xs : List ℕ) (r : Option A) → ((x : A) → bytes x ≡ xs → r ≡ Some x) → Spelled bytes xs
spelled bytes xs None h = inr (λ x e. let no = h x e in cc)
spelled {A = A} bytes xs (Some y) h = by (bytes_eq (bytes y) xs) refl
  where
    by : (t : Bool) → bytes_eq (bytes y) xs ≡ t → Spelled bytes xs
    by true e = inl (y, (bytes_eq-Decides (bytes y) xs).0 e)
    by false e = inr (λ x d. let same : Some y ≡ Some x = h x d in let other : y ≡ x = cc in not_from_Decides _ (bytes_eq-Decides (bytes y) xs) e (ap bytes other ∙ d))

-- a word is a keyword or a name
named : (run : List ℕ) → (k : TokenKind) × Names run k
named run = by (spelled word_bytes (map to_ascii_lowercase run) (found (map to_ascii_lowercase run)) (λ w e. ap found (sym e) ∙ found-bytes w))
  where
    by : Spelled word_bytes (map to_ascii_lowercase run) → (k : TokenKind) × Names run k
    by (inl h) = (kind.Word h.0, names.keyword (sym h.1))
    by (inr none) = (kind.Name, names.name (λ w e. none w (sym e)))

a_word : (b : ℕ) (text : List ℕ) → Begins s.Word b text
a_word b text = by (leb_tells (length (word_of b text)) longest_name)
  where
    by : ((leb (length (word_of b text)) longest_name ≡ true) × (length (word_of b text) ≤ longest_name)) ⊎ ((leb (length (word_of b text)) longest_name ≡ false) × (longest_name < length (word_of b text))) → Begins s.Word b text
    by (inl h) = cut (cuts.word h.1 (named (word_of b text)).1)
    by (inr h) = flawed (cuts.long_word h.1)

a_number : (b : ℕ) (text : List ℕ) → Begins s.Number b text
a_number b text = by (is_number (word_of b text)) refl
  where
    by : (t : Bool) → is_number (word_of b text) ≡ t → Begins s.Number b text
    by true e = cut (cuts.number e)
    by false e = flawed (cuts.bad_number e)

a_raw : (b : ℕ) (text : List ℕ) → Begins s.RawString b text
a_raw b text = by (after is_in_raw text) refl
  where
    by : (left : List ℕ) → after is_in_raw text ≡ left → Begins s.RawString b text
    by [] e = flawed (cuts.open_raw e)
    by (q ∷ rest) e = cut (cuts.raw_string e)

-- `*/` stands at the front of a text
abbrev IsClose : List ℕ → Type 0
IsClose text = (rest : List ℕ) × (text ≡ codes "*/" ++ rest)

is_close : (text : List ℕ) → IsClose text ⊎ ((rest : List ℕ) → text ≡ codes "*/" ++ rest → ⊥)
is_close [] = inr (λ rest e. cc)
is_close (a ∷ []) = inr (λ rest e. cc)
is_close (a ∷ c ∷ rest) = by (bytes_eq (a ∷ c ∷ []) (codes "*/")) refl
  where
    by : (t : Bool) → bytes_eq (a ∷ c ∷ []) (codes "*/") ≡ t → IsClose (a ∷ c ∷ rest) ⊎ ((behind : List ℕ) → a ∷ c ∷ rest ≡ codes "*/" ++ behind → ⊥)
    by true e = let same : a ∷ c ∷ [] ≡ codes "*/" = (bytes_eq-Decides _ _).0 e in inl (rest, ap (λ (x : List ℕ). x ++ rest) same)
    by false e = inr (λ behind d. let first : a ≡ 42 = cc in let second : c ≡ 47 = cc in not_from_Decides _ (bytes_eq-Decides (a ∷ c ∷ []) (codes "*/")) e (rw (first, second) refl))

-- a comment closes somewhere, or nowhere
abbrev Closes : List ℕ → Type 0
Closes text = ((rest : List ℕ) × ClosesComment text rest) ⊎ NeverCloses text

closes_behind : (a : ℕ) (text : List ℕ) → ((rest : List ℕ) → a ∷ text ≡ codes "*/" ++ rest → ⊥) → Closes text → Closes (a ∷ text)
closes_behind a text none (inl h) = inl (h.0, record { inside = a ∷ h.1.inside; whole = ap (λ (x : List ℕ). a ∷ x) h.1.whole; next = next })
  where
    next : (before behind : List ℕ) → a ∷ text ≡ before ++ (codes "*/" ++ behind) → length (a ∷ h.1.inside) ≤ length before
    next [] behind e = absurd (none behind e)
    next (x ∷ before) behind e = let tail : text ≡ before ++ (codes "*/" ++ behind) = cc in omega (arith, h.1.next before behind tail)
closes_behind a text none (inr h) = inr never
  where
    never : (before behind : List ℕ) → a ∷ text ≡ before ++ (codes "*/" ++ behind) → ⊥
    never [] behind e = none behind e
    never (x ∷ before) behind e = let tail : text ≡ before ++ (codes "*/" ++ behind) = cc in h before behind tail

closes_at : (text : List ℕ) → IsClose text ⊎ ((rest : List ℕ) → text ≡ codes "*/" ++ rest → ⊥) → Closes text ⊎ ((rest : List ℕ) → text ≡ codes "*/" ++ rest → ⊥)
closes_at text (inl h) = inl (inl (h.0, record { inside = []; whole = h.1; next = λ before behind e. omega arith }))
closes_at text (inr none) = inr none

closes_after : (a : ℕ) (text : List ℕ) → Closes text → Closes (a ∷ text) ⊎ ((rest : List ℕ) → a ∷ text ≡ codes "*/" ++ rest → ⊥) → Closes (a ∷ text)
closes_after a text h (inl k) = k
closes_after a text h (inr none) = closes_behind a text none h

closes : (text : List ℕ) → Closes text
closes [] = inr (λ before behind e. never before behind e)
  where
    never : (before behind : List ℕ) → [] ≡ before ++ (codes "*/" ++ behind) → ⊥
    never [] behind e = cc
    never (x ∷ before) behind e = cc
closes (a ∷ text) = closes_after a text (closes text) (closes_at (a ∷ text) (is_close (a ∷ text)))

a_comment : (b : ℕ) (text : List ℕ) → Begins s.BlockComment b text
a_comment b text = by (closes (drop 1 text))
  where
    by : Closes (drop 1 text) → Begins s.BlockComment b text
    by (inl h) = cut (cuts.block_comment h.1)
    by (inr h) = flawed (cuts.open_comment h)

-- a string closes, or it is spoilt
pub data Strings (x : StringByte) (text : List ℕ) : Type 0 where
  closed : {rest : List ℕ} → ClosesAfter x text rest → Strings x text
  spoilt : {f : Flaw} → SpoilsAfter x text f → Strings x text

-- a byte is not the end
is_a_byte : (a : ℕ) → byte_in_string a ≡ b.End → ⊥
is_a_byte a d = by (a == 34) (a == 10) (a == 92) refl refl refl
  where
    by : (t u v : Bool) → a == 34 ≡ t → a == 10 ≡ u → a == 92 ≡ v → ⊥
    by true u v e f g = let no_byte : b.Quote ≡ b.End = rw e at d in cc
    by false true v e f g = let no_byte : b.Newline ≡ b.End = rw (e, f) at d in cc
    by false false true e f g = let no_byte : b.Backslash ≡ b.End = rw (e, f, g) at d in cc
    by false false false e f g = let no_byte : b.Plain ≡ b.End = rw (e, f, g) at d in cc

-- one byte or escape, where what stands behind it closes or is spoilt
one_byte : (a : ℕ) (text : List ℕ) → ((behind : List ℕ) → length behind ≤ length text → Strings (next_in_string behind) behind) → Strings (byte_in_string a) (a ∷ text)
one_byte a text next = by (byte_in_string a) refl (escape_at text) refl
  where
    plain : Strings (next_in_string text) text → Strings b.Plain (a ∷ text)
    plain (closed h) = closed (strings.plain h)
    plain (spoilt h) = spoilt (strings.after_plain h)

    escaped : {c : Code} {behind : List ℕ} → escape_at text ≡ Ok (c, behind) → Strings (next_in_string behind) behind → Strings b.Backslash (a ∷ text)
    escaped e (closed h) = closed (strings.escape e h)
    escaped e (spoilt h) = spoilt (strings.after_escape e h)

    by : (x : StringByte) → byte_in_string a ≡ x → (r : Result (Code × List ℕ) Flaw) → escape_at text ≡ r → Strings x (a ∷ text)
    by b.Quote d r e = closed strings.quote
    by b.Newline d r e = spoilt strings.newline
    by b.Plain d r e = plain (next text (omega arith))
    by b.Backslash d (Err f) e = spoilt (strings.bad_escape e)
    by b.Backslash d (Ok (c, behind)) e = escaped e (next behind (behind_shorter text behind (escape_behind text behind c e)))
    by b.End d r e = absurd (is_a_byte a d)

a_string_of : (most : ℕ) (text : List ℕ) → length text ≤ most → Strings (next_in_string text) text
a_string_of most [] within = spoilt strings.ended
a_string_of zero (a ∷ text) within = absurd (omega (arith, within))
a_string_of (suc most) (a ∷ text) within = one_byte a text (λ behind k. a_string_of most behind (omega (arith, k, within)))

a_string : (b : ℕ) (text : List ℕ) → Begins s.String b text
a_string b text = by (a_string_of (length text) text (omega arith))
  where
    by : Strings (next_in_string text) text → Begins s.String b text
    by (closed h) = cut (cuts.string h)
    by (spoilt h) = flawed (cuts.bad_string h)

-- a mark that is read at a place is one byte or two
fits_one : (a : ℕ) (rest : List ℕ) (o : Mark) (behind : List ℕ) → a ∷ rest ≡ mark_bytes o ++ behind → IsOne o → mark_bytes o ≡ a ∷ []
fits_one a rest o behind e h =
    let both : a ∷ rest ≡ h.a ∷ behind = e ∙ ap (λ (x : List ℕ). x ++ behind) h.bytes in
    let head : h.a ≡ a = cc in
    h.bytes ∙ ap (λ x. x ∷ []) head

fits_two : (a c : ℕ) (rest : List ℕ) (o : Mark) (behind : List ℕ) → a ∷ c ∷ rest ≡ mark_bytes o ++ behind → IsTwo o → mark_bytes o ≡ a ∷ c ∷ []
fits_two a c rest o behind e h =
    let both : a ∷ c ∷ rest ≡ h.a ∷ h.b ∷ behind = e ∙ ap (λ (x : List ℕ). x ++ behind) h.bytes in
    let head : h.a ≡ a = cc in
    let next : h.b ≡ c = cc in
    rw (h.bytes, head, next) refl

-- the marks of one byte and of two
is_one : (a : ℕ) (m : Mark) → mark_bytes m ≡ a ∷ [] → mark_of_one a ≡ Some m
is_one a m e = by (one_or_two m)
  where
    by : IsOne m ⊎ IsTwo m → mark_of_one a ≡ Some m
    by (inl h) = let both : a ∷ [] ≡ h.a ∷ [] = sym e ∙ h.bytes in let same : a ≡ h.a = cc in rw same h.is
    by (inr h) = let both : a ∷ [] ≡ h.a ∷ h.b ∷ [] = sym e ∙ h.bytes in cc

is_two : (a c : ℕ) (m : Mark) → mark_bytes m ≡ a ∷ c ∷ [] → mark_of_two a c ≡ Some m
is_two a c m e = by (one_or_two m)
  where
    by : IsOne m ⊎ IsTwo m → mark_of_two a c ≡ Some m
    by (inl h) = let both : a ∷ c ∷ [] ≡ h.a ∷ [] = sym e ∙ h.bytes in cc
    by (inr h) = let both : a ∷ c ∷ [] ≡ h.a ∷ h.b ∷ [] = sym e ∙ h.bytes in let same : a ≡ h.a = cc in let next : c ≡ h.b = cc in rw (same, next) h.is

-- where no mark of two bytes stands, one of one byte does, or none
a_short_mark : (a : ℕ) (rest : List ℕ) → ((o : Mark) (behind : List ℕ) → a ∷ rest ≡ mark_bytes o ++ behind → IsTwo o → ⊥) → Begins s.Other a rest
a_short_mark a rest none = by (spelled mark_bytes (a ∷ []) (mark_of_one a) (is_one a))
  where
    longest : (m : Mark) → mark_bytes m ≡ a ∷ [] → (o : Mark) (behind : List ℕ) → a ∷ rest ≡ mark_bytes o ++ behind → IsOne o ⊎ IsTwo o → length (mark_bytes o) ≤ length (mark_bytes m)
    longest m e o behind d (inl h) = rw (h.bytes, e) (omega arith)
    longest m e o behind d (inr h) = absurd (none o behind d h)

    nothing : ((m : Mark) → mark_bytes m ≡ a ∷ [] → ⊥) → (o : Mark) (behind : List ℕ) → a ∷ rest ≡ mark_bytes o ++ behind → IsOne o ⊎ IsTwo o → ⊥
    nothing f o behind d (inl h) = f o (fits_one a rest o behind d h)
    nothing f o behind d (inr h) = none o behind d h

    by : Spelled mark_bytes (a ∷ []) → Begins s.Other a rest
    by (inl h) = cut (cuts.mark {m = h.0} (ap (λ (x : List ℕ). x ++ rest) (sym h.1)) (λ o behind d. longest h.0 h.1 o behind d (one_or_two o)))
    by (inr f) = flawed (cuts.bad_byte (λ o behind d. nothing f o behind d (one_or_two o)))

a_mark : (a : ℕ) (text : List ℕ) → Begins s.Other a text
a_mark a [] = a_short_mark a [] (λ o behind d h. let both : a ∷ [] ≡ h.a ∷ h.b ∷ behind = d ∙ ap (λ (x : List ℕ). x ++ behind) h.bytes in cc)
a_mark a (c ∷ rest) = by (spelled mark_bytes (a ∷ c ∷ []) (mark_of_two a c) (is_two a c))
  where
    by : Spelled mark_bytes (a ∷ c ∷ []) → Begins s.Other a (c ∷ rest)
    by (inl h) = cut (cuts.mark {m = h.0} (ap (λ (x : List ℕ). x ++ rest) (sym h.1)) (longest_two h.0 (a ∷ c ∷ rest) (ap length h.1)))
    by (inr f) = a_short_mark a (c ∷ rest) (λ o behind d h. f o (fits_two a c rest o behind d h))

begins : (x : Start) (b : ℕ) (text : List ℕ) → Begins x b text
begins s.Blank b text = cut cuts.blank
begins s.LineComment b text = cut cuts.line_comment
begins s.BlockComment b text = a_comment b text
begins s.Word b text = a_word b text
begins s.Number b text = a_number b text
begins s.RawString b text = a_raw b text
begins s.String b text = a_string b text
begins s.Other b text = a_mark b text

-- what is left of a script comes to an outcome
abbrev Comes : ℕ → List ℕ → Type 0
Comes total text = (o : Outcome) × Lexes total text o

one_piece : (total b : ℕ) (text : List ℕ) → ((rest : List ℕ) → length rest ≤ length text → Comes total rest) → Begins (start b text) b text → Comes total (b ∷ text)
one_piece total b text next (flawed h) = (_, lexes.flaw h)
one_piece total b text next (cut {q = p.Gap} {rest = rest} h) = let more = next rest (cut_shorter h) in (more.0, lexes.gap h more.1)
one_piece total b text next (cut {q = p.Token k} {rest = rest} h) = let more = next rest (cut_shorter h) in (_, lexes.token h more.1)

comes : (total most : ℕ) (text : List ℕ) → length text ≤ most → Comes total text
comes total most [] within = (Ok [], lexes.over)
comes total zero (b ∷ text) within = absurd (omega (arith, within))
comes total (suc most) (b ∷ text) within = one_piece total b text (λ rest k. comes total most rest (omega (arith, k, within))) (begins (start b text) b text)

-- every script comes to an outcome
pub outcome : (source : List ℕ) → (o : Outcome) × Lexes (length source) source o
outcome source = comes (length source) (length source) source (omega arith)
