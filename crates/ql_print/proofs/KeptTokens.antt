-- What printing keeps of the tokens that were read: the steps, token by token.
use Rattle.std.proofs.Common.{◌≡◌, ℕ, Bool, true, false, List, [], ◌∷◌, ◌++◌, refl, ap, append_assoc}
use Rattle.std.proofs.Common.{rules}
use Rattle.std.specs.Prelude.{◌&&◌, ◌||◌, codes, flat_map}
use Rattle.std.specs.Fmt.{decimal}
use Rattle.std.specs.List.{AllByRecursion}
use Rattle.std.specs.Str.{bytes_eq}
use Rattle.std.proofs.lemmas.Slice.Eq.{bytes_eq-Decides}
use denote.Enum.Bare.{same_true}
use Rattle.ql_lex.specs.Meaning.{text_value}
use Rattle.ql_lex.specs.Numbers.{number_value}
use Rattle.ql_lex.specs.contracts.marks.Mark as mark_type
use Rattle.ql_lex.specs.contracts.words.Word as word_type
use Rattle.ql_lex.specs.declared.marks.Mark.{Mark}
use Rattle.ql_lex.specs.declared.marks.Mark.TheVariants as m
use Rattle.ql_lex.specs.declared.words.Word.{Word}
use Rattle.ql_lex.specs.declared.words.Word.TheVariants as w
use Rattle.ql_lex.specs.declared.token.TokenKind.{TokenKind}
use Rattle.ql_lex.specs.declared.token.TokenKind.TheVariants as kind
use Rattle.ql_value.specs.Print.{quoted}
use Rattle.ql_syntax.specs.Ink.{space, written, tokens_of, mark, keyword, small, name, number, string, comma, bracketed}
use Rattle.ql_syntax.specs.Lexemes.{Lexeme, kind_is_mark, kind_is_word, kind_is_name, kind_is_number, kind_is_text, is_mark, is_word, is_name, is_number, is_text, is_named, is_open, is_close, is_comma, is_either, is_both, is_comparison, is_sum, is_product, is_prefix, is_kind, is_id, is_count, is_function}
use Rattle.ql_syntax.specs.Functions.{function_bytes}
use Rattle.ql_syntax.specs.Printing.{Inks, ink_of_bin, ink_of_un, word_of_kind}
use Rattle.ql_syntax.specs.SameTokens.{IsAlike, sense_of, SameTokens, same, ends_list, ends_statement, kind_ends_list, kind_ends_statement}
use Rattle.ql_syntax.specs.SameTokens as is
use Rattle.ql_syntax.specs.Trees.{bin_op, un_op, kind_named, function_named}
use Rattle.ql_print.proofs.BackTokens.{word_token, small_token, mark_token, name_token, bin_token, un_token, ink_of_bin_is, ink_of_un_is}

-- the literal that a token is means the same once it is printed
pub record IsWorth (t : Lexeme) : Type 0 where
  pub number : is_number t ≡ true → number_value (decimal (number_value t.text)) ≡ number_value t.text
  pub text : is_text t ≡ true → text_value (quoted false (text_value t.text)) ≡ text_value t.text

-- From the tokens `ts` to the tokens `rest` behind them, what was read is what is printed.
pub record Goes (ts rest : List Lexeme) (ink : Inks) : Type 0 where
  pub worth : AllByRecursion IsWorth ts → AllByRecursion IsWorth rest
  pub goes : AllByRecursion IsWorth ts → (tail : Inks) → SameTokens rest (tokens_of tail) → SameTokens ts (tokens_of (ink ++ tail))

pub goes_none : {ts : List Lexeme} → Goes ts ts []
goes_none = record { worth = λ a. a; goes = λ a tail s. s }

-- one part before another
pub goes_then : {ts mid rest : List Lexeme} {x y : Inks} → Goes ts mid x → Goes mid rest y → Goes ts rest (x ++ y)
goes_then {x = x} {y = y} h k = record {
  worth = λ a. k.worth (h.worth a);
  goes = λ a tail s. rw (append_assoc x y tail) (h.goes a (y ++ tail) (k.goes (h.worth a) tail s));
}

-- a part, and tokens behind it that are left out
pub goes_over : {ts mid rest : List Lexeme} {x : Inks} → Goes ts mid x → Goes mid rest [] → Goes ts rest x
goes_over h k = record { worth = λ a. k.worth (h.worth a); goes = λ a tail s. h.goes a tail (k.goes (h.worth a) tail s) }

pub goes_space : {ts rest : List Lexeme} {x : Inks} → Goes ts rest x → Goes ts rest (space ∷ x)
goes_space h = record { worth = λ a. h.worth a; goes = λ a tail s. h.goes a tail s }

-- a token that says the same, before a part
pub goes_same : {t u : Lexeme} {ts rest : List Lexeme} {x : Inks} → (IsWorth t → IsAlike t u) → Goes ts rest x → Goes (t ∷ ts) rest (written u ∷ x)
goes_same e h = record { worth = λ a. h.worth a.1; goes = λ a tail s. same (e a.0) (h.goes a.1 tail s) }

-- kinds of tokens

marked : (a : Mark) (k : TokenKind) → kind_is_mark a k ≡ true → k ≡ kind.Mark a
marked a kind.Name e = cc
marked a kind.Number e = cc
marked a kind.Text e = cc
marked a (kind.Word b) e = cc
marked a (kind.Mark b) e = ap kind.Mark (same_true mark_type.the_type (search rules) _ _ e)

worded : (a : Word) (k : TokenKind) → kind_is_word a k ≡ true → k ≡ kind.Word a
worded a kind.Name e = cc
worded a kind.Number e = cc
worded a kind.Text e = cc
worded a (kind.Mark b) e = cc
worded a (kind.Word b) e = ap kind.Word (same_true word_type.the_type (search rules) _ _ e)

named : (k : TokenKind) → kind_is_name k ≡ true → k ≡ kind.Name
named kind.Name e = refl
named kind.Number e = cc
named kind.Text e = cc
named (kind.Mark b) e = cc
named (kind.Word b) e = cc

numbered : (k : TokenKind) → kind_is_number k ≡ true → k ≡ kind.Number
numbered kind.Name e = cc
numbered kind.Number e = refl
numbered kind.Text e = cc
numbered (kind.Mark b) e = cc
numbered (kind.Word b) e = cc

texted : (k : TokenKind) → kind_is_text k ≡ true → k ≡ kind.Text
texted kind.Name e = cc
texted kind.Number e = cc
texted kind.Text e = refl
texted (kind.Mark b) e = cc
texted (kind.Word b) e = cc

pub mark_kind : (a : Mark) (t : Lexeme) → is_mark a t ≡ true → t.kind ≡ kind.Mark a
mark_kind a t e = marked a t.kind e

pub word_kind : (a : Word) (t : Lexeme) → is_word a t ≡ true → t.kind ≡ kind.Word a
word_kind a t e = worded a t.kind e

-- single tokens that say the same

pub mark_alike : (a : Mark) (t : Lexeme) → is_mark a t ≡ true → IsAlike t (mark_token a)
mark_alike a t e = ap (λ (k : TokenKind). sense_of k t.text) (mark_kind a t e)

pub word_alike : (a : Word) (t : Lexeme) → is_word a t ≡ true → IsAlike t (word_token a)
word_alike a t e = ap (λ (k : TokenKind). sense_of k t.text) (word_kind a t e)

pub small_alike : (a : Word) (t : Lexeme) → is_word a t ≡ true → IsAlike t (small_token a)
small_alike a t e = ap (λ (k : TokenKind). sense_of k t.text) (word_kind a t e)

pub name_alike : (t : Lexeme) → is_name t ≡ true → IsAlike t (name_token t.text)
name_alike t e = ap (λ (k : TokenKind). sense_of k t.text) (named t.kind e)

-- a token before a part

pub goes_mark : {a : Mark} {t : Lexeme} {ts rest : List Lexeme} {x : Inks} → is_mark a t ≡ true → Goes ts rest x → Goes (t ∷ ts) rest (mark a ∷ x)
goes_mark {a = a} {t = t} e h = goes_same (λ q. mark_alike a t e) h

pub goes_word : {a : Word} {t : Lexeme} {ts rest : List Lexeme} {x : Inks} → is_word a t ≡ true → Goes ts rest x → Goes (t ∷ ts) rest (keyword a ∷ x)
goes_word {a = a} {t = t} e h = goes_same (λ q. word_alike a t e) h

pub goes_small : {a : Word} {t : Lexeme} {ts rest : List Lexeme} {x : Inks} → is_word a t ≡ true → Goes ts rest x → Goes (t ∷ ts) rest (small a ∷ x)
goes_small {a = a} {t = t} e h = goes_same (λ q. small_alike a t e) h

pub goes_name : {t : Lexeme} {ts rest : List Lexeme} {x : Inks} → is_name t ≡ true → Goes ts rest x → Goes (t ∷ ts) rest (name t.text ∷ x)
goes_name {t = t} e h = goes_same (λ q. name_alike t e) h

number_same : (k : TokenKind) (bytes : List ℕ) → k ≡ kind.Number → number_value (decimal (number_value bytes)) ≡ number_value bytes →
    sense_of k bytes ≡ sense_of kind.Number (decimal (number_value bytes))
number_same k bytes e h = rw (e, h) refl

pub goes_number : {t : Lexeme} {ts rest : List Lexeme} {x : Inks} → is_number t ≡ true → Goes ts rest x → Goes (t ∷ ts) rest (number (number_value t.text) ∷ x)
goes_number {t = t} e h = goes_same (λ q. number_same t.kind t.text (numbered t.kind e) (q.number e)) h

text_same : (k : TokenKind) (bytes : List ℕ) → k ≡ kind.Text → text_value (quoted false (text_value bytes)) ≡ text_value bytes →
    sense_of k bytes ≡ sense_of kind.Text (quoted false (text_value bytes))
text_same k bytes e h = rw (e, h) refl

pub goes_text : {t : Lexeme} {ts rest : List Lexeme} {x : Inks} → is_text t ≡ true → Goes ts rest x → Goes (t ∷ ts) rest (string (text_value t.text) ∷ x)
goes_text {t = t} e h = goes_same (λ q. text_same t.kind t.text (texted t.kind e) (q.text e)) h

-- a part in brackets
pub goes_bracketed : {o c : Lexeme} {ts rest : List Lexeme} {x : Inks} → is_open o ≡ true → Goes ts (c ∷ rest) x → is_close c ≡ true → Goes (o ∷ ts) rest (bracketed x)
goes_bracketed o h c = goes_mark o (goes_then h (goes_mark c goes_none))

-- a keyword is no literal
pub word_worth : (a : Word) → IsWorth (word_token a)
word_worth a = record { number = λ e. cc; text = λ e. cc }

-- what may stand behind a statement or a list

pub close_ends : (c : Lexeme) (rest : List Lexeme) → is_close c ≡ true → ends_statement (c ∷ rest) ≡ true
close_ends c rest e = ap kind_ends_statement (mark_kind m.Close c e)

pub semicolon_ends : (t : Lexeme) (rest : List Lexeme) → is_mark m.Semicolon t ≡ true → ends_statement (t ∷ rest) ≡ true
semicolon_ends t rest e = ap kind_ends_statement (mark_kind m.Semicolon t e)

pub word_ends : (a : Word) (t : Lexeme) (rest : List Lexeme) → kind_ends_list (kind.Word a) ≡ true → is_word a t ≡ true → ends_list (t ∷ rest) ≡ true
word_ends a t rest h e = rw (word_kind a t e) h

pub close_ends_list : (c : Lexeme) (rest : List Lexeme) → is_close c ≡ true → ends_list (c ∷ rest) ≡ true
close_ends_list c rest e = ap kind_ends_list (mark_kind m.Close c e)

mark_ends_list : (a : Mark) → kind_ends_statement (kind.Mark a) ≡ true → kind_ends_list (kind.Mark a) ≡ true
mark_ends_list m.Close e = refl
mark_ends_list m.Semicolon e = refl
mark_ends_list _ e = absurd (cc)

kind_ends : (k : TokenKind) → kind_ends_statement k ≡ true → kind_ends_list k ≡ true
kind_ends kind.Name e = cc
kind_ends kind.Number e = cc
kind_ends kind.Text e = cc
kind_ends (kind.Word b) e = cc
kind_ends (kind.Mark a) e = mark_ends_list a e

-- where a statement may end, a list may
pub list_ends : (ts : List Lexeme) → ends_statement ts ≡ true → ends_list ts ≡ true
list_ends [] e = refl
list_ends (t ∷ ts) e = kind_ends t.kind e

-- lists

-- what further parts print
abbrev pub commas : List Inks → Inks
commas parts = flat_map (λ (y : Inks). comma ++ y) parts

pub goes_further : {c : Lexeme} {ts mid rest : List Lexeme} {x : Inks} (xs : List Inks) → is_comma c ≡ true → Goes ts mid x → Goes mid rest (commas xs) → Goes (c ∷ ts) rest (commas (x ∷ xs))
goes_further xs e h k = goes_mark e (goes_space (goes_then h k))

pub goes_trailing : {c : Lexeme} {ts : List Lexeme} → is_comma c ≡ true → ends_list ts ≡ true → Goes (c ∷ ts) ts []
goes_trailing e f = record { worth = λ a. a.1; goes = λ a tail s. is.no_comma e f s }

-- operators

or_else : {C : Type 0} (a b : Bool) → (a || b) ≡ true → (a ≡ true → C) → (b ≡ true → C) → C
or_else true b h f g = f refl
or_else false b h f g = g h

-- a token is the operator that it is printed as
abbrev pub IsBin : Lexeme → Type 0
IsBin t = IsAlike t (bin_token (bin_op t.kind))

as_bin : (t : Lexeme) (k : TokenKind) → t.kind ≡ k → ((bytes : List ℕ) → sense_of k bytes ≡ sense_of (bin_token (bin_op k)).kind (bin_token (bin_op k)).text) → IsBin t
as_bin t k e h = rw e (h t.text)

bin_mark : (t : Lexeme) (a : Mark) → ((bytes : List ℕ) → sense_of (kind.Mark a) bytes ≡ sense_of (bin_token (bin_op (kind.Mark a))).kind (bin_token (bin_op (kind.Mark a))).text) → is_mark a t ≡ true → IsBin t
bin_mark t a h e = as_bin t (kind.Mark a) (mark_kind a t e) h

bin_word : (t : Lexeme) (a : Word) → ((bytes : List ℕ) → sense_of (kind.Word a) bytes ≡ sense_of (bin_token (bin_op (kind.Word a))).kind (bin_token (bin_op (kind.Word a))).text) → is_word a t ≡ true → IsBin t
bin_word t a h e = as_bin t (kind.Word a) (word_kind a t e) h

pub either_bin : (t : Lexeme) → is_either t ≡ true → IsBin t
either_bin t h = or_else (is_mark m.OrOr t) _ h (bin_mark t m.OrOr (λ b. refl)) (bin_word t w.Or (λ b. refl))

pub both_bin : (t : Lexeme) → is_both t ≡ true → IsBin t
both_bin t h = or_else (is_mark m.AndAnd t) _ h (bin_mark t m.AndAnd (λ b. refl)) (bin_word t w.And (λ b. refl))

pub comparison_bin : (t : Lexeme) → is_comparison t ≡ true → IsBin t
comparison_bin t h =
    or_else (is_mark m.EqualEqual t) _ h (bin_mark t m.EqualEqual (λ b. refl)) (λ h.
    or_else (is_mark m.Equal t) _ h (bin_mark t m.Equal (λ b. refl)) (λ h.
    or_else (is_mark m.BangEqual t) _ h (bin_mark t m.BangEqual (λ b. refl)) (λ h.
    or_else (is_mark m.LessGreater t) _ h (bin_mark t m.LessGreater (λ b. refl)) (λ h.
    or_else (is_mark m.Less t) _ h (bin_mark t m.Less (λ b. refl)) (λ h.
    or_else (is_mark m.LessEqual t) _ h (bin_mark t m.LessEqual (λ b. refl)) (λ h.
    or_else (is_mark m.Greater t) _ h (bin_mark t m.Greater (λ b. refl)) (λ h.
    or_else (is_mark m.GreaterEqual t) _ h (bin_mark t m.GreaterEqual (λ b. refl)) (bin_word t w.Like (λ b. refl)))))))))

pub sum_bin : (t : Lexeme) → is_sum t ≡ true → IsBin t
sum_bin t h =
    or_else (is_mark m.Plus t) _ h (bin_mark t m.Plus (λ b. refl)) (λ h.
    or_else (is_mark m.Minus t) _ h (bin_mark t m.Minus (λ b. refl)) (λ h.
    or_else (is_mark m.Bar t) _ h (bin_mark t m.Bar (λ b. refl)) (bin_mark t m.Caret (λ b. refl))))

pub product_bin : (t : Lexeme) → is_product t ≡ true → IsBin t
product_bin t h =
    or_else (is_mark m.Star t) _ h (bin_mark t m.Star (λ b. refl)) (λ h.
    or_else (is_mark m.Slash t) _ h (bin_mark t m.Slash (λ b. refl)) (λ h.
    or_else (is_mark m.Percent t) _ h (bin_mark t m.Percent (λ b. refl)) (λ h.
    or_else (is_mark m.ShiftLeft t) _ h (bin_mark t m.ShiftLeft (λ b. refl)) (λ h.
    or_else (is_mark m.ShiftRight t) _ h (bin_mark t m.ShiftRight (λ b. refl)) (λ h.
    or_else (is_mark m.Ampersand t) _ h (bin_mark t m.Ampersand (λ b. refl)) (bin_mark t m.AndNot (λ b. refl)))))))

pub goes_bin : {t : Lexeme} {ts rest : List Lexeme} {x : Inks} → IsBin t → Goes ts rest x → Goes (t ∷ ts) rest (ink_of_bin (bin_op t.kind) ∷ x)
goes_bin {t = t} e h = rw (ink_of_bin_is (bin_op t.kind)) (goes_same (λ q. e) h)

-- operators before a part

abbrev IsUn : Lexeme → Type 0
IsUn t = IsAlike t (un_token (un_op t.kind))

un_mark : (t : Lexeme) (a : Mark) → ((bytes : List ℕ) → sense_of (kind.Mark a) bytes ≡ sense_of (un_token (un_op (kind.Mark a))).kind (un_token (un_op (kind.Mark a))).text) → is_mark a t ≡ true → IsUn t
un_mark t a h e = rw (mark_kind a t e) (h t.text)

prefix_un : (t : Lexeme) → is_prefix t ≡ true → IsUn t
prefix_un t h =
    or_else (is_mark m.Plus t) _ h (un_mark t m.Plus (λ b. refl)) (λ h.
    or_else (is_mark m.Minus t) _ h (un_mark t m.Minus (λ b. refl)) (λ h.
    or_else (is_mark m.Bang t) _ h (un_mark t m.Bang (λ b. refl)) (un_mark t m.Caret (λ b. refl))))

pub goes_un : {t : Lexeme} {ts rest : List Lexeme} {x : Inks} → is_prefix t ≡ true → Goes ts rest x → Goes (t ∷ ts) rest (ink_of_un (un_op t.kind) ∷ x)
goes_un {t = t} e h = rw (ink_of_un_is (un_op t.kind)) (goes_same (λ q. prefix_un t e) h)

-- kinds of values

abbrev IsKindWord : Lexeme → Type 0
IsKindWord t = IsAlike t (small_token (word_of_kind (kind_named t.kind)))

kind_word : (t : Lexeme) (a : Word) → ((bytes : List ℕ) → sense_of (kind.Word a) bytes ≡ sense_of (small_token (word_of_kind (kind_named (kind.Word a)))).kind (small_token (word_of_kind (kind_named (kind.Word a)))).text) → is_word a t ≡ true → IsKindWord t
kind_word t a h e = rw (word_kind a t e) (h t.text)

kind_alike : (t : Lexeme) → is_kind t ≡ true → IsKindWord t
kind_alike t h =
    or_else (is_word w.Bool t) _ h (kind_word t w.Bool (λ b. refl)) (λ h.
    or_else (is_word w.String t) _ h (kind_word t w.String (λ b. refl)) (λ h.
    or_else (is_word w.Blob t) _ h (kind_word t w.Blob (λ b. refl)) (λ h.
    or_else (is_word w.Byte t) _ h (kind_word t w.Byte (λ b. refl)) (λ h.
    or_else (is_word w.Rune t) _ h (kind_word t w.Rune (λ b. refl)) (λ h.
    or_else (is_word w.Int t) _ h (kind_word t w.Int (λ b. refl)) (λ h.
    or_else (is_word w.Uint t) _ h (kind_word t w.Uint (λ b. refl)) (λ h.
    or_else (is_word w.Int8 t) _ h (kind_word t w.Int8 (λ b. refl)) (λ h.
    or_else (is_word w.Int16 t) _ h (kind_word t w.Int16 (λ b. refl)) (λ h.
    or_else (is_word w.Int32 t) _ h (kind_word t w.Int32 (λ b. refl)) (λ h.
    or_else (is_word w.Int64 t) _ h (kind_word t w.Int64 (λ b. refl)) (λ h.
    or_else (is_word w.Uint8 t) _ h (kind_word t w.Uint8 (λ b. refl)) (λ h.
    or_else (is_word w.Uint16 t) _ h (kind_word t w.Uint16 (λ b. refl)) (λ h.
    or_else (is_word w.Uint32 t) _ h (kind_word t w.Uint32 (λ b. refl)) (kind_word t w.Uint64 (λ b. refl)))))))))))))))

pub goes_kind : {t : Lexeme} {ts rest : List Lexeme} {x : Inks} → is_kind t ≡ true → Goes ts rest x → Goes (t ∷ ts) rest (small (word_of_kind (kind_named t.kind)) ∷ x)
goes_kind {t = t} e h = goes_same (λ q. kind_alike t e) h

-- names of functions

and_left : (a b : Bool) → (a && b) ≡ true → a ≡ true
and_left true b h = refl
and_left false b h = cc

and_right : (a b : Bool) → (a && b) ≡ true → b ≡ true
and_right true b h = h
and_right false b h = cc

called : (k : TokenKind) (text bytes : List ℕ) → k ≡ kind.Name → text ≡ bytes → function_bytes (function_named bytes) ≡ bytes →
    sense_of k text ≡ sense_of kind.Name (function_bytes (function_named text))
called k text bytes e f h = rw (e, f, h) refl

-- the token is the name of the function that it names
abbrev IsFunctionName : Lexeme → Type 0
IsFunctionName t = IsAlike t (name_token (function_bytes (function_named t.text)))

name_called : (t : Lexeme) (bytes : List ℕ) → function_bytes (function_named bytes) ≡ bytes → is_named bytes t ≡ true → IsFunctionName t
name_called t bytes f h =
    called t.kind t.text bytes (named t.kind (and_left (is_name t) (bytes_eq t.text bytes) h)) ((bytes_eq-Decides t.text bytes).0 (and_right (is_name t) (bytes_eq t.text bytes) h)) f

function_alike : (t : Lexeme) → is_function t ≡ true → IsFunctionName t
function_alike t h =
    or_else (is_id t) _ h (name_called t (codes "id") refl) (λ h.
    or_else (is_named (codes "len") t) _ h (name_called t (codes "len") refl) (λ h.
    or_else (is_named (codes "contains") t) _ h (name_called t (codes "contains") refl) (λ h.
    or_else (is_named (codes "hasPrefix") t) _ h (name_called t (codes "hasPrefix") refl) (λ h.
    or_else (is_named (codes "hasSuffix") t) _ h (name_called t (codes "hasSuffix") refl) (λ h.
    or_else (is_named (codes "coalesce") t) _ h (name_called t (codes "coalesce") refl) (λ h.
    or_else (is_named (codes "sum") t) _ h (name_called t (codes "sum") refl) (λ h.
    or_else (is_named (codes "avg") t) _ h (name_called t (codes "avg") refl) (λ h.
    or_else (is_named (codes "min") t) _ h (name_called t (codes "min") refl) (name_called t (codes "max") refl)))))))))

pub goes_count : {t : Lexeme} {ts rest : List Lexeme} {x : Inks} → is_count t ≡ true → Goes ts rest x → Goes (t ∷ ts) rest (name (function_bytes (function_named t.text)) ∷ x)
goes_count {t = t} e h = goes_same (λ q. name_called t (codes "count") refl e) h

pub goes_function : {t : Lexeme} {ts rest : List Lexeme} {x : Inks} → is_function t ≡ true → Goes ts rest x → Goes (t ∷ ts) rest (name (function_bytes (function_named t.text)) ∷ x)
goes_function {t = t} e h = goes_same (λ q. function_alike t e) h

id_name : (k : TokenKind) (text : List ℕ) → k ≡ kind.Name → text ≡ codes "id" → sense_of k text ≡ sense_of kind.Name (codes "id")
id_name k text e f = rw (e, f) refl

pub goes_id : {t : Lexeme} {ts rest : List Lexeme} {x : Inks} → is_id t ≡ true → Goes ts rest x → Goes (t ∷ ts) rest (name (codes "id") ∷ x)
goes_id {t = t} e h =
    goes_same (λ q. id_name t.kind t.text (named t.kind (and_left (is_name t) (bytes_eq t.text (codes "id")) e)) ((bytes_eq-Decides t.text (codes "id")).0 (and_right (is_name t) (bytes_eq t.text (codes "id")) e))) h
