-- No longer front of a text is a piece than the one that it begins with.
use Rattle.std.proofs.Common.{◌≡◌, ℕ, suc, ◌+◌, ◌<◌, ◌≤◌, Bool, true, false, cond, not, nat_lt, nat_le, List, [], ◌∷◌, ◌++◌, length, take, drop, refl, sym, ◌∙◌, ap, Result, Ok, Err, arith, append_assoc, length-append}
use Rattle.std.proofs.lemmas.List.{length-drop, take-append-le, drop-append-le}
use Rattle.std.proofs.lemmas.Bool.Decides.{nat_tests}
use Rattle.std.specs.Prelude.{codes}
use Rattle.std.specs.List.{prefix_len}
use Rattle.ql_lex.specs.declared.bytes.Start.{Start}
use Rattle.ql_lex.specs.declared.escapes.Code.{Code}
use Rattle.ql_lex.specs.declared.escapes.Code.TheVariants as code
use Rattle.ql_lex.specs.declared.escapes.Form.{Form}
use Rattle.ql_lex.specs.declared.escapes.Form.TheVariants as form
use Rattle.ql_lex.specs.declared.marks.Mark.{Mark}
use Rattle.ql_lex.specs.declared.pieces.Piece.{Piece}
use Rattle.ql_lex.specs.declared.strings.StringByte.{StringByte}
use Rattle.ql_lex.specs.declared.token.Flaw.{Flaw}
use Rattle.ql_lex.specs.declared.token.Flaw.TheVariants as flaw
use Rattle.ql_lex.specs.Bytes.{is_in_word, is_in_line, is_in_raw, after, start}
use Rattle.ql_lex.specs.Comments.{ClosesComment}
use Rattle.ql_lex.specs.Escapes.{form_of, digits_at, is_character, byte_of_digits, character_of_digits, escape_of, escape_at}
use Rattle.ql_lex.specs.Marks.{mark_bytes, IsLongest}
use Rattle.ql_lex.specs.Numbers.{value_from, are_digits}
use Rattle.ql_lex.specs.Pieces.{Cuts, blank, line_comment, block_comment, word, number, raw_string, string, mark, IsPiece, LongestCounts}
use Rattle.ql_lex.specs.Strings.{next_in_string, ClosesAfter, quote, plain, escape, ClosesString}
use Rattle.ql_lex.proofs.EndLemmas.{cut_shorter}
use Rattle.ql_lex.proofs.StringLemmas.{closes_once}

-- runs

run_more_at : (n m k : ℕ) (v : Bool) → (k ≤ n → k ≤ m) → suc k ≤ cond v (1 + n) 0 → suc k ≤ cond v (1 + m) 0
run_more_at n m k true r h = let less : k ≤ n = omega arith in omega (arith, r less)
run_more_at n m k false r h = absurd (omega arith)

run_more : (q : ℕ → Bool) (f g : List ℕ) → length f ≤ prefix_len q f → length f ≤ prefix_len q (f ++ g)
run_more q [] g h = omega arith
run_more q (x ∷ f) g h = run_more_at (prefix_len q f) (prefix_len q (f ++ g)) (length f) (q x) (run_more q f g) h

-- a run that takes a whole front leaves no more than what is behind the front
run_less : (q : ℕ → Bool) (text f g left : List ℕ) → left ≡ after q f → left ≡ [] → text ≡ f ++ g → length (after q text) ≤ length g
run_less q text f g left l n e =
    let none : length (after q f) ≡ 0 = ap length (sym l ∙ n) in
    let whole : length f ≤ prefix_len q f = omega (arith, none, length-drop (prefix_len q f) f) in
    let more = run_more q f g whole in
    let size : length text ≡ length (f ++ g) = ap length e in
    let same : prefix_len q text ≡ prefix_len q (f ++ g) = ap (prefix_len q) e in
    omega (arith, more, size, same, length-append f g, length-drop (prefix_len q text) text)

stays_at : (n m k : ℕ) (v : Bool) → (n < k → m ≡ n) → cond v (1 + n) 0 < suc k → cond v (1 + m) 0 ≡ cond v (1 + n) 0
stays_at n m k true r h = let less : n < k = omega arith in omega (arith, r less)
stays_at n m k false r h = refl

stays : (q : ℕ → Bool) (f g : List ℕ) → prefix_len q f < length f → prefix_len q (f ++ g) ≡ prefix_len q f
stays q [] g h = absurd (omega arith)
stays q (x ∷ f) g h = stays_at (prefix_len q f) (prefix_len q (f ++ g)) (length f) (q x) (stays q f g) h

raw_less : (text f g rest left : List ℕ) (a b : ℕ) → after is_in_raw text ≡ a ∷ rest → after is_in_raw f ≡ b ∷ left → left ≡ [] → text ≡ f ++ g → length rest ≤ length g
raw_less text f g rest left a b h k n e =
    let one : length (after is_in_raw f) ≡ length (b ∷ left) = ap length k in
    let zero_left : length left ≡ 0 = ap length n in
    let all : length (after is_in_raw text) ≡ length (a ∷ rest) = ap length h in
    let short : prefix_len is_in_raw f < length f = omega (arith, one, zero_left, length-drop (prefix_len is_in_raw f) f) in
    let same = stays is_in_raw f g short in
    let size : length text ≡ length (f ++ g) = ap length e in
    let moved : prefix_len is_in_raw text ≡ prefix_len is_in_raw (f ++ g) = ap (prefix_len is_in_raw) e in
    omega (arith, one, zero_left, all, same, size, moved, length-append f g, length-drop (prefix_len is_in_raw f) f, length-drop (prefix_len is_in_raw text) text)

-- comments

starts_so : (xs us ys vs : List ℕ) → xs ++ us ≡ ys ++ vs → length ys ≤ length xs → xs ≡ ys ++ drop (length ys) xs
starts_so xs us [] vs e l = refl
starts_so [] us (y ∷ ys) vs e l = absurd (omega arith)
starts_so (x ∷ xs) us (y ∷ ys) vs e l =
    let tail : xs ++ us ≡ ys ++ vs = cc in
    let head : x ≡ y = cc in
    let same = starts_so xs us ys vs tail (omega arith) in
    cc

comment_less : (text f g rest left : List ℕ) → ClosesComment text rest → ClosesComment f left → left ≡ [] → text ≡ f ++ g → length rest ≤ length g
comment_less text f g rest left h k n e =
    let there : text ≡ k.inside ++ (codes "*/" ++ (left ++ g)) =
    e ∙ ap (λ (x : List ℕ). x ++ g) k.whole ∙ append_assoc k.inside (codes "*/" ++ left) g ∙ ap (λ (x : List ℕ). k.inside ++ x) (append_assoc (codes "*/") left g) in
    let early = h.next k.inside (left ++ g) there in
    let grouped : f ++ g ≡ (h.inside ++ codes "*/") ++ rest = sym e ∙ h.whole ∙ sym (append_assoc h.inside (codes "*/") rest) in
    let size_f : length f ≡ length (k.inside ++ (codes "*/" ++ left)) = ap length k.whole in
    let fits : length (h.inside ++ codes "*/") ≤ length f = omega (arith, size_f, early, length-append h.inside (codes "*/"), length-append k.inside (codes "*/" ++ left), length-append (codes "*/") left) in
    let shown = starts_so f g (h.inside ++ codes "*/") rest grouped fits in
    let apart : f ≡ h.inside ++ (codes "*/" ++ drop (length (h.inside ++ codes "*/")) f) = shown ∙ append_assoc h.inside (codes "*/") (drop (length (h.inside ++ codes "*/")) f) in
    let late = k.next h.inside (drop (length (h.inside ++ codes "*/")) f) apart in
    let size : length text ≡ length (h.inside ++ (codes "*/" ++ rest)) = ap length h.whole in
    let size_e : length text ≡ length (f ++ g) = ap length e in
    let gone : length left ≡ 0 = ap length n in
    omega (arith, gone, early, late, size, size_e, size_f, length-append f g, length-append h.inside (codes "*/" ++ rest), length-append (codes "*/") rest, length-append k.inside (codes "*/" ++ left), length-append (codes "*/") left)

block_less : (text f g rest left : List ℕ) → ClosesComment (drop 1 text) rest → ClosesComment (drop 1 f) left → left ≡ [] → text ≡ f ++ g → length rest ≤ length g
block_less text [] g rest left h k n e =
    let size : length {A = ℕ} [] ≡ length (k.inside ++ (codes "*/" ++ left)) = ap length k.whole in
    absurd (omega (arith, size, length-append k.inside (codes "*/" ++ left), length-append (codes "*/") left))
block_less text (x ∷ f) g rest left h k n e = comment_less (drop 1 text) f g rest left h k n (ap (λ (y : List ℕ). drop 1 y) e)

-- strings

record Digits (base count : ℕ) (text : List ℕ) (found : List ℕ × List ℕ) : Type 0 where
  good : not (are_digits base (take count text)) ≡ false
  long : nat_lt (length text) count ≡ false
  is : (take count text, drop count text) ≡ found

digits_from : (base count : ℕ) (text : List ℕ) (found : List ℕ × List ℕ) (a b : Bool) → not (are_digits base (take count text)) ≡ a → nat_lt (length text) count ≡ b →
    cond a (Err flaw.BadLiteral) (cond b (Err flaw.Unclosed) (Ok (take count text, drop count text))) ≡ Ok found → Digits base count text found
digits_from base count text found true b e f h = cc
digits_from base count text found false true e f h = cc
digits_from base count text found false false e f h = record { good = e; long = f; is = cc }

digits_more : (base count : ℕ) (text g : List ℕ) (found : List ℕ × List ℕ) → digits_at base count text ≡ Ok found → digits_at base count (text ++ g) ≡ Ok (found.0, found.1 ++ g)
digits_more base count text g found h =
    let d = digits_from base count text found (not (are_digits base (take count text))) (nat_lt (length text) count) refl refl h in
    let long : count ≤ length text = grind (arith, nat_tests, d.long) in
    let front : take count (text ++ g) ≡ take count text = take-append-le count text g long in
    let behind : drop count (text ++ g) ≡ drop count text ++ g = drop-append-le count text g long in
    let still : nat_lt (length (text ++ g)) count ≡ false = grind (arith, nat_tests, long, length-append text g) in
    let one : take count text ≡ found.0 = ap (λ (x : List ℕ × List ℕ). x.0) d.is in
    let two : drop count text ≡ found.1 = ap (λ (x : List ℕ × List ℕ). x.1) d.is in
    rw (front, d.good, still, behind, one, two) refl

chosen_more : (a : Bool) (c d : Code) (l m g : List ℕ) → ◌≡◌ {A = Result (Code × List ℕ) Flaw} (cond a (Ok (c, l)) (Err flaw.BadLiteral)) (Ok (d, m)) → ◌≡◌ {A = Result (Code × List ℕ) Flaw} (cond a (Ok (c, l ++ g)) (Err flaw.BadLiteral)) (Ok (d, m ++ g))
chosen_more true c d l m g h =
    let pairs : (c, l) ≡ (d, m) = cc in
    let one : c ≡ d = ap (λ (x : Code × List ℕ). x.0) pairs in
    let two : l ≡ m = ap (λ (x : Code × List ℕ). x.1) pairs in
    rw (one, two) refl
chosen_more false c d l m g h = cc

byte_more : (base so_far count : ℕ) (text g behind : List ℕ) (c : Code) (r : Result (List ℕ × List ℕ) Flaw) → digits_at base count text ≡ r → byte_of_digits base so_far r ≡ Ok (c, behind) → byte_of_digits base so_far (digits_at base count (text ++ g)) ≡ Ok (c, behind ++ g)
byte_more base so_far count text g behind c (Ok found) d h =
    rw (digits_more base count text g found d) (chosen_more (nat_le (value_from base so_far found.0) 255) (code.Byte (value_from base so_far found.0)) c found.1 behind g h)
byte_more base so_far count text g behind c (Err f) d h = cc

character_more : (count : ℕ) (text g behind : List ℕ) (c : Code) (r : Result (List ℕ × List ℕ) Flaw) → digits_at 16 count text ≡ r → character_of_digits r ≡ Ok (c, behind) → character_of_digits (digits_at 16 count (text ++ g)) ≡ Ok (c, behind ++ g)
character_more count text g behind c (Ok found) d h =
    rw (digits_more 16 count text g found d) (chosen_more (is_character (value_from 16 0 found.0)) (code.Character (value_from 16 0 found.0)) c found.1 behind g h)
character_more count text g behind c (Err f) d h = cc

form_more : (f : Form) (text g behind : List ℕ) (c : Code) → escape_of f text ≡ Ok (c, behind) → escape_of f (text ++ g) ≡ Ok (c, behind ++ g)
form_more (form.Alone b) text g behind c h = chosen_more true (code.Byte b) c text behind g h
form_more (form.Byte base count so_far) text g behind c h = byte_more base so_far count text g behind c (digits_at base count text) refl h
form_more (form.Character count) text g behind c h = character_more count text g behind c (digits_at 16 count text) refl h
form_more form.Unknown text g behind c h = cc

-- an escape stays the same when more follows
escape_more : (text g behind : List ℕ) (c : Code) → escape_at text ≡ Ok (c, behind) → escape_at (text ++ g) ≡ Ok (c, behind ++ g)
escape_more [] g behind c h = cc
escape_more (b ∷ text) g behind c h = form_more (form_of b) text g behind c h

next_more : (text g rest : List ℕ) → ClosesString text rest → next_in_string (text ++ g) ≡ next_in_string text
next_more [] g rest h = elim h [ ]
next_more (b ∷ text) g rest h = refl

string_more : {x : StringByte} {text rest : List ℕ} → ClosesAfter x text rest → (g : List ℕ) → ClosesAfter x (text ++ g) (rest ++ g)
string_more quote g = quote
string_more (plain {text = text} {rest = rest} h) g = plain (rw (next_more text g rest h) (string_more h g))
string_more (escape {text = text} {behind = behind} {rest = rest} {code = c} e h) g =
    escape (escape_more text g behind c e) (rw (next_more behind g rest h) (string_more h g))

string_less : (text f g rest left : List ℕ) → ClosesString text rest → ClosesString f left → left ≡ [] → text ≡ f ++ g → length rest ≤ length g
string_less text f g rest left h k n e =
    let more : ClosesString (f ++ g) (left ++ g) = rw (next_more f g left k) (string_more k g) in
    let moved : ClosesString text (left ++ g) = rw e more in
    let same : rest ≡ left ++ g = closes_once h moved in
    let gone : left ++ g ≡ g = rw n refl in
    let size : length rest ≡ length g = ap length (same ∙ gone) in
    omega (arith, size)

-- marks

mark_less : (b : ℕ) (text f g rest left : List ℕ) (m n : Mark) → b ∷ text ≡ mark_bytes m ++ rest → IsLongest m (b ∷ text) → b ∷ f ≡ mark_bytes n ++ left → left ≡ [] → text ≡ f ++ g → length rest ≤ length g
mark_less b text f g rest left m n h l k z e =
    let there : b ∷ text ≡ mark_bytes n ++ (left ++ g) = ap (λ (x : List ℕ). b ∷ x) e ∙ ap (λ (x : List ℕ). x ++ g) k ∙ append_assoc (mark_bytes n) left g in
    let more = l n (left ++ g) there in
    let one : length (b ∷ text) ≡ length (mark_bytes m ++ rest) = ap length h in
    let two : length (b ∷ text) ≡ length (mark_bytes n ++ (left ++ g)) = ap length there in
    let gone : length left ≡ 0 = ap length z in
    omega (arith, more, one, two, gone, length-append (mark_bytes m) rest, length-append (mark_bytes n) (left ++ g), length-append left g)

-- all

less_of : {x : Start} {b : ℕ} {text : List ℕ} {q : Piece} {rest f : List ℕ} {r : Piece} {left : List ℕ} → Cuts x b text q rest → Cuts x b f r left → left ≡ [] → (g : List ℕ) → text ≡ f ++ g → length rest ≤ length g
less_of (blank {text = text}) (blank {text = f}) n g e =
    let size : length text ≡ length (f ++ g) = ap length e in
    let gone : length f ≡ 0 = ap length n in
    omega (arith, size, gone, length-append f g)
less_of (line_comment {text = text}) (line_comment {text = f}) n g e = run_less is_in_line text f g (after is_in_line f) refl n e
less_of (block_comment {text = text} {rest = rest} h) (block_comment {text = f} {rest = left} k) n g e = block_less text f g rest left h k n e
less_of (word {text = text} l m) (word {text = f} k o) n g e = run_less is_in_word text f g (after is_in_word f) refl n e
less_of (number {text = text} h) (number {text = f} k) n g e = run_less is_in_word text f g (after is_in_word f) refl n e
less_of (raw_string {q = a} {text = text} {rest = rest} h) (raw_string {q = c} {text = f} {rest = left} k) n g e = raw_less text f g rest left a c h k n e
less_of (string {text = text} {rest = rest} h) (string {text = f} {rest = left} k) n g e = string_less text f g rest left h k n e
less_of (mark {b = b} {text = text} {rest = rest} {m = m} h l) (mark {text = f} {rest = left} {m = o} k j) n g e = mark_less b text f g rest left m o h l k n e

same_start : (b : ℕ) (c : ℕ) (text f g : List ℕ) → text ≡ (c ∷ f) ++ g → start b text ≡ start b (c ∷ f)
same_start b c text f g e = rw e refl

front_less : (b : ℕ) (text : List ℕ) (q : Piece) (rest : List ℕ) (a : ℕ) (f g : List ℕ) (r : Piece) → Cuts (start b text) b text q rest → b ∷ text ≡ a ∷ (f ++ g) → Cuts (start a f) a f r [] → length rest ≤ length g
front_less b text q rest a [] g r c e k =
    let tail : text ≡ g = cc in
    let size : length text ≡ length g = ap length tail in
    omega (arith, cut_shorter c, size)
front_less b text q rest a (x ∷ f) g r c e k =
    let head : a ≡ b = cc in
    let tail : text ≡ (x ∷ f) ++ g = cc in
    let begins : start b text ≡ start b (x ∷ f) = same_start b x text f g tail in
    let whole : Cuts (start b (x ∷ f)) b text q rest = rw begins at c in
    let part : Cuts (start b (x ∷ f)) b (x ∷ f) r [] = rw head at k in
    less_of whole part refl g tail

longest_of : (b : ℕ) (text : List ℕ) (q : Piece) (rest : List ℕ) → Cuts (start b text) b text q rest → (front behind : List ℕ) → b ∷ text ≡ front ++ behind → IsPiece front → length rest ≤ length behind
longest_of b text q rest c [] behind e k = absurd k
longest_of b text q rest c (a ∷ f) behind e k = front_less b text q rest a f behind k.0 c e k.1

-- no longer front of a text is a piece than the one that it begins with
pub longest_counts : LongestCounts
longest_counts = longest_of
