-- What stands behind a piece is an end of the text.
use Rattle.std.proofs.Common.{◌≡◌, ℕ, ◌≤◌, ◌⊎◌, Bool, List, [], ◌∷◌, ◌++◌, length, take, drop, refl, sym, ◌∙◌, ap, inl, inr, arith, append_assoc, length-append}
use Rattle.std.proofs.lemmas.List.{take-append-drop}
use Rattle.std.specs.Prelude.{codes}
use Rattle.std.specs.List.{prefix_len}
use Rattle.ql_lex.specs.declared.bytes.Start.{Start}
use Rattle.ql_lex.specs.declared.marks.Mark.{Mark}
use Rattle.ql_lex.specs.declared.pieces.Piece.{Piece}
use Rattle.ql_lex.specs.declared.strings.StringByte.{StringByte}
use Rattle.ql_lex.specs.Bytes.{is_in_word, is_in_line, is_in_raw, after}
use Rattle.ql_lex.specs.Comments.{ClosesComment}
use Rattle.ql_lex.specs.Marks.{mark_bytes}
use Rattle.ql_lex.specs.Pieces.{Cuts, blank, line_comment, block_comment, word, number, raw_string, string, mark}
use Rattle.ql_lex.specs.Strings.{ClosesAfter, quote, plain, escape}
use Rattle.ql_lex.proofs.EscapeLemmas.{IsBehind, escape_behind}
use Rattle.ql_lex.proofs.MarkLemmas.{IsOne, IsTwo, one_or_two}

-- `rest` is an end of the text
pub record IsEnd (text rest : List ℕ) : Type 0 where
  pub front : List ℕ
  pub whole : text ≡ front ++ rest

pub end_of_end : (text mid rest : List ℕ) → IsEnd text mid → IsEnd mid rest → IsEnd text rest
end_of_end text mid rest h k = record { front = h.front ++ k.front; whole = h.whole ∙ ap (λ (x : List ℕ). h.front ++ x) k.whole ∙ sym (append_assoc h.front k.front rest) }

after_end : (q : ℕ → Bool) (text : List ℕ) → IsEnd text (after q text)
after_end q text = record { front = take (prefix_len q text) text; whole = sym (take-append-drop (prefix_len q text) text) }

drop_end : (n : ℕ) (text : List ℕ) → IsEnd text (drop n text)
drop_end n text = record { front = take n text; whole = sym (take-append-drop n text) }

raw_end : (q : ℕ) (text rest : List ℕ) → after is_in_raw text ≡ q ∷ rest → IsEnd text rest
raw_end q text rest e = end_of_end text (after is_in_raw text) rest (after_end is_in_raw text) (record { front = q ∷ []; whole = e })

comment_end : (text rest : List ℕ) → ClosesComment text rest → IsEnd text rest
comment_end text rest h = record { front = h.inside ++ codes "*/"; whole = h.whole ∙ sym (append_assoc h.inside (codes "*/") rest) }

behind_end : (text rest : List ℕ) → IsBehind text rest → IsEnd text rest
behind_end text rest i = rw i.is (drop_end i.count text)

string_end : {x : StringByte} {text rest : List ℕ} → ClosesAfter x text rest → IsEnd text rest
string_end (quote {b = b}) = record { front = b ∷ []; whole = refl }
string_end (plain {b = b} h) = let i = string_end h in record { front = b ∷ i.front; whole = ap (λ (x : List ℕ). b ∷ x) i.whole }
string_end (escape {b = b} {text = text} {behind = behind} {rest = rest} {code = code} e h) =
    let i = end_of_end text behind rest (behind_end text behind (escape_behind text behind code e)) (string_end h) in
    record { front = b ∷ i.front; whole = ap (λ (x : List ℕ). b ∷ x) i.whole }

mark_end_of : (b : ℕ) (text rest : List ℕ) (m : Mark) → b ∷ text ≡ mark_bytes m ++ rest → IsOne m ⊎ IsTwo m → IsEnd text rest
mark_end_of b text rest m h (inl o) =
    let both : b ∷ text ≡ o.a ∷ rest = h ∙ ap (λ (x : List ℕ). x ++ rest) o.bytes in
    record { front = []; whole = cc }
mark_end_of b text rest m h (inr o) =
    let both : b ∷ text ≡ o.a ∷ o.b ∷ rest = h ∙ ap (λ (x : List ℕ). x ++ rest) o.bytes in
    record { front = o.b ∷ []; whole = cc }

pub cut_end : {x : Start} {b : ℕ} {text : List ℕ} {q : Piece} {rest : List ℕ} → Cuts x b text q rest → IsEnd text rest
cut_end blank = record { front = []; whole = refl }
cut_end (line_comment {text = text}) = after_end is_in_line text
cut_end (block_comment {text = text} {rest = rest} h) = end_of_end text (drop 1 text) rest (drop_end 1 text) (comment_end (drop 1 text) rest h)
cut_end (word {text = text} l n) = after_end is_in_word text
cut_end (number {text = text} n) = after_end is_in_word text
cut_end (raw_string {q = q} {text = text} {rest = rest} h) = raw_end q text rest h
cut_end (string h) = string_end h
cut_end (mark {b = b} {text = text} {rest = rest} {m = m} h l) = mark_end_of b text rest m h (one_or_two m)

pub end_shorter : (text rest : List ℕ) → IsEnd text rest → length rest ≤ length text
end_shorter text rest i =
    let e : length text ≡ length (i.front ++ rest) = ap length i.whole in
    omega (arith, e, length-append i.front rest)

-- what stands behind a piece is shorter than the text
pub cut_shorter : {x : Start} {b : ℕ} {text : List ℕ} {q : Piece} {rest : List ℕ} → Cuts x b text q rest → length rest ≤ length text
cut_shorter {text = text} {rest = rest} c = end_shorter text rest (cut_end c)
