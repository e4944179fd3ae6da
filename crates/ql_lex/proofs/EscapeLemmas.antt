-- What stands behind an escape is an end of the text.
use Rattle.std.proofs.Common.{◌≡◌, ℕ, suc, ◌<◌, ◌≤◌, Bool, true, false, cond, List, [], ◌∷◌, length, take, drop, refl, sym, ap, Result, Ok, Err, arith, not, nat_lt, nat_le}
use Rattle.std.proofs.Math.ListN.{length-drop}
use Rattle.ql_lex.specs.declared.escapes.Form.{Form}
use Rattle.ql_lex.specs.declared.escapes.Form.TheVariants as form
use Rattle.ql_lex.specs.declared.escapes.Code.{Code}
use Rattle.ql_lex.specs.declared.escapes.Code.TheVariants as code
use Rattle.ql_lex.specs.declared.token.Flaw.{Flaw}
use Rattle.ql_lex.specs.declared.token.Flaw.TheVariants as flaw
use Rattle.ql_lex.specs.Numbers.{value_from, are_digits}
use Rattle.ql_lex.specs.Escapes.{form_of, digits_at, is_character, byte_of_digits, character_of_digits, escape_of, escape_at}

-- `rest` is the text without some bytes of its front
pub record IsBehind (text rest : List ℕ) : Type 0 where
  pub count : ℕ
  pub is : rest ≡ drop count text

chosen : {X E : Type 0} (a b : Bool) (e f : E) (x y : X) → cond a (Err e) (cond b (Err f) (Ok x)) ≡ Ok y → x ≡ y
chosen true b e f x y h = cc
chosen false true e f x y h = cc
chosen false false e f x y h = cc

kept : {X E : Type 0} (a : Bool) (e : E) (x y : X) → cond a (Ok x) (Err e) ≡ Ok y → x ≡ y
kept true e x y h = cc
kept false e x y h = cc

digits_behind : (base count : ℕ) (text : List ℕ) (found : List ℕ × List ℕ) → digits_at base count text ≡ Ok found → found.1 ≡ drop count text
digits_behind base count text found h =
    ap (λ (x : List ℕ × List ℕ). x.1) (sym (chosen (not (are_digits base (take count text))) (nat_lt (length text) count) flaw.BadLiteral flaw.Unclosed (take count text, drop count text) found h))

byte_behind : (base so_far count : ℕ) (text behind : List ℕ) (c : Code) (r : Result (List ℕ × List ℕ) Flaw) → digits_at base count text ≡ r → byte_of_digits base so_far r ≡ Ok (c, behind) → IsBehind text behind
byte_behind base so_far count text behind c (Ok found) d h =
    let same = kept (nat_le (value_from base so_far found.0) 255) flaw.BadLiteral (code.Byte (value_from base so_far found.0), found.1) (c, behind) h in
    let tail : found.1 ≡ behind = ap (λ (x : Code × List ℕ). x.1) same in
    let drops = digits_behind base count text found d in
    record { count = count; is = cc }
byte_behind base so_far count text behind c (Err f) d h = cc

character_behind : (count : ℕ) (text behind : List ℕ) (c : Code) (r : Result (List ℕ × List ℕ) Flaw) → digits_at 16 count text ≡ r → character_of_digits r ≡ Ok (c, behind) → IsBehind text behind
character_behind count text behind c (Ok found) d h =
    let same = kept (is_character (value_from 16 0 found.0)) flaw.BadLiteral (code.Character (value_from 16 0 found.0), found.1) (c, behind) h in
    let tail : found.1 ≡ behind = ap (λ (x : Code × List ℕ). x.1) same in
    let drops = digits_behind 16 count text found d in
    record { count = count; is = cc }
character_behind count text behind c (Err f) d h = cc

form_behind : (f : Form) (text behind : List ℕ) (c : Code) → escape_of f text ≡ Ok (c, behind) → IsBehind text behind
form_behind (form.Alone b) text behind c h =
    let same = kept true flaw.BadLiteral (code.Byte b, text) (c, behind) h in
    let e : text ≡ behind = ap (λ (x : Code × List ℕ). x.1) same in
    record { count = 0; is = sym e }
form_behind (form.Byte base count so_far) text behind c h = byte_behind base so_far count text behind c (digits_at base count text) refl h
form_behind (form.Character count) text behind c h = character_behind count text behind c (digits_at 16 count text) refl h
form_behind form.Unknown text behind c h = cc

pub escape_behind : (text behind : List ℕ) (c : Code) → escape_at text ≡ Ok (c, behind) → IsBehind text behind
escape_behind [] behind c h = cc
escape_behind (b ∷ text) behind c h = let i = form_behind (form_of b) text behind c h in record { count = suc i.count; is = i.is }

pub escape_smaller : (now : List ℕ) (b : ℕ) (text behind : List ℕ) (c : Code) → now ≡ b ∷ text → escape_at text ≡ Ok (c, behind) → length behind < length now
escape_smaller now b text behind c e h =
    let i = escape_behind text behind c h in
    rw (e, i.is) (omega (arith, length-drop i.count text))

pub behind_shorter : (text rest : List ℕ) → IsBehind text rest → length rest ≤ length text
behind_shorter text rest i = rw i.is (omega (arith, length-drop i.count text))
