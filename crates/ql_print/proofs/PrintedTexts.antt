-- A printed string closes, and means the bytes that it was printed from.
use Rattle.std.proofs.Common.{◌≡◌, ℕ, ◌-◌, ◌/◌, ◌%◌, ◌≤◌, ◌⊎◌, Bool, true, false, List, [], ◌∷◌, ◌++◌, length, take, Ok, refl, ap, ◌∙◌, inl, inr, append_assoc, arith, length-append}
use Rattle.std.specs.Prelude.{◌==◌, ◌||◌, nat_lt, nat_le}
use Rattle.std.specs.Char.{digit_value, is_digit}
use Rattle.std.proofs.lemmas.Bool.{eqb-true, ltb-true, lt-ltb, le-ltb, le-leb}
use Rattle.std.proofs.lemmas.Str.{digit_value-digit_char}
use Rattle.std.proofs.Math.Seq.{take-append_seam}
use Rattle.ql_lex.specs.declared.escapes.Code.TheVariants as code
use Rattle.ql_lex.specs.declared.strings.StringByte.TheVariants as s
use Rattle.ql_lex.specs.Escapes.{escape_at, digits_at, byte_of, byte_of_digits}
use Rattle.ql_lex.specs.Numbers.{value_from}
use Rattle.ql_lex.specs.Meaning.{inside, string_value, text_value}
use Rattle.ql_lex.specs.Strings.{byte_in_string, ClosesString, quote, plain, escape}
use Rattle.ql_lex.proofs.ValueLemmas.{value_escape}
use Rattle.ql_value.specs.Print.{hex_digit, is_hidden, shown_byte, shown_bytes, quoted}

-- a byte that is printed as it is
pub record IsPlain (b : ℕ) : Type 0 where
  pub shown : shown_byte false b ≡ b ∷ []
  pub in_string : byte_in_string b ≡ s.Plain
  pub other : (b == 92) ≡ false

-- a byte that is printed as an escape
pub record IsEscaped (b : ℕ) : Type 0 where
  pub others : List ℕ
  pub shown : shown_byte false b ≡ 92 ∷ others
  pub escape : (more : List ℕ) → escape_at (others ++ more) ≡ Ok (code.Byte b, more)

-- an escape of one letter
alone : (b c k : ℕ) → b ≡ k → ((more : List ℕ) → escape_at (c ∷ more) ≡ Ok (code.Byte k, more)) → shown_byte false k ≡ 92 ∷ c ∷ [] → IsEscaped b
alone b c k e h g = rw e (record { others = c ∷ []; shown = g; escape = h })

-- two digits, and what stands behind them
two_digits : (x y : ℕ) (more : List ℕ) → is_digit x 16 ≡ true → is_digit y 16 ≡ true → digits_at 16 2 (x ∷ y ∷ more) ≡ Ok (x ∷ y ∷ [], more)
two_digits x y more e f =
    let long : nat_lt (length (x ∷ y ∷ more)) 2 ≡ false = le-ltb (length (x ∷ y ∷ more)) 2 (omega arith) in
    rw (e, f, long) refl

byte_again : (n b : ℕ) (more : List ℕ) → n ≡ b → b ≤ 255 → byte_of n more ≡ Ok (code.Byte b, more)
byte_again n b more e l = let small : nat_le b 255 ≡ true = le-leb b 255 l in rw (e, small) refl

-- an escape by number
hidden_escape : (b : ℕ) → b ≤ 127 → (more : List ℕ) → escape_at (120 ∷ hex_digit (b / 16) ∷ hex_digit (b % 16) ∷ more) ≡ Ok (code.Byte b, more)
hidden_escape b l more =
    let d : digit_value (hex_digit (b / 16)) ≡ b / 16 = digit_value-digit_char (b / 16) (omega arith) in
    let f : digit_value (hex_digit (b % 16)) ≡ b % 16 = digit_value-digit_char (b % 16) (omega arith) in
    let high : is_digit (hex_digit (b / 16)) 16 ≡ true = lt-ltb _ 16 (omega (arith, d)) in
    let low : is_digit (hex_digit (b % 16)) 16 ≡ true = lt-ltb _ 16 (omega (arith, f)) in
    ap (byte_of_digits 16 0) (two_digits (hex_digit (b / 16)) (hex_digit (b % 16)) more high low)
    ∙ byte_again (value_from 16 0 (hex_digit (b / 16) ∷ hex_digit (b % 16) ∷ [])) b more (omega (arith, d, f)) (omega (arith, l))

low_byte : (b : ℕ) (u v : Bool) → nat_lt b 32 ≡ u → (b == 127) ≡ v → (u || v || false) ≡ true → b ≤ 127
low_byte b true v e f h = omega (arith, ltb-true b 32 e)
low_byte b false true e f h = omega (arith, eqb-true b 127 f)
low_byte b false false e f h = cc

-- how a byte is printed
shown_at : (b : ℕ) (quoted backslash newline return tab hidden : Bool) → (b == 34) ≡ quoted → (b == 92) ≡ backslash → (b == 10) ≡ newline → (b == 13) ≡ return → (b == 9) ≡ tab
    → is_hidden false b ≡ hidden → IsPlain b ⊎ IsEscaped b
shown_at b true _ _ _ _ _ e _ _ _ _ _ = inr (alone b 34 34 (eqb-true b 34 e) (λ more. refl) refl)
shown_at b false true _ _ _ _ _ e _ _ _ _ = inr (alone b 92 92 (eqb-true b 92 e) (λ more. refl) refl)
shown_at b false false true _ _ _ _ _ e _ _ _ = inr (alone b 110 10 (eqb-true b 10 e) (λ more. refl) refl)
shown_at b false false false true _ _ _ _ _ e _ _ = inr (alone b 114 13 (eqb-true b 13 e) (λ more. refl) refl)
shown_at b false false false false true _ _ _ _ _ e _ = inr (alone b 116 9 (eqb-true b 9 e) (λ more. refl) refl)
shown_at b false false false false false true q k n r t h =
    inr (record { others = 120 ∷ hex_digit (b / 16) ∷ hex_digit (b % 16) ∷ []; shown = rw (q, k, n, r, t, h) refl; escape = hidden_escape b (low_byte b (nat_lt b 32) (b == 127) refl refl h) })
shown_at b false false false false false false q k n r t h = inl (record { shown = rw (q, k, n, r, t, h) refl; in_string = rw (q, n, k) refl; other = k })

how_shown : (b : ℕ) → IsPlain b ⊎ IsEscaped b
how_shown b = shown_at b (b == 34) (b == 92) (b == 10) (b == 13) (b == 9) (is_hidden false b) refl refl refl refl refl refl

closes_more : (b : ℕ) (more rest : List ℕ) → IsPlain b ⊎ IsEscaped b → ClosesString more rest → ClosesString (shown_byte false b ++ more) rest
closes_more b more rest (inl i) h = rw (i.shown, i.in_string) (plain h)
closes_more b more rest (inr i) h = rw i.shown (escape (i.escape more) h)

-- a printed string closes
pub closes : (bytes rest : List ℕ) → ClosesString (shown_bytes false bytes ++ 34 ∷ rest) rest
closes [] rest = quote
closes (b ∷ bytes) rest = rw append_assoc (closes_more b (shown_bytes false bytes ++ 34 ∷ rest) rest (how_shown b) (closes bytes rest))

value_more : (b : ℕ) (more bytes : List ℕ) → IsPlain b ⊎ IsEscaped b → string_value 0 more ≡ bytes → string_value 0 (shown_byte false b ++ more) ≡ b ∷ bytes
value_more b more bytes (inl i) h = rw (i.shown, i.other, h) refl
value_more b more bytes (inr i) h =
    rw i.shown (value_escape (92 ∷ i.others ++ more) 92 (i.others ++ more) more (code.Byte b) refl refl (i.escape more) ∙ ap (λ (x : List ℕ). b ∷ x) h)

value : (bytes : List ℕ) → string_value 0 (shown_bytes false bytes) ≡ bytes
value [] = refl
value (b ∷ bytes) = value_more b (shown_bytes false bytes) bytes (how_shown b) (value bytes)

within : (text : List ℕ) → inside (34 ∷ text ++ 34 ∷ []) ≡ text
within text =
    let size : length (34 ∷ text ++ 34 ∷ []) - 2 ≡ length text = omega (arith, length-append text (34 ∷ [])) in
    ap (λ (n : ℕ). take n (text ++ 34 ∷ [])) size ∙ take-append_seam text (34 ∷ [])

-- a printed string means its bytes
pub text_again : (bytes : List ℕ) → text_value (quoted false bytes) ≡ bytes
text_again bytes = ap (string_value 0) (within (shown_bytes false bytes)) ∙ value bytes
