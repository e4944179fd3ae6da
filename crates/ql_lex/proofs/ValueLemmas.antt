-- What an interpreted string means, one escape after another.
use Rattle.std.proofs.Common.{◌≡◌, ℕ, zero, suc, ◌-◌, ◌≤◌, List, [], ◌∷◌, ◌++◌, length, drop, refl, sym, ◌∙◌, ap, Ok, arith, append_assoc}
use Rattle.std.proofs.lemmas.List.{length-drop}
use Rattle.ql_lex.specs.declared.escapes.Code.{Code}
use Rattle.ql_lex.specs.Escapes.{escape_at, code_bytes}
use Rattle.ql_lex.specs.Meaning.{string_value}
use Rattle.ql_lex.proofs.EscapeLemmas.{IsBehind, escape_behind}

drop_none : (n : ℕ) → drop {A = ℕ} n [] ≡ []
drop_none zero = refl
drop_none (suc n) = refl

same_drop : (m n : ℕ) (text : List ℕ) → m ≡ n → drop m text ≡ drop n text
same_drop m n text e = ap (λ (k : ℕ). drop k text) e

drop_behind : (n : ℕ) (text : List ℕ) → drop (length text - length (drop n text)) text ≡ drop n text
drop_behind n [] = drop_none (length {A = ℕ} [] - length (drop {A = ℕ} n [])) ∙ sym (drop_none n)
drop_behind zero (x ∷ text) = same_drop (length (x ∷ text) - length (x ∷ text)) 0 (x ∷ text) (omega arith)
drop_behind (suc n) (x ∷ text) =
    let shorter : length (drop n text) ≤ length text = omega (arith, length-drop n text) in
    let e : length (x ∷ text) - length (drop n text) ≡ suc (length text - length (drop n text)) = omega arith in
    same_drop (length (x ∷ text) - length (drop n text)) (suc (length text - length (drop n text))) (x ∷ text) e ∙ drop_behind n text

left_behind : (text behind : List ℕ) → IsBehind text behind → drop (length text - length behind) text ≡ behind
left_behind text behind i = rw i.is (drop_behind i.count text)

skipped : (n : ℕ) (text : List ℕ) → string_value n text ≡ string_value 0 (drop n text)
skipped zero [] = refl
skipped zero (b ∷ text) = refl
skipped (suc n) [] = refl
skipped (suc n) (b ∷ text) = skipped n text

pub value_escape : (now : List ℕ) (b : ℕ) (text behind : List ℕ) (c : Code) → now ≡ b ∷ text → b ≡ 92 → escape_at text ≡ Ok (c, behind) → string_value 0 now ≡ code_bytes c ++ string_value 0 behind
value_escape now b text behind c e f w =
    let left : drop (length text - length behind) text ≡ behind = left_behind text behind (escape_behind text behind c w) in
    rw (e, f, w, skipped (length text - length behind) text, left) refl

pub over_escape : (now : List ℕ) (b : ℕ) (text behind out more total : List ℕ) (c : Code) → now ≡ b ∷ text → b ≡ 92 → escape_at text ≡ Ok (c, behind) → out ++ string_value 0 now ≡ total → more ≡ out ++ code_bytes c → more ++ string_value 0 behind ≡ total
over_escape now b text behind out more total c e f w h m =
    let step = value_escape now b text behind c e f w in
    rw (m, append_assoc, ← step) h
