-- The parts of a call.
use Rattle.std.proofs.Common.{◌≡◌, ℕ, Bool, List, [], ◌∷◌, get_or, sym, ap, ◌∙◌}
use Rattle.ql_value.specs.declared.value.Value.{Value}
use Rattle.ql_syntax.specs.declared.typed.Typed.{Typed}
use Rattle.ql_syntax.specs.Values.{gives, IsMeant, then_from, measured, asked, asked_of, length_of, value_at, values_at}

-- what a part that is the first or the second of the parts comes to
same_value : (row : List Value) (a p : Typed) (x : Value) → a ≡ p → value_at row a ≡ gives x → value_at row p ≡ gives x
same_value row a p x e v = ap (value_at row) (sym e) ∙ v

-- the length of the only part
pub only_part : (row : List Value) (parts : List Typed) (a : Typed) (x : Value) → IsMeant (measured (values_at row parts)) → a ≡ get_or parts 0 a → value_at row a ≡ gives x → measured (values_at row parts) ≡ length_of x
only_part row [] a x h e v = absurd h
only_part row (p ∷ []) a x h e v = ap (λ o. then_from o length_of) (same_value row a p x e v)
only_part row (p ∷ q ∷ parts) a x h e v = absurd h

-- a question to exactly two parts
pub two_parts : (test : List ℕ → List ℕ → Bool) (row : List Value) (parts : List Typed) (a b : Typed) (x y : Value) → IsMeant (asked_of test (values_at row parts)) → a ≡ get_or parts 0 a → b ≡ get_or parts 1 b → value_at row a ≡ gives x → value_at row b ≡ gives y → asked_of test (values_at row parts) ≡ asked test x y
two_parts test row [] a b x y h e g v w = absurd h
two_parts test row (p ∷ []) a b x y h e g v w = absurd h
two_parts test row (p ∷ q ∷ []) a b x y h e g v w =
    ap (λ o. then_from o (λ z. then_from (value_at row q) (asked test z))) (same_value row a p x e v) ∙ ap (λ o. then_from o (asked test x)) (same_value row b q y g w)
two_parts test row (p ∷ q ∷ r ∷ parts) a b x y h e g v w = absurd h
