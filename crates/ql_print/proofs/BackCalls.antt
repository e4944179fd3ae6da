-- The name of a function is read again as that function.
use Rattle.std.proofs.Common.{◌≡◌, ℕ, Bool, true, false, List, refl}
use Rattle.std.specs.Prelude.{◌&&◌, ◌||◌, codes}
use Rattle.std.specs.Str.{bytes_eq}
use Rattle.std.proofs.lemmas.Slice.Eq.{bytes_eq-Decides}
use Rattle.ql_syntax.specs.declared.syntax.Function.{Function}
use Rattle.ql_syntax.specs.declared.syntax.Function.TheVariants as f
use Rattle.ql_syntax.specs.Lexemes.{Lexeme, is_name, is_named, is_id, is_count, is_function}
use Rattle.ql_syntax.specs.Functions.{function_bytes}
use Rattle.ql_syntax.specs.Trees.{function_named}
use Rattle.ql_print.proofs.BackTokens.{name_token}

-- the printed name of a function that is not count
pub record IsCalled (function : Function) : Type 0 where
  pub no_count : is_count (name_token (function_bytes function)) ≡ false
  pub called : is_function (name_token (function_bytes function)) ≡ true
  pub named : function_named (function_bytes function) ≡ function

and_right : (a b : Bool) → (a && b) ≡ true → b ≡ true
and_right true b h = h
and_right false b h = cc

or_else : {C : Type 0} (a b : Bool) → (a || b) ≡ true → (a ≡ true → C) → (b ≡ true → C) → C
or_else true b h f g = f refl
or_else false b h f g = g h

-- a token with these bytes has them
text_named : (bytes : List ℕ) (t : Lexeme) → is_named bytes t ≡ true → t.text ≡ bytes
text_named bytes t h = (bytes_eq-Decides t.text bytes).0 (and_right (is_name t) (bytes_eq t.text bytes) h)

pub count_named : (t : Lexeme) → is_count t ≡ true → function_named t.text ≡ f.Count
count_named t h = rw (text_named (codes "count") t h) refl

called : (bytes : List ℕ) (t : Lexeme) → is_named bytes t ≡ true → IsCalled (function_named bytes) → IsCalled (function_named t.text)
called bytes t h c = rw (text_named bytes t h) c

pub function_called : (t : Lexeme) → is_function t ≡ true → IsCalled (function_named t.text)
function_called t h =
    or_else (is_id t) _ h (λ e. called (codes "id") t e (record { no_count = refl; called = refl; named = refl })) (λ h.
    or_else (is_named (codes "len") t) _ h (λ e. called (codes "len") t e (record { no_count = refl; called = refl; named = refl })) (λ h.
    or_else (is_named (codes "contains") t) _ h (λ e. called (codes "contains") t e (record { no_count = refl; called = refl; named = refl })) (λ h.
    or_else (is_named (codes "hasPrefix") t) _ h (λ e. called (codes "hasPrefix") t e (record { no_count = refl; called = refl; named = refl })) (λ h.
    or_else (is_named (codes "hasSuffix") t) _ h (λ e. called (codes "hasSuffix") t e (record { no_count = refl; called = refl; named = refl })) (λ h.
    or_else (is_named (codes "coalesce") t) _ h (λ e. called (codes "coalesce") t e (record { no_count = refl; called = refl; named = refl })) (λ h.
    or_else (is_named (codes "sum") t) _ h (λ e. called (codes "sum") t e (record { no_count = refl; called = refl; named = refl })) (λ h.
    or_else (is_named (codes "avg") t) _ h (λ e. called (codes "avg") t e (record { no_count = refl; called = refl; named = refl })) (λ h.
    or_else (is_named (codes "min") t) _ h (λ e. called (codes "min") t e (record { no_count = refl; called = refl; named = refl })) (λ h.
    called (codes "max") t h (record { no_count = refl; called = refl; named = refl }))))))))))
