-- A line that is made of parts.
use Rattle.std.proofs.Common.{◌≡◌, ℕ, List, ◌++◌, ◌∙◌, ap, append_assoc}

pub five_parts : (out a b c d e o1 o2 o3 o4 o5 : List ℕ) → o1 ≡ out ++ a → o2 ≡ o1 ++ b → o3 ≡ o2 ++ c → o4 ≡ o3 ++ d → o5 ≡ o4 ++ e → o5 ≡ out ++ (a ++ b ++ c ++ d ++ e)
five_parts out a b c d e o1 o2 o3 o4 o5 h1 h2 h3 h4 h5 =
    rw (h5, h4, h3, h2, h1) (ap (λ t. t ++ c ++ d ++ e) (append_assoc out a b) ∙ ap (λ t. t ++ d ++ e) (append_assoc out (a ++ b) c) ∙ ap (λ t. t ++ e) (append_assoc out (a ++ b ++ c) d) ∙ append_assoc out (a ++ b ++ c ++ d) e)
