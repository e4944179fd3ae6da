-- Outcomes after outcomes, and operators before a value.
use Rattle.std.proofs.Common.{◌≡◌, List, [], ◌∷◌, ◌++◌, refl, sym, ap, subst, ◌∙◌}
use Rattle.ql_value.specs.declared.operator.UnOp.{UnOp}
use Rattle.ql_value.specs.declared.value.Value.{Value}
use Rattle.ql_syntax.specs.Values.{Outcome, gives, refuses, means_nothing, IsMeant, then_from, prefix, prefixed}

pub then_gives : (a : Outcome) → then_from a gives ≡ a
then_gives (gives x) = refl
then_gives (refuses r) = refl
then_gives means_nothing = refl

pub then_then : (a : Outcome) (f g : Value → Outcome) → then_from (then_from a f) g ≡ then_from a (λ x. then_from (f x) g)
then_then (gives x) f g = refl
then_then (refuses r) f g = refl
then_then means_nothing f g = refl

-- the last operator comes first
pub last_first : (front : List UnOp) (o : UnOp) (x : Value) → prefixed (front ++ o ∷ []) x ≡ then_from (prefix o x) (prefixed front)
last_first [] o x = sym (then_gives (prefix o x))
last_first (p ∷ front) o x = ap (λ a. then_from a (prefix p)) (last_first front o x) ∙ then_then (prefix o x) (prefixed front) (prefix p)

-- what has a meaning, its first part has
pub first_meant : (a : Outcome) (f : Value → Outcome) → IsMeant (then_from a f) → IsMeant a
first_meant (gives x) f h = tt
first_meant (refuses r) f h = tt
first_meant means_nothing f h = h

-- the last operator has a meaning where all have
pub last_meant : (ops front : List UnOp) (o : UnOp) (x : Value) (all : Outcome) → ops ≡ front ++ o ∷ [] → prefixed ops x ≡ all → IsMeant all → IsMeant (prefix o x)
last_meant ops front o x all e same h =
    let turned : all ≡ then_from (prefix o x) (prefixed front) = sym same ∙ ap (λ z. prefixed z x) e ∙ last_first front o x in
    first_meant (prefix o x) (prefixed front) (subst IsMeant turned h)

-- what the last operator gave goes on to the others
pub last_gives : (ops front : List UnOp) (o : UnOp) (x y : Value) (all : Outcome) → ops ≡ front ++ o ∷ [] → prefixed ops x ≡ all → prefix o x ≡ gives y → prefixed front y ≡ all
last_gives ops front o x y all e same g =
    sym (ap (λ a. then_from a (prefixed front)) g) ∙ sym (last_first front o x) ∙ sym (ap (λ z. prefixed z x) e) ∙ same
