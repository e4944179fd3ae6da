-- How an answer of the code stands to what is defined.
use Rattle.std.specs.Prelude.{◌≡◌, Option, None, Some, Result, Ok, Err}

-- it is this outcome, where one is said
abbrev pub IsSaid : {O : Type 0} → O → Option O → Type 0
IsSaid outcome (Some said) = outcome ≡ said
IsSaid outcome None = Unit {0}

-- the answer gives this outcome: `of_value` is the outcome that a value stands for, and `of_fault` the one that a fault
-- stands for, which is none for want of memory
abbrev pub Gives : {O A F : Type 0} → (A → O) → (F → Option O) → O → Result A F → Type 0
Gives of_value of_fault outcome (Ok x) = outcome ≡ of_value x
Gives of_value of_fault outcome (Err f) = IsSaid outcome (of_fault f)
