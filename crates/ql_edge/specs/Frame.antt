-- What a call leaves as it was.
use Rattle.std.specs.Prelude.{◌≡◌}

-- two things that are told of a state are as before, as what is left of the script and what no call changes
abbrev pub Keeps : {S A B : Type 0} → (S → A) → (S → B) → S → S → Type 0
Keeps first second before now = (first now ≡ first before) × (second now ≡ second before)

-- and so are two more: what no call changes, and the attached name
abbrev pub Stays : {S A B D E : Type 0} → (S → A) → (S → B) → (S → D) → (S → E) → S → S → Type 0
Stays told left fixed attached before now = (told now ≡ told before) × (left now ≡ left before) × (fixed now ≡ fixed before) × (attached now ≡ attached before)
