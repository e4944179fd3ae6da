-- Laws by which a reader checks the words of refusals.
use Rattle.std.specs.Prelude.{◌≢◌, ℕ, List, [], ◌∷◌, All, AllPairs, Contains}
use Rattle.ql_value.specs.declared.refusal.TheConstants.{NO_TABLE, NO_COLUMN, AMBIGUOUS, EXISTS, TYPE, COUNT, CONSTANT_RANGE, AGGREGATE, RESERVED, LATER, DIVIDE, RANGE, NEGATIVE_COUNT, ROW_TOO_LONG, KEY_TOO_LONG, IDS_SPENT, TABLE_LIMIT_REFUSAL}
use Rattle.ql_value.specs.Refusal.{refusal_word}

-- the numbers of refusals
abbrev pub refusal_numbers : List ℕ
refusal_numbers =
    NO_TABLE ∷ NO_COLUMN ∷ AMBIGUOUS ∷ EXISTS ∷ TYPE ∷ COUNT ∷ CONSTANT_RANGE ∷ AGGREGATE ∷ RESERVED ∷ LATER
    ∷ DIVIDE ∷ RANGE ∷ NEGATIVE_COUNT ∷ ROW_TOO_LONG ∷ KEY_TOO_LONG ∷ IDS_SPENT ∷ TABLE_LIMIT_REFUSAL ∷ []

-- each of the numbers has a word, no two have the same, and no other number has one
pub record RefusalLaws : Type 0 where
  pub each : All (λ number. refusal_word number ≢ []) refusal_numbers
  pub apart : AllPairs (λ first second. refusal_word first ≢ refusal_word second) refusal_numbers
  pub only : (number : ℕ) → refusal_word number ≢ [] → Contains refusal_numbers number
