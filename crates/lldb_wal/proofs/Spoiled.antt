-- What the bytes from a place on say of a log.
use Rattle.std.proofs.Common.{◌≡◌, ℕ, ◌+◌, ◌-◌, ◌<◌, ◌≤◌, Bool, true, false, ◌&&◌, List, length, refl, sym, ap, ◌∙◌, arith}
use Rattle.std.specs.Prelude.{nat_le}
use Rattle.std.specs.Int.{w32, w64}
use Rattle.std.proofs.lemmas.Bool.Decides.{nat_tests}
use Rattle.lldb_wal.specs.Fields.{number, has, may_begin, may_hold, is_place}
use Rattle.lldb_wal.specs.Log.{SpoilsPiece}

-- a sum that stays within a limit, said without the sum
pub holds_within : (place n most : ℕ) → n ≤ most → nat_le place (most - n) ≡ nat_le (place + n) most
holds_within place n most within = grind (arith, nat_tests)

and_no : (a b : Bool) → b ≡ false → (a && b) ≡ false
and_no true b not = not
and_no false b not = refl

and_yes : (a b : Bool) → a ≡ true → b ≡ true → (a && b) ≡ true
and_yes a b one other = rw (one, other) refl

le-leb-not : (n have : ℕ) → have < n → nat_le n have ≡ false
le-leb-not n have less = grind (arith, nat_tests)

few : (n have : ℕ) (b : Bool) → have < n → (nat_le n have && b) ≡ false
few n have b less = rw (le-leb-not n have less) refl

enough : (n have : ℕ) → n ≤ have → nat_le n have ≡ true
enough n have at_least = grind (arith, nat_tests)

pub no_place : (size last at : ℕ) (log : List ℕ) → length log < at + 8 → SpoilsPiece size last at log at
no_place size last at log short = SpoilsPiece.bad_place (few (at + 8) (length log) _ short)

pub not_begun : (size last at : ℕ) (log : List ℕ) (place : ℕ) (r : Bool) → place ≡ number w64 at log → r ≡ may_begin size last place → r ≡ false → SpoilsPiece size last at log at
not_begun size last at log place r is said not =
    let no : may_begin size last (number w64 at log) ≡ false = ap (may_begin size last) (sym is) ∙ sym said ∙ not in
    SpoilsPiece.bad_place (and_no (has 8 at log) (may_begin size last (number w64 at log)) no)

-- the place of a piece is read, and keeps the rules
pub record HasPlace (size last at : ℕ) (log : List ℕ) : Type 0 where
  pub whole : at + 8 ≤ length log
  pub kept : may_begin size last (number w64 at log) ≡ true

place_is : (size last at : ℕ) (log : List ℕ) → HasPlace size last at log → is_place size last at log ≡ true
place_is size last at log p = and_yes (has 8 at log) (may_begin size last (number w64 at log)) (enough (at + 8) (length log) p.whole) p.kept

pub no_length : (size last at : ℕ) (log : List ℕ) → HasPlace size last at log → length log < at + 12 → SpoilsPiece size last at log (at + 8)
no_length size last at log p short = SpoilsPiece.bad_length (place_is size last at log p) (few (at + 12) (length log) _ short)

pub not_held : (size last at : ℕ) (log : List ℕ) (place count : ℕ) (r : Bool) → HasPlace size last at log → place ≡ number w64 at log → count ≡ number w32 (at + 8) log
    → r ≡ may_hold place count → r ≡ false → SpoilsPiece size last at log (at + 8)
not_held size last at log place count r p is counts said not =
    let no : may_hold (number w64 at log) (number w32 (at + 8) log) ≡ false = rw (← is, ← counts) (sym said ∙ not) in
    SpoilsPiece.bad_length (place_is size last at log p) (and_no (has 12 at log) (may_hold (number w64 at log) (number w32 (at + 8) log)) no)

pub not_whole : (size last at : ℕ) (log : List ℕ) (place count : ℕ) (r : Bool) → HasPlace size last at log → at + 12 ≤ length log → place ≡ number w64 at log
    → count ≡ number w32 (at + 8) log → r ≡ may_hold place count → r ≡ true → length log < at + (12 + count) → SpoilsPiece size last at log (at + 12)
not_whole size last at log place count r p whole is counts said good short =
    let kept : may_hold (number w64 at log) (number w32 (at + 8) log) ≡ true = rw (← is, ← counts) (sym said ∙ good) in
    let less : length log < at + (12 + number w32 (at + 8) log) = rw (← counts) short in
    SpoilsPiece.bad_bytes (place_is size last at log p)
    (and_yes (has 12 at log) (may_hold (number w64 at log) (number w32 (at + 8) log)) (enough (at + 12) (length log) whole) kept)
    (le-leb-not (at + (12 + number w32 (at + 8) log)) (length log) less)
