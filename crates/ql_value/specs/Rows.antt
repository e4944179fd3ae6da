-- Rows as bytes.
use Rattle.std.specs.Prelude.{◌≡◌, ℕ, ◌<◌, ◌^◌, ℤ, Bool, true, false, List, [], ◌∷◌, ◌++◌, length, if◌then◌else◌}
use Rattle.std.specs.List.{flat_map, AllByRecursion}
use Rattle.std.specs.Int.{w16, w32, w64, cast_unsigned, to_be_bytes}
use Rattle.ql_value.specs.Kinds.{is_signed}
use Rattle.ql_value.specs.Number.{HasKind}
use Rattle.ql_value.specs.declared.value.Kind.{Kind}
use Rattle.ql_value.specs.declared.value.Value.{Value}
use Rattle.ql_value.specs.declared.value.Value.TheVariants as v

-- the bytes of a string or a blob, behind their number
abbrev pub string_bytes : List ℕ → List ℕ
string_bytes bytes = to_be_bytes w32 (length bytes) ++ bytes

-- what stands in front of a number: whether its kind has a sign
abbrev pub number_tag : Kind → ℕ
number_tag kind = if is_signed kind then 3 else 4

-- a value: a tag, and behind it a number in eight bytes (two's complement where it is negative), or the bytes
abbrev pub value_bytes : Value → List ℕ
value_bytes v.Null = 0 ∷ []
value_bytes (v.Bool false) = 1 ∷ []
value_bytes (v.Bool true) = 2 ∷ []
value_bytes (v.Int kind z) = number_tag kind ∷ to_be_bytes w64 (cast_unsigned w64 z)
value_bytes (v.Text bytes) = 5 ∷ string_bytes bytes
value_bytes (v.Blob bytes) = 6 ∷ string_bytes bytes

-- a row: how many values it has, in two bytes, and the values
abbrev pub row_bytes : List Value → List ℕ
row_bytes values = to_be_bytes w16 (length values) ++ flat_map value_bytes values

-- the number of bytes of a string or a blob has four bytes
abbrev pub HasLength : Value → Type 0
HasLength (v.Text bytes) = length bytes < 2 ^ 32
HasLength (v.Blob bytes) = length bytes < 2 ^ 32
HasLength v.Null = Unit {0}
HasLength (v.Bool _) = Unit {0}
HasLength (v.Int _ _) = Unit {0}

-- there is one value for each kind, NULL or one of the kind
abbrev pub HaveKinds : List Kind → List Value → Type 0
HaveKinds [] [] = Unit {0}
HaveKinds (kind ∷ kinds) (value ∷ values) = HasKind kind value × HaveKinds kinds values
HaveKinds [] (_ ∷ _) = ⊥
HaveKinds (_ ∷ _) [] = ⊥

-- the bytes spell this row of these kinds
pub record Spells (kinds : List Kind) (values : List Value) (bytes : List ℕ) : Type 0 where
  pub fit : HaveKinds kinds values
  pub lengths : AllByRecursion HasLength values
  pub count : length values < 2 ^ 16
  pub spelling : bytes ≡ row_bytes values
