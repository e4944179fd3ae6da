-- Reading a row from left to right.
use Rattle.std.specs.Prelude.{ℕ, ℤ, pos, true, false, List, [], ◌∷◌, length, take, drop, Option, Some, None, nat_lt, ◌==◌, if◌then◌else◌}
use Rattle.std.specs.Int.{Width, w16, w32, w64, byte_len, cast_signed, from_be_bytes}
use Rattle.ql_value.specs.Kinds.{is_signed}
use Rattle.ql_value.specs.Number.{has_number}
use Rattle.ql_value.specs.Rows.{number_tag}
use Rattle.ql_value.specs.declared.fault.RowFault.{RowFault}
use Rattle.ql_value.specs.declared.fault.RowFault.TheVariants as fault
use Rattle.ql_value.specs.declared.value.Kind.{Kind}
use Rattle.ql_value.specs.declared.value.Kind.TheVariants as k
use Rattle.ql_value.specs.declared.value.Value.{Value}
use Rattle.ql_value.specs.declared.value.Value.TheVariants as v

infixl 10 ◌>>=◌
abbrev pub ◌>>=◌ : {A B : Type 0} → Option A → (A → Option B) → Option B
(Some x) >>= f = f x
None >>= f = None

-- what a fault says of the reading: there is no row, or nothing where memory ran out
abbrev pub stands_for : {A : Type 0} → RowFault → Option (Option A)
stands_for fault.BadRow = Some None
stands_for fault.NoMemory = None

-- the number in the first bytes, and the bytes behind it
abbrev pub number_at : Width → List ℕ → Option (ℕ × List ℕ)
number_at w bytes = if nat_lt (length bytes) (byte_len w) then None else Some (from_be_bytes w (take (byte_len w) bytes), drop (byte_len w) bytes)

-- a string or a blob behind the number of its bytes
unfoldable pub string_at : List ℕ → Option (List ℕ × List ℕ)
string_at bytes = do
  n ← number_at w32 bytes
  if nat_lt (length n.1) n.0 then None else Some (take n.0 n.1, drop n.0 n.1)

-- the number of which a kind has these bits
abbrev pub number_of : Kind → ℕ → ℤ
number_of kind bits = if is_signed kind then cast_signed w64 bits else pos bits

-- a number of the kind in eight bytes
unfoldable pub integer_at : Kind → List ℕ → Option (Value × List ℕ)
integer_at kind bytes = do
  n ← number_at w64 bytes
  if has_number kind (number_of kind n.0) then Some (v.Int kind (number_of kind n.0), n.1) else None

unfoldable pub truth_at : ℕ → List ℕ → Option (Value × List ℕ)
truth_at tag rest = if tag == 1 then Some (v.Bool false, rest) else if tag == 2 then Some (v.Bool true, rest) else None

unfoldable pub text_at : ℕ → List ℕ → Option (Value × List ℕ)
text_at tag rest = if tag == 5 then (string_at rest >>= λ s. Some (v.Text s.0, s.1)) else None

unfoldable pub blob_at : ℕ → List ℕ → Option (Value × List ℕ)
blob_at tag rest = if tag == 6 then (string_at rest >>= λ s. Some (v.Blob s.0, s.1)) else None

-- a value of the kind that is not NULL, behind its tag
abbrev pub present_at : Kind → ℕ → List ℕ → Option (Value × List ℕ)
present_at k.Bool tag rest = truth_at tag rest
present_at k.Text tag rest = text_at tag rest
present_at k.Blob tag rest = blob_at tag rest
present_at kind tag rest = if tag == number_tag kind then integer_at kind rest else None

-- a value of the kind, or NULL
unfoldable pub value_at : Kind → List ℕ → Option (Value × List ℕ)
value_at kind [] = None
value_at kind (tag ∷ rest) = if tag == 0 then Some (v.Null, rest) else present_at kind tag rest

-- one value of each kind
unfoldable pub values_at : List Kind → List ℕ → Option (List Value × List ℕ)
values_at [] bytes = Some ([], bytes)
values_at (kind ∷ kinds) bytes = do
  first ← value_at kind bytes
  others ← values_at kinds first.1
  Some (first.0 ∷ others.0, others.1)

-- the row of these kinds that all of the bytes spell
unfoldable pub row_in : List Kind → List ℕ → Option (List Value)
row_in kinds bytes = do
  n ← number_at w16 bytes
  values ← values_at kinds n.1
  if n.0 == length kinds then (if length values.1 == 0 then Some values.0 else None) else None
