-- Conversions, and numbers that have to fit a kind.
use Rattle.std.specs.Prelude.{ℤ, IsTrue, Result, Ok, Err, if◌then◌else◌}
use Rattle.ql_value.specs.declared.value.Kind.{Kind}
use Rattle.ql_value.specs.declared.value.Kind.TheVariants as k
use Rattle.ql_value.specs.declared.value.Value.{Value}
use Rattle.ql_value.specs.declared.value.Value.TheVariants as v
use Rattle.ql_value.specs.declared.fault.ValueFault.{ValueFault}
use Rattle.ql_value.specs.declared.fault.ValueFault.TheVariants as fault
use Rattle.ql_value.specs.Kinds.{is_truth, is_byte_list}
use Rattle.ql_value.specs.Number.{IsInteger, has_number, wrapped}

-- the value is a string or a blob: to copy or to convert another takes no memory
abbrev pub IsByteList : Value → Type 0
IsByteList (v.Text _) = Unit {0}
IsByteList (v.Blob _) = Unit {0}
IsByteList _ = ⊥

-- what a conversion to the kind takes: NULL, and a value of the same group of kinds
abbrev pub IsConvertible : Kind → Value → Type 0
IsConvertible kind v.Null = Unit {0}
IsConvertible kind (v.Bool _) = IsTrue (is_truth kind)
IsConvertible kind (v.Int _ _) = IsInteger kind
IsConvertible kind (v.Text _) = IsTrue (is_byte_list kind)
IsConvertible kind (v.Blob _) = IsTrue (is_byte_list kind)

-- the bytes as a value of the kind
abbrev pub with_bytes : Kind → Value → Value
with_bytes k.Text (v.Blob bytes) = v.Text bytes
with_bytes k.Blob (v.Text bytes) = v.Blob bytes
with_bytes _ value = value

-- the value as one of the kind: a number keeps its low bits, a string or a blob its bytes
abbrev pub converted : Kind → Value → Value
converted kind (v.Int _ z) = v.Int kind (wrapped kind z)
converted kind value = with_bytes kind value

-- the number as a value of the kind, where it is one of its numbers
abbrev pub fitted : Kind → ℤ → Result Value ValueFault
fitted kind z = if has_number kind z then Ok (v.Int kind z) else Err fault.Range
