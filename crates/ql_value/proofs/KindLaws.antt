-- The laws of kinds.
use Rattle.std.proofs.Common.{◌≡◌, ℕ, ℤ, Bool, true, false, ◌++◌, List, IfOk, Result, Ok, Err, unsigned_abs, bit_and, bit_or, bit_xor, int_lt, ◌==◌, if◌then◌else◌, ◌&&◌, int_le, pos, ◌≤ℤ◌, IsTrue, refl, sym, subst}
use Rattle.std.proofs.lemmas.Float.{T_from_true}
use Rattle.ql_value.specs.declared.value.Kind.{Kind}
use Rattle.ql_value.specs.declared.value.Kind.TheVariants as k
use Rattle.ql_value.specs.declared.value.Value.{Value}
use Rattle.ql_value.specs.declared.value.Value.TheVariants as v
use Rattle.ql_value.specs.declared.operator.BinOp.{BinOp}
use Rattle.ql_value.specs.declared.operator.BinOp.TheVariants as op
use Rattle.ql_value.specs.declared.fault.ValueFault.{ValueFault}
use Rattle.ql_value.specs.declared.fault.ValueFault.TheVariants as fault
use Rattle.ql_value.specs.Number.{HasKind, IsInteger, least, greatest, residue}
use Rattle.ql_value.specs.Arith.{arith_of, flipped, on_numbers}
use Rattle.ql_value.specs.Kinds.{is_truth, is_byte_list}
use Rattle.std.proofs.lemmas.Bool.{false≢true}
use Rattle.ql_value.specs.Convert.{IsConvertible, converted, fitted, with_bytes}
use Rattle.ql_value.specs.KindLaws.{KindLaws}
use Rattle.ql_value.proofs.ArithLaws.{wrapped_has}

-- a fault says nothing of a value
unless : (P : Value → Type 0) (fault_is : ValueFault) (b : Bool) (outcome : Result Value ValueFault) → IfOk outcome P → IfOk (if b then Err fault_is else outcome) P
unless P f true outcome h = tt
unless P f false outcome h = h

numbers : (o : BinOp) (kind : Kind) → IsInteger kind → (a b : ℤ) → IfOk (on_numbers o kind a b) (HasKind kind)
numbers op.Mul kind h a b = (refl, h, wrapped_has kind _)
numbers op.Div kind h a b = unless (HasKind kind) fault.Divide (unsigned_abs b == 0) _ (refl, h, wrapped_has kind _)
numbers op.Rem kind h a b = unless (HasKind kind) fault.Divide (unsigned_abs b == 0) _ (refl, h, wrapped_has kind _)
numbers op.Shl kind h a b = unless (HasKind kind) fault.NegativeCount (int_lt b (pos 0)) _ (refl, h, wrapped_has kind _)
numbers op.Shr kind h a b = unless (HasKind kind) fault.NegativeCount (int_lt b (pos 0)) _ (refl, h, wrapped_has kind _)
numbers op.And kind h a b = (refl, h, wrapped_has kind (pos (bit_and (residue kind a) (residue kind b))))
numbers op.AndNot kind h a b = (refl, h, wrapped_has kind (pos (bit_and (residue kind a) (flipped kind b))))
numbers op.Add kind h a b = (refl, h, wrapped_has kind _)
numbers op.Sub kind h a b = (refl, h, wrapped_has kind _)
numbers op.Or kind h a b = (refl, h, wrapped_has kind (pos (bit_or (residue kind a) (residue kind b))))
numbers op.Xor kind h a b = (refl, h, wrapped_has kind (pos (bit_xor (residue kind a) (residue kind b))))
numbers _ kind h a b = tt

joined : (kind : Kind) (a b : List ℕ) → HasKind kind (v.Text a) → HasKind kind (v.Text (a ++ b))
joined k.Text a b h = tt
joined _ a b h = absurd h

moved : (o : BinOp) (i kind : Kind) (a b : ℤ) → i ≡ kind → IsInteger kind → IfOk (on_numbers o i a b) (HasKind kind)
moved o i kind a b e h =
    let P : Kind → Type 0 = λ own. IfOk (on_numbers o own a b) (HasKind kind) in
    subst P (sym e) (numbers o kind h a b)

arithmetic : (o : BinOp) (kind own : Kind) (x y : Value) → HasKind kind x → HasKind own y → IfOk (arith_of o x y) (HasKind kind)
arithmetic o kind own v.Null v.Null h g = tt
arithmetic o kind own v.Null (v.Bool _) h g = tt
arithmetic o kind own v.Null (v.Int _ _) h g = tt
arithmetic o kind own v.Null (v.Text _) h g = tt
arithmetic o kind own v.Null (v.Blob _) h g = tt
arithmetic o kind own (v.Bool _) v.Null h g = tt
arithmetic o kind own (v.Bool _) (v.Bool _) h g = tt
arithmetic o kind own (v.Bool _) (v.Int _ _) h g = tt
arithmetic o kind own (v.Bool _) (v.Text _) h g = tt
arithmetic o kind own (v.Bool _) (v.Blob _) h g = tt
arithmetic o kind own (v.Int _ _) v.Null h g = tt
arithmetic o kind own (v.Int _ _) (v.Bool _) h g = tt
arithmetic o kind own (v.Int i a) (v.Int j b) h g = moved o i kind a b h.0 (h.1)
arithmetic o kind own (v.Int _ _) (v.Text _) h g = tt
arithmetic o kind own (v.Int _ _) (v.Blob _) h g = tt
arithmetic o kind own (v.Text _) v.Null h g = tt
arithmetic o kind own (v.Text _) (v.Bool _) h g = tt
arithmetic o kind own (v.Text _) (v.Int _ _) h g = tt
arithmetic o kind own (v.Text a) (v.Text b) h g = joined kind a b h
arithmetic o kind own (v.Text _) (v.Blob _) h g = tt
arithmetic o kind own (v.Blob _) v.Null h g = tt
arithmetic o kind own (v.Blob _) (v.Bool _) h g = tt
arithmetic o kind own (v.Blob _) (v.Int _ _) h g = tt
arithmetic o kind own (v.Blob _) (v.Text _) h g = tt
arithmetic o kind own (v.Blob _) (v.Blob _) h g = tt

bytes_kind : (kind : Kind) → IsTrue (is_byte_list kind) → (bytes : List ℕ) → HasKind kind (with_bytes kind (v.Text bytes)) × HasKind kind (with_bytes kind (v.Blob bytes))
bytes_kind k.Text h bytes = (tt, tt)
bytes_kind k.Blob h bytes = (tt, tt)
bytes_kind _ h bytes = absurd (false≢true h)

null_kind : (kind : Kind) → HasKind kind (with_bytes kind v.Null)
null_kind k.Bool = tt
null_kind k.Int8 = tt
null_kind k.Int16 = tt
null_kind k.Int32 = tt
null_kind k.Int64 = tt
null_kind k.Uint8 = tt
null_kind k.Uint16 = tt
null_kind k.Uint32 = tt
null_kind k.Uint64 = tt
null_kind k.Text = tt
null_kind k.Blob = tt

bool_kind : (kind : Kind) (b : Bool) → IsTrue (is_truth kind) → HasKind kind (with_bytes kind (v.Bool b))
bool_kind k.Bool b h = tt
bool_kind _ b h = absurd (false≢true h)

conversion : (kind : Kind) (x : Value) → IsConvertible kind x → HasKind kind (converted kind x)
conversion kind v.Null h = null_kind kind
conversion kind (v.Bool b) h = bool_kind kind b h
conversion kind (v.Int own z) h = (refl, h, wrapped_has kind z)
conversion kind (v.Text bytes) h = (bytes_kind kind h bytes).0
conversion kind (v.Blob bytes) h = (bytes_kind kind h bytes).1

le_from : (a b : ℤ) → int_le a b ≡ true → a ≤ℤ b
le_from a b e = record { le = T_from_true (int_le a b) e }

within : (kind : Kind) (z : ℤ) (a b : Bool) → a ≡ int_le (least kind) z → b ≡ int_le z (greatest kind) → IsInteger kind → IfOk (if a && b then Ok (v.Int kind z) else Err fault.Range) (HasKind kind)
within kind z false b e f h = tt
within kind z true false e f h = tt
within kind z true true e f h = (refl, h, (le_from (least kind) z (sym e), le_from z (greatest kind) (sym f)))

fit : (kind : Kind) (z : ℤ) → IsInteger kind → IfOk (fitted kind z) (HasKind kind)
fit kind z h = within kind z _ _ refl refl h

pub the_kind_laws : KindLaws
the_kind_laws = record { arithmetic = arithmetic; conversion = conversion; fit = fit }
