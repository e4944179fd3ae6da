-- Operators are read again as themselves.
use Rattle.std.proofs.Common.{◌≡◌, refl}
use Rattle.ql_value.specs.declared.operator.BinOp.{BinOp}
use Rattle.ql_value.specs.declared.operator.BinOp.TheVariants as bin
use Rattle.ql_value.specs.declared.operator.UnOp.{UnOp}
use Rattle.ql_value.specs.declared.operator.UnOp.TheVariants as un
use Rattle.ql_value.specs.declared.value.Kind.{Kind}
use Rattle.ql_value.specs.declared.value.Kind.TheVariants as k
use Rattle.ql_syntax.specs.Printing.{word_of_kind}
use Rattle.ql_syntax.specs.Trees.{bin_op, un_op, kind_named}
use Rattle.ql_print.proofs.BackTokens.{bin_token, un_token, small_token}

pub bin_op_is : (op : BinOp) → bin_op (bin_token op).kind ≡ op
bin_op_is bin.Mul = refl
bin_op_is bin.Div = refl
bin_op_is bin.Rem = refl
bin_op_is bin.Shl = refl
bin_op_is bin.Shr = refl
bin_op_is bin.And = refl
bin_op_is bin.AndNot = refl
bin_op_is bin.Add = refl
bin_op_is bin.Sub = refl
bin_op_is bin.Or = refl
bin_op_is bin.Xor = refl
bin_op_is bin.Eq = refl
bin_op_is bin.Ne = refl
bin_op_is bin.Lt = refl
bin_op_is bin.Le = refl
bin_op_is bin.Gt = refl
bin_op_is bin.Ge = refl
bin_op_is bin.Both = refl
bin_op_is bin.Either = refl
bin_op_is bin.Like = refl

pub un_op_is : (op : UnOp) → un_op (un_token op).kind ≡ op
un_op_is un.Plus = refl
un_op_is un.Minus = refl
un_op_is un.Not = refl
un_op_is un.Flip = refl

pub kind_named_is : (a : Kind) → kind_named (small_token (word_of_kind a)).kind ≡ a
kind_named_is k.Bool = refl
kind_named_is k.Int8 = refl
kind_named_is k.Int16 = refl
kind_named_is k.Int32 = refl
kind_named_is k.Int64 = refl
kind_named_is k.Uint8 = refl
kind_named_is k.Uint16 = refl
kind_named_is k.Uint32 = refl
kind_named_is k.Uint64 = refl
kind_named_is k.Text = refl
kind_named_is k.Blob = refl
