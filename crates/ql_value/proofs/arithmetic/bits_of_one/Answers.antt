use Rattle.ql_value.proofs.Residues.{read_back, wrapped_xor}
use Rattle.ql_value.proofs.arithmetic.bits_of_one.Goals as goal

pub returns : goal.returns
returns c = read_back _ _ _ c.wrap.type_inv c.wrap.ensures (wrapped_xor c.args.kind c.args.a c.args.b c.ranges.a c.ranges.b)
