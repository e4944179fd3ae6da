use Rattle.ql_value.proofs.Residues.{read_back, wrapped_and_not}
use Rattle.ql_value.proofs.arithmetic.bits_of_first_alone.Goals as goal

pub returns : goal.returns
returns c = read_back _ _ _ c.wrap.type_inv c.wrap.ensures (wrapped_and_not c.args.kind c.args.a c.args.b c.ranges.a c.ranges.b)
