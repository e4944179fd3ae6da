use Rattle.std.proofs.Common.{ap, ◌∙◌}
use Rattle.ql_value.specs.Number.{wrapped}
use Rattle.ql_value.proofs.Residues.{read_back, div_passed, wrapped_div}
use Rattle.ql_value.proofs.arithmetic.whole_part.Goals as goal

pub returns : goal.returns
returns c =
    let divided = div_passed c.args.a c.args.b _ c.wrapping_div.type_inv c.wrapping_div.ensures c.ranges.a c.ranges.b in
    read_back _ _ _ c.wrap.type_inv c.wrap.ensures (ap (wrapped c.args.kind) divided ∙ wrapped_div c.args.kind c.args.a c.args.b c.ranges.a)
