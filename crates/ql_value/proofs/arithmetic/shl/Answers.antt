use Rattle.std.proofs.Common.{ap, ◌∙◌, arith}
use Rattle.ql_value.specs.Number.{wrapped}
use Rattle.ql_value.proofs.Residues.{read_back, shl_passed, width-le, wrapped_shl}
use Rattle.ql_value.proofs.arithmetic.shl.Goals as goal

pub returns : goal.returns
returns c =
    let small = width-le c.args.kind in
    let shifted = shl_passed c.args.a c.args.count _ c.wrapping_shl.type_inv c.wrapping_shl.ensures c.ranges.a (omega (arith, small, c.requires)) in
    read_back _ _ _ c.wrap.type_inv c.wrap.ensures (ap (wrapped c.args.kind) shifted ∙ wrapped_shl c.args.kind c.args.a c.args.count c.ranges.a (omega (arith, small, c.requires)))
