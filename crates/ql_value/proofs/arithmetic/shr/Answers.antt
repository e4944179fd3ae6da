use Rattle.std.proofs.Common.{ap, ◌∙◌, arith}
use Rattle.ql_value.specs.Number.{wrapped}
use Rattle.ql_value.proofs.Residues.{read_back, shr_passed, width-le, wrapped_shr}
use Rattle.ql_value.proofs.arithmetic.shr.Goals as goal

pub returns : goal.returns
returns c =
    let small = width-le c.args.kind in
    let shifted = shr_passed c.args.a c.args.count _ c.wrapping_shr.type_inv c.wrapping_shr.ensures c.ranges.a (omega (arith, small, c.requires)) in
    read_back _ _ _ c.wrap.type_inv c.wrap.ensures (ap (wrapped c.args.kind) shifted ∙ wrapped_shr c.args.kind c.args.a c.args.count)
