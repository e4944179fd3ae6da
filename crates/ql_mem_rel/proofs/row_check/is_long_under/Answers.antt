use Rattle.std.proofs.Common.{◌≡◌, false, ◌∙◌, add-one}
use Rattle.std.specs.Str.{bytes_eq}
use Rattle.ql_mem_rel.proofs.CheckLemmas.{under_next, other_name}
use Rattle.ql_mem_rel.proofs.row_check.is_long_under.Goals as goal

pub loop-i-preserved : goal.loop-i-preserved
loop-i-preserved c =
    let other : bytes_eq c.index-columns-i.result.name c.args.name.now ≡ false = other_name _ _ c.as_slice.result.now c.as_slice-in-loop-i.result.now c.eq.result c.as_slice.ensures.value c.as_slice-in-loop-i.ensures.value c.eq.ensures c.if-eq.false in
    rw add-one (under_next c.args.name.now c.args.columns.now c.args.values.now c.loop-i.i c.index-columns-i.result c.loop-i-test.true c.index-columns-i.is other ∙ c.loop-i.invariant)
