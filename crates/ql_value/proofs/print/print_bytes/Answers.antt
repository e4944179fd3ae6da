use Rattle.std.proofs.Common.{arith}
use Rattle.ql_value.proofs.Shown.{front_of_rest, on_err, shown_more}
use Rattle.ql_value.proofs.print.print_bytes.Goals as goal

pub returns-in_err-at-clause-err : goal.returns-in_err-at-clause-err
returns-in_err-at-clause-err c =
    on_err _ _ (front_of_rest c.args.in_blob c.args.bytes.now c.args.out.now c.loop-at.out _ c.loop-at.at c.loop-at.invariant.shown c.in_err-at.ensures.err)

pub loop-at-preserved : goal.loop-at-preserved
loop-at-preserved c = record {
  within = omega (arith, c.in_ok-at.ensures.within, c.loop-at.invariant.within);
  shown = shown_more c.args.in_blob c.args.bytes.now c.args.out.now c.loop-at.out _ c.loop-at.at c.in_ok-at.field-0 c.loop-at.invariant.shown c.in_ok-at.ensures.ok;
}
