-- One slot more.
use Rattle.std.proofs.Common.{◌+◌, refl, arith}
use Rattle.ql_check_expr.proofs.Places.{turn_place}
use Rattle.ql_check_expr.proofs.scope.search.Goals as goal

pub slots-preserved : goal.slots-preserved
slots-preserved c =
    let w = c.slots.invariant.places in
    record {
      number = omega (arith, c.slots.invariant.number);
      places = (_, c.look_at-hit.ensures w.0 w.1, turn_place _ _ c.args.slots.now c.slots.slot-index c.slots.at (c.slots.at + 1) c.slot-item.result c.slot-item.result w.0 _ c.slots-test.true c.slot-item.is refl w.2);
    }
