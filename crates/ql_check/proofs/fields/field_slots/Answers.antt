-- One field more, and none.
use Rattle.ql_check.proofs.FieldPlaces.{next_place, all_placed}
use Rattle.ql_check.proofs.fields.field_slots.Goals as goal

pub fields-preserved : goal.fields-preserved
fields-preserved c =
    next_place c.args.targets.now c.args.fields.now c.fields.at c.index-fields-at.result c.index-fields-at.result c.slot_at.result c.fields.slots c.push.new.self _
    c.fields-test.true c.index-fields-at.is c.slot_at.ensures c.in_ok-push.ensures.ok c.fields.invariant

pub returns : goal.returns
returns c = all_placed c.args.targets.now c.args.fields.now c.fields.at c.fields.slots _ c.fields-test.false c.fields.invariant
