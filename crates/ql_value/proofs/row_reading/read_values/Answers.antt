use Rattle.std.proofs.Common.{◌+◌, drop, get_or, sym, ap, ◌∙◌}
use Rattle.std.proofs.lemmas.Result.{err_from_is_err_and}
use Rattle.std.proofs.lemmas.List.{drop_more, drop_all}
use Rattle.ql_value.specs.RowReading.{values_at}
use Rattle.ql_value.specs.declared.value.Kind.TheVariants as k
use Rattle.ql_value.proofs.RowLoop.{with_front, goes_on, ends, is_done}
use Rattle.ql_value.proofs.row_reading.read_values.Goals as goal

pub returns-in_err-value : goal.returns-in_err-value
returns-in_err-value c =
    let split = drop_more c.args.kinds.now c.loop-kind.kind-index k.Bool c.loop-kind-test.true in
    let so_far = ap (λ ks. with_front c.loop-kind.values (values_at ks c.loop-kind.rest.now)) (sym split) ∙ c.loop-kind.invariant in
    let p = err_from_is_err_and c.from_residual-in_err-value.result c.from_residual-in_err-value.ensures.1 in
    rw (p.1, p.2) (ends c.in_err-value.field-0.0 c.loop-kind.values (get_or c.args.kinds.now c.loop-kind.kind-index k.Bool) (drop (c.loop-kind.kind-index + 1) c.args.kinds.now) c.loop-kind.rest.now (values_at c.args.kinds.now c.args.bytes.now) c.in_err-value.ensures so_far)

pub loop-kind-preserved : goal.loop-kind-preserved
loop-kind-preserved c =
    let split = drop_more c.args.kinds.now c.loop-kind.kind-index k.Bool c.loop-kind-test.true in
    let so_far = ap (λ ks. with_front c.loop-kind.values (values_at ks c.loop-kind.rest.now)) (sym split) ∙ c.loop-kind.invariant in
    rw c.in_ok-push.ensures.ok (goes_on c.loop-kind.values (get_or c.args.kinds.now c.loop-kind.kind-index k.Bool) (drop (c.loop-kind.kind-index + 1) c.args.kinds.now) c.loop-kind.rest.now c.in_ok-value.value c.in_ok-value.after.now (values_at c.args.kinds.now c.args.bytes.now) c.in_ok-value.ensures so_far)

pub returns : goal.returns
returns c =
    let nothing = drop_all c.loop-kind.kind-index c.args.kinds.now c.loop-kind-test.false in
    is_done c.loop-kind.values c.loop-kind.rest.now (values_at c.args.kinds.now c.args.bytes.now)
    (ap (λ ks. with_front c.loop-kind.values (values_at ks c.loop-kind.rest.now)) (sym nothing) ∙ c.loop-kind.invariant)
