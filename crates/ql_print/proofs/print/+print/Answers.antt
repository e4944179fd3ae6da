use Rattle.std.proofs.Common.{get_or, ap, ◌∙◌, append_assoc, rules}
use Rattle.ql_syntax.specs.Ink.{comma}
use Rattle.ql_syntax.specs.Printing.{ink_of_set}
use Rattle.ql_print.proofs.Growth.{grow_on}
use Rattle.ql_print.proofs.PrintSteps.{select_text, null_text, between_text, join_text, one_more}
use Rattle.ql_print.proofs.print.+print.Goals as goal

pub add_select-returns-in_err-add_filter-clause-grows : goal.add_select-returns-in_err-add_filter-clause-grows
add_select-returns-in_err-add_filter-clause-grows n c =
    grow_on c.put.ensures.grows (grow_on c.add_fields.ensures.grows (grow_on c.add_sets.ensures.grows (grow_on c.add_join.ensures.grows c.add_filter.ensures.grows)))

pub add_select-returns-in_err-add_groups-clause-grows : goal.add_select-returns-in_err-add_groups-clause-grows
add_select-returns-in_err-add_groups-clause-grows n c =
    grow_on c.put.ensures.grows (grow_on c.add_fields.ensures.grows (grow_on c.add_sets.ensures.grows (grow_on c.add_join.ensures.grows
    (grow_on c.add_filter.ensures.grows c.add_groups.ensures.grows))))

pub add_select-returns-in_err-add_keys-clause-grows : goal.add_select-returns-in_err-add_keys-clause-grows
add_select-returns-in_err-add_keys-clause-grows n c =
    grow_on c.put.ensures.grows (grow_on c.add_fields.ensures.grows (grow_on c.add_sets.ensures.grows (grow_on c.add_join.ensures.grows
    (grow_on c.add_filter.ensures.grows (grow_on c.add_groups.ensures.grows c.add_keys.ensures.grows)))))

pub add_select-returns-in_err-add_limit-clause-grows : goal.add_select-returns-in_err-add_limit-clause-grows
add_select-returns-in_err-add_limit-clause-grows n c =
    grow_on c.put.ensures.grows (grow_on c.add_fields.ensures.grows (grow_on c.add_sets.ensures.grows (grow_on c.add_join.ensures.grows
    (grow_on c.add_filter.ensures.grows (grow_on c.add_groups.ensures.grows (grow_on c.add_keys.ensures.grows c.add_limit.ensures.grows))))))

pub add_select-returns-in_err-add_offset-clause-grows : goal.add_select-returns-in_err-add_offset-clause-grows
add_select-returns-in_err-add_offset-clause-grows n c =
    grow_on c.put.ensures.grows (grow_on c.add_fields.ensures.grows (grow_on c.add_sets.ensures.grows (grow_on c.add_join.ensures.grows
    (grow_on c.add_filter.ensures.grows (grow_on c.add_groups.ensures.grows (grow_on c.add_keys.ensures.grows (grow_on c.add_limit.ensures.grows c.add_offset.ensures.grows)))))))

pub add_select-returns-clause-grows : goal.add_select-returns-clause-grows
add_select-returns-clause-grows n c =
    grow_on c.put.ensures.grows (grow_on c.add_fields.ensures.grows (grow_on c.add_sets.ensures.grows (grow_on c.add_join.ensures.grows
    (grow_on c.add_filter.ensures.grows (grow_on c.add_groups.ensures.grows (grow_on c.add_keys.ensures.grows (grow_on c.add_limit.ensures.grows c.add_offset.ensures.grows)))))))

pub add_select-returns-clause-ok : goal.add_select-returns-clause-ok
add_select-returns-clause-ok n c =
    rw (
      c.in_ok-add_offset.ensures.ok,
      c.in_ok-add_limit.ensures.ok,
      c.in_ok-add_keys.ensures.ok,
      c.in_ok-add_groups.ensures.ok,
      c.in_ok-add_filter.ensures.ok,
      c.in_ok-add_join.ensures.ok,
      c.in_ok-add_sets.ensures.ok,
      c.in_ok-add_fields.ensures.ok,
      c.in_ok-put.ensures.ok,
      c.select_bytes.ensures,
      select_text c.args.select.now,
    )
    (simp append_assoc)

pub add_expr-returns-in_ok-add_expr-in-IsBetween-3-clause-grows : goal.add_expr-returns-in_ok-add_expr-in-IsBetween-3-clause-grows
add_expr-returns-in_ok-add_expr-in-IsBetween-3-clause-grows n c =
    grow_on c.add_expr-in-IsBetween.ensures.grows (grow_on c.put-in-IsBetween.ensures.grows (grow_on c.add_expr-in-IsBetween-2.ensures.grows
    (grow_on c.put-in-IsBetween-2.ensures.grows c.add_expr-in-IsBetween-3.ensures.grows)))

pub add_expr-returns-in_ok-add_expr-in-IsBetween-3-clause-ok : goal.add_expr-returns-in_ok-add_expr-in-IsBetween-3-clause-ok
add_expr-returns-in_ok-add_expr-in-IsBetween-3-clause-ok n c =
    rw (
      c.in_ok-add_expr-in-IsBetween-3.ensures.ok,
      c.in_ok-put-in-IsBetween-2.ensures.ok,
      c.in_ok-add_expr-in-IsBetween-2.ensures.ok,
      c.in_ok-put-in-IsBetween.ensures.ok,
      c.in_ok-add_expr-in-IsBetween.ensures.ok,
      between_text c.args.expr.now c.in-IsBetween.part c.get-in-IsBetween.result.now c.in-IsBetween.low c.get-in-IsBetween-2.result.now c.in-IsBetween.high c.get-in-IsBetween-3.result.now c.in-IsBetween.not c.between_bytes.result.now
          c.in-IsBetween.is c.get-in-IsBetween.ensures c.get-in-IsBetween-2.ensures c.get-in-IsBetween-3.ensures c.between_bytes.ensures,
    )
    (simp append_assoc)

pub add_expr-returns-in_ok-put-in-IsNull-clause-ok : goal.add_expr-returns-in_ok-put-in-IsNull-clause-ok
add_expr-returns-in_ok-put-in-IsNull-clause-ok n c =
    rw (
      c.in_ok-put-in-IsNull.ensures.ok,
      c.in_ok-add_expr-in-IsNull.ensures.ok,
      null_text c.args.expr.now c.in-IsNull.part c.get-in-IsNull.result.now c.in-IsNull.not c.null_bytes.result.now c.in-IsNull.is c.get-in-IsNull.ensures c.null_bytes.ensures,
    )
    (simp append_assoc)

pub add_one_join-returns-clause-ok : goal.add_one_join-returns-clause-ok
add_one_join-returns-clause-ok n c =
    rw (c.in_ok-add_expr.ensures.ok, c.in_ok-put-2.ensures.ok, c.in_ok-add_set.ensures.ok, c.in_ok-put.ensures.ok, join_text c.args.join.now c.join_bytes.result.now c.join_bytes.ensures)
    (simp append_assoc)

pub add_sets-sets-preserved : goal.add_sets-sets-preserved
add_sets-sets-preserved n c =
    let m = one_more comma ink_of_set c.args.sets.now c.sets.i c.set-item.result c.set-item.result (search rules) (c.set-item.is ∙ ap (λ x. get_or x c.sets.i c.set-item.result) c.as_slice-set-items.ensures) in
    rw (c.in_ok-add_set.ensures.ok, c.in_ok-put-2.ensures.ok, c.sets.invariant, c.comma_before.ensures, m) (simp append_assoc)
