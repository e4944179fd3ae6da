use Rattle.std.proofs.Common.{◌≡◌, take}
use Rattle.ql_syntax.proofs.copy.+copy.Given as goal

abbrev pub invariant-copy_exprs-exprs : goal.invariant-copy_exprs-exprs
invariant-copy_exprs-exprs l = l.copy ≡ take l.expr-index l.exprs

abbrev pub invariant-copy_fields-fields : goal.invariant-copy_fields-fields
invariant-copy_fields-fields l = l.copy ≡ take l.field-index l.fields

abbrev pub invariant-copy_links-links : goal.invariant-copy_links-links
invariant-copy_links-links l = l.copy ≡ take l.link-index l.links

abbrev pub invariant-copy_sets-sets : goal.invariant-copy_sets-sets
invariant-copy_sets-sets l = l.copy ≡ take l.set-index l.sets
