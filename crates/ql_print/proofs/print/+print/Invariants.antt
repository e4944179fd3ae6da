use Rattle.std.proofs.Common.{◌≡◌, ◌++◌, take}
use Rattle.std.specs.Prelude.{codes, flat_map, map}
use Rattle.ql_syntax.specs.Ink.{listed, text_of}
use Rattle.ql_syntax.specs.Printing.{Inks, ink_of_expr, ink_of_field, ink_of_link, ink_of_set}
use Rattle.ql_print.proofs.print.+print.Given as goal

abbrev pub invariant-add_exprs-exprs : goal.invariant-add_exprs-exprs
invariant-add_exprs-exprs l = l.out ≡ l.fn.out ++ text_of (listed (map ink_of_expr (take l.i l.exprs)))

abbrev pub invariant-add_fields-fields : goal.invariant-add_fields-fields
invariant-add_fields-fields l = l.out ≡ l.fn.out ++ text_of (listed (map ink_of_field (take l.i l.fields)))

abbrev pub invariant-add_sets-sets : goal.invariant-add_sets-sets
invariant-add_sets-sets l = l.out ≡ l.fn.out ++ codes " FROM " ++ text_of (listed (map ink_of_set (take l.i l.sets)))

abbrev pub invariant-add_links-links : goal.invariant-add_links-links
invariant-add_links-links l = l.out ≡ l.fn.out ++ text_of (flat_map (λ (link : Inks). link) (map ink_of_link (take l.link-index l.links)))
