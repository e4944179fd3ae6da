use Rattle.std.proofs.Common.{◌≡◌, take}
use Rattle.ql_check_expr.proofs.copy.+copy.Given as goal

abbrev pub invariant-copy_typeds-parts : goal.invariant-copy_typeds-parts
invariant-copy_typeds-parts l = l.copy ≡ take l.part-index l.parts

abbrev pub invariant-copy_links-links : goal.invariant-copy_links-links
invariant-copy_links-links l = l.copy ≡ take l.link-index l.links
