use Rattle.std.proofs.Common.{◌≡◌, map, drop}
use Rattle.ql_syntax.specs.Aggregates as spec
use Rattle.ql_check_expr.proofs.aggregate.+aggregate.Given as goal

-- none stands in the parts before
abbrev pub invariant-parts_have_one-parts : goal.invariant-parts_have_one-parts
invariant-parts_have_one-parts l = spec.any_aggregate (drop l.part-index l.parts) ≡ spec.any_aggregate l.parts

-- none stands in the links before
abbrev pub invariant-links_have_one-links : goal.invariant-links_have_one-links
invariant-links_have_one-links l = spec.is_any (map spec.link_has_aggregate (drop l.link-index l.links)) ≡ spec.is_any (map spec.link_has_aggregate l.links)
