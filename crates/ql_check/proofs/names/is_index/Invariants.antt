use Rattle.std.proofs.Common.{◌≡◌, drop}
use Rattle.ql_rel.specs.Names.{has_name, index_names}
use Rattle.ql_check.proofs.names.is_index.Given as goal

-- none of the indexes before has the name
abbrev pub invariant-indexes : goal.invariant-indexes
invariant-indexes l = has_name l.name (index_names (drop l.index-index l.indexes)) ≡ has_name l.name (index_names l.indexes)
