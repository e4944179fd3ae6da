-- The fault of a whole script.
use Rattle.std.specs.Prelude.{ℕ, ◌-◌}
use Rattle.ql_cursor.specs.declared.fault.Fault.{Fault}
use Rattle.ql_cursor.specs.declared.fault.Fault.TheVariants as f
use Rattle.ql_parse.specs.declared.fault.ParseFault.{ParseFault}
use Rattle.ql_parse.specs.declared.fault.ParseFault.TheVariants as p

-- a fault told by the tokens that are left, told by the token's number
abbrev pub parse_fault : ℕ → Fault → ParseFault
parse_fault count (f.Unexpected left) = p.Unexpected (count - left)
parse_fault count (f.TooNested left) = p.TooNested (count - left)
parse_fault count f.NoMemory = p.NoMemory
