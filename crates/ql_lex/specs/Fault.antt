-- The faults of a script.
use Rattle.std.specs.Prelude.{ℕ}
use Rattle.ql_lex.specs.declared.token.Flaw.{Flaw}
use Rattle.ql_lex.specs.declared.token.Flaw.TheVariants as flaw
use Rattle.ql_lex.specs.declared.token.LexFault.{LexFault}
use Rattle.ql_lex.specs.declared.token.LexFault.TheVariants as fault

-- a flaw of the piece that begins at a place
abbrev pub fault_at : Flaw → ℕ → LexFault
fault_at flaw.BadByte place = fault.BadByte place
fault_at flaw.BadLiteral place = fault.BadLiteral place
fault_at flaw.Unclosed place = fault.Unclosed place
