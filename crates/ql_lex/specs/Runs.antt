-- The three runs of bytes.
use Rattle.std.specs.Prelude.{ℕ, Bool}
use Rattle.ql_lex.specs.Bytes.{is_in_word, is_in_line, is_in_raw}
use Rattle.ql_lex.specs.declared.runs.Run.{Run}
use Rattle.ql_lex.specs.declared.runs.Run.TheVariants as run

-- the bytes that a run goes on with
abbrev pub passes : Run → ℕ → Bool
passes run.Word = is_in_word
passes run.Line = is_in_line
passes run.Raw = is_in_raw
