use Rattle.std.proofs.Common.{◌≡◌, ◌+◌, length, map}
use Rattle.std.specs.String.{string_bytes}
use Rattle.ql_shell.specs.Words.{request_from, request_of}
use Rattle.ql_shell.proofs.words.read_words.Given as goal

abbrev pub invariant-words : goal.invariant-words
invariant-words l = (request_from (l.number + 1) l.options (map string_bytes l.left) ≡ request_of (map string_bytes l.words)) × (l.number + length l.left ≡ length l.words)

abbrev pub decreases-words : goal.decreases-words
decreases-words l = length l.left
