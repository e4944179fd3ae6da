use Rattle.std.proofs.Common.{ℕ, ◌<◌, slice_index_or}
use Rattle.ql_lex.specs.declared.words.Word.{Word}
use Rattle.ql_lex.specs.Words.{IsWord}
use Rattle.ql_lex.proofs.words.among.Given as goal

abbrev pub invariant-loop-word : goal.invariant-loop-word
invariant-loop-word l = (k : ℕ) (d : Word) → k < l.word-index → IsWord l.run (slice_index_or l.words k d) → ⊥
