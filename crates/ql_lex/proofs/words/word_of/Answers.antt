use Rattle.ql_lex.proofs.WordLemmas.{no_word_of}
use Rattle.ql_lex.proofs.words.word_of.Goals as goal

pub returns : goal.returns
returns c =
    no_word_of c.among.result c.in_ok-b.b c.to_ascii_lowercase.result c.in_ok-b.field-0-1.now c.args.run.now c.words_from.result.now c.in_ok-b.ensures c.to_ascii_lowercase.ensures.value c.words_from.ensures c.among.ensures
