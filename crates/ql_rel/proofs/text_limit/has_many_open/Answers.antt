use Rattle.std.proofs.Common.{suc, drop}
use Rattle.ql_rel.proofs.TextLemmas.{read_on, many_open}
use Rattle.ql_rel.proofs.text_limit.has_many_open.Goals as goal

pub returns-then-reading-gt-BRACKET_LIMIT : goal.returns-then-reading-gt-BRACKET_LIMIT
returns-then-reading-gt-BRACKET_LIMIT c =
    many_open c.args.text.now (drop (suc c.loop-byte.byte-index) c.args.text.now) c.pass-reading.result c.if-reading-gt-BRACKET_LIMIT.true
    (read_on c.args.text.now c.loop-byte.byte-index c.loop-byte.reading c.pass-reading.result c.loop-byte-test.true c.pass-reading.ensures.more c.loop-byte.invariant)
