use Rattle.std.proofs.Common.{Some, refl, sym, ap, ◌∙◌}
use Rattle.ql_syntax.specs.Readings.{pair, absent, present, both, left_out, entered}
use Rattle.ql_cursor.proofs.StepLemmas.{exits, taken}
use Rattle.ql_cursor.proofs.Sequences.{fails_second, fails_part}
use Rattle.ql_parse_expr.proofs.parser.Parser.clause.Goals as goal

pub returns-then-not-sees_word : goal.returns-then-not-sees_word
returns-then-not-sees_word g c = record { parse = absent; reads = left_out (sym c.sees_word.ensures ∙ c.if-not-sees_word.true); means = refl }

pub returns-in_err-part : goal.returns-in_err-part
returns-in_err-part g c =
    let seen = sym c.sees_word.ensures ∙ c.if-not-sees_word.false in
    exits _ _ _ _ c.from_residual.ensures.1 (fails_part seen (fails_second (taken c.args.self.now.room seen c.skip.ensures) c.in_err-part.ensures))

pub returns : goal.returns
returns g c =
    let seen = sym c.sees_word.ensures ∙ c.if-not-sees_word.false in
    let word = taken c.args.self.now.room seen c.skip.ensures in
    record {
      parse = present (pair word.parse c.in_ok-part.ensures.parse);
      reads = entered seen (both word.reads c.in_ok-part.ensures.reads);
      means = ap Some c.in_ok-part.ensures.means;
    }
