use Rattle.std.proofs.Common.{refl, sym, ◌∙◌}
use Rattle.ql_syntax.specs.Rules as rule
use Rattle.ql_syntax.specs.Readings.{present, absent, node, left, right, entered, left_out, by_rule, first, second}
use Rattle.ql_cursor.proofs.StepLemmas.{exits}
use Rattle.ql_cursor.proofs.Sequences.{fails_the, fails_left, fails_right, fails_part}
use Rattle.ql_parse_expr.proofs.PredicateLemmas.{null_tree, membership_tree}
use Rattle.ql_parse_expr.proofs.parser.Parser.maybe_predicate.Goals as goal

pub returns-in_err-membership : goal.returns-in_err-membership
returns-in_err-membership g c =
    let e = sym c.begins_membership.ensures ∙ c.if-begins_membership.true in
    exits _ _ _ _ c.from_residual.ensures.1 (fails_part (rw e refl) (fails_the rule.predicate (fails_left e c.in_err-membership.ensures)))

pub returns-then-begins_membership : goal.returns-then-begins_membership
returns-then-begins_membership g c =
    let e = sym c.begins_membership.ensures ∙ c.if-begins_membership.true in
    record {
      parse = present (node rule.predicate (left c.in_ok-membership.ensures.parse));
      reads = entered (rw e refl) (by_rule (first e c.in_ok-membership.ensures.reads));
      means = c.in_ok-membership.ensures.means ∙ membership_tree c.args.part c.in_ok-membership.ensures.reads;
    }

pub returns-in_err-null_test : goal.returns-in_err-null_test
returns-in_err-null_test g c =
    let f = sym c.begins_membership.ensures ∙ c.if-begins_membership.false in
    let e = sym c.sees_word.ensures ∙ c.if-sees_word.true in
    exits _ _ _ _ c.from_residual-in_err-null_test.ensures.1 (fails_part (rw (f, e) refl) (fails_the rule.predicate (fails_right f e (c.in_err-null_test.ensures _))))

pub returns-then-sees_word : goal.returns-then-sees_word
returns-then-sees_word g c =
    let f = sym c.begins_membership.ensures ∙ c.if-begins_membership.false in
    let e = sym c.sees_word.ensures ∙ c.if-sees_word.true in
    record {
      parse = present (node rule.predicate (right (c.in_ok-null_test.ensures c.args.self.now.room).parse));
      reads = entered (rw (f, e) refl) (by_rule (second f e (c.in_ok-null_test.ensures c.args.self.now.room).reads));
      means = (c.in_ok-null_test.ensures c.args.self.now.room).means ∙ null_tree c.args.part (c.in_ok-null_test.ensures c.args.self.now.room).reads;
    }

pub returns : goal.returns
returns g c =
    let f = sym c.begins_membership.ensures ∙ c.if-begins_membership.false in
    let e = sym c.sees_word.ensures ∙ c.if-sees_word.false in
    record { parse = absent; reads = left_out (rw (f, e) refl); means = refl }
