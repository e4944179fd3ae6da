-- Statements in turn, up to the end or the first that is refused.
use Rattle.std.proofs.Common.{◌≡◌, ◌+◌, List, [], ◌∷◌, length, refl, ap, sym, subst, ◌∙◌, add-one, arith}
use Rattle.std.specs.Prelude.{All}
use Rattle.std.proofs.lemmas.List.Elements.{All-tail}
use Rattle.ql_syntax.specs.declared.statement.Statement.{Statement}
use Rattle.ql_syntax.specs.ReadsBack.{IsReadBack}
use Rattle.ql_rel.specs.Sessions.{session}
use Rattle.ql_shell.proofs.Turning.{from_on, from_stopped, from_unfinished, from_finished, stops_with, unfinished_with}
use Rattle.ql_shell.proofs.script_run.carry_on.Goals as goal

-- a list without members
none_left : (xs : List Statement) → length xs ≡ 0 → xs ≡ []
none_left [] e = refl
none_left (x ∷ xs) e = absurd (omega (arith, e))

pub statements-preserved : goal.statements-preserved
statements-preserved g c =
    let steps = c.in-Some.ensures.steps in
    let inv = c.statements.invariant in
    record {
      can_next = tt;
      is_finite = tt;
      items = omega (arith, ap length steps.0, steps.1, inv.items);
      counted = omega (arith, steps.1, inv.counted);
      small = inv.small;
      commits = omega (arith, c.in-Ok.ensures.counts, inv.commits);
      on = c.in-Ok.ensures.on;
      read = All-tail IsReadBack c.in-Some.statement _ (subst (All IsReadBack) steps.0 inv.read);
      runs = λ st h. from_on c.args.script.now.with_names c.args.script.now.ack c.event_laws.ensures c.session_laws.ensures (session c.args.script.now.with_names c.args.script.now.ack 1 c.args.statements st) st.kept _ _ _
          (c.statements.number + 1) (c.statements.number + 1 + 1) _ c.in-Some.statement _ _ _ _ _ _ _ _ _ steps.0 (add-one (c.statements.number + 1)) (inv.runs st h) (λ t a. rw (inv.with_names, inv.ack) at (c.in-Ok.ensures.done t a));
      ack = c.in-Ok.ensures.ack ∙ inv.ack;
      with_names = c.in-Ok.ensures.with_names ∙ inv.with_names;
      leaves = (c.in-Ok.ensures.leaves.0 ∙ inv.leaves.0, c.in-Ok.ensures.leaves.1 ∙ inv.leaves.1, c.in-Ok.ensures.leaves.2 ∙ inv.leaves.2);
      faults = c.in-Ok.ensures.cause ∙ inv.faults;
    }

pub returns-in-Err-clause-gives : goal.returns-in-Err-clause-gives
returns-in-Err-clause-gives g c = λ st h.
    let inv = c.statements.invariant in
    (from_stopped c.args.script.now.with_names c.args.script.now.ack c.event_laws.ensures (session c.args.script.now.with_names c.args.script.now.ack 1 c.args.statements st) st.kept _ _ _ (c.statements.number + 1) _ c.in-Some.statement _ c.in-Err.fault _ _ _ _ _ _ _ _ c.stop_status.result
    c.in-Some.ensures.steps.0 (inv.runs st h) (λ t a. stops_with _ _ _ _ c.in-Some.statement t c.in-Err.fault _ _ _ _ _ _ inv.with_names inv.ack (c.in-Err.ensures.done t a)) c.stop_status.ensures).0

pub returns-in-Ok-finish-clause-gives : goal.returns-in-Ok-finish-clause-gives
returns-in-Ok-finish-clause-gives g c = λ st h.
    let inv = c.statements.invariant in
    (from_finished c.args.script.now.with_names c.args.script.now.ack c.event_laws.ensures c.session_laws.ensures (session c.args.script.now.with_names c.args.script.now.ack 1 c.args.statements st) st.kept _ _ _ (c.statements.number + 1) _ _ _ _ _ _ _ _ _
    (none_left _ (sym inv.items ∙ c.in-None.ensures.steps.0)) (inv.runs st h) (λ t a. rw inv.ack at (c.in-Ok-finish.ensures.done t a)) c.in-Ok-finish.ensures.closed).0

pub returns-in-Ok-finish-clause-kept : goal.returns-in-Ok-finish-clause-kept
returns-in-Ok-finish-clause-kept g c = λ st h final.
    let inv = c.statements.invariant in
    (from_finished c.args.script.now.with_names c.args.script.now.ack c.event_laws.ensures c.session_laws.ensures (session c.args.script.now.with_names c.args.script.now.ack 1 c.args.statements st) st.kept _ _ _ (c.statements.number + 1) _ _ _ _ _ _ _ _ _
    (none_left _ (sym inv.items ∙ c.in-None.ensures.steps.0)) (inv.runs st h) (λ t a. rw inv.ack at (c.in-Ok-finish.ensures.done t a)) c.in-Ok-finish.ensures.closed).1

pub returns-in-Err-finish-clause-gives : goal.returns-in-Err-finish-clause-gives
returns-in-Err-finish-clause-gives g c = λ st h.
    let inv = c.statements.invariant in
    (from_unfinished c.args.script.now.with_names c.args.script.now.ack c.event_laws.ensures (session c.args.script.now.with_names c.args.script.now.ack 1 c.args.statements st) st.kept _ _ _ (c.statements.number + 1) _ c.in-Err-finish.fault _ _ _ _ _ _ _ _ c.stop_status-in-Err-finish.result
    (none_left _ (sym inv.items ∙ c.in-None.ensures.steps.0)) (inv.runs st h) (λ t a. unfinished_with _ _ t c.in-Err-finish.fault _ _ _ _ _ _ inv.ack (c.in-Err-finish.ensures.done t a)) c.stop_status-in-Err-finish.ensures).0
