use Rattle.std.proofs.Common.{◌≡◌, false, length, take, arith, [], ◌∷◌, ℕ, List, get_or, ap, ◌∙◌, append_assoc, append-nil, rules}
use Rattle.std.specs.Prelude.{◌==◌}
use Rattle.std.proofs.lemmas.List.{take_all}
use Rattle.ql_syntax.specs.Ink.{comma, name}
use Rattle.ql_print.proofs.PrintSteps.{one_more, names_text}
use Rattle.ql_print.proofs.print_statements.add_names.Goals as goal

pub names-preserved : goal.names-preserved
names-preserved c =
    let m = one_more comma (λ (x : List ℕ). name x ∷ []) c.args.names.now c.names.i c.name-item.result c.name-item.result (search rules) (c.name-item.is ∙ ap (λ x. get_or x c.names.i c.name-item.result) c.as_slice-name-items.ensures) in
    rw (c.in_ok-put-3.ensures.ok, c.as_slice.ensures.value, c.in_ok-put-2.ensures.ok, c.names.invariant, c.comma_before.ensures, m) (simp (append_assoc, append-nil))

pub returns-clause-ok : goal.returns-clause-ok
returns-clause-ok c =
    let size = ap length c.as_slice-name-items.ensures in
    let all : take c.names.i c.args.names.now ≡ c.args.names.now = take_all _ _ (omega (arith, size, c.names-test.false)) in
    let some : (length c.args.names.now == 0) ≡ false = cc in
    rw (c.in_ok-put-4.ensures.ok, c.names.invariant, all, names_text c.args.names.now some) (simp append_assoc)
