-- Printed columns behind GROUP BY are read again.
use Rattle.std.proofs.Common.{◌≡◌, ℕ, true, false, List, ◌∷◌, refl, ◌∙◌}
use Rattle.ql_lex.specs.declared.marks.Mark.TheVariants as m
use Rattle.ql_lex.specs.declared.words.Word.TheVariants as w
use Rattle.ql_syntax.specs.declared.syntax.Expr.{Expr}
use Rattle.ql_syntax.specs.Lexemes.{Lexeme, is_mark, is_name, sees}
use Rattle.ql_syntax.specs.Rules.{◌then◌, maybe, further, list, word, the, ref}
use Rattle.ql_syntax.specs.Readings.{Parse, Reads, leaf, pair, absent, present}
use Rattle.ql_syntax.specs.Readings as r
use Rattle.ql_syntax.specs.Trees.{expr_of, exprs_of, behind_by}
use Rattle.ql_syntax.specs.ReadsBack.{plain_expr}
use Rattle.ql_print.proofs.BackTokens.{word_token, expr_before}
use Rattle.ql_print.proofs.BackParts.{Kept, Avoids, avoids_first, avoids_rest, after_expr}
use Rattle.ql_print.proofs.BackLists.{BackItem, BackMore, BackList, more_again, listed}
use Rattle.ql_print.proofs.BackPrimary.{back_ref}
use Rattle.ql_print.proofs.BackSelectParts.{BackGroups, after_shown, after_groups, shown_in_from, comma_in_shown}

dot_in_expr : {ts : List Lexeme} → Avoids after_expr ts → sees (is_mark m.Dot) ts ≡ false
dot_in_expr h = avoids_first (avoids_rest (avoids_rest (avoids_rest (avoids_rest (avoids_rest (avoids_rest (avoids_rest (avoids_rest (avoids_rest h)))))))))

ref_begins : {n : ℕ} {ts r : List Lexeme} {a : Parse} → Reads n (the ref) ts a r → sees is_name ts ≡ true
ref_begins (r.by_rule (r.both (r.takes s) k)) = s

each_ref : {n : ℕ} (ts r : List Lexeme) (a : Parse) → Reads n (the ref) ts a r → Kept a → (rest : List Lexeme) → Avoids after_expr rest → BackItem n (the ref) expr_before expr_of plain_expr (expr_of a) rest
each_ref ts r a h kept rest after =
    let b = back_ref h rest (dot_in_expr after) in
    record { parse = b.parse; reads = b.reads; tree = b.tree; begins = ref_begins b.reads }

-- the columns of a GROUP BY
back_columns : {n : ℕ} {ts mid r : List Lexeme} {a b : Parse} → Reads n (the ref) ts a mid → Reads n (further (the ref)) mid b r → Kept a → Kept b → (rest : List Lexeme) → Avoids after_shown rest →
    BackList n (the ref) expr_before expr_of exprs_of plain_expr (expr_of a ∷ exprs_of b) rest
back_columns {n = n} {b = b} h k kept others rest after =
    let more : BackMore n (the ref) expr_before exprs_of plain_expr after_expr (exprs_of b) rest = more_again {meaning = expr_of} refl (λ a b. refl) (λ ts. record { none = refl }) each_ref k others rest (comma_in_shown after) in
    listed (each_ref _ _ _ h kept _ more.after) more

behind_ref : {n : ℕ} {ts r : List Lexeme} {a : Parse} → Reads n (the ref) ts a r → (x y more : Parse) → behind_by (present (pair x (pair y (pair a more)))) ≡ expr_of a ∷ exprs_of more
behind_ref (r.by_rule h) x y more = refl

behind_refs : {n : ℕ} {ts r : List Lexeme} {a b : Parse} → Reads n (list (the ref)) ts (pair a b) r → (x y : Parse) → behind_by (present (pair x (pair y (pair a b)))) ≡ expr_of a ∷ exprs_of b
behind_refs {b = b} (r.both h k) x y = behind_ref h x y b

groups_again : {n : ℕ} {x : Expr} {xs : List Expr} {rest : List Lexeme} → BackList n (the ref) expr_before expr_of exprs_of plain_expr (x ∷ xs) rest → BackGroups n (x ∷ xs) rest
groups_again l = record {
  parse = present (pair (leaf (word_token w.Group)) (pair (leaf (word_token w.By)) (pair l.first l.more)));
  reads = r.entered refl (r.both (r.takes refl) (r.both (r.takes refl) l.reads));
  tree = behind_refs l.reads (leaf (word_token w.Group)) (leaf (word_token w.By)) ∙ l.tree;
  after = record { none = refl };
}

pub back_groups : {n : ℕ} {ts r : List Lexeme} {a : Parse} → Reads n (maybe (word w.Group then word w.By then list (the ref))) ts a r → Kept a → (rest : List Lexeme) → Avoids after_groups rest → BackGroups n (behind_by a) rest
back_groups (r.left_out e) kept rest after = record { parse = absent; reads = r.left_out (avoids_first after); tree = refl; after = avoids_rest after }
back_groups {n = n} (r.entered e (r.both {a = x} i (r.both {a = y} j (r.both {a = a} {b = b} h k)))) kept rest after =
    rw (behind_ref h x y b) (groups_again (back_columns h k kept.1.1.0 kept.1.1.1 rest (shown_in_from (avoids_rest (avoids_rest after)))))
