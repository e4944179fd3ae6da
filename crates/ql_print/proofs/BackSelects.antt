-- Every SELECT that was read is printed, and read again as the same.
use Rattle.std.proofs.Common.{ℕ, List, refl}
use Rattle.ql_lex.specs.declared.marks.Mark.TheVariants as m
use Rattle.ql_lex.specs.declared.words.Word.TheVariants as w
use Rattle.ql_syntax.specs.Lexemes.{Lexeme}
use Rattle.ql_syntax.specs.Rules.{◌then◌, ◌or◌, maybe, further, list, join, mark, word, name, the, expr, select, set}
use Rattle.ql_syntax.specs.Readings.{Parse, Reads, pair, present}
use Rattle.ql_syntax.specs.Readings as r
use Rattle.ql_syntax.specs.Trees.{select_of, is_descending, alias_of, field_of, fields_of, set_of, sets_in, sets_of, join_of, option_of, behind_by}
use Rattle.ql_print.proofs.BackParts.{Kept, Avoids, avoids_first, avoids_rest}
use Rattle.ql_print.proofs.BackLists.{no_more, one_more, listed}
use Rattle.ql_print.proofs.BackTests.{BackSelect}
use Rattle.ql_print.proofs.BackSelectParts.{after_named, after_shown, after_from, after_filter, after_keys, after_limit, after_select, shown_in_from, shown_in_keys, expr_in_shown, comma_in_shown, BackOption, no_option, some_option, option_after, alias_again, BackField, BackFields, field_again, BackShown, star_again, fields_again, BackSet, BackSets, table_again, query_again, BackJoin, no_join, join_again, BackFrom, no_from, from_again, BackKeys, direction_again, no_keys, keys_again, select_again}
use Rattle.ql_print.proofs.BackGroups.{back_groups}
use Rattle.ql_print.proofs.BackPrimaries.{ExprsAgain, Inner, back_exprs}
use Rattle.ql_print.proofs.BackChains.{back_expr}

exprs_again : {n : ℕ} → Inner n → ExprsAgain n
exprs_again inner = record { again = back_expr inner }

back_set : {n : ℕ} {ts r : List Lexeme} {a : Parse} → Inner n → Reads n (the set) ts a r → Kept a → (rest : List Lexeme) → Avoids after_named rest → BackSet n (set_of a) rest
back_set inner (r.by_rule (r.both (r.first e (r.takes {t = t} s)) k)) kept rest after = table_again t.text _ rest after
back_set inner (r.by_rule (r.both (r.second e d (r.enclosed o (r.both q s) c)) k)) kept rest after = query_again _ rest after (inner.1.again q kept.0.0 _ (record { none = refl }))

more_sets : {n : ℕ} {ts r : List Lexeme} {a : Parse} → Inner n → Reads n (further (the set)) ts a r → Kept a → (rest : List Lexeme) → Avoids after_shown rest → BackSets n (sets_in a) rest
more_sets inner (r.no_comma e) kept rest after = no_more refl after
more_sets inner (r.trailing e d) kept rest after = no_more refl after
more_sets inner (r.member e d h k) kept rest after =
    let more = more_sets inner k kept.1 rest after in
    one_more (λ a b. refl) (λ ts. record { none = refl }) (back_set inner h kept.0 _ more.after) more

back_join : {n : ℕ} {ts r : List Lexeme} {a : Parse} → Inner n → Reads n (maybe join) ts a r → Kept a → (x y : Parse) → (rest : List Lexeme) → Avoids after_from rest → BackJoin n (join_of (present (pair x (pair y a)))) rest
back_join inner (r.left_out e) kept x y rest after = no_join after
back_join inner (r.entered e (r.both s (r.both o (r.both i (r.both h (r.both j on)))))) kept x y rest after =
    join_again _ (back_set inner h kept.1.1.1.0 _ (record { none = refl })) (back_expr inner on kept.1.1.1.1.1 rest (expr_in_shown (shown_in_from after)))

-- FROM and its record sets
back_from : {n : ℕ} {ts r : List Lexeme} {a : Parse} → Inner n → Reads n (maybe (word w.From then list (the set) then maybe join)) ts a r → Kept a → (rest : List Lexeme) → Avoids after_from rest → BackFrom n (sets_of a) (join_of a) rest
back_from inner (r.left_out e) kept rest after = no_from after
back_from inner (r.entered e (r.both {a = x} s (r.both {a = y} (r.both h k) j))) kept rest after =
    let joined = back_join inner j kept.1.1 x y rest after in
    let more = more_sets inner k kept.1.0.1 _ joined.after in
    from_again (listed (back_set inner h kept.1.0.0 _ more.after) more) joined

back_field : {n : ℕ} {ts r : List Lexeme} {a : Parse} → Inner n → Reads n (the expr then maybe (word w.As then name)) ts a r → Kept a → (rest : List Lexeme) → Avoids after_named rest → BackField n (field_of a) rest
back_field {n = n} inner (r.both {b = b} h k) kept rest after =
    let alias = alias_again {n = n} (alias_of b) rest after in
    field_again (alias_of b) rest (back_expr inner h kept.0 _ alias.after) alias

more_fields : {n : ℕ} {ts r : List Lexeme} {a : Parse} → Inner n → Reads n (further (the expr then maybe (word w.As then name))) ts a r → Kept a → (rest : List Lexeme) → Avoids after_shown rest → BackFields n (fields_of a) rest
more_fields inner (r.no_comma e) kept rest after = no_more refl after
more_fields inner (r.trailing e d) kept rest after = no_more refl after
more_fields inner (r.member e d h k) kept rest after =
    let more = more_fields inner k kept.1 rest after in
    one_more (λ a b. refl) (λ ts. record { none = refl }) (back_field inner h kept.0 _ more.after) more

-- what a SELECT shows
back_shown : {n : ℕ} {ts r : List Lexeme} {a : Parse} → Inner n → Reads n (mark m.Star or list (the expr then maybe (word w.As then name))) ts a r → Kept a → (rest : List Lexeme) → Avoids after_shown rest → BackShown n (fields_of a) rest
back_shown inner (r.first e h) kept rest after = star_again rest
back_shown inner (r.second e d (r.both h k)) kept rest after =
    let more = more_fields inner k kept.1 rest after in
    fields_again (listed (back_field inner h kept.0 _ more.after) more)

pub back_filter : {n : ℕ} {ts r : List Lexeme} {a : Parse} → Inner n → Reads n (maybe (word w.Where then the expr)) ts a r → Kept a → (rest : List Lexeme) → Avoids after_filter rest → BackOption n w.Where (option_of a) rest
back_filter inner (r.left_out e) kept rest after = no_option (avoids_first after)
back_filter inner (r.entered e (r.both s h)) kept rest after = some_option w.Where refl (back_expr inner h kept.1 rest (expr_in_shown (shown_in_from (avoids_rest after))))

back_keys : {n : ℕ} {ts r : List Lexeme} {a : Parse} → Inner n → Reads n (maybe (word w.Order then word w.By then list (the expr) then maybe (word w.Asc or word w.Desc))) ts a r → Kept a → (rest : List Lexeme) → Avoids after_keys rest →
    BackKeys n (behind_by a) (is_descending a) rest
back_keys inner (r.left_out e) kept rest after = no_keys after
back_keys {n = n} inner (r.entered e (r.both {a = x} s (r.both {a = y} i (r.both {a = z} {b = d} (r.both h k) j)))) kept rest after =
    let direction = direction_again {n = n} (is_descending (present (pair x (pair y (pair z d))))) rest after in
    keys_again (back_exprs (exprs_again inner) h k kept.1.1.0.0 kept.1.1.0.1 _ (comma_in_shown direction.after)) direction

back_limit : {n : ℕ} {ts r : List Lexeme} {a : Parse} → Inner n → Reads n (maybe (word w.Limit then the expr)) ts a r → Kept a → (rest : List Lexeme) → Avoids after_limit rest → BackOption n w.Limit (option_of a) rest
back_limit inner (r.left_out e) kept rest after = no_option (avoids_first after)
back_limit inner (r.entered e (r.both s h)) kept rest after = some_option w.Limit refl (back_expr inner h kept.1 rest (expr_in_shown (shown_in_keys (avoids_rest after))))

back_offset : {n : ℕ} {ts r : List Lexeme} {a : Parse} → Inner n → Reads n (maybe (word w.Offset then the expr)) ts a r → Kept a → (rest : List Lexeme) → Avoids after_select rest → BackOption n w.Offset (option_of a) rest
back_offset inner (r.left_out e) kept rest after = no_option (avoids_first after)
back_offset inner (r.entered e (r.both s h)) kept rest after = some_option w.Offset refl (back_expr inner h kept.1 rest (expr_in_shown (shown_in_keys (avoids_rest (avoids_rest after)))))

pub back_select : {n : ℕ} {ts r : List Lexeme} {a : Parse} → Inner n → Reads n (the select) ts a r → Kept a → (rest : List Lexeme) → Avoids after_select rest → BackSelect n (select_of a) rest
back_select inner (r.by_rule (r.both s (r.both d (r.both shown (r.both from (r.both filter (r.both groups (r.both order (r.both limit offset))))))))) kept rest after =
    let o = back_offset inner offset kept.1.1.1.1.1.1.1.1 rest after in
    let after_l = option_after o after (λ ts. record { none = refl }) in
    let l = back_limit inner limit kept.1.1.1.1.1.1.1.0 _ after_l in
    let k = back_keys inner order kept.1.1.1.1.1.1.0 _ (option_after l after_l (λ ts. record { none = refl })) in
    let g = back_groups groups kept.1.1.1.1.1.0 _ k.after in
    let q = back_filter inner filter kept.1.1.1.1.0 _ g.after in
    let f = back_from inner from kept.1.1.1.0 _ (option_after q g.after (λ ts. record { none = refl })) in
    select_again _ (back_shown inner shown kept.1.1.0 _ f.after) f q g k l o
