-- The tokens that a SELECT prints, from those of its parts.
use Rattle.std.proofs.Common.{◌≡◌, Bool, true, false, List, [], ◌∷◌, Option, Some, None, refl, ap, ◌∙◌}
use Rattle.std.specs.Prelude.{map, option_map}
use Rattle.ql_lex.specs.declared.words.Word.{Word}
use Rattle.ql_lex.specs.declared.words.Word.TheVariants as w
use Rattle.ql_syntax.specs.declared.syntax.Expr.{Expr}
use Rattle.ql_syntax.specs.declared.syntax.Field.{Field}
use Rattle.ql_syntax.specs.declared.syntax.FromSet.{FromSet}
use Rattle.ql_syntax.specs.declared.syntax.Join.{Join}
use Rattle.ql_syntax.specs.declared.syntax.Select.{roll-Select}
use Rattle.ql_syntax.specs.Lexemes.{Lexeme}
use Rattle.ql_syntax.specs.Printing.{behind, ink_of_fields, ink_of_sets, ink_of_join, ink_of_groups, ink_of_keys, ink_of_direction, ink_of_distinct, ink_of_expr, ink_of_field, ink_of_set, ink_of_one_join}
use Rattle.ql_syntax.specs.Ink as ink
use Rattle.ql_syntax.proofs.PrintingEquations.{of_select}
use Rattle.ql_print.proofs.BackTokens.{word_token, before, before_both, before_listed, expr_before, select_before, field_before, set_before, join_before, listed_before, distinct_before, fields_before, sets_before, some_join_before, behind_before, groups_before, direction_before, keys_before}

distinct_is : (distinct : Bool) (rest : List Lexeme) → before (ink_of_distinct distinct) rest ≡ distinct_before distinct rest
distinct_is true rest = refl
distinct_is false rest = refl

fields_is : (fields : List Field) (rest : List Lexeme) → before (ink_of_fields (map ink_of_field fields)) rest ≡ fields_before fields rest
unfolding field_before
fields_is [] rest = refl
fields_is (x ∷ xs) rest = before_listed ink_of_field (x ∷ xs) rest

sets_is : (sets : List FromSet) (rest : List Lexeme) → before (ink_of_sets (map ink_of_set sets)) rest ≡ sets_before sets rest
unfolding set_before
sets_is [] rest = refl
sets_is (x ∷ xs) rest = ap (λ ts. word_token w.From ∷ ts) (before_listed ink_of_set (x ∷ xs) rest)

join_is : (join : Option Join) (rest : List Lexeme) → before (ink_of_join (option_map ink_of_one_join join)) rest ≡ some_join_before join rest
unfolding join_before
join_is None rest = refl
join_is (Some join) rest = refl

pub behind_is : (word : Word) (part : Option Expr) (rest : List Lexeme) → before (behind word (option_map ink_of_expr part)) rest ≡ behind_before word part rest
unfolding expr_before
behind_is word None rest = refl
behind_is word (Some part) rest = refl

groups_is : (groups : List Expr) (rest : List Lexeme) → before (ink_of_groups (map ink_of_expr groups)) rest ≡ groups_before groups rest
unfolding expr_before
groups_is [] rest = refl
groups_is (x ∷ xs) rest = ap (λ ts. word_token w.Group ∷ word_token w.By ∷ ts) (before_listed ink_of_expr (x ∷ xs) rest)

direction_is : (descending : Bool) (rest : List Lexeme) → before (ink_of_direction descending) rest ≡ direction_before descending rest
direction_is true rest = refl
direction_is false rest = refl

keys_is : (keys : List Expr) (descending : Bool) (rest : List Lexeme) → before (ink_of_keys (map ink_of_expr keys) descending) rest ≡ keys_before keys descending rest
unfolding expr_before
keys_is [] descending rest = refl
keys_is (x ∷ xs) descending rest = ap (λ ts. word_token w.Order ∷ word_token w.By ∷ ts)
    (before_both (ink.listed (map ink_of_expr (x ∷ xs))) (ink_of_direction descending) rest
    ∙ before_listed ink_of_expr (x ∷ xs) _ ∙ ap (listed_before expr_before (x ∷ xs)) (direction_is descending rest))

-- a SELECT
pub before_select : (distinct : Bool) (fields : List Field) (sets : List FromSet) (join : Option Join) (filter : Option Expr) (groups keys : List Expr) (descending : Bool) (limit offset : Option Expr) (rest : List Lexeme) →
    select_before (roll-Select (record { distinct = distinct; fields = fields; sets = sets; join = join; filter = filter; groups = groups; keys = keys; descending = descending; limit = limit; offset = offset })) rest
    ≡ word_token w.Select ∷ distinct_before distinct (fields_before fields (sets_before sets (some_join_before join (behind_before w.Where filter (groups_before groups
    (keys_before keys descending (behind_before w.Limit limit (behind_before w.Offset offset rest))))))))
unfolding select_before
before_select distinct fields sets join filter groups keys descending limit offset rest =
    ap (λ x. before x rest) (of_select distinct fields sets join filter groups keys descending limit offset)
    ∙ ap (λ ts. word_token w.Select ∷ ts) (before_both (ink_of_distinct distinct) _ rest ∙ distinct_is distinct _ ∙ ap (distinct_before distinct)
    (before_both (ink_of_fields (map ink_of_field fields)) _ rest ∙ fields_is fields _ ∙ ap (fields_before fields)
    (before_both (ink_of_sets (map ink_of_set sets)) _ rest ∙ sets_is sets _ ∙ ap (sets_before sets)
    (before_both (ink_of_join (option_map ink_of_one_join join)) _ rest ∙ join_is join _ ∙ ap (some_join_before join)
    (before_both (behind w.Where (option_map ink_of_expr filter)) _ rest ∙ behind_is w.Where filter _ ∙ ap (behind_before w.Where filter)
    (before_both (ink_of_groups (map ink_of_expr groups)) _ rest ∙ groups_is groups _ ∙ ap (groups_before groups)
    (before_both (ink_of_keys (map ink_of_expr keys) descending) _ rest ∙ keys_is keys descending _ ∙ ap (keys_before keys descending)
    (before_both (behind w.Limit (option_map ink_of_expr limit)) _ rest ∙ behind_is w.Limit limit _ ∙ ap (behind_before w.Limit limit)
    (behind_is w.Offset offset rest)))))))))
