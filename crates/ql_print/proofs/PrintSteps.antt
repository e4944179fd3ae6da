-- What the steps of printing add, put together.
use Rattle.std.proofs.Common.{◌≡◌, ℕ, ◌+◌, ◌<◌, Bool, true, false, List, [], ◌∷◌, ◌++◌, length, take, get_or, Option, Some, None, refl, sym, ap, ◌∙◌, append_assoc, append-nil, arith}
use Rattle.std.specs.Prelude.{◌==◌, codes, map, option_map, flat_map}
use Rattle.std.proofs.lemmas.Grind.{flat_map-append}
use Rattle.std.proofs.lemmas.List.{length-map, length-take-le, map-append}
use Rattle.std.proofs.Math.Numerals.{add-one}
use Rattle.std.proofs.Math.Seq.{take-suc}
use Rattle.ql_lex.specs.declared.words.Word.{Word}
use Rattle.ql_lex.specs.declared.words.Word.TheVariants as w
use Rattle.ql_syntax.specs.declared.syntax.Expr.{Expr}
use Rattle.ql_syntax.specs.declared.syntax.Expr.TheVariants as e
use Rattle.ql_syntax.specs.declared.syntax.Expr.TheFolds.{fold-roll-Select, fold_out-Select, fold_out-Join}
use Rattle.ql_syntax.specs.declared.syntax.Join.{Join, out-Join}
use Rattle.ql_syntax.specs.declared.syntax.Select.{Select, out-Select}
use Rattle.ql_lex.specs.declared.marks.Mark.TheVariants as m
use Rattle.ql_syntax.specs.Ink.{space, keyword, listed, mark, name, text_of, between, gap_before}
use Rattle.ql_syntax.specs.Printing.{Inks, behind, ink_of_not, ink_of_fields, ink_of_sets, ink_of_join, ink_of_groups, ink_of_keys, ink_of_distinct, word_of_side, expr_step, source_step, field_step, set_step, join_step, link_step, select_step, ink_of_expr, ink_of_select, ink_of_field, ink_of_set, ink_of_one_join}
use Rattle.ql_syntax.specs.StatementPrinting.{ink_of_names, ink_of_option}
use Rattle.ql_print.proofs.Growth.{text_append}
use Rattle.ql_syntax.proofs.PrintingEquations.{of_is_null, of_between, of_select}

-- the text of nine parts
nine : (a b c d f g h i j : Inks) → text_of (a ++ (b ++ (c ++ (d ++ (f ++ (g ++ (h ++ (i ++ j))))))))
    ≡ text_of a ++ (text_of b ++ (text_of c ++ (text_of d ++ (text_of f ++ (text_of g ++ (text_of h ++ (text_of i ++ text_of j)))))))
nine a b c d f g h i j = simp text_append

-- the text of five parts
five : (a b c d f : Inks) → text_of (a ++ (b ++ (c ++ (d ++ f)))) ≡ text_of a ++ (text_of b ++ (text_of c ++ (text_of d ++ text_of f)))
five a b c d f = simp text_append

-- an expression that may be left out
option_ink : (x : Option Expr) → option_map ink_of_expr x ≡ ink_of_option x
option_ink None = refl
option_ink (Some x) = refl

-- what a SELECT prints, from its fields
select_out : (s : Select) → ink_of_select s
    ≡ (keyword w.Select ∷ space ∷ ink_of_distinct (out-Select s).distinct) ++ (ink_of_fields (map ink_of_field (out-Select s).fields) ++ (ink_of_sets (map ink_of_set (out-Select s).sets)
    ++ (ink_of_join (option_map ink_of_one_join (out-Select s).join) ++ (behind w.Where (ink_of_option (out-Select s).filter)
    ++ (ink_of_groups (map ink_of_expr (out-Select s).groups) ++ (ink_of_keys (map ink_of_expr (out-Select s).keys) (out-Select s).descending
    ++ (behind w.Limit (ink_of_option (out-Select s).limit) ++ behind w.Offset (ink_of_option (out-Select s).offset))))))))
select_out s =
    let x = out-Select s in
    rw (← option_ink x.filter, ← option_ink x.limit, ← option_ink x.offset) (
    fold_out-Select Inks Inks Inks Inks Inks Inks Inks expr_step source_step field_step set_step join_step link_step select_step s
    ∙ sym (fold-roll-Select Inks Inks Inks Inks Inks Inks Inks expr_step source_step field_step set_step join_step link_step select_step x)
    ∙ of_select x.distinct x.fields x.sets x.join x.filter x.groups x.keys x.descending x.limit x.offset)

-- the text of a SELECT
pub select_text : (s : Select) → text_of (ink_of_select s)
    ≡ text_of (keyword w.Select ∷ space ∷ ink_of_distinct (out-Select s).distinct) ++ (text_of (ink_of_fields (map ink_of_field (out-Select s).fields))
    ++ (text_of (ink_of_sets (map ink_of_set (out-Select s).sets)) ++ (text_of (ink_of_join (option_map ink_of_one_join (out-Select s).join))
    ++ (text_of (behind w.Where (ink_of_option (out-Select s).filter)) ++ (text_of (ink_of_groups (map ink_of_expr (out-Select s).groups))
    ++ (text_of (ink_of_keys (map ink_of_expr (out-Select s).keys) (out-Select s).descending)
    ++ (text_of (behind w.Limit (ink_of_option (out-Select s).limit)) ++ text_of (behind w.Offset (ink_of_option (out-Select s).offset)))))))))
select_text s =
    ap text_of (select_out s)
    ∙ nine (keyword w.Select ∷ space ∷ ink_of_distinct (out-Select s).distinct) (ink_of_fields (map ink_of_field (out-Select s).fields)) (ink_of_sets (map ink_of_set (out-Select s).sets))
    (ink_of_join (option_map ink_of_one_join (out-Select s).join)) (behind w.Where (ink_of_option (out-Select s).filter)) (ink_of_groups (map ink_of_expr (out-Select s).groups))
    (ink_of_keys (map ink_of_expr (out-Select s).keys) (out-Select s).descending) (behind w.Limit (ink_of_option (out-Select s).limit))
    (behind w.Offset (ink_of_option (out-Select s).offset))

-- the text of a part that is compared with NULL
pub null_text : (expr part got : Expr) (negated : Bool) (b : List ℕ) → expr ≡ e.IsNull negated part → got ≡ part
    → b ≡ text_of (space ∷ keyword w.Is ∷ space ∷ ink_of_not negated ++ (keyword w.Null ∷ []))
    → text_of (ink_of_expr expr) ≡ text_of (ink_of_expr got) ++ b
null_text expr part got negated b h g k = rw (h, g, k) (ap text_of (of_is_null part negated) ∙ text_append (ink_of_expr part) _)

-- a keyword that NOT may stand before, apart from what comes behind it
regroup : (negated : Bool) (word : Word) (rest : Inks) → (space ∷ ink_of_not negated) ++ (keyword word ∷ space ∷ rest) ≡ ((space ∷ ink_of_not negated) ++ (keyword word ∷ space ∷ [])) ++ rest
regroup true word rest = refl
regroup false word rest = refl

-- the text of a part between two others
pub between_text : (expr part got low got_low high got_high : Expr) (negated : Bool) (b : List ℕ) → expr ≡ e.IsBetween negated part low high → got ≡ part → got_low ≡ low → got_high ≡ high
    → b ≡ text_of (space ∷ ink_of_not negated ++ (keyword w.Between ∷ space ∷ []))
    → text_of (ink_of_expr expr) ≡ text_of (ink_of_expr got) ++ (b ++ (text_of (ink_of_expr got_low) ++ (codes " AND " ++ text_of (ink_of_expr got_high))))
between_text expr part got low got_low high got_high negated b h g i j k =
    rw (h, g, i, j, k) (
    ap text_of (of_between part negated low high)
    ∙ ap (λ (x : Inks). text_of (ink_of_expr part ++ x)) (regroup negated w.Between (ink_of_expr low ++ (space ∷ keyword w.And ∷ space ∷ ink_of_expr high)))
    ∙ five (ink_of_expr part) ((space ∷ ink_of_not negated) ++ (keyword w.Between ∷ space ∷ [])) (ink_of_expr low) (space ∷ keyword w.And ∷ space ∷ []) (ink_of_expr high))

-- the text of a join
pub join_text : (join : Join) (b : List ℕ) → b ≡ text_of (space ∷ keyword (word_of_side (out-Join join).side) ∷ space ∷ keyword w.Outer ∷ space ∷ keyword w.Join ∷ space ∷ [])
    → text_of (ink_of_one_join join) ≡ b ++ (text_of (ink_of_set (out-Join join).set) ++ (codes " ON " ++ text_of (ink_of_expr (out-Join join).on)))
join_text join b k =
    rw k (ap text_of (fold_out-Join Inks Inks Inks Inks Inks Inks Inks expr_step source_step field_step set_step join_step link_step select_step join) ∙ simp (text_append, append_assoc))

-- one part more, behind so many
between_one : (gap : Inks) (ys : List Inks) (y : Inks) → between gap (ys ++ y ∷ []) ≡ between gap ys ++ (gap_before gap (length ys) ++ y)
between_one gap [] y = append-nil y
between_one gap (z ∷ zs) y =
    let e : flat_map (λ (x : Inks). gap ++ x) (zs ++ y ∷ []) ≡ flat_map (λ (x : Inks). gap ++ x) zs ++ (gap ++ y) =
    flat_map-append (λ (x : Inks). gap ++ x) zs (y ∷ []) ∙ ap (λ (x : Inks). flat_map (λ (x : Inks). gap ++ x) zs ++ x) (append-nil (gap ++ y)) in
    ap (λ (x : Inks). z ++ x) e ∙ sym (append_assoc z (flat_map (λ (x : Inks). gap ++ x) zs) (gap ++ y))

-- one part more of a list
pub one_more : {X : Type 0} (gap : Inks) (f : X → Inks) (xs : List X) (i : ℕ) (x d : X) → i < length xs → x ≡ get_or xs i d
    → text_of (between gap (map f (take (i + 1) xs))) ≡ text_of (between gap (map f (take i xs))) ++ (text_of (gap_before gap i) ++ text_of (f x))
one_more gap f xs i x d l e =
    let size : length (map f (take i xs)) ≡ i = length-map (take i xs) f ∙ length-take-le i xs (omega (arith, l)) in
    let front : take (i + 1) xs ≡ take i xs ++ x ∷ [] = ap (λ n. take n xs) (add-one i) ∙ take-suc xs i d l ∙ ap (λ y. take i xs ++ y ∷ []) (sym e) in
    ap (λ ys. text_of (between gap (map f ys))) front
    ∙ ap (λ ys. text_of (between gap ys)) (map-append f (take i xs) (x ∷ []))
    ∙ ap text_of (between_one gap (map f (take i xs)) (f x))
    ∙ ap (λ n. text_of (between gap (map f (take i xs)) ++ (gap_before gap n ++ f x))) size
    ∙ text_append (between gap (map f (take i xs))) (gap_before gap i ++ f x)
    ∙ ap (λ y. text_of (between gap (map f (take i xs))) ++ y) (text_append (gap_before gap i) (f x))

-- the text of the names of an INSERT
pub names_text : (xs : List (List ℕ)) → (length xs == 0) ≡ false → text_of (ink_of_names xs) ≡ codes " (" ++ (text_of (listed (map (λ (x : List ℕ). name x ∷ []) xs)) ++ codes ")")
names_text [] n = cc
names_text (x ∷ xs) n = ap (λ (t : List ℕ). codes " (" ++ t) (text_append (listed (map (λ (x : List ℕ). name x ∷ []) (x ∷ xs))) (mark m.Close ∷ []))
