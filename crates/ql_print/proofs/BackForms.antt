-- The tokens that each form of a tree prints, from those of its parts.
use Rattle.std.proofs.Common.{◌≡◌, ℕ, Bool, true, false, List, [], ◌∷◌, ◌++◌, Option, Some, None, refl, ap, ◌∙◌}
use Rattle.std.specs.Prelude.{map, flat_map}
use Rattle.ql_lex.specs.declared.marks.Mark.TheVariants as m
use Rattle.ql_lex.specs.declared.words.Word.TheVariants as w
use Rattle.ql_value.specs.declared.operator.BinOp.{BinOp}
use Rattle.ql_value.specs.declared.operator.UnOp.{UnOp}
use Rattle.ql_value.specs.declared.value.Kind.{Kind}
use Rattle.ql_syntax.specs.declared.syntax.Expr.{Expr}
use Rattle.ql_syntax.specs.declared.syntax.Expr.TheVariants as e
use Rattle.ql_syntax.specs.declared.syntax.Field.{roll-Field}
use Rattle.ql_syntax.specs.declared.syntax.FromSet.{FromSet, roll-FromSet}
use Rattle.ql_syntax.specs.declared.syntax.Function.{Function}
use Rattle.ql_syntax.specs.declared.syntax.Join.{roll-Join}
use Rattle.ql_syntax.specs.declared.syntax.Link.{Link, roll-Link}
use Rattle.ql_syntax.specs.declared.syntax.Select.{Select}
use Rattle.ql_syntax.specs.declared.syntax.SetSource.{SetSource}
use Rattle.ql_syntax.specs.declared.syntax.SetSource.TheVariants as source
use Rattle.ql_syntax.specs.declared.syntax.Side.{Side}
use Rattle.ql_syntax.specs.Ink as ink
use Rattle.ql_syntax.specs.Lexemes.{Lexeme}
use Rattle.ql_syntax.specs.Functions.{function_bytes}
use Rattle.ql_syntax.specs.Printing.{Inks, ink_of_un, ink_of_ops, word_of_kind, word_of_side, ink_of_not, ink_of_alias, ink_of_expr, ink_of_link, ink_of_select, ink_of_source, ink_of_set}
use Rattle.ql_syntax.specs.Trees.{chain, signed}
use Rattle.ql_syntax.proofs.PrintingEquations.{of_chain, of_unary, of_number, of_text, of_truth, of_null, of_column, of_paren, of_call, of_convert, of_in, of_in_select, of_between, of_is_null, of_table, of_query, of_link, of_field, of_set, of_join}
use Rattle.ql_print.proofs.BackTokens.{mark_token, word_token, small_token, name_token, number_token, text_token, bin_token, un_token, ink_of_bin_is, ink_of_un_is, before, before_both, before_listed, before_bracketed, expr_before, link_before, select_before, field_before, set_before, join_before, source_before, listed_before, links_before, ops_before, column_before, not_before, truth_token, alias_before}

-- links
links_is : (xs : List Link) (rest : List Lexeme) → before (flat_map (λ (link : Inks). link) (map ink_of_link xs)) rest ≡ links_before xs rest
unfolding link_before
links_is [] rest = refl
links_is (x ∷ xs) rest = before_both (ink_of_link x) _ rest ∙ ap (before (ink_of_link x)) (links_is xs rest)

-- parts between operators, or a part alone
pub before_chain : (first : Expr) (links : List Link) (rest : List Lexeme) → expr_before (chain first links) rest ≡ expr_before first (links_before links rest)
unfolding expr_before
before_chain first [] rest = refl
before_chain first (l ∷ ls) rest = ap (λ x. before x rest) (of_chain first (l ∷ ls)) ∙ before_both (ink_of_expr first) _ rest ∙ ap (before (ink_of_expr first)) (links_is (l ∷ ls) rest)

-- an operator and the part behind it
pub before_link : (op : BinOp) (part : Expr) (rest : List Lexeme) → link_before (roll-Link (record { op = op; part = part })) rest ≡ bin_token op ∷ expr_before part rest
unfolding link_before expr_before
before_link op part rest = rw (of_link op part, ink_of_bin_is op) refl

-- further operators before a part
further_ops : (ops : List UnOp) (rest : List Lexeme) → before (flat_map (λ (y : Inks). (ink.space ∷ []) ++ y) (map (λ op. ink_of_un op ∷ []) ops)) rest ≡ ops_before ops rest
further_ops [] rest = refl
further_ops (op ∷ ops) rest = rw (ink_of_un_is op) (ap (λ ts. un_token op ∷ ts) (further_ops ops rest))

ops_is : (ops : List UnOp) (rest : List Lexeme) → before (ink_of_ops ops) rest ≡ ops_before ops rest
ops_is [] rest = refl
ops_is (op ∷ ops) rest = rw (ink_of_un_is op) (ap (λ ts. un_token op ∷ ts) (further_ops ops rest))

-- operators before a part, or a part alone
pub before_signed : (ops : List UnOp) (part : Expr) (rest : List Lexeme) → expr_before (signed ops part) rest ≡ ops_before ops (expr_before part rest)
unfolding expr_before
before_signed [] part rest = refl
before_signed (op ∷ ops) part rest = ap (λ x. before x rest) (of_unary (op ∷ ops) part) ∙ before_both (ink_of_ops (op ∷ ops)) _ rest ∙ ops_is (op ∷ ops) _

-- a number
pub before_number : (n : ℕ) (rest : List Lexeme) → expr_before (e.Number n) rest ≡ number_token n ∷ rest
unfolding expr_before
before_number n rest = rw (of_number n) refl

-- a string
pub before_text : (bytes : List ℕ) (rest : List Lexeme) → expr_before (e.Text bytes) rest ≡ text_token bytes ∷ rest
unfolding expr_before
before_text bytes rest = rw (of_text bytes) refl

-- true or false
pub before_truth : (truth : Bool) (rest : List Lexeme) → expr_before (e.Truth truth) rest ≡ truth_token truth ∷ rest
unfolding expr_before
before_truth true rest = rw (of_truth true) refl
before_truth false rest = rw (of_truth false) refl

-- NULL
pub before_null : (rest : List Lexeme) → expr_before e.Null rest ≡ word_token w.Null ∷ rest
unfolding expr_before
before_null rest = rw of_null refl

-- a column
pub before_column : (table : Option (List ℕ)) (column : List ℕ) (rest : List Lexeme) → expr_before (e.Column table column) rest ≡ column_before table column rest
unfolding expr_before
before_column None column rest = rw (of_column None column) refl
before_column (Some table) column rest = rw (of_column (Some table) column) refl

-- a part in brackets
pub before_paren : (part : Expr) (rest : List Lexeme) → expr_before (e.Paren part) rest ≡ mark_token m.Open ∷ expr_before part (mark_token m.Close ∷ rest)
unfolding expr_before
before_paren part rest = ap (λ x. before x rest) (of_paren part) ∙ before_bracketed (ink_of_expr part) rest

-- a list of expressions in brackets
list_is : (parts : List Expr) (rest : List Lexeme) → before (ink.bracketed (ink.listed (map ink_of_expr parts))) rest ≡ mark_token m.Open ∷ listed_before expr_before parts (mark_token m.Close ∷ rest)
unfolding expr_before
list_is parts rest = before_bracketed (ink.listed (map ink_of_expr parts)) rest ∙ ap (λ ts. mark_token m.Open ∷ ts) (before_listed ink_of_expr parts _)

-- a call
pub before_call : (function : Function) (star : Bool) (parts : List Expr) (rest : List Lexeme) →
    expr_before (e.Call function star parts) rest ≡ name_token (function_bytes function) ∷ mark_token m.Open ∷ listed_before expr_before parts (mark_token m.Close ∷ rest)
unfolding expr_before
before_call function star parts rest = ap (λ x. before x rest) (of_call function star parts) ∙ ap (λ ts. name_token (function_bytes function) ∷ ts) (list_is parts rest)

-- a conversion
pub before_convert : (kind : Kind) (part : Expr) (rest : List Lexeme) →
    expr_before (e.Convert kind part) rest ≡ small_token (word_of_kind kind) ∷ mark_token m.Open ∷ expr_before part (mark_token m.Close ∷ rest)
unfolding expr_before
before_convert kind part rest = ap (λ x. before x rest) (of_convert kind part) ∙ ap (λ ts. small_token (word_of_kind kind) ∷ ts) (before_bracketed (ink_of_expr part) rest)

not_is : (negated : Bool) (rest : List Lexeme) → before (ink_of_not negated) rest ≡ not_before negated rest
not_is true rest = refl
not_is false rest = refl

-- IN a list
pub before_in : (part : Expr) (negated : Bool) (list : List Expr) (rest : List Lexeme) →
    expr_before (e.IsIn negated part list) rest ≡ expr_before part (not_before negated (word_token w.In ∷ mark_token m.Open ∷ listed_before expr_before list (mark_token m.Close ∷ rest)))
unfolding expr_before
before_in part negated list rest = ap (λ x. before x rest) (of_in part negated list) ∙ before_both (ink_of_expr part) _ rest
    ∙ ap (before (ink_of_expr part)) (before_both (ink_of_not negated) _ rest ∙ not_is negated _ ∙ ap (λ ts. not_before negated (word_token w.In ∷ ts)) (list_is list rest))

-- IN a SELECT
pub before_in_select : (part : Expr) (negated : Bool) (query : Select) (rest : List Lexeme) →
    expr_before (e.IsInSelect negated part query) rest ≡ expr_before part (not_before negated (word_token w.In ∷ mark_token m.Open ∷ select_before query (mark_token m.Close ∷ rest)))
unfolding expr_before select_before
before_in_select part negated query rest = ap (λ x. before x rest) (of_in_select part negated query) ∙ before_both (ink_of_expr part) _ rest
    ∙ ap (before (ink_of_expr part)) (before_both (ink_of_not negated) _ rest ∙ not_is negated _ ∙ ap (λ ts. not_before negated (word_token w.In ∷ ts)) (before_bracketed (ink_of_select query) rest))

-- BETWEEN
pub before_between : (part : Expr) (negated : Bool) (low high : Expr) (rest : List Lexeme) →
    expr_before (e.IsBetween negated part low high) rest ≡ expr_before part (not_before negated (word_token w.Between ∷ expr_before low (word_token w.And ∷ expr_before high rest)))
unfolding expr_before
before_between part negated low high rest = ap (λ x. before x rest) (of_between part negated low high) ∙ before_both (ink_of_expr part) _ rest
    ∙ ap (before (ink_of_expr part)) (before_both (ink_of_not negated) _ rest ∙ not_is negated _ ∙ ap (λ ts. not_before negated (word_token w.Between ∷ ts)) (before_both (ink_of_expr low) _ rest))

-- IS NULL
pub before_is_null : (part : Expr) (negated : Bool) (rest : List Lexeme) →
    expr_before (e.IsNull negated part) rest ≡ expr_before part (word_token w.Is ∷ not_before negated (word_token w.Null ∷ rest))
unfolding expr_before
before_is_null part negated rest = ap (λ x. before x rest) (of_is_null part negated) ∙ before_both (ink_of_expr part) _ rest
    ∙ ap (λ ts. before (ink_of_expr part) (word_token w.Is ∷ ts)) (before_both (ink_of_not negated) _ rest ∙ not_is negated _)

alias_is : (alias : Option (List ℕ)) (rest : List Lexeme) → before (ink_of_alias alias) rest ≡ alias_before alias rest
alias_is None rest = refl
alias_is (Some alias) rest = refl

-- a table as a record set
pub before_table : (table : List ℕ) (rest : List Lexeme) → source_before (source.Table table) rest ≡ name_token table ∷ rest
unfolding source_before
before_table table rest = rw (of_table table) refl

-- a SELECT as a record set
pub before_query : (query : Select) (rest : List Lexeme) → source_before (source.Query query) rest ≡ mark_token m.Open ∷ select_before query (mark_token m.Close ∷ rest)
unfolding source_before select_before
before_query query rest = ap (λ x. before x rest) (of_query query) ∙ before_bracketed (ink_of_select query) rest

-- a field
pub before_field : (expr : Expr) (alias : Option (List ℕ)) (rest : List Lexeme) → field_before (roll-Field (record { expr = expr; alias = alias })) rest ≡ expr_before expr (alias_before alias rest)
unfolding field_before expr_before
before_field expr alias rest = ap (λ x. before x rest) (of_field expr alias) ∙ before_both (ink_of_expr expr) _ rest ∙ ap (before (ink_of_expr expr)) (alias_is alias rest)

-- a record set
pub before_set : (source : SetSource) (alias : Option (List ℕ)) (rest : List Lexeme) → set_before (roll-FromSet (record { source = source; alias = alias })) rest ≡ source_before source (alias_before alias rest)
unfolding set_before source_before
before_set source alias rest = ap (λ x. before x rest) (of_set source alias) ∙ before_both (ink_of_source source) _ rest ∙ ap (before (ink_of_source source)) (alias_is alias rest)

-- a join
pub before_join : (side : Side) (set : FromSet) (on : Expr) (rest : List Lexeme) →
    join_before (roll-Join (record { side = side; set = set; on = on })) rest
    ≡ word_token (word_of_side side) ∷ word_token w.Outer ∷ word_token w.Join ∷ set_before set (word_token w.On ∷ expr_before on rest)
unfolding join_before set_before expr_before
before_join side set on rest = ap (λ x. before x rest) (of_join side set on)
    ∙ ap (λ ts. word_token (word_of_side side) ∷ word_token w.Outer ∷ word_token w.Join ∷ ts) (before_both (ink_of_set set) _ rest)
