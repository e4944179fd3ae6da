-- What each form of a tree prints, from what its parts print.
use Rattle.std.proofs.Common.{◌≡◌, ℕ, Bool, List, [], ◌∷◌, ◌++◌, Option, Some, None, sym, ap, ◌∙◌}
use Rattle.std.specs.Prelude.{map, flat_map, option_map}
use Rattle.ql_lex.specs.declared.words.Word.TheVariants as w
use Rattle.ql_value.specs.declared.operator.BinOp.{BinOp}
use Rattle.ql_value.specs.declared.operator.UnOp.{UnOp}
use Rattle.ql_value.specs.declared.value.Kind.{Kind}
use Rattle.ql_syntax.specs.declared.syntax.Expr.{Expr}
use Rattle.ql_syntax.specs.declared.syntax.Expr.TheVariants as e
use Rattle.ql_syntax.specs.declared.syntax.Expr.TheOpen.{Expr-F, SetSource-F}
use Rattle.ql_syntax.specs.declared.syntax.Expr.TheFolds.{fold-roll-Expr, fold-roll-SetSource, fold-roll-Field, fold-roll-FromSet, fold-roll-Join, fold-roll-Link, fold-roll-Select}
use Rattle.ql_syntax.specs.declared.syntax.Field.{Field, roll-Field}
use Rattle.ql_syntax.specs.declared.syntax.FromSet.{FromSet, roll-FromSet}
use Rattle.ql_syntax.specs.declared.syntax.Function.{Function}
use Rattle.ql_syntax.specs.declared.syntax.Join.{Join, roll-Join}
use Rattle.ql_syntax.specs.declared.syntax.Link.{Link, roll-Link}
use Rattle.ql_syntax.specs.declared.syntax.Select.{Select, roll-Select}
use Rattle.ql_syntax.specs.declared.syntax.SetSource.{SetSource}
use Rattle.ql_syntax.specs.declared.syntax.SetSource.TheVariants as source
use Rattle.ql_syntax.specs.declared.syntax.Side.{Side}
use Rattle.ql_syntax.specs.Ink.{space, keyword, small, name, number, string, listed, bracketed}
use Rattle.ql_syntax.specs.Functions.{function_bytes}
use Rattle.ql_syntax.specs.Printing.{Inks, ink_of_bin, ink_of_ops, word_of_kind, ink_of_truth, ink_of_not, ink_of_column, ink_of_alias, behind, ink_of_fields, ink_of_sets, ink_of_join, ink_of_groups, ink_of_keys, ink_of_distinct, word_of_side, expr_step, source_step, field_step, set_step, join_step, link_step, select_step, ink_of_expr, ink_of_link, ink_of_select, ink_of_field, ink_of_source, ink_of_set, ink_of_one_join}

-- parts between operators
pub of_chain : (first : Expr) (rest : List Link) → ink_of_expr (e.Chain first rest) ≡ ink_of_expr first ++ flat_map (λ (link : Inks). link) (map ink_of_link rest)
of_chain first rest = ap ink_of_expr (sym (e.rolls-Chain first rest)) ∙ fold-roll-Expr Inks Inks Inks Inks Inks Inks Inks expr_step source_step field_step set_step join_step link_step select_step (Expr-F.Chain first rest)

-- operators before a part
pub of_unary : (ops : List UnOp) (part : Expr) → ink_of_expr (e.Unary ops part) ≡ ink_of_ops ops ++ ink_of_expr part
of_unary ops part = ap ink_of_expr (sym (e.rolls-Unary ops part)) ∙ fold-roll-Expr Inks Inks Inks Inks Inks Inks Inks expr_step source_step field_step set_step join_step link_step select_step (Expr-F.Unary ops part)

-- a number
pub of_number : (n : ℕ) → ink_of_expr (e.Number n) ≡ number n ∷ []
of_number n = ap ink_of_expr (sym (e.rolls-Number n)) ∙ fold-roll-Expr Inks Inks Inks Inks Inks Inks Inks expr_step source_step field_step set_step join_step link_step select_step (Expr-F.Number n)

-- a string
pub of_text : (bytes : List ℕ) → ink_of_expr (e.Text bytes) ≡ string bytes ∷ []
of_text bytes = ap ink_of_expr (sym (e.rolls-Text bytes)) ∙ fold-roll-Expr Inks Inks Inks Inks Inks Inks Inks expr_step source_step field_step set_step join_step link_step select_step (Expr-F.Text bytes)

-- true or false
pub of_truth : (truth : Bool) → ink_of_expr (e.Truth truth) ≡ ink_of_truth truth ∷ []
of_truth truth = ap ink_of_expr (sym (e.rolls-Truth truth)) ∙ fold-roll-Expr Inks Inks Inks Inks Inks Inks Inks expr_step source_step field_step set_step join_step link_step select_step (Expr-F.Truth truth)

-- NULL
pub of_null : ink_of_expr e.Null ≡ keyword w.Null ∷ []
of_null = ap ink_of_expr (sym e.rolls-Null) ∙ fold-roll-Expr Inks Inks Inks Inks Inks Inks Inks expr_step source_step field_step set_step join_step link_step select_step Expr-F.Null

-- a column
pub of_column : (table : Option (List ℕ)) (column : List ℕ) → ink_of_expr (e.Column table column) ≡ ink_of_column table column
of_column table column = ap ink_of_expr (sym (e.rolls-Column table column)) ∙ fold-roll-Expr Inks Inks Inks Inks Inks Inks Inks expr_step source_step field_step set_step join_step link_step select_step (Expr-F.Column table column)

-- a part in brackets
pub of_paren : (part : Expr) → ink_of_expr (e.Paren part) ≡ bracketed (ink_of_expr part)
of_paren part = ap ink_of_expr (sym (e.rolls-Paren part)) ∙ fold-roll-Expr Inks Inks Inks Inks Inks Inks Inks expr_step source_step field_step set_step join_step link_step select_step (Expr-F.Paren part)

-- a call
pub of_call : (function : Function) (star : Bool) (parts : List Expr) → ink_of_expr (e.Call function star parts) ≡ name (function_bytes function) ∷ bracketed (listed (map ink_of_expr parts))
of_call function star parts = ap ink_of_expr (sym (e.rolls-Call function star parts)) ∙ fold-roll-Expr Inks Inks Inks Inks Inks Inks Inks expr_step source_step field_step set_step join_step link_step select_step (Expr-F.Call function star parts)

-- a conversion
pub of_convert : (kind : Kind) (part : Expr) → ink_of_expr (e.Convert kind part) ≡ small (word_of_kind kind) ∷ bracketed (ink_of_expr part)
of_convert kind part = ap ink_of_expr (sym (e.rolls-Convert kind part)) ∙ fold-roll-Expr Inks Inks Inks Inks Inks Inks Inks expr_step source_step field_step set_step join_step link_step select_step (Expr-F.Convert kind part)

-- IN a list
pub of_in : (part : Expr) (negated : Bool) (list : List Expr) → ink_of_expr (e.IsIn negated part list) ≡ ink_of_expr part ++ (space ∷ ink_of_not negated ++ (keyword w.In ∷ space ∷ bracketed (listed (map ink_of_expr list))))
of_in part negated list = ap ink_of_expr (sym (e.rolls-IsIn negated part list)) ∙ fold-roll-Expr Inks Inks Inks Inks Inks Inks Inks expr_step source_step field_step set_step join_step link_step select_step (Expr-F.IsIn negated part list)

-- IN a SELECT
pub of_in_select : (part : Expr) (negated : Bool) (query : Select) → ink_of_expr (e.IsInSelect negated part query) ≡ ink_of_expr part ++ (space ∷ ink_of_not negated ++ (keyword w.In ∷ space ∷ bracketed (ink_of_select query)))
of_in_select part negated query = ap ink_of_expr (sym (e.rolls-IsInSelect negated part query)) ∙ fold-roll-Expr Inks Inks Inks Inks Inks Inks Inks expr_step source_step field_step set_step join_step link_step select_step (Expr-F.IsInSelect negated part query)

-- BETWEEN
pub of_between : (part : Expr) (negated : Bool) (low high : Expr) → ink_of_expr (e.IsBetween negated part low high) ≡ ink_of_expr part ++ (space ∷ ink_of_not negated ++ (keyword w.Between ∷ space ∷ ink_of_expr low ++ (space ∷ keyword w.And ∷ space ∷ ink_of_expr high)))
of_between part negated low high = ap ink_of_expr (sym (e.rolls-IsBetween negated part low high)) ∙ fold-roll-Expr Inks Inks Inks Inks Inks Inks Inks expr_step source_step field_step set_step join_step link_step select_step (Expr-F.IsBetween negated part low high)

-- IS NULL
pub of_is_null : (part : Expr) (negated : Bool) → ink_of_expr (e.IsNull negated part) ≡ ink_of_expr part ++ (space ∷ keyword w.Is ∷ space ∷ ink_of_not negated ++ (keyword w.Null ∷ []))
of_is_null part negated = ap ink_of_expr (sym (e.rolls-IsNull negated part)) ∙ fold-roll-Expr Inks Inks Inks Inks Inks Inks Inks expr_step source_step field_step set_step join_step link_step select_step (Expr-F.IsNull negated part)

-- a table as a record set
pub of_table : (table : List ℕ) → ink_of_source (source.Table table) ≡ name table ∷ []
of_table table = ap ink_of_source (sym (source.rolls-Table table)) ∙ fold-roll-SetSource Inks Inks Inks Inks Inks Inks Inks expr_step source_step field_step set_step join_step link_step select_step (SetSource-F.Table table)

-- a SELECT as a record set
pub of_query : (query : Select) → ink_of_source (source.Query query) ≡ bracketed (ink_of_select query)
of_query query = ap ink_of_source (sym (source.rolls-Query query)) ∙ fold-roll-SetSource Inks Inks Inks Inks Inks Inks Inks expr_step source_step field_step set_step join_step link_step select_step (SetSource-F.Query query)

-- an operator and the part behind it
pub of_link : (op : BinOp) (part : Expr) → ink_of_link (roll-Link (record { op = op; part = part })) ≡ space ∷ ink_of_bin op ∷ space ∷ ink_of_expr part
of_link op part = fold-roll-Link Inks Inks Inks Inks Inks Inks Inks expr_step source_step field_step set_step join_step link_step select_step (record { op = op; part = part })

-- a field
pub of_field : (expr : Expr) (alias : Option (List ℕ)) → ink_of_field (roll-Field (record { expr = expr; alias = alias })) ≡ ink_of_expr expr ++ ink_of_alias alias
of_field expr alias = fold-roll-Field Inks Inks Inks Inks Inks Inks Inks expr_step source_step field_step set_step join_step link_step select_step (record { expr = expr; alias = alias })

-- a record set
pub of_set : (source : SetSource) (alias : Option (List ℕ)) → ink_of_set (roll-FromSet (record { source = source; alias = alias })) ≡ ink_of_source source ++ ink_of_alias alias
of_set source alias = fold-roll-FromSet Inks Inks Inks Inks Inks Inks Inks expr_step source_step field_step set_step join_step link_step select_step (record { source = source; alias = alias })

-- a join
pub of_join : (side : Side) (set : FromSet) (on : Expr) → ink_of_one_join (roll-Join (record { side = side; set = set; on = on })) ≡ space ∷ keyword (word_of_side side) ∷ space ∷ keyword w.Outer ∷ space ∷ keyword w.Join ∷ space ∷ ink_of_set set ++ (space ∷ keyword w.On ∷ space ∷ ink_of_expr on)
of_join side set on = fold-roll-Join Inks Inks Inks Inks Inks Inks Inks expr_step source_step field_step set_step join_step link_step select_step (record { side = side; set = set; on = on })

-- a SELECT
pub of_select : (distinct : Bool) (fields : List Field) (sets : List FromSet) (join : Option Join) (filter : Option Expr) (groups keys : List Expr) (descending : Bool) (limit offset : Option Expr) → ink_of_select (roll-Select (record { distinct = distinct; fields = fields; sets = sets; join = join; filter = filter; groups = groups; keys = keys; descending = descending; limit = limit; offset = offset })) ≡ keyword w.Select ∷ space ∷ ink_of_distinct distinct ++ (ink_of_fields (map ink_of_field fields) ++ (ink_of_sets (map ink_of_set sets)
    ++ (ink_of_join (option_map ink_of_one_join join) ++ (behind w.Where (option_map ink_of_expr filter) ++ (ink_of_groups (map ink_of_expr groups)
    ++ (ink_of_keys (map ink_of_expr keys) descending ++ (behind w.Limit (option_map ink_of_expr limit) ++ behind w.Offset (option_map ink_of_expr offset))))))))
of_select distinct fields sets None None groups keys descending None None =
    fold-roll-Select Inks Inks Inks Inks Inks Inks Inks expr_step source_step field_step set_step join_step link_step select_step
    (record { distinct = distinct; fields = fields; sets = sets; join = None; filter = None; groups = groups; keys = keys; descending = descending; limit = None; offset = None })
of_select distinct fields sets None None groups keys descending None (Some offset) =
    fold-roll-Select Inks Inks Inks Inks Inks Inks Inks expr_step source_step field_step set_step join_step link_step select_step
    (record { distinct = distinct; fields = fields; sets = sets; join = None; filter = None; groups = groups; keys = keys; descending = descending; limit = None; offset = Some offset })
of_select distinct fields sets None None groups keys descending (Some limit) None =
    fold-roll-Select Inks Inks Inks Inks Inks Inks Inks expr_step source_step field_step set_step join_step link_step select_step
    (record { distinct = distinct; fields = fields; sets = sets; join = None; filter = None; groups = groups; keys = keys; descending = descending; limit = Some limit; offset = None })
of_select distinct fields sets None None groups keys descending (Some limit) (Some offset) =
    fold-roll-Select Inks Inks Inks Inks Inks Inks Inks expr_step source_step field_step set_step join_step link_step select_step
    (record { distinct = distinct; fields = fields; sets = sets; join = None; filter = None; groups = groups; keys = keys; descending = descending; limit = Some limit; offset = Some offset })
of_select distinct fields sets None (Some filter) groups keys descending None None =
    fold-roll-Select Inks Inks Inks Inks Inks Inks Inks expr_step source_step field_step set_step join_step link_step select_step
    (record { distinct = distinct; fields = fields; sets = sets; join = None; filter = Some filter; groups = groups; keys = keys; descending = descending; limit = None; offset = None })
of_select distinct fields sets None (Some filter) groups keys descending None (Some offset) =
    fold-roll-Select Inks Inks Inks Inks Inks Inks Inks expr_step source_step field_step set_step join_step link_step select_step
    (record { distinct = distinct; fields = fields; sets = sets; join = None; filter = Some filter; groups = groups; keys = keys; descending = descending; limit = None; offset = Some offset })
of_select distinct fields sets None (Some filter) groups keys descending (Some limit) None =
    fold-roll-Select Inks Inks Inks Inks Inks Inks Inks expr_step source_step field_step set_step join_step link_step select_step
    (record { distinct = distinct; fields = fields; sets = sets; join = None; filter = Some filter; groups = groups; keys = keys; descending = descending; limit = Some limit; offset = None })
of_select distinct fields sets None (Some filter) groups keys descending (Some limit) (Some offset) =
    fold-roll-Select Inks Inks Inks Inks Inks Inks Inks expr_step source_step field_step set_step join_step link_step select_step
    (record { distinct = distinct; fields = fields; sets = sets; join = None; filter = Some filter; groups = groups; keys = keys; descending = descending; limit = Some limit; offset = Some offset })
of_select distinct fields sets (Some join) None groups keys descending None None =
    fold-roll-Select Inks Inks Inks Inks Inks Inks Inks expr_step source_step field_step set_step join_step link_step select_step
    (record { distinct = distinct; fields = fields; sets = sets; join = Some join; filter = None; groups = groups; keys = keys; descending = descending; limit = None; offset = None })
of_select distinct fields sets (Some join) None groups keys descending None (Some offset) =
    fold-roll-Select Inks Inks Inks Inks Inks Inks Inks expr_step source_step field_step set_step join_step link_step select_step
    (record { distinct = distinct; fields = fields; sets = sets; join = Some join; filter = None; groups = groups; keys = keys; descending = descending; limit = None; offset = Some offset })
of_select distinct fields sets (Some join) None groups keys descending (Some limit) None =
    fold-roll-Select Inks Inks Inks Inks Inks Inks Inks expr_step source_step field_step set_step join_step link_step select_step
    (record { distinct = distinct; fields = fields; sets = sets; join = Some join; filter = None; groups = groups; keys = keys; descending = descending; limit = Some limit; offset = None })
of_select distinct fields sets (Some join) None groups keys descending (Some limit) (Some offset) =
    fold-roll-Select Inks Inks Inks Inks Inks Inks Inks expr_step source_step field_step set_step join_step link_step select_step
    (record { distinct = distinct; fields = fields; sets = sets; join = Some join; filter = None; groups = groups; keys = keys; descending = descending; limit = Some limit; offset = Some offset })
of_select distinct fields sets (Some join) (Some filter) groups keys descending None None =
    fold-roll-Select Inks Inks Inks Inks Inks Inks Inks expr_step source_step field_step set_step join_step link_step select_step
    (record { distinct = distinct; fields = fields; sets = sets; join = Some join; filter = Some filter; groups = groups; keys = keys; descending = descending; limit = None; offset = None })
of_select distinct fields sets (Some join) (Some filter) groups keys descending None (Some offset) =
    fold-roll-Select Inks Inks Inks Inks Inks Inks Inks expr_step source_step field_step set_step join_step link_step select_step
    (record { distinct = distinct; fields = fields; sets = sets; join = Some join; filter = Some filter; groups = groups; keys = keys; descending = descending; limit = None; offset = Some offset })
of_select distinct fields sets (Some join) (Some filter) groups keys descending (Some limit) None =
    fold-roll-Select Inks Inks Inks Inks Inks Inks Inks expr_step source_step field_step set_step join_step link_step select_step
    (record { distinct = distinct; fields = fields; sets = sets; join = Some join; filter = Some filter; groups = groups; keys = keys; descending = descending; limit = Some limit; offset = None })
of_select distinct fields sets (Some join) (Some filter) groups keys descending (Some limit) (Some offset) =
    fold-roll-Select Inks Inks Inks Inks Inks Inks Inks expr_step source_step field_step set_step join_step link_step select_step
    (record { distinct = distinct; fields = fields; sets = sets; join = Some join; filter = Some filter; groups = groups; keys = keys; descending = descending; limit = Some limit; offset = Some offset })
