-- Each form of a tree with `count()` for `count(*)`, from its parts.
use Rattle.std.proofs.Common.{◌≡◌, ℕ, Bool, false, List, Option, Some, None, sym, ap, ◌∙◌}
use Rattle.std.specs.Prelude.{map, option_map}
use Rattle.ql_value.specs.declared.operator.BinOp.{BinOp}
use Rattle.ql_value.specs.declared.operator.UnOp.{UnOp}
use Rattle.ql_value.specs.declared.value.Kind.{Kind}
use Rattle.ql_syntax.specs.declared.syntax.Expr.{Expr}
use Rattle.ql_syntax.specs.declared.syntax.Expr.TheVariants as e
use Rattle.ql_syntax.specs.declared.syntax.Expr.TheOpen.{Expr-F, SetSource-F}
use Rattle.ql_syntax.specs.declared.syntax.Expr.TheFolds.{fold-roll-Expr, fold-roll-SetSource, fold-roll-Field, fold-roll-FromSet, fold-roll-Join, fold-roll-Link, fold-roll-Select}
use Rattle.ql_syntax.specs.declared.syntax.Field.{Field, roll-Field}
use Rattle.ql_syntax.specs.declared.syntax.FromSet.{FromSet, roll-FromSet}
use Rattle.ql_syntax.specs.declared.syntax.Function.{Function}
use Rattle.ql_syntax.specs.declared.syntax.Join.{Join, roll-Join}
use Rattle.ql_syntax.specs.declared.syntax.Link.{Link, roll-Link}
use Rattle.ql_syntax.specs.declared.syntax.Select.{Select, roll-Select}
use Rattle.ql_syntax.specs.declared.syntax.SetSource.{SetSource}
use Rattle.ql_syntax.specs.declared.syntax.SetSource.TheVariants as source
use Rattle.ql_syntax.specs.declared.syntax.Side.{Side}
use Rattle.ql_syntax.specs.ReadsBack.{expr_step, source_step, field_step, set_step, join_step, link_step, select_step, plain_expr, plain_link, plain_select, plain_field, plain_source, plain_set, plain_join}

-- parts between operators
pub plain_of_chain : (first : Expr) (rest : List Link) → plain_expr (e.Chain first rest) ≡ e.Chain (plain_expr first) (map plain_link rest)
plain_of_chain first rest = ap plain_expr (sym (e.rolls-Chain first rest)) ∙ fold-roll-Expr Expr SetSource Field FromSet Join Link Select expr_step source_step field_step set_step join_step link_step select_step (Expr-F.Chain first rest)

-- operators before a part
pub plain_of_unary : (ops : List UnOp) (part : Expr) → plain_expr (e.Unary ops part) ≡ e.Unary ops (plain_expr part)
plain_of_unary ops part = ap plain_expr (sym (e.rolls-Unary ops part)) ∙ fold-roll-Expr Expr SetSource Field FromSet Join Link Select expr_step source_step field_step set_step join_step link_step select_step (Expr-F.Unary ops part)

-- a number
pub plain_of_number : (n : ℕ) → plain_expr (e.Number n) ≡ e.Number n
plain_of_number n = ap plain_expr (sym (e.rolls-Number n)) ∙ fold-roll-Expr Expr SetSource Field FromSet Join Link Select expr_step source_step field_step set_step join_step link_step select_step (Expr-F.Number n)

-- a string
pub plain_of_text : (bytes : List ℕ) → plain_expr (e.Text bytes) ≡ e.Text bytes
plain_of_text bytes = ap plain_expr (sym (e.rolls-Text bytes)) ∙ fold-roll-Expr Expr SetSource Field FromSet Join Link Select expr_step source_step field_step set_step join_step link_step select_step (Expr-F.Text bytes)

-- true or false
pub plain_of_truth : (truth : Bool) → plain_expr (e.Truth truth) ≡ e.Truth truth
plain_of_truth truth = ap plain_expr (sym (e.rolls-Truth truth)) ∙ fold-roll-Expr Expr SetSource Field FromSet Join Link Select expr_step source_step field_step set_step join_step link_step select_step (Expr-F.Truth truth)

-- NULL
pub plain_of_null : plain_expr e.Null ≡ e.Null
plain_of_null = ap plain_expr (sym e.rolls-Null) ∙ fold-roll-Expr Expr SetSource Field FromSet Join Link Select expr_step source_step field_step set_step join_step link_step select_step Expr-F.Null

-- a column
pub plain_of_column : (table : Option (List ℕ)) (column : List ℕ) → plain_expr (e.Column table column) ≡ e.Column table column
plain_of_column table column = ap plain_expr (sym (e.rolls-Column table column)) ∙ fold-roll-Expr Expr SetSource Field FromSet Join Link Select expr_step source_step field_step set_step join_step link_step select_step (Expr-F.Column table column)

-- a part in brackets
pub plain_of_paren : (part : Expr) → plain_expr (e.Paren part) ≡ e.Paren (plain_expr part)
plain_of_paren part = ap plain_expr (sym (e.rolls-Paren part)) ∙ fold-roll-Expr Expr SetSource Field FromSet Join Link Select expr_step source_step field_step set_step join_step link_step select_step (Expr-F.Paren part)

-- a call
pub plain_of_call : (function : Function) (star : Bool) (parts : List Expr) → plain_expr (e.Call function star parts) ≡ e.Call function false (map plain_expr parts)
plain_of_call function star parts = ap plain_expr (sym (e.rolls-Call function star parts)) ∙ fold-roll-Expr Expr SetSource Field FromSet Join Link Select expr_step source_step field_step set_step join_step link_step select_step (Expr-F.Call function star parts)

-- a conversion
pub plain_of_convert : (kind : Kind) (part : Expr) → plain_expr (e.Convert kind part) ≡ e.Convert kind (plain_expr part)
plain_of_convert kind part = ap plain_expr (sym (e.rolls-Convert kind part)) ∙ fold-roll-Expr Expr SetSource Field FromSet Join Link Select expr_step source_step field_step set_step join_step link_step select_step (Expr-F.Convert kind part)

-- IN a list
pub plain_of_in : (part : Expr) (negated : Bool) (list : List Expr) → plain_expr (e.IsIn negated part list) ≡ e.IsIn negated (plain_expr part) (map plain_expr list)
plain_of_in part negated list = ap plain_expr (sym (e.rolls-IsIn negated part list)) ∙ fold-roll-Expr Expr SetSource Field FromSet Join Link Select expr_step source_step field_step set_step join_step link_step select_step (Expr-F.IsIn negated part list)

-- IN a SELECT
pub plain_of_in_select : (part : Expr) (negated : Bool) (query : Select) → plain_expr (e.IsInSelect negated part query) ≡ e.IsInSelect negated (plain_expr part) (plain_select query)
plain_of_in_select part negated query = ap plain_expr (sym (e.rolls-IsInSelect negated part query)) ∙ fold-roll-Expr Expr SetSource Field FromSet Join Link Select expr_step source_step field_step set_step join_step link_step select_step (Expr-F.IsInSelect negated part query)

-- BETWEEN
pub plain_of_between : (part : Expr) (negated : Bool) (low high : Expr) → plain_expr (e.IsBetween negated part low high) ≡ e.IsBetween negated (plain_expr part) (plain_expr low) (plain_expr high)
plain_of_between part negated low high = ap plain_expr (sym (e.rolls-IsBetween negated part low high)) ∙ fold-roll-Expr Expr SetSource Field FromSet Join Link Select expr_step source_step field_step set_step join_step link_step select_step (Expr-F.IsBetween negated part low high)

-- IS NULL
pub plain_of_is_null : (part : Expr) (negated : Bool) → plain_expr (e.IsNull negated part) ≡ e.IsNull negated (plain_expr part)
plain_of_is_null part negated = ap plain_expr (sym (e.rolls-IsNull negated part)) ∙ fold-roll-Expr Expr SetSource Field FromSet Join Link Select expr_step source_step field_step set_step join_step link_step select_step (Expr-F.IsNull negated part)

-- a table as a record set
pub plain_of_table : (table : List ℕ) → plain_source (source.Table table) ≡ source.Table table
plain_of_table table = ap plain_source (sym (source.rolls-Table table)) ∙ fold-roll-SetSource Expr SetSource Field FromSet Join Link Select expr_step source_step field_step set_step join_step link_step select_step (SetSource-F.Table table)

-- a SELECT as a record set
pub plain_of_query : (query : Select) → plain_source (source.Query query) ≡ source.Query (plain_select query)
plain_of_query query = ap plain_source (sym (source.rolls-Query query)) ∙ fold-roll-SetSource Expr SetSource Field FromSet Join Link Select expr_step source_step field_step set_step join_step link_step select_step (SetSource-F.Query query)

-- an operator and the part behind it
pub plain_of_link : (op : BinOp) (part : Expr) → plain_link (roll-Link (record { op = op; part = part })) ≡ roll-Link (record { op = op; part = plain_expr part })
plain_of_link op part = fold-roll-Link Expr SetSource Field FromSet Join Link Select expr_step source_step field_step set_step join_step link_step select_step (record { op = op; part = part })

-- a field
pub plain_of_field : (expr : Expr) (alias : Option (List ℕ)) → plain_field (roll-Field (record { expr = expr; alias = alias })) ≡ roll-Field (record { expr = plain_expr expr; alias = alias })
plain_of_field expr alias = fold-roll-Field Expr SetSource Field FromSet Join Link Select expr_step source_step field_step set_step join_step link_step select_step (record { expr = expr; alias = alias })

-- a record set
pub plain_of_set : (source : SetSource) (alias : Option (List ℕ)) → plain_set (roll-FromSet (record { source = source; alias = alias })) ≡ roll-FromSet (record { source = plain_source source; alias = alias })
plain_of_set source alias = fold-roll-FromSet Expr SetSource Field FromSet Join Link Select expr_step source_step field_step set_step join_step link_step select_step (record { source = source; alias = alias })

-- a join
pub plain_of_join : (side : Side) (set : FromSet) (on : Expr) → plain_join (roll-Join (record { side = side; set = set; on = on })) ≡ roll-Join (record { side = side; set = plain_set set; on = plain_expr on })
plain_of_join side set on = fold-roll-Join Expr SetSource Field FromSet Join Link Select expr_step source_step field_step set_step join_step link_step select_step (record { side = side; set = set; on = on })

-- a SELECT
pub plain_of_select : (distinct : Bool) (fields : List Field) (sets : List FromSet) (join : Option Join) (filter : Option Expr) (groups keys : List Expr) (descending : Bool) (limit offset : Option Expr) →
    plain_select (roll-Select (record { distinct = distinct; fields = fields; sets = sets; join = join; filter = filter; groups = groups; keys = keys; descending = descending; limit = limit; offset = offset }))
    ≡ roll-Select (record {
      distinct = distinct;
      fields = map plain_field fields;
      sets = map plain_set sets;
      join = option_map plain_join join;
      filter = option_map plain_expr filter;
      groups = map plain_expr groups;
      keys = map plain_expr keys;
      descending = descending;
      limit = option_map plain_expr limit;
      offset = option_map plain_expr offset;
    })
plain_of_select distinct fields sets None None groups keys descending None None =
    fold-roll-Select Expr SetSource Field FromSet Join Link Select expr_step source_step field_step set_step join_step link_step select_step
    (record { distinct = distinct; fields = fields; sets = sets; join = None; filter = None; groups = groups; keys = keys; descending = descending; limit = None; offset = None })
plain_of_select distinct fields sets None None groups keys descending None (Some offset) =
    fold-roll-Select Expr SetSource Field FromSet Join Link Select expr_step source_step field_step set_step join_step link_step select_step
    (record { distinct = distinct; fields = fields; sets = sets; join = None; filter = None; groups = groups; keys = keys; descending = descending; limit = None; offset = Some offset })
plain_of_select distinct fields sets None None groups keys descending (Some limit) None =
    fold-roll-Select Expr SetSource Field FromSet Join Link Select expr_step source_step field_step set_step join_step link_step select_step
    (record { distinct = distinct; fields = fields; sets = sets; join = None; filter = None; groups = groups; keys = keys; descending = descending; limit = Some limit; offset = None })
plain_of_select distinct fields sets None None groups keys descending (Some limit) (Some offset) =
    fold-roll-Select Expr SetSource Field FromSet Join Link Select expr_step source_step field_step set_step join_step link_step select_step
    (record { distinct = distinct; fields = fields; sets = sets; join = None; filter = None; groups = groups; keys = keys; descending = descending; limit = Some limit; offset = Some offset })
plain_of_select distinct fields sets None (Some filter) groups keys descending None None =
    fold-roll-Select Expr SetSource Field FromSet Join Link Select expr_step source_step field_step set_step join_step link_step select_step
    (record { distinct = distinct; fields = fields; sets = sets; join = None; filter = Some filter; groups = groups; keys = keys; descending = descending; limit = None; offset = None })
plain_of_select distinct fields sets None (Some filter) groups keys descending None (Some offset) =
    fold-roll-Select Expr SetSource Field FromSet Join Link Select expr_step source_step field_step set_step join_step link_step select_step
    (record { distinct = distinct; fields = fields; sets = sets; join = None; filter = Some filter; groups = groups; keys = keys; descending = descending; limit = None; offset = Some offset })
plain_of_select distinct fields sets None (Some filter) groups keys descending (Some limit) None =
    fold-roll-Select Expr SetSource Field FromSet Join Link Select expr_step source_step field_step set_step join_step link_step select_step
    (record { distinct = distinct; fields = fields; sets = sets; join = None; filter = Some filter; groups = groups; keys = keys; descending = descending; limit = Some limit; offset = None })
plain_of_select distinct fields sets None (Some filter) groups keys descending (Some limit) (Some offset) =
    fold-roll-Select Expr SetSource Field FromSet Join Link Select expr_step source_step field_step set_step join_step link_step select_step
    (record { distinct = distinct; fields = fields; sets = sets; join = None; filter = Some filter; groups = groups; keys = keys; descending = descending; limit = Some limit; offset = Some offset })
plain_of_select distinct fields sets (Some join) None groups keys descending None None =
    fold-roll-Select Expr SetSource Field FromSet Join Link Select expr_step source_step field_step set_step join_step link_step select_step
    (record { distinct = distinct; fields = fields; sets = sets; join = Some join; filter = None; groups = groups; keys = keys; descending = descending; limit = None; offset = None })
plain_of_select distinct fields sets (Some join) None groups keys descending None (Some offset) =
    fold-roll-Select Expr SetSource Field FromSet Join Link Select expr_step source_step field_step set_step join_step link_step select_step
    (record { distinct = distinct; fields = fields; sets = sets; join = Some join; filter = None; groups = groups; keys = keys; descending = descending; limit = None; offset = Some offset })
plain_of_select distinct fields sets (Some join) None groups keys descending (Some limit) None =
    fold-roll-Select Expr SetSource Field FromSet Join Link Select expr_step source_step field_step set_step join_step link_step select_step
    (record { distinct = distinct; fields = fields; sets = sets; join = Some join; filter = None; groups = groups; keys = keys; descending = descending; limit = Some limit; offset = None })
plain_of_select distinct fields sets (Some join) None groups keys descending (Some limit) (Some offset) =
    fold-roll-Select Expr SetSource Field FromSet Join Link Select expr_step source_step field_step set_step join_step link_step select_step
    (record { distinct = distinct; fields = fields; sets = sets; join = Some join; filter = None; groups = groups; keys = keys; descending = descending; limit = Some limit; offset = Some offset })
plain_of_select distinct fields sets (Some join) (Some filter) groups keys descending None None =
    fold-roll-Select Expr SetSource Field FromSet Join Link Select expr_step source_step field_step set_step join_step link_step select_step
    (record { distinct = distinct; fields = fields; sets = sets; join = Some join; filter = Some filter; groups = groups; keys = keys; descending = descending; limit = None; offset = None })
plain_of_select distinct fields sets (Some join) (Some filter) groups keys descending None (Some offset) =
    fold-roll-Select Expr SetSource Field FromSet Join Link Select expr_step source_step field_step set_step join_step link_step select_step
    (record { distinct = distinct; fields = fields; sets = sets; join = Some join; filter = Some filter; groups = groups; keys = keys; descending = descending; limit = None; offset = Some offset })
plain_of_select distinct fields sets (Some join) (Some filter) groups keys descending (Some limit) None =
    fold-roll-Select Expr SetSource Field FromSet Join Link Select expr_step source_step field_step set_step join_step link_step select_step
    (record { distinct = distinct; fields = fields; sets = sets; join = Some join; filter = Some filter; groups = groups; keys = keys; descending = descending; limit = Some limit; offset = None })
plain_of_select distinct fields sets (Some join) (Some filter) groups keys descending (Some limit) (Some offset) =
    fold-roll-Select Expr SetSource Field FromSet Join Link Select expr_step source_step field_step set_step join_step link_step select_step
    (record { distinct = distinct; fields = fields; sets = sets; join = Some join; filter = Some filter; groups = groups; keys = keys; descending = descending; limit = Some limit; offset = Some offset })
