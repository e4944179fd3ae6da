-- A tree with `count()` for `count(*)` prints as the tree does, and a second time nothing changes.
use Rattle.std.proofs.Common.{◌≡◌, ℕ, Bool, false, List, [], ◌∷◌, Option, Some, None, map, refl, sym, ap, subst}
use Rattle.std.specs.Prelude.{option_map}
use Rattle.ql_value.specs.declared.operator.BinOp.{BinOp}
use Rattle.ql_value.specs.declared.operator.UnOp.{UnOp}
use Rattle.ql_value.specs.declared.value.Kind.{Kind}
use Rattle.ql_syntax.specs.declared.syntax.Expr.{Expr, map-Expr, roll-Expr}
use Rattle.ql_syntax.specs.declared.syntax.Expr.TheVariants as e
use Rattle.ql_syntax.specs.declared.syntax.Expr.TheOpen.{Expr-F, SetSource-F, Select-F}
use Rattle.ql_syntax.specs.declared.syntax.Expr.TheFolds.{ind-Expr, ind-Select}
use Rattle.ql_syntax.specs.declared.syntax.Field.{Field, roll-Field}
use Rattle.ql_syntax.specs.declared.syntax.FromSet.{FromSet, roll-FromSet}
use Rattle.ql_syntax.specs.declared.syntax.Function.{Function}
use Rattle.ql_syntax.specs.declared.syntax.Join.{Join, roll-Join}
use Rattle.ql_syntax.specs.declared.syntax.Link.{Link, roll-Link}
use Rattle.ql_syntax.specs.declared.syntax.Select.{Select, map-Select, roll-Select}
use Rattle.ql_syntax.specs.declared.syntax.SetSource.{SetSource, map-SetSource, roll-SetSource}
use Rattle.ql_syntax.specs.declared.syntax.SetSource.TheVariants as source
use Rattle.ql_syntax.specs.declared.syntax.Side.{Side}
use Rattle.ql_syntax.specs.Printing.{Inks, ink_of_expr, ink_of_link, ink_of_select, ink_of_field, ink_of_source, ink_of_set, ink_of_one_join}
use Rattle.ql_syntax.specs.ReadsBack.{plain_expr, plain_link, plain_select, plain_field, plain_source, plain_set, plain_join}
use Rattle.ql_syntax.proofs.PrintingEquations.{of_chain, of_unary, of_paren, of_call, of_convert, of_in, of_in_select, of_between, of_is_null, of_query, of_link, of_field, of_set, of_join, of_select}
use Rattle.ql_print.proofs.PlainEquations.{plain_of_chain, plain_of_unary, plain_of_number, plain_of_text, plain_of_truth, plain_of_null, plain_of_column, plain_of_paren, plain_of_call, plain_of_convert, plain_of_in, plain_of_in_select, plain_of_between, plain_of_is_null, plain_of_table, plain_of_query, plain_of_link, plain_of_field, plain_of_set, plain_of_join, plain_of_select}

-- a part with `count()` for `count(*)` prints as the part does, and a second time nothing changes
pub record Same {A B : Type 0} (ink : A → B) (plain : A → A) (x : A) : Type 0 where
  pub print : ink (plain x) ≡ ink x
  pub again : plain (plain x) ≡ plain x

abbrev pub SameExpr : Expr → Type 0
SameExpr x = Same ink_of_expr plain_expr x

abbrev SameLink : Link → Type 0
SameLink x = Same ink_of_link plain_link x

abbrev pub SameSelect : Select → Type 0
SameSelect x = Same ink_of_select plain_select x

abbrev SameField : Field → Type 0
SameField x = Same ink_of_field plain_field x

abbrev SameSource : SetSource → Type 0
SameSource x = Same ink_of_source plain_source x

abbrev SameSet : FromSet → Type 0
SameSet x = Same ink_of_set plain_set x

abbrev SameJoin : Join → Type 0
SameJoin x = Same ink_of_one_join plain_join x

-- a part of a layer with what is known of it
abbrev Known : {A : Type 0} → (A → Inks) → (A → A) → Type 0
Known {A = A} ink plain = (x : A) × Same ink plain x

-- a list of parts
abbrev SameList : {A : Type 0} → (A → Inks) → (A → A) → List A → Type 0
SameList ink plain xs = Same (map ink) (map plain) xs

list_same : {A : Type 0} (ink : A → Inks) (plain : A → A) (ps : List ((x : A) × Same ink plain x)) → SameList ink plain (map (λ p. p.0) ps)
list_same ink plain [] = record { print = refl; again = refl }
list_same ink plain (p ∷ ps) =
    let more = list_same ink plain ps in
    record { print = rw (p.1.print, more.print) refl; again = rw (p.1.again, more.again) refl }

-- a part that may be left out
abbrev SameOption : {A : Type 0} → (A → Inks) → (A → A) → Option A → Type 0
SameOption ink plain x = Same (option_map ink) (option_map plain) x

option_same : {A : Type 0} (ink : A → Inks) (plain : A → A) (o : Option ((x : A) × Same ink plain x)) → SameOption ink plain (option_map (λ p. p.0) o)
option_same ink plain None = record { print = refl; again = refl }
option_same ink plain (Some p) = record { print = ap Some p.1.print; again = ap Some p.1.again }

chain_same : (first : Expr) (rest : List Link) → SameExpr first → SameList ink_of_link plain_link rest → SameExpr (e.Chain first rest)
chain_same first rest h k = record {
  print = rw (plain_of_chain first rest, of_chain (plain_expr first) (map plain_link rest), of_chain first rest, h.print, k.print) refl;
  again = rw (plain_of_chain first rest, plain_of_chain (plain_expr first) (map plain_link rest), h.again, k.again) refl;
}

unary_same : (ops : List UnOp) (part : Expr) → SameExpr part → SameExpr (e.Unary ops part)
unary_same ops part h = record {
  print = rw (plain_of_unary ops part, of_unary ops (plain_expr part), of_unary ops part, h.print) refl;
  again = rw (plain_of_unary ops part, plain_of_unary ops (plain_expr part), h.again) refl;
}

paren_same : (part : Expr) → SameExpr part → SameExpr (e.Paren part)
paren_same part h = record {
  print = rw (plain_of_paren part, of_paren (plain_expr part), of_paren part, h.print) refl;
  again = rw (plain_of_paren part, plain_of_paren (plain_expr part), h.again) refl;
}

call_same : (function : Function) (star : Bool) (parts : List Expr) → SameList ink_of_expr plain_expr parts → SameExpr (e.Call function star parts)
call_same function star parts h = record {
  print = rw (plain_of_call function star parts, of_call function false (map plain_expr parts), of_call function star parts, h.print) refl;
  again = rw (plain_of_call function star parts, plain_of_call function false (map plain_expr parts), h.again) refl;
}

convert_same : (kind : Kind) (part : Expr) → SameExpr part → SameExpr (e.Convert kind part)
convert_same kind part h = record {
  print = rw (plain_of_convert kind part, of_convert kind (plain_expr part), of_convert kind part, h.print) refl;
  again = rw (plain_of_convert kind part, plain_of_convert kind (plain_expr part), h.again) refl;
}

in_same : (part : Expr) (negated : Bool) (list : List Expr) → SameExpr part → SameList ink_of_expr plain_expr list → SameExpr (e.IsIn negated part list)
in_same part negated list h k = record {
  print = rw (plain_of_in part negated list, of_in (plain_expr part) negated (map plain_expr list), of_in part negated list, h.print, k.print) refl;
  again = rw (plain_of_in part negated list, plain_of_in (plain_expr part) negated (map plain_expr list), h.again, k.again) refl;
}

in_select_same : (part : Expr) (negated : Bool) (query : Select) → SameExpr part → SameSelect query → SameExpr (e.IsInSelect negated part query)
in_select_same part negated query h k = record {
  print = rw (plain_of_in_select part negated query, of_in_select (plain_expr part) negated (plain_select query), of_in_select part negated query, h.print, k.print) refl;
  again = rw (plain_of_in_select part negated query, plain_of_in_select (plain_expr part) negated (plain_select query), h.again, k.again) refl;
}

between_same : (part : Expr) (negated : Bool) (low high : Expr) → SameExpr part → SameExpr low → SameExpr high → SameExpr (e.IsBetween negated part low high)
between_same part negated low high h k l = record {
  print = rw (plain_of_between part negated low high, of_between (plain_expr part) negated (plain_expr low) (plain_expr high), of_between part negated low high, h.print, k.print, l.print) refl;
  again = rw (plain_of_between part negated low high, plain_of_between (plain_expr part) negated (plain_expr low) (plain_expr high), h.again, k.again, l.again) refl;
}

is_null_same : (part : Expr) (negated : Bool) → SameExpr part → SameExpr (e.IsNull negated part)
is_null_same part negated h = record {
  print = rw (plain_of_is_null part negated, of_is_null (plain_expr part) negated, of_is_null part negated, h.print) refl;
  again = rw (plain_of_is_null part negated, plain_of_is_null (plain_expr part) negated, h.again) refl;
}

-- a part that stays as it is
stays : (x : Expr) → plain_expr x ≡ x → SameExpr x
stays x h = record { print = ap ink_of_expr h; again = ap plain_expr h }

link_same : (op : BinOp) (part : Expr) → SameExpr part → SameLink (roll-Link (record { op = op; part = part }))
link_same op part h = record {
  print = rw (plain_of_link op part, of_link op (plain_expr part), of_link op part, h.print) refl;
  again = rw (plain_of_link op part, plain_of_link op (plain_expr part), h.again) refl;
}

field_same : (expr : Expr) (alias : Option (List ℕ)) → SameExpr expr → SameField (roll-Field (record { expr = expr; alias = alias }))
field_same expr alias h = record {
  print = rw (plain_of_field expr alias, of_field (plain_expr expr) alias, of_field expr alias, h.print) refl;
  again = rw (plain_of_field expr alias, plain_of_field (plain_expr expr) alias, h.again) refl;
}

set_same : (source : SetSource) (alias : Option (List ℕ)) → SameSource source → SameSet (roll-FromSet (record { source = source; alias = alias }))
set_same source alias h = record {
  print = rw (plain_of_set source alias, of_set (plain_source source) alias, of_set source alias, h.print) refl;
  again = rw (plain_of_set source alias, plain_of_set (plain_source source) alias, h.again) refl;
}

join_same : (side : Side) (set : FromSet) (on : Expr) → SameSet set → SameExpr on → SameJoin (roll-Join (record { side = side; set = set; on = on }))
join_same side set on h k = record {
  print = rw (plain_of_join side set on, of_join side (plain_set set) (plain_expr on), of_join side set on, h.print, k.print) refl;
  again = rw (plain_of_join side set on, plain_of_join side (plain_set set) (plain_expr on), h.again, k.again) refl;
}

query_same : (query : Select) → SameSelect query → SameSource (source.Query query)
query_same query h = record {
  print = rw (plain_of_query query, of_query (plain_select query), of_query query, h.print) refl;
  again = rw (plain_of_query query, plain_of_query (plain_select query), h.again) refl;
}

table_same : (table : List ℕ) → SameSource (source.Table table)
table_same table = record { print = ap ink_of_source (plain_of_table table); again = ap plain_source (plain_of_table table) }

-- a SELECT
record Parts (fields : List Field) (sets : List FromSet) (join : Option Join) (filter : Option Expr) (groups keys : List Expr) (limit offset : Option Expr) : Type 0 where
  for_fields : SameList ink_of_field plain_field fields
  for_sets : SameList ink_of_set plain_set sets
  for_join : SameOption ink_of_one_join plain_join join
  for_filter : SameOption ink_of_expr plain_expr filter
  for_groups : SameList ink_of_expr plain_expr groups
  for_keys : SameList ink_of_expr plain_expr keys
  for_limit : SameOption ink_of_expr plain_expr limit
  for_offset : SameOption ink_of_expr plain_expr offset

select_same : (distinct : Bool) (fields : List Field) (sets : List FromSet) (join : Option Join) (filter : Option Expr) (groups keys : List Expr) (descending : Bool) (limit offset : Option Expr) → Parts fields sets join filter groups keys limit offset →
    SameSelect (roll-Select (record { distinct = distinct; fields = fields; sets = sets; join = join; filter = filter; groups = groups; keys = keys; descending = descending; limit = limit; offset = offset }))
select_same distinct fields sets join filter groups keys descending limit offset h = record {
  print = rw (plain_of_select distinct fields sets join filter groups keys descending limit offset, of_select distinct (map plain_field fields) (map plain_set sets) (option_map plain_join join) (option_map plain_expr filter) (map plain_expr groups) (map plain_expr keys) descending (option_map plain_expr limit) (option_map plain_expr offset), of_select distinct fields sets join filter groups keys descending limit offset, h.for_fields.print, h.for_sets.print, h.for_join.print, h.for_filter.print, h.for_groups.print, h.for_keys.print, h.for_limit.print, h.for_offset.print) refl;
  again = rw (plain_of_select distinct fields sets join filter groups keys descending limit offset, plain_of_select distinct (map plain_field fields) (map plain_set sets) (option_map plain_join join) (option_map plain_expr filter) (map plain_expr groups) (map plain_expr keys) descending (option_map plain_expr limit) (option_map plain_expr offset), h.for_fields.again, h.for_sets.again, h.for_join.again, h.for_filter.again, h.for_groups.again, h.for_keys.again, h.for_limit.again, h.for_offset.again) refl;
}

abbrev KnownExpr : Type 0
KnownExpr = Known ink_of_expr plain_expr

abbrev KnownSource : Type 0
KnownSource = Known ink_of_source plain_source

abbrev KnownField : Type 0
KnownField = Known ink_of_field plain_field

abbrev KnownSet : Type 0
KnownSet = Known ink_of_set plain_set

abbrev KnownJoin : Type 0
KnownJoin = Known ink_of_one_join plain_join

abbrev KnownLink : Type 0
KnownLink = Known ink_of_link plain_link

abbrev KnownSelect : Type 0
KnownSelect = Known ink_of_select plain_select

-- a layer without what is known of its parts
abbrev bare : Expr-F KnownExpr KnownSource KnownField KnownSet KnownJoin KnownLink KnownSelect → Expr-F Expr SetSource Field FromSet Join Link Select
bare = map-Expr KnownExpr KnownSource KnownField KnownSet KnownJoin KnownLink KnownSelect Expr SetSource Field FromSet Join Link Select (λ p. p.0) (λ p. p.0) (λ p. p.0) (λ p. p.0) (λ p. p.0) (λ p. p.0) (λ p. p.0)

abbrev bare_source : SetSource-F KnownExpr KnownSource KnownField KnownSet KnownJoin KnownLink KnownSelect → SetSource-F Expr SetSource Field FromSet Join Link Select
bare_source = map-SetSource KnownExpr KnownSource KnownField KnownSet KnownJoin KnownLink KnownSelect Expr SetSource Field FromSet Join Link Select (λ p. p.0) (λ p. p.0) (λ p. p.0) (λ p. p.0) (λ p. p.0) (λ p. p.0) (λ p. p.0)

abbrev bare_select : Select-F KnownExpr KnownSource KnownField KnownSet KnownJoin KnownLink KnownSelect → Select-F Expr SetSource Field FromSet Join Link Select
bare_select = map-Select KnownExpr KnownSource KnownField KnownSet KnownJoin KnownLink KnownSelect Expr SetSource Field FromSet Join Link Select (λ p. p.0) (λ p. p.0) (λ p. p.0) (λ p. p.0) (λ p. p.0) (λ p. p.0) (λ p. p.0)

-- one expression
layer : (y : Expr-F KnownExpr KnownSource KnownField KnownSet KnownJoin KnownLink KnownSelect) → SameExpr (roll-Expr (bare y))
layer (Expr-F.Chain first rest) = subst SameExpr (sym (e.rolls-Chain first.0 (map (λ p. p.0) rest))) (chain_same first.0 (map (λ p. p.0) rest) first.1 (list_same ink_of_link plain_link rest))
layer (Expr-F.Unary ops part) = subst SameExpr (sym (e.rolls-Unary ops part.0)) (unary_same ops part.0 part.1)
layer (Expr-F.Number n) = subst SameExpr (sym (e.rolls-Number n)) (stays (e.Number n) (plain_of_number n))
layer (Expr-F.Text bytes) = subst SameExpr (sym (e.rolls-Text bytes)) (stays (e.Text bytes) (plain_of_text bytes))
layer (Expr-F.Truth truth) = subst SameExpr (sym (e.rolls-Truth truth)) (stays (e.Truth truth) (plain_of_truth truth))
layer Expr-F.Null = subst SameExpr (sym e.rolls-Null) (stays e.Null plain_of_null)
layer (Expr-F.Column table column) = subst SameExpr (sym (e.rolls-Column table column)) (stays (e.Column table column) (plain_of_column table column))
layer (Expr-F.Paren part) = subst SameExpr (sym (e.rolls-Paren part.0)) (paren_same part.0 part.1)
layer (Expr-F.Call function star parts) = subst SameExpr (sym (e.rolls-Call function star (map (λ p. p.0) parts))) (call_same function star (map (λ p. p.0) parts) (list_same ink_of_expr plain_expr parts))
layer (Expr-F.Convert kind part) = subst SameExpr (sym (e.rolls-Convert kind part.0)) (convert_same kind part.0 part.1)
layer (Expr-F.IsIn negated part list) = subst SameExpr (sym (e.rolls-IsIn negated part.0 (map (λ p. p.0) list))) (in_same part.0 negated (map (λ p. p.0) list) part.1 (list_same ink_of_expr plain_expr list))
layer (Expr-F.IsInSelect negated part query) = subst SameExpr (sym (e.rolls-IsInSelect negated part.0 query.0)) (in_select_same part.0 negated query.0 part.1 query.1)
layer (Expr-F.IsBetween negated part low high) = subst SameExpr (sym (e.rolls-IsBetween negated part.0 low.0 high.0)) (between_same part.0 negated low.0 high.0 part.1 low.1 high.1)
layer (Expr-F.IsNull negated part) = subst SameExpr (sym (e.rolls-IsNull negated part.0)) (is_null_same part.0 negated part.1)

source_layer : (y : SetSource-F KnownExpr KnownSource KnownField KnownSet KnownJoin KnownLink KnownSelect) → SameSource (roll-SetSource (bare_source y))
source_layer (SetSource-F.Table table) = subst SameSource (sym (source.rolls-Table table)) (table_same table)
source_layer (SetSource-F.Query query) = subst SameSource (sym (source.rolls-Query query.0)) (query_same query.0 query.1)

select_known : (distinct : Bool) (fields : List KnownField) (sets : List KnownSet) (join : Option KnownJoin) (filter : Option KnownExpr) (groups keys : List KnownExpr) (descending : Bool) (limit offset : Option KnownExpr) →
    SameSelect (roll-Select (record {
      distinct = distinct;
      fields = map (λ p. p.0) fields;
      sets = map (λ p. p.0) sets;
      join = option_map (λ p. p.0) join;
      filter = option_map (λ p. p.0) filter;
      groups = map (λ p. p.0) groups;
      keys = map (λ p. p.0) keys;
      descending = descending;
      limit = option_map (λ p. p.0) limit;
      offset = option_map (λ p. p.0) offset;
    }))
select_known distinct fields sets join filter groups keys descending limit offset =
    select_same distinct _ _ _ _ _ _ descending _ _ (record {
      for_fields = list_same ink_of_field plain_field fields;
      for_sets = list_same ink_of_set plain_set sets;
      for_join = option_same ink_of_one_join plain_join join;
      for_filter = option_same ink_of_expr plain_expr filter;
      for_groups = list_same ink_of_expr plain_expr groups;
      for_keys = list_same ink_of_expr plain_expr keys;
      for_limit = option_same ink_of_expr plain_expr limit;
      for_offset = option_same ink_of_expr plain_expr offset;
    })

select_layer : (distinct : Bool) (fields : List KnownField) (sets : List KnownSet) (join : Option KnownJoin) (filter : Option KnownExpr) (groups keys : List KnownExpr) (descending : Bool) (limit offset : Option KnownExpr) →
    SameSelect (roll-Select (bare_select (record { distinct = distinct; fields = fields; sets = sets; join = join; filter = filter; groups = groups; keys = keys; descending = descending; limit = limit; offset = offset })))
select_layer distinct fields sets None None groups keys descending None None = select_known distinct fields sets None None groups keys descending None None
select_layer distinct fields sets None None groups keys descending None (Some offset) = select_known distinct fields sets None None groups keys descending None (Some offset)
select_layer distinct fields sets None None groups keys descending (Some limit) None = select_known distinct fields sets None None groups keys descending (Some limit) None
select_layer distinct fields sets None None groups keys descending (Some limit) (Some offset) = select_known distinct fields sets None None groups keys descending (Some limit) (Some offset)
select_layer distinct fields sets None (Some filter) groups keys descending None None = select_known distinct fields sets None (Some filter) groups keys descending None None
select_layer distinct fields sets None (Some filter) groups keys descending None (Some offset) = select_known distinct fields sets None (Some filter) groups keys descending None (Some offset)
select_layer distinct fields sets None (Some filter) groups keys descending (Some limit) None = select_known distinct fields sets None (Some filter) groups keys descending (Some limit) None
select_layer distinct fields sets None (Some filter) groups keys descending (Some limit) (Some offset) = select_known distinct fields sets None (Some filter) groups keys descending (Some limit) (Some offset)
select_layer distinct fields sets (Some join) None groups keys descending None None = select_known distinct fields sets (Some join) None groups keys descending None None
select_layer distinct fields sets (Some join) None groups keys descending None (Some offset) = select_known distinct fields sets (Some join) None groups keys descending None (Some offset)
select_layer distinct fields sets (Some join) None groups keys descending (Some limit) None = select_known distinct fields sets (Some join) None groups keys descending (Some limit) None
select_layer distinct fields sets (Some join) None groups keys descending (Some limit) (Some offset) = select_known distinct fields sets (Some join) None groups keys descending (Some limit) (Some offset)
select_layer distinct fields sets (Some join) (Some filter) groups keys descending None None = select_known distinct fields sets (Some join) (Some filter) groups keys descending None None
select_layer distinct fields sets (Some join) (Some filter) groups keys descending None (Some offset) = select_known distinct fields sets (Some join) (Some filter) groups keys descending None (Some offset)
select_layer distinct fields sets (Some join) (Some filter) groups keys descending (Some limit) None = select_known distinct fields sets (Some join) (Some filter) groups keys descending (Some limit) None
select_layer distinct fields sets (Some join) (Some filter) groups keys descending (Some limit) (Some offset) = select_known distinct fields sets (Some join) (Some filter) groups keys descending (Some limit) (Some offset)

pub plain_expr_same : (x : Expr) → SameExpr x
plain_expr_same = ind-Expr SameExpr SameSource SameField SameSet SameJoin SameLink SameSelect
    (λ x y is. subst (λ z. SameExpr (roll-Expr z)) is (layer y))
    (λ x y is. subst (λ z. SameSource (roll-SetSource z)) is (source_layer y))
    (λ x y is. subst (λ z. SameField (roll-Field z)) is (field_same _ y.alias y.expr.1))
    (λ x y is. subst (λ z. SameSet (roll-FromSet z)) is (set_same _ y.alias y.source.1))
    (λ x y is. subst (λ z. SameJoin (roll-Join z)) is (join_same y.side _ _ y.set.1 y.on.1))
    (λ x y is. subst (λ z. SameLink (roll-Link z)) is (link_same y.op _ y.part.1))
    (λ x y is. subst (λ z. SameSelect (roll-Select z)) is (select_layer y.distinct y.fields y.sets y.join y.filter y.groups y.keys y.descending y.limit y.offset))

pub plain_select_same : (x : Select) → SameSelect x
plain_select_same = ind-Select SameExpr SameSource SameField SameSet SameJoin SameLink SameSelect
    (λ x y is. subst (λ z. SameExpr (roll-Expr z)) is (layer y))
    (λ x y is. subst (λ z. SameSource (roll-SetSource z)) is (source_layer y))
    (λ x y is. subst (λ z. SameField (roll-Field z)) is (field_same _ y.alias y.expr.1))
    (λ x y is. subst (λ z. SameSet (roll-FromSet z)) is (set_same _ y.alias y.source.1))
    (λ x y is. subst (λ z. SameJoin (roll-Join z)) is (join_same y.side _ _ y.set.1 y.on.1))
    (λ x y is. subst (λ z. SameLink (roll-Link z)) is (link_same y.op _ y.part.1))
    (λ x y is. subst (λ z. SameSelect (roll-Select z)) is (select_layer y.distinct y.fields y.sets y.join y.filter y.groups y.keys y.descending y.limit y.offset))
