-- A printed SELECT is sound where its parts are.
use Rattle.std.proofs.Common.{ℕ, Bool, true, false, List, [], ◌∷◌, ◌++◌, Option, Some, None, map, refl}
use Rattle.std.specs.Prelude.{option_map}
use Rattle.ql_lex.specs.declared.marks.Mark.TheVariants as m
use Rattle.ql_lex.specs.declared.words.Word.TheVariants as w
use Rattle.ql_lex.specs.Tokens.{IsName}
use Rattle.ql_syntax.specs.declared.syntax.Expr.{Expr}
use Rattle.ql_syntax.specs.declared.syntax.Field.{Field, roll-Field}
use Rattle.ql_syntax.specs.declared.syntax.FromSet.{FromSet, roll-FromSet}
use Rattle.ql_syntax.specs.declared.syntax.Join.{Join, roll-Join}
use Rattle.ql_syntax.specs.declared.syntax.Select.{Select, roll-Select}
use Rattle.ql_syntax.specs.declared.syntax.SetSource.{SetSource}
use Rattle.ql_syntax.specs.declared.syntax.SetSource.TheVariants as source
use Rattle.ql_syntax.specs.declared.syntax.Side.{Side}
use Rattle.ql_syntax.specs.declared.syntax.Side.TheVariants as side
use Rattle.ql_syntax.specs.Ink.{space, text_of, mark, keyword, name, listed}
use Rattle.ql_syntax.specs.Printing.{Inks, behind, word_of_side, ink_of_alias, ink_of_fields, ink_of_sets, ink_of_join, ink_of_groups, ink_of_direction, ink_of_keys, ink_of_distinct, ink_of_expr, ink_of_select, ink_of_field, ink_of_source, ink_of_set, ink_of_one_join}
use Rattle.ql_syntax.proofs.PrintingEquations.{of_table, of_query, of_field, of_set, of_join, of_select}
use Rattle.ql_print.proofs.LexedInk.{Lexed, blank, token}
use Rattle.ql_print.proofs.CutLemmas.{star_cut}
use Rattle.ql_print.proofs.SoundInk.{IsSound, IsLater, AreSound, sound_part, later_none, sound_then, later_then, keyword_lexed, name_lexed, bracketed_part, listed_sound}
use Rattle.ql_print.proofs.SoundParts.{behind_later}

-- the name behind AS, if there is one, is a name
abbrev pub IsAlias : Option (List ℕ) → Type 0
IsAlias None = Unit {0}
IsAlias (Some alias) = IsName alias

-- an expression that may be left out is sound
abbrev pub IsSoundOption : Option Expr → Type 0
IsSoundOption None = Unit {0}
IsSoundOption (Some expr) = IsSound (ink_of_expr expr)

-- a join that may be left out is sound
abbrev pub IsLaterJoin : Option Join → Type 0
IsLaterJoin None = Unit {0}
IsLaterJoin (Some join) = IsLater (ink_of_one_join join)

pub name_sound : (bytes : List ℕ) → IsName bytes → IsSound (name bytes ∷ [])
name_sound bytes n = record { goes = λ tail e l. name_lexed bytes tail n e l }

alias_later : (alias : Option (List ℕ)) → IsAlias alias → IsLater (ink_of_alias alias)
alias_later None h = later_none
alias_later (Some alias) h = behind_later w.As (name alias ∷ []) refl refl (name_sound alias h)

pub field_sound : (expr : Expr) (alias : Option (List ℕ)) → IsSound (ink_of_expr expr) → IsAlias alias → IsSound (ink_of_field (roll-Field (record { expr = expr; alias = alias })))
field_sound expr alias h a = rw (of_field expr alias) (sound_then (ink_of_expr expr) (ink_of_alias alias) h (alias_later alias a))

pub table_sound : (table : List ℕ) → IsName table → IsSound (ink_of_source (source.Table table))
table_sound table n = rw (of_table table) (name_sound table n)

pub query_sound : (query : Select) → IsSound (ink_of_select query) → IsSound (ink_of_source (source.Query query))
query_sound query h = rw (of_query query) (sound_part (bracketed_part (ink_of_select query) h))

pub set_sound : (from : SetSource) (alias : Option (List ℕ)) → IsSound (ink_of_source from) → IsAlias alias → IsSound (ink_of_set (roll-FromSet (record { source = from; alias = alias })))
set_sound from alias h a = rw (of_set from alias) (sound_then (ink_of_source from) (ink_of_alias alias) h (alias_later alias a))

side_lexed : (which : Side) (inks : Inks) → Lexed inks → Lexed (keyword (word_of_side which) ∷ space ∷ inks)
side_lexed side.Left inks l = keyword_lexed w.Left (space ∷ inks) refl refl refl (blank l)
side_lexed side.Right inks l = keyword_lexed w.Right (space ∷ inks) refl refl refl (blank l)
side_lexed side.Full inks l = keyword_lexed w.Full (space ∷ inks) refl refl refl (blank l)

pub join_later : (which : Side) (set : FromSet) (on : Expr) → IsSound (ink_of_set set) → IsSound (ink_of_expr on) → IsLater (ink_of_one_join (roll-Join (record { side = which; set = set; on = on })))
join_later which set on h k =
    let both = sound_then (ink_of_set set) (space ∷ keyword w.On ∷ space ∷ ink_of_expr on) h (behind_later w.On (ink_of_expr on) refl refl k) in
    let inner : Inks = ink_of_set set ++ (space ∷ keyword w.On ∷ space ∷ ink_of_expr on) in
    rw (of_join which set on) (record {
      goes = λ tail e l.
          blank (side_lexed which (keyword w.Outer ∷ space ∷ keyword w.Join ∷ space ∷ inner ++ tail)
          (keyword_lexed w.Outer (space ∷ keyword w.Join ∷ space ∷ inner ++ tail) refl refl refl (blank (keyword_lexed w.Join (space ∷ inner ++ tail) refl refl refl (blank (both.goes tail e l))))));
      apart = λ tail e. refl;
    })

star_sound : IsSound (mark m.Star ∷ [])
star_sound = record { goes = λ tail e l. token (star_cut (text_of tail)) l }

fields_sound : (fields : List Inks) → AreSound fields → IsSound (ink_of_fields fields)
fields_sound [] h = star_sound
fields_sound (x ∷ xs) h = listed_sound (x ∷ xs) h

sets_later : (sets : List Inks) → AreSound sets → IsLater (ink_of_sets sets)
sets_later [] h = later_none
sets_later (x ∷ xs) h = behind_later w.From (listed (x ∷ xs)) refl refl (listed_sound (x ∷ xs) h)

join_there : (join : Option Join) → IsLaterJoin join → IsLater (ink_of_join (option_map ink_of_one_join join))
join_there None h = later_none
join_there (Some join) h = h

by_sound : (xs : List Inks) → AreSound xs → IsSound (keyword w.By ∷ space ∷ listed xs)
by_sound xs h = record { goes = λ tail e l. keyword_lexed w.By (space ∷ listed xs ++ tail) refl refl refl (blank ((listed_sound xs h).goes tail e l)) }

groups_later : (xs : List Inks) → AreSound xs → IsLater (ink_of_groups xs)
groups_later [] h = later_none
groups_later (x ∷ xs) h = behind_later w.Group (keyword w.By ∷ space ∷ listed (x ∷ xs)) refl refl (by_sound (x ∷ xs) h)

direction_later : (descending : Bool) → IsLater (ink_of_direction descending)
direction_later true = record { goes = λ tail e l. blank (keyword_lexed w.Desc tail refl refl e l); apart = λ tail e. refl }
direction_later false = later_none

keys_later : (xs : List Inks) (descending : Bool) → AreSound xs → IsLater (ink_of_keys xs descending)
keys_later [] descending h = later_none
keys_later (x ∷ xs) descending h =
    later_then (space ∷ keyword w.Order ∷ space ∷ keyword w.By ∷ space ∷ listed (x ∷ xs)) (ink_of_direction descending)
    (behind_later w.Order (keyword w.By ∷ space ∷ listed (x ∷ xs)) refl refl (by_sound (x ∷ xs) h)) (direction_later descending)

where_later : (x : Option Expr) → IsSoundOption x → IsLater (behind w.Where (option_map ink_of_expr x))
where_later None h = later_none
where_later (Some x) h = behind_later w.Where (ink_of_expr x) refl refl h

limit_later : (x : Option Expr) → IsSoundOption x → IsLater (behind w.Limit (option_map ink_of_expr x))
limit_later None h = later_none
limit_later (Some x) h = behind_later w.Limit (ink_of_expr x) refl refl h

offset_later : (x : Option Expr) → IsSoundOption x → IsLater (behind w.Offset (option_map ink_of_expr x))
offset_later None h = later_none
offset_later (Some x) h = behind_later w.Offset (ink_of_expr x) refl refl h

begins_select : (distinct : Bool) (x : Inks) → IsSound x → IsSound ((keyword w.Select ∷ space ∷ ink_of_distinct distinct) ++ x)
begins_select false x h = record { goes = λ tail e l. keyword_lexed w.Select (space ∷ x ++ tail) refl refl refl (blank (h.goes tail e l)) }
begins_select true x h = record {
  goes = λ tail e l.
      keyword_lexed w.Select (space ∷ keyword w.Distinct ∷ space ∷ x ++ tail) refl refl refl (blank (keyword_lexed w.Distinct (space ∷ x ++ tail) refl refl refl (blank (h.goes tail e l))));
}

-- what a SELECT needs of its parts
pub record SelectParts (fields : List Field) (sets : List FromSet) (join : Option Join) (filter : Option Expr) (groups keys : List Expr) (limit offset : Option Expr) : Type 0 where
  pub for_fields : AreSound (map ink_of_field fields)
  pub for_sets : AreSound (map ink_of_set sets)
  pub for_join : IsLaterJoin join
  pub for_filter : IsSoundOption filter
  pub for_groups : AreSound (map ink_of_expr groups)
  pub for_keys : AreSound (map ink_of_expr keys)
  pub for_limit : IsSoundOption limit
  pub for_offset : IsSoundOption offset

pub select_sound : (distinct : Bool) (fields : List Field) (sets : List FromSet) (join : Option Join) (filter : Option Expr) (groups keys : List Expr) (descending : Bool) (limit offset : Option Expr)
    → SelectParts fields sets join filter groups keys limit offset
    → IsSound (ink_of_select (roll-Select (record { distinct = distinct; fields = fields; sets = sets; join = join; filter = filter; groups = groups; keys = keys; descending = descending; limit = limit; offset = offset })))
select_sound distinct fields sets join filter groups keys descending limit offset h =
    let by_keys = ink_of_keys (map ink_of_expr keys) descending in
    let at_limit = behind w.Limit (option_map ink_of_expr limit) in
    let at_offset = behind w.Offset (option_map ink_of_expr offset) in
    let k8 = later_then at_limit at_offset (limit_later limit h.for_limit) (offset_later offset h.for_offset) in
    let k7 = later_then by_keys (at_limit ++ at_offset) (keys_later (map ink_of_expr keys) descending h.for_keys) k8 in
    let by_groups = ink_of_groups (map ink_of_expr groups) in
    let k6 = later_then by_groups (by_keys ++ (at_limit ++ at_offset)) (groups_later (map ink_of_expr groups) h.for_groups) k7 in
    let at_filter = behind w.Where (option_map ink_of_expr filter) in
    let k5 = later_then at_filter (by_groups ++ (by_keys ++ (at_limit ++ at_offset))) (where_later filter h.for_filter) k6 in
    let at_join = ink_of_join (option_map ink_of_one_join join) in
    let k4 = later_then at_join (at_filter ++ (by_groups ++ (by_keys ++ (at_limit ++ at_offset)))) (join_there join h.for_join) k5 in
    let at_sets = ink_of_sets (map ink_of_set sets) in
    let k3 = later_then at_sets (at_join ++ (at_filter ++ (by_groups ++ (by_keys ++ (at_limit ++ at_offset))))) (sets_later (map ink_of_set sets) h.for_sets) k4 in
    let shown = ink_of_fields (map ink_of_field fields) in
    let k2 = sound_then shown (at_sets ++ (at_join ++ (at_filter ++ (by_groups ++ (by_keys ++ (at_limit ++ at_offset)))))) (fields_sound (map ink_of_field fields) h.for_fields) k3 in
    rw (of_select distinct fields sets join filter groups keys descending limit offset)
    (begins_select distinct (shown ++ (at_sets ++ (at_join ++ (at_filter ++ (by_groups ++ (by_keys ++ (at_limit ++ at_offset))))))) k2)
