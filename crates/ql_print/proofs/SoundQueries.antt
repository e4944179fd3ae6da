-- Printed SELECTs, where what stands in brackets is sound; and so every expression and every SELECT.
use Rattle.std.proofs.Common.{ℕ, zero, suc, map}
use Rattle.ql_lex.specs.declared.marks.Mark.TheVariants as m
use Rattle.ql_lex.specs.declared.words.Word.TheVariants as w
use Rattle.ql_syntax.specs.Rules.{Rule, ◌then◌, ◌or◌, the, token, many, maybe, further, list, word, mark, expr, term, factor, sum, product, unary, primary, predicate, ref, select, set}
use Rattle.ql_syntax.specs.Rules as rule
use Rattle.ql_syntax.specs.Readings.{Parse}
use Rattle.ql_syntax.specs.Trees.{alias_of, is_present, is_descending, side_of, expr_of, exprs_of, option_of, behind_by, fields_of, source_of, set_of, sets_in, sets_of, join_of, select_of}
use Rattle.ql_syntax.specs.Printing.{ink_of_expr, ink_of_select, ink_of_field, ink_of_source, ink_of_set}
use Rattle.ql_print.proofs.Fits.{Fits, is_name, is_worth}
use Rattle.ql_print.proofs.Fits as f
use Rattle.ql_print.proofs.SoundInk.{IsSound, AreSound, sound_part, none, one}
use Rattle.ql_print.proofs.SoundSelects.{IsAlias, IsSoundOption, IsLaterJoin, field_sound, table_sound, query_sound, set_sound, join_later, select_sound}
use Rattle.ql_print.proofs.SoundPrimaries.{ExprsSound, SelectsSound, Inner, ref_part, further_sound}
use Rattle.ql_print.proofs.SoundLevels.{expr_sound}

-- the name behind AS
alias_named : {n : ℕ} {a : Parse} → Fits n (maybe (word w.As then rule.name)) a → IsAlias (alias_of a)
alias_named f.left_out = tt
alias_named (f.entered (f.both h (f.takes {t = t} e s))) = is_name t e s

further_refs : {n : ℕ} {a : Parse} → Fits n (further (the ref)) a → AreSound (map ink_of_expr (exprs_of a))
further_refs f.no_more = none
further_refs (f.member h k) = one (sound_part (ref_part h)) (further_refs k)

-- the columns of GROUP BY
groups_sound : {n : ℕ} {a : Parse} → Fits n (maybe (word w.Group then word w.By then list (the ref))) a → AreSound (map ink_of_expr (behind_by a))
groups_sound f.left_out = none
groups_sound (f.entered (f.both h (f.both i (f.both (f.by_rule j) k)))) = one (sound_part (ref_part (f.by_rule j))) (further_refs k)

further_fields : {n : ℕ} {a : Parse} → ExprsSound n → Fits n (further (the expr then maybe (word w.As then rule.name))) a → AreSound (map ink_of_field (fields_of a))
further_fields exprs f.no_more = none
further_fields exprs (f.member (f.both {a = a} {b = b} h n) k) = one (field_sound (expr_of a) (alias_of b) (exprs.sound h) (alias_named n)) (further_fields exprs k)

fields_there : {n : ℕ} {a : Parse} → ExprsSound n → Fits n (mark m.Star or list (the expr then maybe (word w.As then rule.name))) a → AreSound (map ink_of_field (fields_of a))
fields_there exprs (f.first (f.takes e s)) = none
fields_there exprs (f.second (f.both (f.both {a = a} {b = b} h n) k)) = one (field_sound (expr_of a) (alias_of b) (exprs.sound h) (alias_named n)) (further_fields exprs k)

-- WHERE
pub where_there : {n : ℕ} {a : Parse} → ExprsSound n → Fits n (maybe rule.filter) a → IsSoundOption (option_of a)
where_there exprs f.left_out = tt
where_there exprs (f.entered (f.both h k)) = exprs.sound k

limit_there : {n : ℕ} {a : Parse} → ExprsSound n → Fits n (maybe (word w.Limit then the expr)) a → IsSoundOption (option_of a)
limit_there exprs f.left_out = tt
limit_there exprs (f.entered (f.both h k)) = exprs.sound k

offset_there : {n : ℕ} {a : Parse} → ExprsSound n → Fits n (maybe (word w.Offset then the expr)) a → IsSoundOption (option_of a)
offset_there exprs f.left_out = tt
offset_there exprs (f.entered (f.both h k)) = exprs.sound k

keys_there : {n : ℕ} {a : Parse} → ExprsSound n → Fits n (maybe (word w.Order then word w.By then list (the expr) then maybe (word w.Asc or word w.Desc))) a → AreSound (map ink_of_expr (behind_by a))
keys_there exprs f.left_out = none
keys_there exprs (f.entered (f.both h (f.both i (f.both (f.both j k) l)))) = one (exprs.sound j) (further_sound exprs k)

source_there : {n : ℕ} {a : Parse} → Inner n → Fits n (rule.name or rule.bracketed rule.subselect) a → IsSound (ink_of_source (source_of a))
source_there inner (f.first (f.takes {t = t} e s)) = table_sound t.text (is_name t e s)
source_there inner (f.second (f.enclosed (f.both {a = q} h k))) = query_sound (select_of q) (inner.1.sound h)

one_set : {n : ℕ} {a : Parse} → Inner n → Fits n (the set) a → IsSound (ink_of_set (set_of a))
one_set inner (f.by_rule (f.both {a = a} {b = b} h n)) = set_sound (source_of a) (alias_of b) (source_there inner h) (alias_named n)

further_sets : {n : ℕ} {a : Parse} → Inner n → Fits n (further (the set)) a → AreSound (map ink_of_set (sets_in a))
further_sets inner f.no_more = none
further_sets inner (f.member h k) = one (one_set inner h) (further_sets inner k)

sets_there : {n : ℕ} {a : Parse} → Inner n → Fits n (maybe (word w.From then list (the set) then maybe rule.join)) a → AreSound (map ink_of_set (sets_of a))
sets_there inner f.left_out = none
sets_there inner (f.entered (f.both h (f.both (f.both i k) j))) = one (one_set inner i) (further_sets inner k)

join_there : {n : ℕ} {a : Parse} → Inner n → ExprsSound n → Fits n (maybe (word w.From then list (the set) then maybe rule.join)) a → IsLaterJoin (join_of a)
join_there inner exprs f.left_out = tt
join_there inner exprs (f.entered (f.both h (f.both i f.left_out))) = tt
join_there inner exprs (f.entered (f.both h (f.both i (f.entered (f.both {a = d} j (f.both k (f.both l (f.both {a = b} o (f.both {b = on} p q))))))))) =
    join_later (side_of d) (set_of b) (expr_of on) (one_set inner o) (exprs.sound q)

select_there : {n : ℕ} {a : Parse} → Inner n → ExprsSound n → Fits n (the select) a → IsSound (ink_of_select (select_of a))
select_there inner exprs (f.by_rule (f.both s (f.both {a = d} h (f.both {a = shown} i (f.both {a = from} j (f.both {a = filter} k (f.both {a = groups} l (f.both {a = order} o (f.both {a = limit} {b = offset} p q))))))))) =
    select_sound (is_present d) (fields_of shown) (sets_of from) (join_of from) (option_of filter) (behind_by groups) (behind_by order) (is_descending order) (option_of limit) (option_of offset)
    (record {
      for_fields = fields_there exprs i;
      for_sets = sets_there inner j;
      for_join = join_there inner exprs j;
      for_filter = where_there exprs k;
      for_groups = groups_sound l;
      for_keys = keys_there exprs o;
      for_limit = limit_there exprs p;
      for_offset = offset_there exprs q;
    })

outer : (n : ℕ) → Inner n → ExprsSound n × SelectsSound n
outer n inner = let exprs : ExprsSound n = record { sound = expr_sound inner } in (exprs, record { sound = select_there inner exprs })

inner_sound : (n : ℕ) → Inner n
inner_sound zero = tt
inner_sound (suc n) = outer n (inner_sound n)

-- every expression is sound
pub exprs_sound : (n : ℕ) → ExprsSound n
exprs_sound n = (outer n (inner_sound n)).0

-- every SELECT is sound
pub selects_sound : (n : ℕ) → SelectsSound n
selects_sound n = (outer n (inner_sound n)).1
