-- The printed parts of a SELECT are read again.
use Rattle.std.proofs.Common.{◌≡◌, ℕ, suc, Bool, true, false, List, [], ◌∷◌, Option, Some, None, refl, ap}
use Rattle.std.specs.Prelude.{map, option_map}
use Rattle.ql_lex.specs.declared.marks.Mark.TheVariants as m
use Rattle.ql_lex.specs.declared.words.Word.{Word}
use Rattle.ql_lex.specs.declared.words.Word.TheVariants as w
use Rattle.ql_syntax.specs.declared.syntax.Expr.{Expr}
use Rattle.ql_syntax.specs.declared.syntax.Field.{Field, roll-Field}
use Rattle.ql_syntax.specs.declared.syntax.FromSet.{FromSet, roll-FromSet}
use Rattle.ql_syntax.specs.declared.syntax.Join.{Join, roll-Join}
use Rattle.ql_syntax.specs.declared.syntax.Select.{Select, roll-Select}
use Rattle.ql_syntax.specs.declared.syntax.SetSource.TheVariants as source
use Rattle.ql_syntax.specs.declared.syntax.Side.{Side}
use Rattle.ql_syntax.specs.declared.syntax.Side.TheVariants as side
use Rattle.ql_syntax.specs.Lexemes.{Lexeme, is_word, is_comma, sees}
use Rattle.ql_syntax.specs.Printing.{word_of_side}
use Rattle.ql_syntax.specs.Rules.{Rule, ◌then◌, ◌or◌, maybe, list, join, mark, word, name, the, enters, select, set, ref, expr}
use Rattle.ql_syntax.specs.Readings.{Parse, Reads, leaf, pair, left, right, absent, present, stop, cell, group, node}
use Rattle.ql_syntax.specs.Readings as r
use Rattle.ql_syntax.specs.Trees.{alias_of, field_of, fields_of, set_of, sets_in, sets_of, join_of, side_of, option_of, behind_by, is_present, is_descending}
use Rattle.ql_syntax.specs.ReadsBack.{plain_expr, plain_field, plain_set, plain_join}
use Rattle.ql_print.proofs.PlainEquations.{plain_of_table, plain_of_query, plain_of_field, plain_of_set, plain_of_join, plain_of_select}
use Rattle.ql_print.proofs.BackTokens.{mark_token, word_token, name_token, expr_before, field_before, set_before, listed_before, alias_before, behind_before, distinct_before, fields_before, sets_before, some_join_before, groups_before, direction_before, keys_before}
use Rattle.ql_print.proofs.BackForms.{before_table, before_query, before_field, before_set, before_join}
use Rattle.ql_print.proofs.BackSelectForm.{before_select}
use Rattle.ql_print.proofs.BackParts.{Back, Avoids, avoids_first, avoids_rest, after_expr}
use Rattle.ql_print.proofs.BackLists.{BackItem, BackMore, BackList, BackExprList, expr_begins, expr_no_star, expr_no_distinct}
use Rattle.ql_print.proofs.BackTests.{BackSelect}

-- what goes on with a field or a record set
abbrev pub after_named : List (Lexeme → Bool)
after_named = is_word w.As ∷ after_expr

-- what goes on with what a SELECT shows, and with its record sets
abbrev pub after_shown : List (Lexeme → Bool)
after_shown = is_comma ∷ after_named

-- what goes on with FROM
abbrev pub after_from : List (Lexeme → Bool)
after_from = is_word w.From ∷ is_word w.Left ∷ is_word w.Right ∷ is_word w.Full ∷ after_shown

-- what goes on with WHERE
abbrev pub after_filter : List (Lexeme → Bool)
after_filter = is_word w.Where ∷ after_from

-- what goes on with GROUP BY
abbrev pub after_groups : List (Lexeme → Bool)
after_groups = is_word w.Group ∷ after_filter

-- what goes on with ORDER BY
abbrev pub after_keys : List (Lexeme → Bool)
after_keys = is_word w.Order ∷ is_word w.Asc ∷ is_word w.Desc ∷ after_groups

-- what goes on with LIMIT
abbrev pub after_limit : List (Lexeme → Bool)
after_limit = is_word w.Limit ∷ after_keys

-- what goes on with a SELECT
abbrev pub after_select : List (Lexeme → Bool)
after_select = is_word w.Offset ∷ after_limit

pub shown_in_from : {ts : List Lexeme} → Avoids after_from ts → Avoids after_shown ts
shown_in_from h = avoids_rest (avoids_rest (avoids_rest (avoids_rest h)))

pub shown_in_keys : {ts : List Lexeme} → Avoids after_keys ts → Avoids after_shown ts
shown_in_keys h = shown_in_from (avoids_rest (avoids_rest (avoids_rest (avoids_rest (avoids_rest h)))))

pub expr_in_shown : {ts : List Lexeme} → Avoids after_shown ts → Avoids after_expr ts
expr_in_shown h = avoids_rest (avoids_rest h)

pub avoids_both : {test : Lexeme → Bool} {tests : List (Lexeme → Bool)} {ts : List Lexeme} → sees test ts ≡ false → Avoids tests ts → Avoids (test ∷ tests) ts
avoids_both f h = record { none = rw (f, h.none) refl }

pub comma_in_shown : {ts : List Lexeme} → Avoids after_shown ts → Avoids (is_comma ∷ after_expr) ts
comma_in_shown h = avoids_both (avoids_first h) (expr_in_shown h)

-- a keyword and the expression behind it
pub record BackOption (n : ℕ) (keyword : Word) (part : Option Expr) (rest : List Lexeme) : Type 0 where
  pub parse : Parse
  pub reads : Reads n (maybe (word keyword then the expr)) (behind_before keyword part rest) parse rest
  pub tree : option_of parse ≡ option_map plain_expr part

pub no_option : {n : ℕ} {keyword : Word} {rest : List Lexeme} → sees (is_word keyword) rest ≡ false → BackOption n keyword None rest
no_option h = record { parse = absent; reads = r.left_out h; tree = refl }

pub some_option : {n : ℕ} (keyword : Word) {x : Expr} {rest : List Lexeme} → is_word keyword (word_token keyword) ≡ true → Back n expr x rest → BackOption n keyword (Some x) rest
some_option keyword h b = record {
  parse = present (pair (leaf (word_token keyword)) b.parse);
  reads = r.entered h (r.both (r.takes h) b.reads);
  tree = ap Some b.tree;
}

part_after : (keyword : Word) {test : Lexeme → Bool} {tests : List (Lexeme → Bool)} {rest : List Lexeme} (part : Option Expr) →
    Avoids (test ∷ tests) rest → ((ts : List Lexeme) → Avoids tests (word_token keyword ∷ ts)) → Avoids tests (behind_before keyword part rest)
part_after keyword None h f = avoids_rest h
part_after keyword (Some part) h f = f _

pub option_after : {n : ℕ} {keyword : Word} {test : Lexeme → Bool} {tests : List (Lexeme → Bool)} {part : Option Expr} {rest : List Lexeme} → BackOption n keyword part rest →
    Avoids (test ∷ tests) rest → ((ts : List Lexeme) → Avoids tests (word_token keyword ∷ ts)) → Avoids tests (behind_before keyword part rest)
option_after {keyword = keyword} {part = part} b h f = part_after keyword part h f

-- the name behind AS
pub record BackAlias (n : ℕ) (alias : Option (List ℕ)) (rest : List Lexeme) : Type 0 where
  pub parse : Parse
  pub reads : Reads n (maybe (word w.As then name)) (alias_before alias rest) parse rest
  pub tree : alias_of parse ≡ alias
  pub after : Avoids after_expr (alias_before alias rest)

pub alias_again : {n : ℕ} (alias : Option (List ℕ)) (rest : List Lexeme) → Avoids after_named rest → BackAlias n alias rest
alias_again None rest h = record { parse = absent; reads = r.left_out (avoids_first h); tree = refl; after = avoids_rest h }
alias_again (Some alias) rest h = record {
  parse = present (pair (leaf (word_token w.As)) (leaf (name_token alias)));
  reads = r.entered refl (r.both (r.takes refl) (r.takes refl));
  tree = refl;
  after = record { none = refl };
}

-- a field, as its rule says
abbrev pub field_rule : Rule
field_rule = the expr then maybe (word w.As then name)

-- a field
abbrev pub BackField : ℕ → Field → List Lexeme → Type 0
BackField n x rest = BackItem n (the expr then maybe (word w.As then name)) field_before field_of plain_field x rest

-- further fields
abbrev pub BackFields : ℕ → List Field → List Lexeme → Type 0
BackFields n xs rest = BackMore n (the expr then maybe (word w.As then name)) field_before fields_of plain_field after_named xs rest

pub field_again : {n : ℕ} {x : Expr} (alias : Option (List ℕ)) (rest : List Lexeme) → Back n expr x (alias_before alias rest) → BackAlias n alias rest → BackField n (roll-Field (record { expr = x; alias = alias })) rest
field_again {x = x} alias rest b a = record {
  parse = pair b.parse a.parse;
  reads = rw (before_field x alias rest) (r.both b.reads a.reads);
  tree = rw (plain_of_field x alias, b.tree, a.tree) refl;
  begins = rw (before_field x alias rest) (expr_begins b.reads);
}

-- what a SELECT shows
pub record BackShown (n : ℕ) (fields : List Field) (rest : List Lexeme) : Type 0 where
  pub parse : Parse
  pub reads : Reads n (mark m.Star or list (the expr then maybe (word w.As then name))) (fields_before fields rest) parse rest
  pub tree : fields_of parse ≡ map plain_field fields
  pub other : sees (is_word w.Distinct) (fields_before fields rest) ≡ false

pub star_again : {n : ℕ} (rest : List Lexeme) → BackShown n [] rest
star_again rest = record { parse = left (leaf (mark_token m.Star)); reads = r.first refl (r.takes refl); tree = refl; other = refl }

pub fields_again : {n : ℕ} {x : Field} {xs : List Field} {rest : List Lexeme} →
    BackList n (the expr then maybe (word w.As then name)) field_before field_of fields_of plain_field (x ∷ xs) rest → BackShown n (x ∷ xs) rest
fields_again {x = x} {xs = xs} {rest = rest} l = record {
  parse = right (pair l.first l.more);
  reads = r.second (expr_no_star (listed_before field_before (x ∷ xs) rest) l.begins) l.begins l.reads;
  tree = l.tree;
  other = expr_no_distinct (listed_before field_before (x ∷ xs) rest) l.begins;
}

-- a record set
abbrev pub BackSet : ℕ → FromSet → List Lexeme → Type 0
BackSet n x rest = BackItem n (the set) set_before set_of plain_set x rest

-- further record sets
abbrev pub BackSets : ℕ → List FromSet → List Lexeme → Type 0
BackSets n xs rest = BackMore n (the set) set_before sets_in plain_set after_named xs rest

pub table_again : {n : ℕ} (table : List ℕ) (alias : Option (List ℕ)) (rest : List Lexeme) → Avoids after_named rest → BackSet n (roll-FromSet (record { source = source.Table table; alias = alias })) rest
table_again {n = n} table alias rest h =
    let a : BackAlias n alias rest = alias_again alias rest h in
    record {
      parse = node set (pair (left (leaf (name_token table))) a.parse);
      reads = rw (before_set (source.Table table) alias rest, before_table table) (r.by_rule (r.both (r.first refl (r.takes refl)) a.reads));
      tree = rw (plain_of_set (source.Table table) alias, plain_of_table table, a.tree) refl;
      begins = rw (before_set (source.Table table) alias rest, before_table table) refl;
    }

pub query_again : {n : ℕ} {query : Select} (alias : Option (List ℕ)) (rest : List Lexeme) → Avoids after_named rest → BackSelect n query (mark_token m.Close ∷ alias_before alias rest) →
    BackSet (suc n) (roll-FromSet (record { source = source.Query query; alias = alias })) rest
query_again {n = n} {query = query} alias rest h b =
    let a : BackAlias (suc n) alias rest = alias_again alias rest h in
    record {
      parse = node set (pair (right (group (pair b.parse absent))) a.parse);
      reads = rw (before_set (source.Query query) alias rest, before_query query) (r.by_rule (r.both (r.second refl refl (r.enclosed refl (r.both b.reads (r.left_out refl)) refl)) a.reads));
      tree = rw (plain_of_set (source.Query query) alias, plain_of_query query, a.tree, b.tree) refl;
      begins = rw (before_set (source.Query query) alias rest, before_query query) refl;
    }

-- the side of a join
abbrev side_parse : Side → Parse
side_parse side.Left = left (leaf (word_token w.Left))
side_parse side.Right = right (left (leaf (word_token w.Right)))
side_parse side.Full = right (right (leaf (word_token w.Full)))

side_reads : {n : ℕ} (a : Side) (ts : List Lexeme) → Reads n (word w.Left or word w.Right or word w.Full) (word_token (word_of_side a) ∷ ts) (side_parse a) ts
side_reads side.Left ts = r.first refl (r.takes refl)
side_reads side.Right ts = r.second refl refl (r.first refl (r.takes refl))
side_reads side.Full ts = r.second refl refl (r.second refl refl (r.takes refl))

side_begins : (a : Side) (ts : List Lexeme) → enters join (word_token (word_of_side a) ∷ ts) ≡ true
side_begins side.Left ts = refl
side_begins side.Right ts = refl
side_begins side.Full ts = refl

side_is : (a : Side) → side_of (side_parse a) ≡ a
side_is side.Left = refl
side_is side.Right = refl
side_is side.Full = refl

side_after : (a : Side) (ts : List Lexeme) → Avoids after_shown (word_token (word_of_side a) ∷ ts)
side_after side.Left ts = record { none = refl }
side_after side.Right ts = record { none = refl }
side_after side.Full ts = record { none = refl }

-- a join, where there is one
pub record BackJoin (n : ℕ) (joined : Option Join) (rest : List Lexeme) : Type 0 where
  pub parse : Parse
  pub reads : Reads n (maybe join) (some_join_before joined rest) parse rest
  pub tree : (a b : Parse) → join_of (present (pair a (pair b parse))) ≡ option_map plain_join joined
  pub after : Avoids after_shown (some_join_before joined rest)

pub no_join : {n : ℕ} {rest : List Lexeme} → Avoids after_from rest → BackJoin n None rest
no_join {rest = rest} h =
    let one = avoids_first (avoids_rest h) in
    let two = avoids_first (avoids_rest (avoids_rest h)) in
    let three = avoids_first (avoids_rest (avoids_rest (avoids_rest h))) in
    record {
      parse = absent;
      reads = r.left_out (rw (one, two, three) refl);
      tree = λ a b. refl;
      after = shown_in_from h;
    }

pub join_again : {n : ℕ} (a : Side) {s : FromSet} {on : Expr} {rest : List Lexeme} → BackSet n s (word_token w.On ∷ expr_before on rest) → Back n expr on rest → BackJoin n (Some (roll-Join (record { side = a; set = s; on = on }))) rest
join_again a {s = s} {on = on} {rest = rest} b c = record {
  parse = present (pair (side_parse a) (pair (present (leaf (word_token w.Outer))) (pair (leaf (word_token w.Join)) (pair b.parse (pair (leaf (word_token w.On)) c.parse)))));
  reads = rw (before_join a s on rest) (r.entered (side_begins a (word_token w.Outer ∷ word_token w.Join ∷ set_before s (word_token w.On ∷ expr_before on rest)))
      (r.both (side_reads a (word_token w.Outer ∷ word_token w.Join ∷ set_before s (word_token w.On ∷ expr_before on rest))) (r.both (r.entered refl (r.takes refl)) (r.both (r.takes refl) (r.both b.reads (r.both (r.takes refl) c.reads))))));
  tree = λ x y. rw (plain_of_join a s on, side_is a, b.tree, c.tree) refl;
  after = rw (before_join a s on rest) (side_after a (word_token w.Outer ∷ word_token w.Join ∷ set_before s (word_token w.On ∷ expr_before on rest)));
}

-- FROM
pub record BackFrom (n : ℕ) (sets : List FromSet) (joined : Option Join) (rest : List Lexeme) : Type 0 where
  pub parse : Parse
  pub reads : Reads n (maybe (word w.From then list (the set) then maybe join)) (sets_before sets (some_join_before joined rest)) parse rest
  pub sets_are : sets_of parse ≡ map plain_set sets
  pub join_is : join_of parse ≡ option_map plain_join joined
  pub after : Avoids after_shown (sets_before sets (some_join_before joined rest))

pub no_from : {n : ℕ} {rest : List Lexeme} → Avoids after_from rest → BackFrom n [] None rest
no_from h = record { parse = absent; reads = r.left_out (avoids_first h); sets_are = refl; join_is = refl; after = shown_in_from h }

pub from_again : {n : ℕ} {s : FromSet} {ss : List FromSet} {joined : Option Join} {rest : List Lexeme} →
    BackList n (the set) set_before set_of sets_in plain_set (s ∷ ss) (some_join_before joined rest) → BackJoin n joined rest → BackFrom n (s ∷ ss) joined rest
from_again l j = record {
  parse = present (pair (leaf (word_token w.From)) (pair (pair l.first l.more) j.parse));
  reads = r.entered refl (r.both (r.takes refl) (r.both l.reads j.reads));
  sets_are = l.tree;
  join_is = j.tree (leaf (word_token w.From)) (pair l.first l.more);
  after = record { none = refl };
}

-- GROUP BY
pub record BackGroups (n : ℕ) (groups : List Expr) (rest : List Lexeme) : Type 0 where
  pub parse : Parse
  pub reads : Reads n (maybe (word w.Group then word w.By then list (the ref))) (groups_before groups rest) parse rest
  pub tree : behind_by parse ≡ map plain_expr groups
  pub after : Avoids after_filter (groups_before groups rest)

-- the direction of ORDER BY
pub record BackDirection (n : ℕ) (descending : Bool) (rest : List Lexeme) : Type 0 where
  pub parse : Parse
  pub reads : Reads n (maybe (word w.Asc or word w.Desc)) (direction_before descending rest) parse rest
  pub tree : (a b c : Parse) → is_descending (present (pair a (pair b (pair c parse)))) ≡ descending
  pub after : Avoids after_shown (direction_before descending rest)

pub direction_again : {n : ℕ} (descending : Bool) (rest : List Lexeme) → Avoids after_keys rest → BackDirection n descending rest
direction_again true rest h = record {
  parse = present (right (leaf (word_token w.Desc)));
  reads = r.entered refl (r.second refl refl (r.takes refl));
  tree = λ a b c. refl;
  after = record { none = refl };
}
direction_again false rest h =
    let one = avoids_first (avoids_rest h) in
    let two = avoids_first (avoids_rest (avoids_rest h)) in
    record {
      parse = absent;
      reads = r.left_out (rw (one, two) refl);
      tree = λ a b c. refl;
      after = shown_in_keys h;
    }

-- ORDER BY
pub record BackKeys (n : ℕ) (keys : List Expr) (descending : Bool) (rest : List Lexeme) : Type 0 where
  pub parse : Parse
  pub reads : Reads n (maybe (word w.Order then word w.By then list (the expr) then maybe (word w.Asc or word w.Desc))) (keys_before keys descending rest) parse rest
  pub tree : behind_by parse ≡ map plain_expr keys
  pub down : is_descending parse ≡ descending
  pub after : Avoids after_groups (keys_before keys descending rest)

pub no_keys : {n : ℕ} {rest : List Lexeme} → Avoids after_keys rest → BackKeys n [] false rest
no_keys h = record { parse = absent; reads = r.left_out (avoids_first h); tree = refl; down = refl; after = avoids_rest (avoids_rest (avoids_rest h)) }

pub keys_again : {n : ℕ} {x : Expr} {xs : List Expr} {descending : Bool} {rest : List Lexeme} →
    BackExprList n (x ∷ xs) (direction_before descending rest) → BackDirection n descending rest → BackKeys n (x ∷ xs) descending rest
keys_again l d = record {
  parse = present (pair (leaf (word_token w.Order)) (pair (leaf (word_token w.By)) (pair (pair l.first l.more) d.parse)));
  reads = r.entered refl (r.both (r.takes refl) (r.both (r.takes refl) (r.both l.reads d.reads)));
  tree = l.tree;
  down = d.tree (leaf (word_token w.Order)) (leaf (word_token w.By)) (pair l.first l.more);
  after = record { none = refl };
}

-- how DISTINCT is read
abbrev distinct_parse : Bool → Parse
distinct_parse true = present (leaf (word_token w.Distinct))
distinct_parse false = absent

distinct_reads : {n : ℕ} (distinct : Bool) (ts : List Lexeme) → sees (is_word w.Distinct) ts ≡ false → Reads n (maybe (word w.Distinct)) (distinct_before distinct ts) (distinct_parse distinct) ts
distinct_reads true ts f = r.entered refl (r.takes refl)
distinct_reads false ts f = r.left_out f

distinct_present : (distinct : Bool) → is_present (distinct_parse distinct) ≡ distinct
distinct_present true = refl
distinct_present false = refl

-- a SELECT from its parts
pub select_again : {n : ℕ} (distinct : Bool) {fields : List Field} {sets : List FromSet} {joined : Option Join} {filter : Option Expr} {groups keys : List Expr} {descending : Bool} {limit offset : Option Expr} {rest : List Lexeme} →
    BackShown n fields (sets_before sets (some_join_before joined (behind_before w.Where filter (groups_before groups (keys_before keys descending (behind_before w.Limit limit (behind_before w.Offset offset rest))))))) →
    BackFrom n sets joined (behind_before w.Where filter (groups_before groups (keys_before keys descending (behind_before w.Limit limit (behind_before w.Offset offset rest))))) →
    BackOption n w.Where filter (groups_before groups (keys_before keys descending (behind_before w.Limit limit (behind_before w.Offset offset rest)))) →
    BackGroups n groups (keys_before keys descending (behind_before w.Limit limit (behind_before w.Offset offset rest))) →
    BackKeys n keys descending (behind_before w.Limit limit (behind_before w.Offset offset rest)) →
    BackOption n w.Limit limit (behind_before w.Offset offset rest) →
    BackOption n w.Offset offset rest →
    BackSelect n (roll-Select (record { distinct = distinct; fields = fields; sets = sets; join = joined; filter = filter; groups = groups; keys = keys; descending = descending; limit = limit; offset = offset })) rest
select_again distinct {fields = fields} {sets = sets} {joined = joined} {filter = filter} {groups = groups} {keys = keys} {descending = descending} {limit = limit} {offset = offset} {rest = rest} s f q g k l o = record {
  parse = node select (pair (leaf (word_token w.Select)) (pair (distinct_parse distinct) (pair s.parse (pair f.parse (pair q.parse (pair g.parse (pair k.parse (pair l.parse o.parse))))))));
  reads = rw (before_select distinct fields sets joined filter groups keys descending limit offset rest) (r.by_rule (r.both (r.takes refl) (r.both (distinct_reads distinct _ s.other) (r.both s.reads (r.both f.reads (r.both q.reads (r.both g.reads (r.both k.reads (r.both l.reads o.reads)))))))));
  tree = rw (plain_of_select distinct fields sets joined filter groups keys descending limit offset, distinct_present distinct, s.tree, f.sets_are, f.join_is, q.tree, g.tree, k.tree, k.down, l.tree, o.tree) refl;
  behind = distinct_before distinct (fields_before fields (sets_before sets (some_join_before joined (behind_before w.Where filter (groups_before groups (keys_before keys descending (behind_before w.Limit limit (behind_before w.Offset offset rest))))))));
  spelled = before_select distinct fields sets joined filter groups keys descending limit offset rest;
}
