-- What the parts of a SELECT mean.
use Rattle.std.proofs.Common.{◌≡◌, ℕ, Bool, List, refl}
use Rattle.std.specs.Prelude.{Option}
use Rattle.ql_parse_expr.specs.declared.from.Sources.{Sources}
use Rattle.ql_parse_expr.specs.declared.select.Tail.{Tail}
use Rattle.ql_syntax.specs.declared.syntax.Expr.{Expr}
use Rattle.ql_syntax.specs.declared.syntax.Field.{Field, roll-Field}
use Rattle.ql_syntax.specs.declared.syntax.FromSet.{FromSet, roll-FromSet}
use Rattle.ql_syntax.specs.declared.syntax.Join.{Join, roll-Join}
use Rattle.ql_syntax.specs.declared.syntax.Select.{roll-Select}
use Rattle.ql_syntax.specs.declared.syntax.SetSource.{SetSource}
use Rattle.ql_syntax.specs.declared.syntax.SetSource.TheVariants as source
use Rattle.ql_syntax.specs.declared.syntax.Side.{Side}
use Rattle.ql_syntax.specs.Lexemes.{Lexeme}
use Rattle.ql_parse_expr.specs.Members.{subselect_of}
use Rattle.ql_syntax.specs.Rules.{Rule, the, ref, expr, select, maybe, list, bracketed, subselect}
use Rattle.ql_syntax.specs.Rules as rule
use Rattle.ql_syntax.specs.Readings.{Parse, Reads, pair, right, present, node, group, both, first, second, left_out, entered, enclosed, by_rule}
use Rattle.ql_parse_expr.specs.Selects.{maybe_join_of, direction_rule, direction_of, tail_rule, tail_of, from_of}
use Rattle.ql_syntax.specs.Trees.{source_of, join_of, exprs_of, behind_by, is_descending, is_present, fields_of, select_of}

-- equal parts make equal fields, record sets and joins
pub same_field : {a b : Expr} {n m : Option (List ℕ)} → a ≡ b → n ≡ m → roll-Field (record { expr = a; alias = n }) ≡ roll-Field (record { expr = b; alias = m })
same_field e d = rw (e, d) refl

pub same_set : {a b : SetSource} {n m : Option (List ℕ)} → a ≡ b → n ≡ m → roll-FromSet (record { source = a; alias = n }) ≡ roll-FromSet (record { source = b; alias = m })
same_set e d = rw (e, d) refl

pub same_join : {s r : Side} {a b : FromSet} {x y : Expr} → s ≡ r → a ≡ b → x ≡ y → roll-Join (record { side = s; set = a; on = x }) ≡ roll-Join (record { side = r; set = b; on = y })
same_join e d f = rw (e, d, f) refl

-- a subselect as a record set
pub source_tree : {n : ℕ} {ts rest : List Lexeme} {a : Parse} → Reads n (bracketed subselect) ts (group a) rest → source.Query (subselect_of a) ≡ source_of (right (group a))
source_tree (enclosed o (both h k) c) = refl

-- the join behind the record sets
pub join_tree : {n : ℕ} {ts rest : List Lexeme} {j : Parse} (f s : Parse) → Reads n (maybe rule.join) ts j rest → maybe_join_of j ≡ join_of (present (pair f (pair s j)))
join_tree f s (left_out e) = refl
join_tree f s (entered e (both h (both i (both k (both l (both m o)))))) = refl

-- the columns behind GROUP BY
pub groups_tree : {n : ℕ} {ts rest : List Lexeme} {a : Parse} (g b : Parse) → Reads n (list (the ref)) ts a rest → exprs_of a ≡ behind_by (present (pair g (pair b a)))
groups_tree g b (both (by_rule h) k) = refl

-- the expressions behind ORDER BY, and the direction
pub keys_tree : {n : ℕ} {ts rest : List Lexeme} {a : Parse} (o b d : Parse) → Reads n (list (the expr)) ts a rest → exprs_of a ≡ behind_by (present (pair o (pair b (pair a d))))
keys_tree o b d (both h k) = refl

pub direction_tree : {n : ℕ} {ts rest : List Lexeme} {d : Parse} (o b a : Parse) → Reads n direction_rule ts d rest → direction_of d ≡ is_descending (present (pair o (pair b (pair a d))))
direction_tree o b a (left_out e) = refl
direction_tree o b a (entered e (first f h)) = refl
direction_tree o b a (entered e (second f g h)) = refl

-- equal parts make equal sources
pub same_sources : {a b : List FromSet} {x y : Option Join} → a ≡ b → x ≡ y → ◌≡◌ {A = Sources} (record { sets = a; join = x }) (record { sets = b; join = y })
same_sources e d = rw (e, d) refl

-- what stands behind FROM, of its parts
pub tail_made : {w v : Option Expr} {g h : List Expr} {q r : (List Expr × Bool) × (Option Expr × Option Expr)} → w ≡ v → g ≡ h → q ≡ r
    → ◌≡◌ {A = Tail} (record { filter = w; groups = g; ending = q }) (record { filter = v; groups = h; ending = r })
tail_made e d f = rw (e, d, f) refl

-- a SELECT of its parts
pub select_made : {n : ℕ} {ts rest : List Lexeme} {q : Parse} (k d s f : Parse) {distinct : Bool} {fields : List Field} (sources : Sources) (tail : Tail)
    → Reads n tail_rule ts q rest → distinct ≡ is_present d → fields ≡ fields_of s → sources ≡ from_of f → tail ≡ tail_of q
    → roll-Select (record {
      distinct = distinct;
      fields = fields;
      sets = sources.sets;
      join = sources.join;
      filter = tail.filter;
      groups = tail.groups;
      keys = tail.ending.0.0;
      descending = tail.ending.0.1;
      limit = tail.ending.1.0;
      offset = tail.ending.1.1;
    })
    ≡ select_of (node select (pair k (pair d (pair s (pair f q)))))
select_made k d s f sources tail (both h (both i (both j (both l m)))) e1 e2 e3 e4 = rw (e1, e2, e3, e4) refl
