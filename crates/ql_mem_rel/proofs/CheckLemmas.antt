-- The check of rows, step by step.
use Rattle.std.proofs.Common.{◌≡◌, ℕ, zero, suc, ◌<◌, Bool, true, false, List, [], ◌∷◌, length, get_or, slice_get, drop, Option, Some, None, refl, sym, ap, subst, ◌∙◌, arith}
use Rattle.std.proofs.Common.{◌≤◌, nat_lt}
use Rattle.std.proofs.lemmas.Bool.Decides.{nat_tests}
use Rattle.std.proofs.lemmas.Option.{slice_get-get_or}
use Rattle.std.specs.Str.{bytes_eq}
use Rattle.ql_value.specs.Length.{length_of_row}
use Rattle.ql_value.specs.declared.value.Value.{Value}
use Rattle.ql_value.specs.declared.value.Value.TheVariants as v
use Rattle.ql_syntax.specs.declared.statement.ColumnDef.{ColumnDef}
use Rattle.ql_rel.specs.declared.db.Row.{Row}
use Rattle.ql_rel.specs.declared.schema.Index.{Index}
use Rattle.ql_rel.specs.declared.schema.Schema.{Schema}
use Rattle.ql_rel.specs.declared.schema.TableSchema.{TableSchema}
use Rattle.ql_rel.specs.declared.fault.RelFault.TheVariants as fault
use Rattle.ql_rel.specs.Limits.{longest_row}
use Rattle.ql_rel.specs.Refusals.{row_refusal, key_refusal}
use Rattle.ql_rel.specs.Limits.{value_under, first_long_key, has_long_key}

under_none : (name : List ℕ) (columns : List ColumnDef) → value_under name columns [] ≡ v.Null
under_none name [] = refl
under_none name (c ∷ columns) = refl

-- past a column with another name
pub under_next : (name : List ℕ) (columns : List ColumnDef) (values : List Value) (i : ℕ) (c : ColumnDef) → i < length columns → c ≡ get_or columns i c → bytes_eq c.name name ≡ false →
    value_under name (drop (suc i) columns) (drop (suc i) values) ≡ value_under name (drop i columns) (drop i values)
under_next name [] values i c h e b = absurd (omega arith)
under_next name (x ∷ columns) [] zero c h e b = under_none name columns
under_next name (x ∷ columns) (y ∷ values) zero c h e b = let same : bytes_eq x.name name ≡ false = ap (λ (d : ColumnDef). bytes_eq d.name name) (sym e) ∙ b in rw same refl
under_next name (x ∷ columns) [] (suc i) c h e b = under_none name (drop (suc i) columns) ∙ sym (under_none name (drop i columns))
under_next name (x ∷ columns) (y ∷ values) (suc i) c h e b = under_next name columns values i c (omega arith) e b

not_long : (n : ℕ) → n ≤ longest_row → nat_lt longest_row n ≡ false
not_long n h = grind (arith, nat_tests)

-- what the keys of a row come to, once it is short enough
pub row_refusal_at : (table : ℕ) (row : Row) (schema : Schema) (tables : List TableSchema) (t : TableSchema) (o : Option (List ℕ)) → tables ≡ schema.tables → table < length schema.tables → t ≡ get_or tables table t →
    length_of_row row.values ≤ longest_row → first_long_key t.name t.columns schema.indexes row ≡ o → row_refusal table row schema ≡ key_refusal o
row_refusal_at table row schema tables t o a h e b f =
    let there : slice_get schema.tables table ≡ Some t = slice_get-get_or schema.tables table t h ∙ ap (λ (x : TableSchema). Some x) (ap (λ (ts : List TableSchema). get_or ts table t) (sym a) ∙ sym e) in
    rw (not_long (length_of_row row.values) b, there, f) refl

-- the index at hand has a key that is too long
pub long_here : (name : List ℕ) (columns : List ColumnDef) (indexes : List Index) (row : Row) (i : ℕ) (x : Index) → i < length indexes → x ≡ get_or indexes i x → has_long_key name columns row x ≡ true → first_long_key name columns (drop i indexes) row ≡ Some x.name
long_here name columns [] row i x h e b = absurd (omega arith)
long_here name columns (y ∷ indexes) row zero x h e b =
    let same : has_long_key name columns row y ≡ true = ap (λ (z : Index). has_long_key name columns row z) (sym e) ∙ b in
    rw same (ap (λ (z : Index). Some z.name) (sym e))
long_here name columns (y ∷ indexes) row (suc i) x h e b = long_here name columns indexes row i x (omega arith) e b

-- no index is left
pub long_past : (name : List ℕ) (columns : List ColumnDef) (indexes : List Index) (row : Row) (i : ℕ) → length indexes ≤ i → first_long_key name columns (drop i indexes) row ≡ None
long_past name columns [] row zero h = refl
long_past name columns [] row (suc i) h = refl
long_past name columns (y ∷ indexes) row zero h = absurd (omega arith)
long_past name columns (y ∷ indexes) row (suc i) h = long_past name columns indexes row i (omega arith)

-- the loop of the check ends at an index, or with none
pub refused_there : (table : ℕ) (row : Row) (schema : Schema) (tables : List TableSchema) (indexes : List Index) (t : TableSchema) (i : ℕ) (x : Index) (name : List ℕ) (n : ℕ) →
    tables ≡ schema.tables → indexes ≡ schema.indexes → table < length schema.tables → t ≡ get_or tables table t → n ≡ length_of_row row.values → n ≤ longest_row →
    first_long_key t.name t.columns (drop i schema.indexes) row ≡ first_long_key t.name t.columns schema.indexes row →
    i < length indexes → x ≡ get_or indexes i x → has_long_key t.name t.columns row x ≡ true → name ≡ x.name → row_refusal table row schema ≡ Some (fault.KeyTooLong name)
refused_there table row schema tables indexes t i x name n a b h e l m v w y z q =
    let here : first_long_key t.name t.columns (drop i schema.indexes) row ≡ Some x.name = ap (λ (is : List Index). first_long_key t.name t.columns (drop i is) row) (sym b) ∙ long_here t.name t.columns indexes row i x w y z in
    row_refusal_at table row schema tables t (Some x.name) a h e (subst (λ k. k ≤ longest_row) l m) (sym v ∙ here) ∙ ap (λ (k : List ℕ). Some (fault.KeyTooLong k)) (sym q)

pub refused_nowhere : (table : ℕ) (row : Row) (schema : Schema) (tables : List TableSchema) (indexes : List Index) (t : TableSchema) (i : ℕ) (n : ℕ) →
    tables ≡ schema.tables → indexes ≡ schema.indexes → table < length schema.tables → t ≡ get_or tables table t → n ≡ length_of_row row.values → n ≤ longest_row →
    first_long_key t.name t.columns (drop i schema.indexes) row ≡ first_long_key t.name t.columns schema.indexes row →
    length indexes ≤ i → row_refusal table row schema ≡ None
refused_nowhere table row schema tables indexes t i n a b h e l m v w =
    let past : first_long_key t.name t.columns (drop i schema.indexes) row ≡ None = ap (λ (is : List Index). first_long_key t.name t.columns (drop i is) row) (sym b) ∙ long_past t.name t.columns indexes row i w in
    row_refusal_at table row schema tables t None a h e (subst (λ k. k ≤ longest_row) l m) (sym v ∙ past)

-- the names are not the same, as the code asks it
pub other_name : (a b x y : List ℕ) (t : Bool) → x ≡ a → y ≡ b → t ≡ bytes_eq x y → t ≡ false → bytes_eq a b ≡ false
other_name a b x y t e f g h = ap (λ (z : List ℕ). bytes_eq z b) (sym e) ∙ ap (λ (z : List ℕ). bytes_eq x z) (sym f) ∙ sym g ∙ h
