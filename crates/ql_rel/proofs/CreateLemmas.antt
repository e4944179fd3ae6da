-- What the plan of CREATE TABLE says of its table.
use Rattle.std.proofs.Common.{◌≡◌, ℕ, suc, ◌<◌, Bool, true, false, not, ◌&&◌, ◌||◌, nat_lt, nat_le, if◌then◌else◌, List, [], ◌∷◌, ◌++◌, length, Option, Some, None, Ok, Err, refl, sym, ap, subst, arith}
use Rattle.std.proofs.lemmas.Bool.Decides.{nat_tests}
use Rattle.std.proofs.lemmas.Slice.Eq.{bytes_eq-Decides}
use Rattle.std.specs.Prelude.{is_none}
use Rattle.std.specs.List.{list_any, list_all}
use Rattle.std.specs.Str.{bytes_eq}
use Rattle.ql_value.specs.declared.refusal.Refusal.{Refusal}
use Rattle.ql_value.specs.declared.value.Kind.{Kind}
use Rattle.ql_syntax.specs.declared.statement.ColumnDef.{ColumnDef}
use Rattle.ql_syntax.specs.declared.syntax.Expr.{Expr}
use Rattle.ql_rel.specs.declared.db.Db.{Db}
use Rattle.ql_rel.specs.declared.plan.Plan.{Plan}
use Rattle.ql_rel.specs.declared.schema.Schema.{Schema}
use Rattle.ql_rel.specs.declared.schema.TableSchema.{TableSchema}
use Rattle.ql_syntax.specs.declared.scope.Scope.{Scope}
use Rattle.ql_rel.specs.Accepted.{is_reserved, rule_scope, is_rule, is_default, is_column, are_columns}
use Rattle.ql_syntax.specs.Answers.{Answer, then_with}
use Rattle.ql_rel.specs.Changes.{table_created, new_table}
use Rattle.ql_rel.specs.CreatePlans.{no_parts, takes_all, without_conditions, new_column, new_columns, some_columns, create_table_plan}
use Rattle.ql_rel.specs.Creates.{create_table}
use Rattle.ql_rel.specs.Databases.{schema_of, table_schema}
use Rattle.ql_rel.specs.Limits.{most_tables, are_past_columns, is_past_table}
use Rattle.ql_rel.specs.Names.{has_name, are_different, column_names, table_names, index_names, is_name_taken}
use Rattle.ql_rel.specs.NewNames.{new_name, free_table, free_column}
use Rattle.ql_rel.specs.WellFormed.{IsReadAsItself, IsMade}
use Rattle.ql_rel.proofs.Fits.{then_ok}
use Rattle.ql_rel.proofs.MadeLemmas.{NameOf, plus, made_plus, two_parts, both_parts}
use Rattle.ql_rel.proofs.NameLemmas.{or_parts, map_placed}

pub not_refused : (b : Bool) (r : Refusal) (u : Unit {0}) → ◌≡◌ {A = Answer (Unit {0})} (if b then Err r else Ok tt) (Ok u) → b ≡ false
not_refused true r u e = absurd (cc)
not_refused false r u e = refl

pub is_allowed : (b : Bool) (r : Refusal) (u : Unit {0}) → ◌≡◌ {A = Answer (Unit {0})} (if b then Ok tt else Err r) (Ok u) → b ≡ true
is_allowed true r u e = refl
is_allowed false r u e = absurd (cc)

-- what a new column meets
record IsFresh (before : List (List ℕ)) (c : ColumnDef) : Type 0 where
  free : is_reserved c.name ≡ false
  new : has_name c.name before ≡ false
  plain : takes_all c ≡ true

fresh_column : (before : List (List ℕ)) (c : ColumnDef) (u : Unit {0}) → new_column before c ≡ Ok u → IsFresh before c
fresh_column before c u e =
    let a = then_ok (new_name c.name) (λ _. then_with (free_column c.name before) (λ _. without_conditions c)) u e in
    let b = then_ok (free_column c.name before) (λ _. without_conditions c) u a.2 in
    record {
      free = not_refused (is_reserved c.name) (record { number = 9; name = c.name }) a.0 a.1;
      new = not_refused (has_name c.name before) (record { number = 4; name = c.name }) b.0 b.1;
      plain = is_allowed (takes_all c) (record { number = 10; name = [] }) u b.2;
    }

pub rule_none : (scope : Scope) (o : Option Expr) → is_none o ≡ true → is_rule scope o ≡ true
rule_none scope None e = refl
rule_none scope (Some x) e = absurd (cc)

pub default_none : (kind : Kind) (o : Option Expr) → is_none o ≡ true → is_default kind o ≡ true
default_none kind None e = refl
default_none kind (Some x) e = absurd (cc)

pub is_not : (b : Bool) → b ≡ false → not b ≡ true
is_not b e = rw e refl

column_stands : (scope : Scope) (before : List (List ℕ)) (c : ColumnDef) → IsFresh before c → is_column scope c ≡ true
column_stands scope before c f =
    let plain = two_parts (not c.not_null) (is_none c.rule && is_none c.default) f.plain in
    let bare = two_parts (is_none c.rule) (is_none c.default) plain.1 in
    both_parts (not (is_reserved c.name)) (is_rule scope c.rule && is_default c.kind c.default) (is_not (is_reserved c.name) f.free)
    (both_parts (is_rule scope c.rule) (is_default c.kind c.default) (rule_none scope c.rule bare.0) (default_none c.kind c.default bare.1))

pub any_front : (q : List ℕ → Bool) (xs ys : List (List ℕ)) → list_any q xs ≡ true → list_any q (xs ++ ys) ≡ true
any_front q [] ys e = absurd (cc)
any_front q (x ∷ xs) ys e =
    let rest = any_front q xs ys in
    let by : (b : Bool) → q x ≡ b → (b || list_any q xs) ≡ true → (b || list_any q (xs ++ ys)) ≡ true = elim [ true ↦ λ s t. refl | false ↦ λ s t. rest t ] in
    by (q x) refl e

any_last : (q : List ℕ → Bool) (xs : List (List ℕ)) (y : List ℕ) → q y ≡ true → list_any q (xs ++ y ∷ []) ≡ true
any_last q [] y e = rw e refl
any_last q (x ∷ xs) y e =
    let rest = any_last q xs y e in
    let by : (b : Bool) → (b || list_any q (xs ++ y ∷ [])) ≡ true = elim [ true ↦ refl | false ↦ rest ] in
    by (q x)

same_bytes : (a : List ℕ) → bytes_eq a a ≡ true
same_bytes a = (bytes_eq-Decides a a).1 refl

other_name : (n name : List ℕ) (before : List (List ℕ)) → has_name n before ≡ true → has_name name before ≡ false → bytes_eq name n ≡ false
other_name n name before h k =
    let by : (b : Bool) → bytes_eq name n ≡ b → b ≡ false = elim [
      | true ↦ λ e. absurd (let same = (bytes_eq-Decides name n).0 e in let both : has_name n before ≡ false = subst (λ z. has_name z before ≡ false) same k in cc)
      | false ↦ λ e. refl
    ] in
    by (bytes_eq name n) refl

none_again : (n : List ℕ) (before : List (List ℕ)) (cs : List ColumnDef) (u : Unit {0}) → has_name n before ≡ true → new_columns before cs ≡ Ok u → has_name n (column_names cs) ≡ false
none_again n before [] u h e = refl
none_again n before (c ∷ cs) u h e =
    let a = then_ok (new_column before c) (λ _. new_columns (before ++ c.name ∷ []) cs) u e in
    let f = fresh_column before c a.0 a.1 in
    let rest = none_again n (before ++ c.name ∷ []) cs u (any_front (λ other. bytes_eq other n) before (c.name ∷ []) h) a.2 in
    rw (other_name n c.name before h f.new) rest

columns_hold : (scope : Scope) (before : List (List ℕ)) (cs : List ColumnDef) (u : Unit {0}) → new_columns before cs ≡ Ok u → (are_different (column_names cs) ≡ true) × (list_all (is_column scope) cs ≡ true)
columns_hold scope before [] u e = (refl, refl)
columns_hold scope before (c ∷ cs) u e =
    let a = then_ok (new_column before c) (λ _. new_columns (before ++ c.name ∷ []) cs) u e in
    let f = fresh_column before c a.0 a.1 in
    let rest = columns_hold scope (before ++ c.name ∷ []) cs u a.2 in
    let apart = none_again c.name (before ++ c.name ∷ []) cs u (any_last (λ other. bytes_eq other c.name) before c.name (same_bytes c.name)) a.2 in (
      both_parts (not (has_name c.name (column_names cs))) (are_different (column_names cs)) (is_not (has_name c.name (column_names cs)) apart) rest.0,
      both_parts (is_column scope c) (list_all (is_column scope) cs) (column_stands scope before c f) rest.1,
    )

pub some_is : (n : ℕ) → nat_lt 0 (suc n) ≡ true
some_is n = grind (arith, nat_tests)

columns_stand : (name : List ℕ) (cs : List ColumnDef) (u : Unit {0}) → some_columns cs ≡ Ok u → are_columns name cs ≡ true
columns_stand name [] u e = absurd (cc)
columns_stand name (c ∷ cs) u e =
    let all = columns_hold (rule_scope name (c ∷ cs)) [] (c ∷ cs) u e in
    both_parts (nat_lt 0 (length (c ∷ cs))) (are_different (column_names (c ∷ cs)) && list_all (is_column (rule_scope name (c ∷ cs))) (c ∷ cs)) (some_is (length cs))
    (both_parts (are_different (column_names (c ∷ cs))) (list_all (is_column (rule_scope name (c ∷ cs))) (c ∷ cs)) all.0 all.1)

-- a table with a plan: its name is free, and there is a column
pub record HasPlan (t : TableSchema) (schema : Schema) : Type 0 where
  pub free : is_reserved t.name ≡ false
  pub new : is_name_taken t.name schema ≡ false
  pub columns : are_columns t.name t.columns ≡ true
  pub some : 0 < length t.columns

one_at_least : (cs : List ColumnDef) (u : Unit {0}) → some_columns cs ≡ Ok u → 0 < length cs
one_at_least [] u e = absurd (cc)
one_at_least (c ∷ cs) u e = omega arith

pub has_plan : (t : TableSchema) (schema : Schema) (p : Plan) → create_table_plan schema t.name t.columns ≡ Ok p → HasPlan t schema
has_plan t schema p e =
    let a = then_ok (new_name t.name) (λ _. then_with (free_table t.name schema) (λ _. then_with (some_columns t.columns) (λ _. Ok no_parts))) p e in
    let b = then_ok (free_table t.name schema) (λ _. then_with (some_columns t.columns) (λ _. Ok no_parts)) p a.2 in
    let c = then_ok (some_columns t.columns) (λ _. Ok no_parts) p b.2 in
    record {
      free = not_refused (is_reserved t.name) (record { number = 9; name = t.name }) a.0 a.1;
      new = not_refused (is_name_taken t.name schema) (record { number = 4; name = t.name }) b.0 b.1;
      columns = columns_stand t.name t.columns c.0 c.1;
      some = one_at_least t.columns c.0 c.1;
    }

few_tables : (m n : ℕ) → nat_le n m ≡ false → m < n
few_tables m n h = grind (arith, nat_tests)

pub created_schema : (t : TableSchema) (db : Db) → schema_of (table_created t db) ≡ plus t (schema_of db)
created_schema t db = ap (λ (ts : List TableSchema). record { tables = ts; indexes = db.indexes }) (map_placed table_schema NameOf (new_table t) db.tables)

-- the schema after CREATE TABLE is made by its CREATE statements
pub created_made : (t : TableSchema) (db : Db) → IsMade (schema_of db) → IsReadAsItself (create_table t) → HasPlan t (schema_of db) → is_past_table t (schema_of db) ≡ false → IsMade (schema_of (table_created t db))
created_made t db made r h past =
    let taken = or_parts (has_name t.name (table_names (schema_of db).tables)) (has_name t.name (index_names db.indexes)) h.new in
    let within = or_parts (nat_le most_tables (length (schema_of db).tables)) (are_past_columns t.columns) past in
    subst IsMade (sym (created_schema t db)) (made_plus t (schema_of db) made r
    (record { free = h.free; tables = taken.0; indexes = taken.1; columns = h.columns; within = within.1 }) (few_tables (length (schema_of db).tables) most_tables within.0))
