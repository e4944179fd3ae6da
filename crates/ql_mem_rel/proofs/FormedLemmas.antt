-- What a relation in memory holds stays well formed.
use Rattle.std.proofs.Common.{◌≡◌, ℕ, ◌<◌, Bool, true, false, List, [], ◌∷◌, ◌++◌, length, Option, Some, None, refl, sym, ap, subst, ◌∙◌, arith}
use Rattle.std.proofs.lemmas.List.{length-map, append-nil}
use Rattle.std.specs.List.{list_any}
use Rattle.std.specs.Option.{option_to_list}
use Rattle.std.proofs.Math.Logic.{∥∥₁_map}
use Rattle.ql_value.specs.declared.value.Value.{Value}
use Rattle.ql_syntax.specs.declared.statement.ColumnDef.{ColumnDef}
use Rattle.ql_rel.specs.declared.db.Db.{Db}
use Rattle.ql_rel.specs.declared.fault.RelFault.{RelFault}
use Rattle.ql_rel.specs.declared.schema.Schema.{Schema}
use Rattle.ql_rel.specs.declared.schema.TableSchema.{TableSchema}
use Rattle.ql_rel.specs.Changes.{inserted, changed, removed, truncated, table_created, table_dropped, column_added, column_dropped}
use Rattle.ql_rel.specs.Databases.{empty_db, schema_of, table_schema, columns_at, rows_at}
use Rattle.ql_rel.specs.FormLaws.{FormLaws}
use Rattle.ql_rel.specs.Limits.{is_past_table, is_past_added}
use Rattle.ql_rel.specs.Names.{is_name_taken}
use Rattle.ql_rel.specs.Refusals.{insert_refusal, change_refusal, table_refusal, column_refusal, refused_if, or_next, is_long_with_null}
use Rattle.ql_rel.specs.WellFormed.{Fits, IsMade, IsWellFormed}
use Rattle.ql_rel.specs.declared.fault.RelFault.TheVariants as fault
use Rattle.ql_mem_rel.specs.declared.plain_db.PlainDb.{PlainDb}
use Rattle.ql_mem_rel.specs.Formed.{IsFormed, AllFormed}
use Rattle.ql_mem_rel.specs.Kept.{db_of}
use Rattle.ql_mem_rel.specs.RelLaws.{same_schema}

pub empty_formed : FormLaws → (kept : PlainDb) → db_of kept ≡ empty_db → IsFormed kept
empty_formed laws kept e = ∣ subst IsWellFormed (sym e) laws.empty ∣₁

pub same_formed : (old new : PlainDb) → db_of new ≡ db_of old → IsFormed old → IsFormed new
same_formed old new e w = subst (λ (d : Db). ∥ IsWellFormed d ∥₁) (sym e) w

-- a change that keeps a database well formed
after : (old new : PlainDb) (d : Db) → db_of new ≡ d → (IsWellFormed (db_of old) → IsWellFormed d) → IsFormed old → IsFormed new
after old new d e keeps w = ∥∥₁_map w (λ well. subst IsWellFormed (sym e) (keeps well))

tables_there : (kept : PlainDb) (table : ℕ) → table < length kept.schema.tables → table < length (db_of kept).tables
tables_there kept table l =
    let same : length kept.schema.tables ≡ length (db_of kept).tables = ap (λ (s : Schema). length s.tables) (same_schema kept) ∙ length-map (db_of kept).tables table_schema in
    omega arith

pub inserted_formed : FormLaws → (table : ℕ) (values : List Value) (old new : PlainDb) → IsFormed old → table < length old.schema.tables → Fits (columns_at table old.schema) values →
    ◌≡◌ {A = Option RelFault} (insert_refusal table values (db_of old)) None → db_of new ≡ inserted table values (db_of old) → IsFormed new
inserted_formed laws table values old new w l f r e =
    after old new _ e (λ well. laws.insert table values (db_of old) well (tables_there old table l) (subst (λ (s : Schema). Fits (columns_at table s) values) (same_schema old) f) r) w

pub changed_formed : FormLaws → (table id : ℕ) (values : List Value) (old new : PlainDb) → IsFormed old → Fits (columns_at table old.schema) values →
    ◌≡◌ {A = Option RelFault} (change_refusal table id values old.schema) None → db_of new ≡ changed table id values (db_of old) → IsFormed new
changed_formed laws table id values old new w f r e =
    after old new _ e (λ well. laws.change table id values (db_of old) well (subst (λ (s : Schema). Fits (columns_at table s) values) (same_schema old) f)
    (subst (λ (s : Schema). ◌≡◌ {A = Option RelFault} (change_refusal table id values s) None) (same_schema old) r)) w

pub removed_formed : FormLaws → (table id : ℕ) (old new : PlainDb) → IsFormed old → db_of new ≡ removed table id (db_of old) → IsFormed new
removed_formed laws table id old new w e = after old new _ e (λ well. laws.remove table id (db_of old) well) w

pub truncated_formed : FormLaws → (table : ℕ) (old new : PlainDb) → IsFormed old → db_of new ≡ truncated table (db_of old) → IsFormed new
truncated_formed laws table old new w e = after old new _ e (λ well. laws.truncate table (db_of old) well) w

not_past : (b : Bool) → ◌≡◌ {A = Option RelFault} (refused_if b fault.TableLimit) None → b ≡ false
not_past false e = refl
not_past true e = absurd (cc)

not_past_added : (b : Bool) (next : Option RelFault) → ◌≡◌ {A = Option RelFault} (or_next (refused_if b fault.TableLimit) next) None → b ≡ false
not_past_added false next e = refl
not_past_added true next e = absurd (cc)

pub created_formed : FormLaws → (table : TableSchema) (old new : PlainDb) → IsFormed old → 0 < length table.columns → is_name_taken table.name old.schema ≡ false →
    (is_past_table table (schema_of (db_of old)) ≡ false → IsMade (schema_of (table_created table (db_of old)))) →
    ◌≡◌ {A = Option RelFault} (table_refusal table old.schema) None → db_of new ≡ table_created table (db_of old) → IsFormed new
created_formed laws table old new w l n m r e =
    let few : is_past_table table (schema_of (db_of old)) ≡ false =
    not_past _ (subst (λ (s : Schema). ◌≡◌ {A = Option RelFault} (table_refusal table s) None) (same_schema old) r) in
    after old new _ e (λ well. laws.create_table table (db_of old) well l (subst (λ (s : Schema). is_name_taken table.name s ≡ false) (same_schema old) n) few (m few)) w

pub dropped_formed : FormLaws → (table : ℕ) (old new : PlainDb) → IsFormed old → table < length old.schema.tables → db_of new ≡ table_dropped table (db_of old) → IsFormed new
dropped_formed laws table old new w l e = after old new _ e (λ well. laws.drop_table table (db_of old) well (tables_there old table l)) w

pub added_formed : FormLaws → (table : ℕ) (column : ColumnDef) (old new : PlainDb) → IsFormed old →
    (is_past_added column (columns_at table (schema_of (db_of old))) ≡ false → IsMade (schema_of (column_added table column (db_of old)))) →
    ◌≡◌ {A = Option RelFault} (column_refusal table column (db_of old)) None → db_of new ≡ column_added table column (db_of old) → IsFormed new
added_formed laws table column old new w m r e =
    after old new _ e (λ well. laws.add_column table column (db_of old) well r (m (not_past_added _ (refused_if (list_any is_long_with_null (rows_at table (db_of old))) fault.RowTooLong) r))) w

pub narrowed_formed : FormLaws → (table column : ℕ) (old new : PlainDb) → IsFormed old → column < length (columns_at table old.schema) → 1 < length (columns_at table old.schema) →
    IsMade (schema_of (column_dropped table column (db_of old))) → db_of new ≡ column_dropped table column (db_of old) → IsFormed new
narrowed_formed laws table column old new w l o m e =
    after old new _ e (λ well. laws.drop_column table column (db_of old) well (subst (λ (s : Schema). column < length (columns_at table s)) (same_schema old) l)
    (subst (λ (s : Schema). 1 < length (columns_at table s)) (same_schema old) o) m) w

-- levels

pub none_saved : AllFormed []
none_saved = tt

saved_more : (all : List PlainDb) (x : PlainDb) → AllFormed all → IsFormed x → AllFormed (all ++ x ∷ [])
saved_more [] x h w = (w, tt)
saved_more (y ∷ all) x h w = (h.0, saved_more all x h.1 w)

saved_less : (all : List PlainDb) (x : PlainDb) → AllFormed (all ++ x ∷ []) → AllFormed all × IsFormed x
saved_less [] x h = (tt, h.0)
saved_less (y ∷ all) x h = let rest = saved_less all x h.1 in ((h.0, rest.0), rest.1)

pub more_saved : (old new : List PlainDb) (x : PlainDb) → new ≡ old ++ x ∷ [] → AllFormed old → IsFormed x → AllFormed new
more_saved old new x e h w = subst AllFormed (sym e) (saved_more old x h w)

pub fewer_saved : (old new : List PlainDb) (o : Option PlainDb) → old ≡ new ++ option_to_list o → AllFormed old → AllFormed new
fewer_saved old new None e h = subst AllFormed (e ∙ append-nil new) h
fewer_saved old new (Some x) e h = (saved_less new x (subst AllFormed e h)).0

pub last_saved : (old new : List PlainDb) (o : Option PlainDb) (x : PlainDb) → old ≡ new ++ option_to_list o → o ≡ Some x → AllFormed old → IsFormed x
last_saved old new o x e s h = (saved_less new x (subst AllFormed (e ∙ ap (λ (k : Option PlainDb). new ++ option_to_list k) s) h)).1
