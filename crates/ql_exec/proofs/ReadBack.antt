-- A CREATE TABLE that is read back and has a plan is read as itself: its columns have no expression.
use Rattle.std.proofs.Common.{◌≡◌, ℕ, ◌<◌, Bool, true, false, ◌&&◌, not, is_none, if◌then◌else◌, List, [], ◌∷◌, ◌++◌, length, map, Option, Some, None, Ok, Err, refl, ap, subst, ◌∙◌, arith}
use Rattle.std.specs.Prelude.{IsOk}
use Rattle.std.specs.List.{list_all}
use Rattle.ql_value.specs.declared.refusal.Refusal.{Refusal}
use Rattle.ql_syntax.specs.declared.statement.ColumnDef.{ColumnDef}
use Rattle.ql_syntax.specs.declared.statement.Statement.{Statement}
use Rattle.ql_syntax.specs.declared.statement.Statement.TheVariants as s
use Rattle.ql_syntax.specs.declared.syntax.Expr.{Expr}
use Rattle.ql_syntax.specs.Ink.{text_of}
use Rattle.ql_syntax.specs.Lexemes.{lexemes}
use Rattle.ql_syntax.specs.ReadsBack.{plain_option, plain_column, IsReadBack}
use Rattle.ql_syntax.specs.StatementPrinting.{ink_of_statement}
use Rattle.ql_syntax.specs.Statements.{IsRead}
use Rattle.ql_syntax.specs.StoredParts.{ArePartsKept, MadeReadBack, PartsReadBack}
use Rattle.ql_rel.specs.declared.plan.Plan.{Plan}
use Rattle.ql_rel.specs.declared.schema.Schema.{Schema}
use Rattle.ql_rel.specs.declared.schema.TableSchema.{TableSchema}
use Rattle.ql_syntax.specs.Answers.{Answer, then_with}
use Rattle.ql_rel.specs.CreatePlans.{no_parts, takes_all, without_conditions, new_column, new_columns, some_columns, create_table_plan}
use Rattle.ql_rel.specs.NewNames.{new_name, free_table, free_column}
use Rattle.ql_rel.specs.WellFormed.{IsReadAsItself}
use Rattle.ql_rel.proofs.CreateLemmas.{has_plan}
use Rattle.ql_rel.proofs.Fits.{then_ok}
use Rattle.ql_rel.proofs.MadeLemmas.{two_parts, both_parts}

is_allowed : (b : Bool) (r : Refusal) (u : Unit {0}) → ◌≡◌ {A = Answer (Unit {0})} (if b then Ok tt else Err r) (Ok u) → b ≡ true
is_allowed true r u e = refl
is_allowed false r u e = absurd (cc)

new_take : (before : List (List ℕ)) (cs : List ColumnDef) (u : Unit {0}) → new_columns before cs ≡ Ok u → list_all takes_all cs ≡ true
new_take before [] u e = refl
new_take before (c ∷ cs) u e =
    let a = then_ok (new_column before c) (λ _. new_columns (before ++ c.name ∷ []) cs) u e in
    let b = then_ok (new_name c.name) (λ _. then_with (free_column c.name before) (λ _. without_conditions c)) a.0 a.1 in
    let d = then_ok (free_column c.name before) (λ _. without_conditions c) a.0 b.2 in
    both_parts (takes_all c) (list_all takes_all cs) (is_allowed (takes_all c) (record { number = 10; name = [] }) a.0 d.2) (new_take (before ++ c.name ∷ []) cs u a.2)

some_take : (cs : List ColumnDef) (u : Unit {0}) → some_columns cs ≡ Ok u → list_all takes_all cs ≡ true
some_take [] u e = absurd (cc)
some_take (c ∷ cs) u e = new_take [] (c ∷ cs) u e

-- the columns of a table with a plan take every value
pub plan_takes : (schema : Schema) (name : List ℕ) (columns : List ColumnDef) (p : Plan) → create_table_plan schema name columns ≡ Ok p → list_all takes_all columns ≡ true
plan_takes schema name columns p e =
    let a = then_ok (new_name name) (λ _. then_with (free_table name schema) (λ _. then_with (some_columns columns) (λ _. Ok no_parts))) p e in
    let b = then_ok (free_table name schema) (λ _. then_with (some_columns columns) (λ _. Ok no_parts)) p a.2 in
    let c = then_ok (some_columns columns) (λ _. Ok no_parts) p b.2 in
    some_take columns c.0 c.1

plain_none : (o : Option Expr) → is_none o ≡ true → plain_option o ≡ o
plain_none None e = refl
plain_none (Some x) e = absurd (cc)

pub plain_same : (c : ColumnDef) → takes_all c ≡ true → plain_column c ≡ c
plain_same c h =
    let plain = two_parts (not c.not_null) (is_none c.rule && is_none c.default) h in
    let bare = two_parts (is_none c.rule) (is_none c.default) plain.1 in
    let with_rule : Option Expr → ColumnDef = λ o. record { name = c.name; kind = c.kind; not_null = c.not_null; rule = o; default = plain_option c.default } in
    let with_default : Option Expr → ColumnDef = λ o. record { name = c.name; kind = c.kind; not_null = c.not_null; rule = c.rule; default = o } in
    ap with_rule (plain_none c.rule bare.0) ∙ ap with_default (plain_none c.default bare.1)

pub plain_columns : (cs : List ColumnDef) → list_all takes_all cs ≡ true → map plain_column cs ≡ cs
plain_columns [] h = refl
plain_columns (c ∷ cs) h =
    let both = two_parts (takes_all c) (list_all takes_all cs) h in
    ap (λ (x : ColumnDef). x ∷ map plain_column cs) (plain_same c both.0) ∙ ap (λ (xs : List ColumnDef). c ∷ xs) (plain_columns cs both.1)

itself : (name : List ℕ) (columns : List ColumnDef) → list_all takes_all columns ≡ true → IsReadBack (s.CreateTable false name columns) → IsReadAsItself (s.CreateTable false name columns)
itself name columns h r = ∣ record {
  tokens = r.tokens;
  lexed = r.lexed;
  read = subst (λ (cs : List ColumnDef). IsRead (lexemes (text_of (ink_of_statement (s.CreateTable false name columns))) r.tokens) (s.CreateTable false name cs ∷ [])) (plain_columns columns h) r.read;
} ∣₁

-- what is read with IF NOT EXISTS or without it is read without it too
pub loud_read : PartsReadBack → MadeReadBack → (quiet : Bool) (name : List ℕ) (columns : List ColumnDef) → 0 < length columns → list_all takes_all columns ≡ true → IsReadBack (s.CreateTable quiet name columns) → IsReadBack (s.CreateTable false name columns)
loud_read parts made quiet name [] some h r = absurd (omega (arith, some))
loud_read parts made quiet name (x ∷ xs) some h r =
    let statement : Statement = s.CreateTable quiet name (x ∷ xs) in
    let text = text_of (ink_of_statement statement) in
    let read : IsRead (lexemes text r.tokens) (statement ∷ []) = subst (λ (cs : List ColumnDef). IsRead (lexemes text r.tokens) (s.CreateTable quiet name cs ∷ [])) (plain_columns (x ∷ xs) h) r.read in
    let kept : ArePartsKept statement = parts text r.tokens (statement ∷ []) r.lexed read 0 statement (omega arith) in
    made.tables false name x xs kept.0 (λ k d l. (kept.1 k d l).was_read)

-- a CREATE TABLE that has a plan, and has something to do, is read as itself
pub reads_itself : PartsReadBack → MadeReadBack → (schema : Schema) (quiet : Bool) (name : List ℕ) (columns : List ColumnDef) (p : Plan) → create_table_plan schema name columns ≡ Ok p → IsReadBack (s.CreateTable quiet name columns) → IsReadAsItself (s.CreateTable false name columns)
reads_itself parts made schema quiet name columns p e r =
    let plain = plan_takes schema name columns p e in
    let t : TableSchema = record { name = name; columns = columns } in
    itself name columns plain (loud_read parts made quiet name columns (has_plan t schema p e).some plain r)

reads_if : PartsReadBack → MadeReadBack → (schema : Schema) (quiet : Bool) (name : List ℕ) (columns : List ColumnDef) (a : Answer Plan) → create_table_plan schema name columns ≡ a → IsOk a → IsReadBack (s.CreateTable quiet name columns) → IsReadAsItself (s.CreateTable false name columns)
reads_if parts made schema quiet name columns (Ok p) e h r = reads_itself parts made schema quiet name columns p e r
reads_if parts made schema quiet name columns (Err q) e h r = absurd (cc)

-- the same where it is known that there is a plan
pub reads_planned : PartsReadBack → MadeReadBack → (schema : Schema) (quiet : Bool) (name : List ℕ) (columns : List ColumnDef) → IsOk (create_table_plan schema name columns) → IsReadBack (s.CreateTable quiet name columns) → IsReadAsItself (s.CreateTable false name columns)
reads_planned parts made schema quiet name columns h r = reads_if parts made schema quiet name columns (create_table_plan schema name columns) refl h r
