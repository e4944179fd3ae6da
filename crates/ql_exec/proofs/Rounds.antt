-- A round of UPDATE and DELETE, over a relation whose database may be told.
use Rattle.std.proofs.Common.{◌≡◌, ℕ, ◌<◌, Bool, true, false, ◌==◌, nat_lt, List, [], ◌∷◌, length, filter, find, Option, Some, None, IfSome, Result, Ok, Err, refl, sym, ap, subst, ◌∙◌, arith}
use Rattle.std.proofs.lemmas.Bool.Decides.{nat_tests}
use Rattle.std.specs.Prelude.{IsErrAnd, IsSome}
use Rattle.ql_rel.specs.declared.db.Db.{Db}
use Rattle.ql_rel.specs.declared.db.Row.{Row}
use Rattle.ql_rel.specs.declared.plan.Plan.{Plan}
use Rattle.ql_rel.specs.declared.schema.Schema.{Schema}
use Rattle.ql_syntax.specs.Answers.{Answer}
use Rattle.ql_rel.specs.ChangeEffects.{table_changed, changes}
use Rattle.ql_rel.specs.Databases.{schema_of, rows_at}
use Rattle.ql_rel.specs.NewNames.{place_named}
use Rattle.ql_rel.specs.Rels.{has_id, is_after, row_after, row_with}
use Rattle.ql_rel.specs.WellFormed.{IsWellFormed}
use Rattle.ql_exec.specs.Carries.{Changed, Changes, IsCausedExec, IsTroubleAlone}
use Rattle.ql_exec.specs.RowChanges.{Stands, row_changed}
use Rattle.ql_exec.specs.declared.fault.ExecFault.{ExecFault}
use Rattle.ql_exec.specs.declared.fault.ExecFault.TheVariants as fault
use Rattle.ql_exec.proofs.Added.{cause_back}
use Rattle.ql_exec.proofs.LawfulRows.{length_same}
use Rattle.ql_exec.proofs.Lined.{rise_at}
use Rattle.ql_exec.proofs.Onward.{Goes, goes_first, goes_next, goes_stops, goes_last, row_is, next_stands}
use Rattle.ql_exec.proofs.Scanned.{same_row}

pub first_goes : (removes : Bool) (table : ℕ) (p : Plan) (o : Option Db) → IfSome o IsWellFormed → IfSome o (λ d. Goes removes table p 0 d o)
first_goes removes table p None w = tt
first_goes removes table p (Some d) w = goes_first removes table p d (rise_at d table d.tables w.rows)

there_of : (table : ℕ) (schema : Schema) (d : Db) → table < length schema.tables → schema ≡ schema_of d → table < length d.tables
there_of table schema d h s = subst (λ (n : ℕ). table < n) (ap (λ (z : Schema). length z.tables) s ∙ length_same d.tables) h

over_is : (after : ℕ) (x : Option Row) (r : Row) → x ≡ Some r → IfSome x (λ r. after < r.id) → after < r.id
over_is after x r e h = subst (λ (z : Option Row). IfSome z (λ r. after < r.id)) e h

-- the change that was made where the row stands
stood : {T : Type 0} (removes : Bool) (table : ℕ) (p : Plan) (row : Row) (before after : List Row) (now : Db) (held : Option Db) (result : Result T ExecFault) (new : Option Db) → held ≡ Some now → Stands table row before after now
    → IfSome held (λ d. ((before after : List Row) → Stands table row before after d → Changes (row_changed removes table p row before after d) result new)) → Changes (row_changed removes table p row before after now) result new
stood removes table p row before after now held result new e s h =
    subst (λ (z : Option Db). IfSome z (λ d. ((before after : List Row) → Stands table row before after d → Changes (row_changed removes table p row before after d) result new))) e h before after s

pub next_goes : {T : Type 0} (removes : Bool) (table : ℕ) (p : Plan) (schema : Schema) (after : ℕ) (x : Option Row) (r : Row) (done : T) (o held new : Option Db) → table < length schema.tables → IfSome o (λ d. schema ≡ schema_of d) → IfSome o IsWellFormed
    → x ≡ Some r → IfSome x (λ r. after < r.id) → IfSome o (λ d. Goes removes table p after d held) → IfSome held (λ d. x ≡ row_after table after d)
    → IfSome held (λ d. ((before after : List Row) → Stands table r before after d → Changes {T = T} (row_changed removes table p r before after d) (Ok done) new)) → IfSome o (λ d. Goes removes table p r.id d new)
next_goes removes table p schema after x r done None held new h s w e over g n c = tt
next_goes {T = T} removes table p schema after x r done (Some d) held new h s w e over g n c =
    let there = there_of table schema d h s in
    let rise = rise_at d table d.tables w.rows in
    let low = over_is after x r e over in
    let found = sym (row_is removes table p after d held x there g n) ∙ e in
    let stands = next_stands removes table p after d held r there rise g found low in
    goes_next removes table p after d held new r rise low g found (stood {T = T} removes table p r g.done (filter (is_after r.id) (rows_at table d)) _ held (Ok done) new g.holds stands c)

stops_at : (T U : Type 0) (removes : Bool) (table : ℕ) (p : Plan) (after : ℕ) (d : Db) (held new : Option Db) (r : Row) (f : ExecFault) → table < length d.tables → IsWellFormed d → after < r.id → (g : Goes removes table p after d held)
    → find (is_after after) (rows_at table d) ≡ Some r → IfSome held (λ d. ((before after : List Row) → Stands table r before after d → Changes {T = T} (row_changed removes table p r before after d) (Err f) new))
    → Changes {T = U} (table_changed removes table p d) (Err f) new
stops_at T U removes table p after d held new r (fault.Trouble t) there w low g found c = tt
stops_at T U removes table p after d held new r (fault.Refused q) there w low g found c =
    let rise = rise_at d table d.tables w.rows in
    let stands = next_stands removes table p after d held r there rise g found low in
    goes_stops removes table p after d held r q rise g found (stood {T = T} removes table p r g.done (filter (is_after r.id) (rows_at table d)) _ held (Err (fault.Refused q)) new g.holds stands c)

-- a row that is refused
pub next_stops : (T U : Type 0) (removes : Bool) (table : ℕ) (p : Plan) (schema : Schema) (after : ℕ) (x : Option Row) (r : Row) (f : ExecFault) (result : Result U ExecFault) (o held new : Option Db) → IsErrAnd result (λ e. e ≡ f) → table < length schema.tables
    → IfSome o (λ d. schema ≡ schema_of d) → IfSome o IsWellFormed → x ≡ Some r → IfSome x (λ r. after < r.id) → IfSome o (λ d. Goes removes table p after d held) → IfSome held (λ d. x ≡ row_after table after d)
    → IfSome held (λ d. ((before after : List Row) → Stands table r before after d → Changes {T = T} (row_changed removes table p r before after d) (Err f) new)) → IfSome o (λ d. Changes (table_changed removes table p d) result new)
next_stops T U removes table p schema after x r f result None held new i h s w e over g n c = tt
next_stops T U removes table p schema after x r f (Ok u) (Some d) held new i h s w e over g n c = absurd i
next_stops T U removes table p schema after x r f (Err q) (Some d) held new i h s w e over g n c =
    let there = there_of table schema d h s in
    let found = sym (row_is removes table p after d held x there g n) ∙ e in
    subst (λ (z : ExecFault). Changes {T = U} (table_changed removes table p d) (Err z) new) (sym i) (stops_at T U removes table p after d held new r f there w (over_is after x r e over) g found c)

none_is : (x : Option Row) → ((r : Row) → x ≡ Some r → ⊥) → x ≡ None
none_is None h = refl
none_is (Some r) h = absurd (h r refl)

-- behind the last row
pub last_goes : (removes : Bool) (table : ℕ) (p : Plan) (schema : Schema) (after : ℕ) (x : Option Row) (o held : Option Db) → table < length schema.tables → IfSome o (λ d. schema ≡ schema_of d) → ((r : Row) → x ≡ Some r → ⊥)
    → IfSome o (λ d. Goes removes table p after d held) → IfSome held (λ d. x ≡ row_after table after d) → IfSome o (λ d. Changed (table_changed removes table p d) held)
last_goes removes table p schema after x None held h s e g n = tt
last_goes removes table p schema after x (Some d) held h s e g n =
    goes_last removes table p after d held g (sym (row_is removes table p after d held x (there_of table schema d h s) g n) ∙ none_is x e)

pub none_held : (removes : Bool) (table : ℕ) (p : Plan) (after : ℕ) (o held : Option Db) → IfSome o (λ d. Goes removes table p after d held) → held ≡ None → o ≡ None
none_held removes table p after None held g e = refl
none_held removes table p after (Some d) held g e = absurd (let here = g.holds in cc)

-- a trouble in a round has the cause that it has in the whole
pub cause_round : (T U : Type 0) (removes : Bool) (table : ℕ) (p : Plan) (after : ℕ) (limit own : Option ℕ) (o held : Option Db) (f : ExecFault) (result : Result U ExecFault) (before mid now : ℕ) → IsErrAnd result (λ e. e ≡ f) → own ≡ limit → mid ≡ before
    → IfSome o (λ d. Goes removes table p after d held) → IsCausedExec {T = T} own held (Err f) mid now → IsCausedExec limit o result before now
cause_round T U removes table p after limit own o held f (Ok u) before mid now i l m g h = absurd i
cause_round T U removes table p after limit own o held f (Err q) before mid now i l m g h =
    subst (λ (z : ExecFault). IsCausedExec {T = U} limit o (Err z) before now) (sym i) (cause_back T U limit own o held f before mid now l m (none_held removes table p after o held g) h)

-- a trouble is no change
pub trouble_is : (T U : Type 0) (effect : Db → Answer Db) (f : ExecFault) (result : Result U ExecFault) (o new : Option Db) → IsErrAnd result (λ e. e ≡ f) → IsTroubleAlone {T = T} (Err f) → IfSome o (λ d. Changes (effect d) result new)
trouble_is T U effect f result None new i t = tt
trouble_is T U effect f (Ok u) (Some d) new i t = absurd i
trouble_is T U effect (fault.Refused r) (Err q) (Some d) new i t = absurd t
trouble_is T U effect (fault.Trouble x) (Err q) (Some d) new i t = subst (λ (z : ExecFault). Changes {T = U} (effect d) (Err z) new) (sym i) tt

has_one : (a : ℕ) (rows : List Row) (r : Row) → find (is_after a) rows ≡ Some r → IsSome (find (has_id r.id) rows)
has_one a [] r e = absurd (cc)
has_one a (x ∷ rows) r e =
    let there = λ (t : nat_lt a x.id ≡ false). has_one a rows r (rw t at e) in
    let by : (b c : Bool) → nat_lt a x.id ≡ b → (x.id == r.id) ≡ c → IsSome (find (has_id r.id) (x ∷ rows)) = elim [
      | true ↦ λ c t k. let same : x ≡ r = same_row x r (rw t at e) in let one : (x.id == r.id) ≡ true = subst (λ (z : Row). (x.id == z.id) ≡ true) same (let n = x.id in grind (arith, nat_tests)) in rw one refl
      | false ↦ elim [
        | true ↦ λ t k. rw k refl
        | false ↦ λ t k. rw k (there t)
      ]
    ] in
    by (nat_lt a x.id) (x.id == r.id) refl refl

-- a row that was found is there by its id
pub found_there : (table after : ℕ) (x : Option Row) (r : Row) (held : Option Db) → x ≡ Some r → IfSome held (λ d. x ≡ row_after table after d) → IfSome held (λ d. IsSome (row_with table r.id d))
found_there table after x r None e n = tt
found_there table after x r (Some d) e n = has_one after (rows_at table d) r (sym n ∙ e)

-- the table of a name
pub named_changes : {T : Type 0} (removes : Bool) (name : List ℕ) (p : Plan) (table : ℕ) (schema : Schema) (result : Result T ExecFault) (o new : Option Db) → table ≡ place_named name schema.tables → IfSome o (λ d. schema ≡ schema_of d)
    → IfSome o (λ d. Changes (table_changed removes table p d) result new) → IfSome o (λ d. Changes (changes removes name p d) result new)
named_changes removes name p table schema result None new e s h = tt
named_changes removes name p table schema result (Some d) new e s h =
    let there : table ≡ place_named name (schema_of d).tables = subst (λ (z : Schema). table ≡ place_named name z.tables) s e in
    subst (λ (n : ℕ). Changes (table_changed removes n p d) result new) there h
