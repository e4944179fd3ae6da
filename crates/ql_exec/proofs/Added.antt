-- A row that is added to a relation, and the rows behind it.
use Rattle.std.proofs.Common.{◌≡◌, ℕ, ◌+◌, ◌<◌, List, [], ◌∷◌, length, drop, get_or, Option, Some, None, option_map, IfSome, Ok, Err, refl, sym, ap, subst, ◌∙◌}
use Rattle.std.proofs.lemmas.List.{drop_more}
use Rattle.ql_edge.specs.Cause.{Rose}
use Rattle.lldb_base.specs.declared.trouble.Trouble.TheVariants as trouble
use Rattle.ql_value.specs.declared.value.Value.{Value}
use Rattle.ql_rel.specs.declared.db.Db.{Db}
use Rattle.ql_rel.specs.declared.fault.RelFault.{RelFault}
use Rattle.ql_rel.specs.declared.fault.RelFault.TheVariants as rel
use Rattle.ql_syntax.specs.Answers.{Answer, then_with}
use Rattle.ql_rel.specs.Refusals.{IsRefusedBy, IsCausedRel}
use Rattle.ql_rel.specs.Refused.{unless}
use Rattle.ql_rel.specs.InsertEffects.{row_added, rows_added}
use Rattle.ql_exec.specs.Answers.{fault_of_rel}
use Rattle.ql_exec.specs.Carries.{Changed, Changes, IsCausedExec}
use Rattle.ql_exec.specs.declared.fault.ExecFault.{ExecFault}
use Rattle.ql_exec.specs.declared.fault.ExecFault.TheVariants as fault

-- a change that is not refused, and one that is
pub change_done : {T : Type 0} (change : Db → Db) (refusal : Db → Option RelFault) (x : T) (o now : Option Db) → now ≡ option_map change o → IfSome o (λ d. IsRefusedBy (refusal d) (Ok x)) → IfSome o (λ d. Changed (unless (refusal d) (change d)) now)
change_done change refusal x None now e h = tt
change_done change refusal x (Some d) now e h = record { after = change d; is = ap (λ r. unless r (change d)) h; holds = e }

pub refused_change : (T U : Type 0) (f : RelFault) (refusal : Option RelFault) (after : Db) (now : Option Db) → IsRefusedBy {T = T} refusal (Err f) → Changes {T = U} (unless refusal after) (Err (fault_of_rel f)) now
refused_change T U rel.RowTooLong refusal after now h = ap (λ r. unless r after) h
refused_change T U (rel.KeyTooLong index) refusal after now h = ap (λ r. unless r after) h
refused_change T U rel.IdsSpent refusal after now h = ap (λ r. unless r after) h
refused_change T U rel.TableLimit refusal after now h = ap (λ r. unless r after) h
refused_change T U (rel.Trouble t) refusal after now h = tt

pub change_refused : (T U : Type 0) (change : Db → Db) (refusal : Db → Option RelFault) (f : RelFault) (o now : Option Db) → IfSome o (λ d. IsRefusedBy {T = T} (refusal d) (Err f)) → IfSome o (λ d. Changes {T = U} (unless (refusal d) (change d)) (Err (fault_of_rel f)) now)
change_refused T U change refusal f None now h = tt
change_refused T U change refusal f (Some d) now h = refused_change T U f (refusal d) (change d) now h

pub cause_kept : (T U : Type 0) (limit : Option ℕ) (told : Option Db) (f : RelFault) (before now : ℕ) → IsCausedRel {T = T} limit told (Err f) before now → IsCausedExec {T = U} limit told (Err (fault_of_rel f)) before now
cause_kept T U limit told rel.RowTooLong before now h = h
cause_kept T U limit told (rel.KeyTooLong index) before now h = h
cause_kept T U limit told rel.IdsSpent before now h = h
cause_kept T U limit told rel.TableLimit before now h = h
cause_kept T U limit told (rel.Trouble t) before now h = h

-- the rows that are left do to this database what all did to the one before
pub record Onto (table : ℕ) (left : List (List Value)) (whole : Answer Db) (held : Option Db) : Type 0 where
  pub now : Db
  pub holds : held ≡ Some now
  pub comes : rows_added table left now ≡ whole

pub onto_start : (table : ℕ) (rows : List (List Value)) (o : Option Db) → IfSome o (λ d. Onto table rows (rows_added table rows d) o)
onto_start table rows None = tt
onto_start table rows (Some d) = record { now = d; holds = refl; comes = refl }

same_some : (a b : Db) → ◌≡◌ {A = Option Db} (Some a) (Some b) → a ≡ b
same_some a b e = cc

onto_more : (table : ℕ) (values : List Value) (left : List (List Value)) (whole : Answer Db) (held new : Option Db) → Onto table (values ∷ left) whole held → IfSome held (λ d. Changed (row_added table values d) new) → Onto table left whole new
onto_more table values left whole held new o c =
    let here : Changed (row_added table values o.now) new = subst (λ (z : Option Db). IfSome z (λ d. Changed (row_added table values d) new)) o.holds c in
    record { now = here.after; holds = here.holds; comes = sym (ap (λ a. then_with a (rows_added table left)) here.is) ∙ o.comes }

onto_refused : (T U : Type 0) (table : ℕ) (values : List Value) (left : List (List Value)) (whole : Answer Db) (held new : Option Db) (f : ExecFault) → Onto table (values ∷ left) whole held → IfSome held (λ d. Changes {T = T} (row_added table values d) (Err f) new) → Changes {T = U} whole (Err f) new
onto_refused T U table values left whole held new (fault.Refused r) o c =
    let here : row_added table values o.now ≡ Err r = subst (λ (z : Option Db). IfSome z (λ d. row_added table values d ≡ Err r)) o.holds c in
    sym o.comes ∙ ap (λ a. then_with a (rows_added table left)) here
onto_refused T U table values left whole held new (fault.Trouble t) o c = tt

next_row : {A : Type 0} (xs : List A) (i : ℕ) (x d : A) → i < length xs → x ≡ get_or xs i d → drop i xs ≡ x ∷ drop (i + 1) xs
next_row xs i x d h e = drop_more xs i d h ∙ ap (λ z. z ∷ drop (i + 1) xs) (sym e)

pub turn_added : (table : ℕ) (rows : List (List Value)) (i : ℕ) (x d : List Value) (whole : Db → Answer Db) (start held new : Option Db) → i < length rows → x ≡ get_or rows i d
    → IfSome start (λ z. Onto table (drop i rows) (whole z) held) → IfSome held (λ z. Changed (row_added table x z) new) → IfSome start (λ z. Onto table (drop (i + 1) rows) (whole z) new)
turn_added table rows i x d whole None held new h e o c = tt
turn_added table rows i x d whole (Some z) held new h e o c =
    onto_more table x (drop (i + 1) rows) (whole z) held new (subst (λ l. Onto table l (whole z) held) (next_row rows i x d h e) o) c

pub turn_refused : (T U : Type 0) (table : ℕ) (rows : List (List Value)) (i : ℕ) (x d : List Value) (whole : Db → Answer Db) (start held new : Option Db) (f : ExecFault) → i < length rows → x ≡ get_or rows i d
    → IfSome start (λ z. Onto table (drop i rows) (whole z) held) → IfSome held (λ z. Changes {T = T} (row_added table x z) (Err f) new) → IfSome start (λ z. Changes {T = U} (whole z) (Err f) new)
turn_refused T U table rows i x d whole None held new f h e o c = tt
turn_refused T U table rows i x d whole (Some z) held new f h e o c =
    onto_refused T U table x (drop (i + 1) rows) (whole z) held new f (subst (λ l. Onto table l (whole z) held) (next_row rows i x d h e) o) c

onto_last : (table : ℕ) (left : List (List Value)) (whole : Answer Db) (held : Option Db) → left ≡ [] → Onto table left whole held → Changed whole held
onto_last table left whole held n o = record { after = o.now; is = sym o.comes ∙ ap (λ l. rows_added table l o.now) n; holds = o.holds }

pub all_added : (table : ℕ) (left : List (List Value)) (whole : Db → Answer Db) (start held : Option Db) → left ≡ [] → IfSome start (λ z. Onto table left (whole z) held) → IfSome start (λ z. Changed (whole z) held)
all_added table left whole None held n o = tt
all_added table left whole (Some z) held n o = onto_last table left (whole z) held n o

none_held : (table : ℕ) (left : List (List Value)) (whole : Db → Answer Db) (start held : Option Db) → IfSome start (λ z. Onto table left (whole z) held) → held ≡ None → start ≡ None
none_held table left whole None held o e = refl
none_held table left whole (Some z) held o e = absurd (let here = o.holds in cc)

-- a trouble in a turn has the cause that it has in the whole
pub cause_back : (T U : Type 0) (limit own : Option ℕ) (start held : Option Db) (f : ExecFault) (before mid now : ℕ) → own ≡ limit → mid ≡ before → (held ≡ None → start ≡ None)
    → IsCausedExec {T = T} own held (Err f) mid now → IsCausedExec {T = U} limit start (Err f) before now
cause_back T U limit own start held (fault.Refused r) before mid now l m n h = h ∙ m
cause_back T U limit own start held (fault.Trouble trouble.Failed) before mid now l m n h = subst (λ k. Rose k now) m h
cause_back T U limit own start held (fault.Trouble trouble.NoMemory) before mid now l m n h = h ∙ m
cause_back T U limit own start held (fault.Trouble (trouble.Full need most)) before mid now l m n h = (h.0 ∙ m, sym l ∙ h.1, h.2)
cause_back T U limit own start held (fault.Trouble trouble.Damaged) before mid now l m n h = (h.0 ∙ m, n h.1)

pub cause_turn : (T U : Type 0) (limit own : Option ℕ) (table : ℕ) (left : List (List Value)) (whole : Db → Answer Db) (start held : Option Db) (f : ExecFault) (before mid now : ℕ) → own ≡ limit → mid ≡ before
    → IfSome start (λ z. Onto table left (whole z) held) → IsCausedExec {T = T} own held (Err f) mid now → IsCausedExec {T = U} limit start (Err f) before now
cause_turn T U limit own table left whole start held f before mid now l m o h = cause_back T U limit own start held f before mid now l m (none_held table left whole start held o) h
