-- The text of a SELECT, from its parts in turn.
use Rattle.std.proofs.Common.{◌≡◌, ℕ, Bool, false, if◌then◌else◌, List, [], ◌++◌, Option, Some, None, IfSome, Result, Ok, Err, refl, sym, ap, subst, ◌∙◌}
use Rattle.std.specs.Prelude.{IsErrAnd}
use Rattle.ql_value.specs.declared.refusal.Refusal.{Refusal}
use Rattle.ql_value.specs.declared.refusal.TheConstants.{LATER}
use Rattle.ql_value.specs.declared.value.Value.{Value}
use Rattle.ql_syntax.specs.declared.syntax.Select.{Select, out-Select}
use Rattle.ql_syntax.specs.Answers.{Answer, refused, then_with}
use Rattle.ql_rel.specs.declared.db.Db.{Db}
use Rattle.ql_rel.specs.declared.plan.Plan.{Plan}
use Rattle.ql_rel.specs.SelectRows.{count_of, filtered, results, results_of, is_in_turn, shown_of, shown_rows, from_rows, heading, lines_of, select_text}
use Rattle.ql_rel.proofs.Fits.{same_ok}
use Rattle.ql_exec.specs.Scans.{Added, AddsText}
use Rattle.ql_exec.specs.Turns.{results_left}
use Rattle.ql_exec.specs.Windows.{result_lines, select_lines}
use Rattle.ql_exec.specs.declared.limits.Window.{Window}
use Rattle.ql_exec.specs.declared.fault.ExecFault.{ExecFault}
use Rattle.ql_exec.specs.declared.fault.ExecFault.TheVariants as fault

-- the parts of a SELECT that shows rows in turn
abbrev parts : Db → Select → Plan → Answer (List (List Value))
parts d select p = then_with (count_of p.limit) (λ limit. then_with (count_of p.offset) (λ offset. then_with (from_rows d (out-Select select).sets) (shown_of limit offset p)))

abbrev text_of : Answer (List (List Value)) → Answer (List ℕ)
text_of rows = then_with rows (λ xs. Ok (lines_of xs))

-- without groups
plain_by : (w : Window) (p : Plan) (meant : Answer (List (List Value))) → p.grouped ≡ false → then_with (then_with meant (results p.fields)) (result_lines w) ≡ then_with meant (λ xs. then_with (results_of p xs) (result_lines w))
plain_by w p (Ok xs) g = sym (ap (λ (b : Bool). then_with (if b then refused LATER else results p.fields xs) (result_lines w)) g)
plain_by w p (Err r) g = refl

pub plain_shows : {T : Type 0} (w : Window) (p : Plan) (rows : Db → List (List Value)) (r : Result T ExecFault) (before now : List ℕ) (o : Option Db) → p.grouped ≡ false
    → IfSome o (λ d. AddsText (then_with (results_left p.filter p.fields (rows d)) (result_lines w)) r before now)
    → IfSome o (λ d. AddsText (then_with (filtered p.filter (rows d)) (λ meant. then_with (results_of p meant) (result_lines w))) r before now)
plain_shows w p rows r before now None g a = tt
plain_shows w p rows r before now (Some d) g a = subst (λ (x : Answer (List ℕ)). AddsText x r before now) (plain_by w p (filtered p.filter (rows d)) g) a

lines_text : (a : Answer (List (List Value))) (head text : List ℕ) → text_of a ≡ Ok text → ◌≡◌ {A = Answer (List ℕ)} (then_with a (λ rows. Ok (head ++ lines_of rows))) (Ok (head ++ text))
lines_text (Ok rows) head text e = ap (λ (z : List ℕ). Ok (head ++ z)) (same_ok (lines_of rows) text e)
lines_text (Err r) head text e = absurd (cc)

lines_refused : (a : Answer (List (List Value))) (head : List ℕ) (q : Refusal) → text_of a ≡ Err q → ◌≡◌ {A = Answer (List ℕ)} (then_with a (λ rows. Ok (head ++ lines_of rows))) (Err q)
lines_refused (Ok rows) head q e = absurd (cc)
lines_refused (Err r) head q e = e

-- the names of the fields, and the lines behind them
pub text_added : (with_names : Bool) (select : Select) (p : Plan) (before head lines new : List ℕ) (o : Option Db) → head ≡ heading with_names p.names
    → IfSome o (λ d. Added (select_lines d select p) head lines) → new ≡ before ++ lines → IfSome o (λ d. Added (select_text with_names d select p) before new)
text_added with_names select p before head lines new None h a n = tt
text_added with_names select p before head lines new (Some d) h a n = record {
  text = heading with_names p.names ++ a.text;
  is = lines_text (shown_rows d select p) (heading with_names p.names) a.text a.is;
  grown = n ∙ ap (λ (z : List ℕ). before ++ z) (a.grown ∙ ap (λ (z : List ℕ). z ++ a.text) h);
}

stops_text : (T U : Type 0) (with_names : Bool) (select : Select) (p : Plan) (f : ExecFault) (before head lines : List ℕ) (d : Db) → AddsText {T = T} (select_lines d select p) (Err f) head lines → AddsText {T = U} (select_text with_names d select p) (Err f) before before
stops_text T U with_names select p (fault.Refused q) before head lines d a = lines_refused (shown_rows d select p) (heading with_names p.names) q a
stops_text T U with_names select p (fault.Trouble t) before head lines d a = tt

pub text_stops : (T U : Type 0) (with_names : Bool) (select : Select) (p : Plan) (f : ExecFault) (r : Result U ExecFault) (before head lines : List ℕ) (o : Option Db) → IsErrAnd r (λ e. e ≡ f)
    → IfSome o (λ d. AddsText {T = T} (select_lines d select p) (Err f) head lines) → IfSome o (λ d. AddsText (select_text with_names d select p) r before before)
text_stops T U with_names select p f r before head lines None i a = tt
text_stops T U with_names select p f (Ok u) before head lines (Some d) i a = absurd i
text_stops T U with_names select p f (Err g) before head lines (Some d) i a =
    subst (λ (z : ExecFault). AddsText {T = U} (select_text with_names d select p) (Err z) before before) (sym i) (stops_text T U with_names select p f before head lines d a)

-- DISTINCT and ORDER BY are refused
pub text_later : (with_names : Bool) (select : Select) (p : Plan) (o : Option Db) → is_in_turn (out-Select select).distinct p ≡ false
    → IfSome o (λ d. ◌≡◌ {A = Answer (List ℕ)} (select_text with_names d select p) (Err (record { number = 10; name = [] })))
text_later with_names select p None b = tt
text_later with_names select p (Some d) b = ap (λ (x : Bool). then_with (if x then parts d select p else refused LATER) (λ rows. Ok (heading with_names p.names ++ lines_of rows))) b
