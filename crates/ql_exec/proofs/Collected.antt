-- The rows that a SELECT shows, one more, and the last of them.
use Rattle.std.proofs.Common.{◌≡◌, ℕ, Bool, false, if◌then◌else◌, List, [], ◌∷◌, ◌++◌, map, Option, Some, None, IfSome, Result, Ok, Err, refl, sym, ap, subst, ◌∙◌, append-nil}
use Rattle.std.specs.Prelude.{IsErrAnd}
use Rattle.std.specs.List.{AllByRecursion}
use Rattle.ql_value.specs.declared.refusal.TheConstants.{LATER}
use Rattle.ql_value.specs.declared.value.Value.{Value}
use Rattle.ql_syntax.specs.declared.syntax.Select.{Select, out-Select}
use Rattle.ql_syntax.specs.Answers.{Answer, refused, then_with}
use Rattle.ql_rel.specs.declared.db.Db.{Db}
use Rattle.ql_rel.specs.declared.plan.Plan.{Plan}
use Rattle.ql_rel.specs.declared.select.ResultRow.{ResultRow}
use Rattle.ql_rel.specs.SelectRows.{count_of, filtered, results, results_of, is_in_turn, shown_of, shown_rows, from_rows}
use Rattle.ql_exec.specs.Carries.{Shows}
use Rattle.ql_exec.specs.Selections.{shown_values}
use Rattle.ql_exec.specs.Turns.{Comes, results_left}
use Rattle.ql_exec.specs.Windows.{shown}
use Rattle.ql_exec.specs.declared.limits.Window.{Window}
use Rattle.ql_exec.specs.declared.fault.ExecFault.{ExecFault}
use Rattle.ql_exec.specs.declared.fault.ExecFault.TheVariants as fault
use Rattle.ql_exec.proofs.Selected.{none_shown, values_in}
use Rattle.ql_exec.proofs.Turned.{told_back}

-- rows, and those that are shown of a result behind them
abbrev pub rows_with : Window → Answer (List ResultRow) → List (List Value) → Answer (List (List Value))
rows_with w more rows = then_with more (λ xs. Ok (rows ++ shown w (values_in xs)))

pub rows_start : (w : Window) (whole : Db → Answer (List ResultRow)) (rows : List (List Value)) (o : Option Db) → rows ≡ [] → IfSome o (λ d. then_with (whole d) (shown_values w) ≡ rows_with w (whole d) rows)
rows_start w whole rows None n = tt
rows_start w whole rows (Some d) n = ap (rows_with w (whole d)) (sym n)

nothing : (v : Window) (rows : List (List Value)) → rows ++ shown v [] ≡ rows
nothing v rows = ap (λ (xs : List (List Value)). rows ++ xs) (none_shown v.skip v.most) ∙ append-nil rows

-- no row more
pub rows_end : (w v : Window) (x : Option ResultRow) (whole now left : Db → Answer (List ResultRow)) (rows : List (List Value)) (o p : Option Db) → ((row : ResultRow) → x ≡ Some row → ⊥) → p ≡ o
    → IfSome o (λ d. then_with (whole d) (shown_values w) ≡ rows_with v (now d) rows) → IfSome p (λ d. Comes (now d) (Ok x) (left d)) → IfSome o (λ d. then_with (whole d) (shown_values w) ≡ Ok rows)
rows_end w v x whole now left rows None p n e g c = tt
rows_end w v None whole now left rows (Some d) p n e g c =
    g ∙ ap (λ (a : Answer (List ResultRow)). rows_with v a rows) (told_back (λ d. Comes (now d) (Ok None) (left d)) (Some d) p e c) ∙ ap Ok (nothing v rows)
rows_end w v (Some row) whole now left rows (Some d) p n e g c = absurd (n row refl)

-- a refusal
stops_by : (T : Type 0) (w v : Window) (whole now left : Answer (List ResultRow)) (f : ExecFault) (rows : List (List Value)) → then_with whole (shown_values w) ≡ rows_with v now rows → Comes now (Err f) left → Shows {A = List (List Value)} (then_with whole (shown_values w)) (Err f)
stops_by T w v whole now left (fault.Refused r) rows g c = g ∙ ap (λ (a : Answer (List ResultRow)). rows_with v a rows) c
stops_by T w v whole now left (fault.Trouble t) rows g c = tt

pub rows_stop : (w v : Window) (whole now left : Db → Answer (List ResultRow)) (f : ExecFault) (result : Result (List (List Value)) ExecFault) (rows : List (List Value)) (o p : Option Db) → IsErrAnd result (λ e. e ≡ f) → p ≡ o
    → IfSome o (λ d. then_with (whole d) (shown_values w) ≡ rows_with v (now d) rows) → IfSome p (λ d. Comes (now d) (Err f) (left d)) → IfSome o (λ d. Shows (then_with (whole d) (shown_values w)) result)
rows_stop w v whole now left f result rows None p i e g c = tt
rows_stop w v whole now left f (Ok u) rows (Some d) p i e g c = absurd i
rows_stop w v whole now left f (Err q) rows (Some d) p i e g c =
    subst (λ (z : ExecFault). Shows {A = List (List Value)} (then_with (whole d) (shown_values w)) (Err z)) (sym i)
    (stops_by (Unit {0}) w v (whole d) (now d) (left d) f rows g (told_back (λ d. Comes (now d) (Err f) (left d)) (Some d) p e c))

-- without groups
plain_by : (w : Window) (p : Plan) (meant : Answer (List (List Value))) → p.grouped ≡ false → then_with (then_with meant (results p.fields)) (shown_values w) ≡ then_with meant (λ xs. then_with (results_of p xs) (shown_values w))
plain_by w p (Ok xs) g = sym (ap (λ (b : Bool). then_with (if b then refused LATER else results p.fields xs) (shown_values w)) g)
plain_by w p (Err r) g = refl

pub plain_results : (w : Window) (p : Plan) (rows : Db → List (List Value)) (r : Result (List (List Value)) ExecFault) (o : Option Db) → p.grouped ≡ false → IfSome o (λ d. Shows (then_with (results_left p.filter p.fields (rows d)) (shown_values w)) r)
    → IfSome o (λ d. Shows (then_with (filtered p.filter (rows d)) (λ meant. then_with (results_of p meant) (shown_values w))) r)
plain_results w p rows r None g a = tt
plain_results w p rows r (Some d) g a = subst (λ (x : Answer (List (List Value))). Shows x r) (plain_by w p (filtered p.filter (rows d)) g) a

-- DISTINCT and ORDER BY are refused
abbrev parts : Db → Select → Plan → Answer (List (List Value))
parts d select p = then_with (count_of p.limit) (λ limit. then_with (count_of p.offset) (λ offset. then_with (from_rows d (out-Select select).sets) (shown_of limit offset p)))

pub rows_later : (select : Select) (p : Plan) (o : Option Db) → is_in_turn (out-Select select).distinct p ≡ false → IfSome o (λ d. ◌≡◌ {A = Answer (List (List Value))} (shown_rows d select p) (Err (record { number = 10; name = [] })))
rows_later select p None b = tt
rows_later select p (Some d) b = ap (λ (x : Bool). if x then parts d select p else refused LATER) b
